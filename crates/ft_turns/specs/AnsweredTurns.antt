-- What comes of the turns of a script's threads: each call is answered, in the order of the turns, as the plain
-- containers of one thread answer it then.
use Rattle.std.specs.Prelude.{ℕ, Bool, true, false, ◌+◌, ◌-◌, ◌==◌, nat_lt, List, [], ◌∷◌, ◌++◌, map, fold, length, drop, slice_set, slice_index_or, Option, None, is_some, if◌then◌else◌}
use Rattle.std.specs.Option.{option_map_or}
use Rattle.ft_model.specs.declared.call.Call.{Call}
use Rattle.ft_model.specs.declared.call.Call.TheVariants as call
use Rattle.ft_model.specs.declared.content.Content.{Content}
use Rattle.ft_model.specs.declared.cursor.Cursor.{Cursor}
use Rattle.ft_model.specs.declared.entry.Entry.{Entry}
use Rattle.ft_model.specs.declared.reply.Reply.{Reply}
use Rattle.ft_model.specs.declared.reply.Reply.TheVariants as reply
use Rattle.ft_model.specs.declared.script.ScriptParts.{ScriptParts}
use Rattle.ft_model.specs.Worlds.{start_world, start_hands, no_hands}
use Rattle.ft_model.specs.Answers.{answer, is_write}
use Rattle.ft_model.specs.Histories.{writes}
use Rattle.ft_turns.specs.Orders.{Machine, start_machine, thread_at, ready_call, turn, turns_of}

-- ---- how many calls of a section waited

-- of a thread: how many of its calls that have finished waited for a lock, and how many had when each open section was
-- entered, innermost first (profile)
pub record Tally : Type 0 where
  pub count : ℕ
  pub noted : List ℕ

abbrev pub no_tally : Tally
no_tally = record { count = 0; noted = [] }

-- after a call that leaves that many that waited, its own mark counted
abbrev pub noted_after : Call → List ℕ → ℕ → Tally
noted_after (call.Begin first second) noted count = record { count = count; noted = count ∷ noted }
noted_after call.End noted count = record { count = count; noted = drop 1 noted }
noted_after (call.Dict container dict_call) noted count = record { count = count; noted = noted }
noted_after (call.List container list_call) noted count = record { count = count; noted = noted }
noted_after (call.Set container set_call) noted count = record { count = count; noted = noted }
noted_after (call.Deque container deque_call) noted count = record { count = count; noted = noted }
noted_after (call.Next cursor) noted count = record { count = count; noted = noted }
noted_after call.Quiesce noted count = record { count = count; noted = noted }
noted_after (call.Await other index) noted count = record { count = count; noted = noted }
noted_after call.Dump noted count = record { count = count; noted = noted }

abbrev pub tally_after : Tally → Call → Option ℕ → Tally
tally_after tally called waited = noted_after called tally.noted (tally.count + (if is_some waited then 1 else 0))

-- how many calls of the innermost open section waited
abbrev pub waited_inside : Tally → ℕ
waited_inside tally = tally.count - slice_index_or tally.noted 0 0

-- ---- answers

-- an `end` says kept where no call of its section waited, and else how many did (C API, critical sections; the count:
-- profile)
abbrev pub ended_reply : ℕ → Reply
ended_reply count = if count == 0 then reply.Kept else reply.Suspended count

-- whether a container answers the call: it is none of a section, nor a `quiesce`
abbrev pub asks_container : Call → Bool
asks_container (call.Begin first second) = false
asks_container call.End = false
asks_container call.Quiesce = false
asks_container (call.Await other index) = false
asks_container call.Dump = true
asks_container (call.Dict container dict_call) = true
asks_container (call.List container list_call) = true
asks_container (call.Set container set_call) = true
asks_container (call.Deque container deque_call) = true
asks_container (call.Next cursor) = true

-- the reply to a call of a thread with these hands, in this world
abbrev pub thread_reply : List Content → List (Option Cursor) → Tally → Call → Reply
thread_reply world hands tally (call.Begin first second) = reply.Entered
thread_reply world hands tally call.End = ended_reply (waited_inside tally)
thread_reply world hands tally (call.Dict container dict_call) =
    (answer world hands (call.Dict container dict_call)).reply
thread_reply world hands tally (call.List container list_call) =
    (answer world hands (call.List container list_call)).reply
thread_reply world hands tally (call.Set container set_call) = (answer world hands (call.Set container set_call)).reply
thread_reply world hands tally (call.Deque container deque_call) =
    (answer world hands (call.Deque container deque_call)).reply
thread_reply world hands tally (call.Next cursor) = (answer world hands (call.Next cursor)).reply
thread_reply world hands tally call.Quiesce = (answer world hands call.Quiesce).reply
thread_reply world hands tally (call.Await other index) = (answer world hands (call.Await other index)).reply
thread_reply world hands tally call.Dump = (answer world hands call.Dump).reply

-- ---- what has been answered

-- what the containers have; each thread's cursors, and its tally; and the entries in the order in which their answers
-- were fixed, without their marks
pub record Answers : Type 0 where
  pub world : List Content
  pub hands : List (List (Option Cursor))
  pub tallies : List Tally
  pub entries : List Entry

abbrev pub start_answers : ScriptParts → Answers
start_answers script =
    record {
      world = start_world script.containers;
      hands = map (λ thread. start_hands (length thread.cursors)) script.threads;
      tallies = map (λ thread. no_tally) script.threads;
      entries = [];
    }

abbrev pub hands_in : Answers → ℕ → List (Option Cursor)
hands_in answers thread = slice_index_or answers.hands thread no_hands

abbrev pub tally_in : Answers → ℕ → Tally
tally_in answers thread = slice_index_or answers.tallies thread no_tally

-- the reply to a call of a thread now
abbrev pub reply_now : Answers → ℕ → Call → Reply
reply_now answers thread called = thread_reply answers.world (hands_in answers thread) (tally_in answers thread) called

-- its entry, with its index among the thread's calls
abbrev pub entry_now : Answers → ℕ → ℕ → Call → Entry
entry_now answers thread index called =
    record {
      thread = thread;
      index = index;
      stamp = length (writes answers.entries);
      wrote = is_write called (reply_now answers thread called);
      call = called;
      reply = reply_now answers thread called;
      waited = None;
    }

-- after the answer to a call of a thread
abbrev pub with_answer : Answers → ℕ → ℕ → Call → Answers
with_answer answers thread index called =
    record answers {
      world = (answer answers.world (hands_in answers thread) called).world;
      hands = slice_set answers.hands thread (answer answers.world (hands_in answers thread) called).hands;
      entries = answers.entries ++ entry_now answers thread index called ∷ [];
    }

-- after the end of a call of a thread, with this mark
abbrev pub with_mark : Answers → ℕ → Call → Option ℕ → Answers
with_mark answers thread called waited =
    record answers { tallies = slice_set answers.tallies thread (tally_after (tally_in answers thread) called waited) }

-- ---- turns

-- the machine of turns, and what has been answered
pub record Progress : Type 0 where
  pub machine : Machine
  pub answers : Answers
  pub open answers use *

abbrev pub start_progress : ScriptParts → Progress
start_progress script = record { machine = start_machine script; answers = start_answers script }

-- whether a turn fixed an answer, and whether the thread's call finished in it, with which mark
abbrev pub has_answered : Machine → Machine → Bool
has_answered before after = nat_lt (length before.answered) (length after.answered)

abbrev pub has_finished : Machine → Machine → ℕ → Bool
has_finished before after thread =
    nat_lt (length (thread_at before thread).marks) (length (thread_at after thread).marks)

abbrev pub mark_given : Machine → Machine → ℕ → Option ℕ
mark_given before after thread =
    slice_index_or (thread_at after thread).marks (length (thread_at before thread).marks) None

-- the index of a thread's next call
abbrev pub next_index : Machine → ℕ → ℕ
next_index machine thread = length (thread_at machine thread).marks + 1

abbrev pub answers_after : Answers → ℕ → ℕ → Call → Bool → Answers
answers_after answers thread index called answered =
    if answered then with_answer answers thread index called else answers

abbrev pub answers_finished : Answers → ℕ → Call → Bool → Option ℕ → Answers
answers_finished answers thread called finished waited =
    if finished then with_mark answers thread called waited else answers

-- after a turn of a thread with a call left, which left this machine
abbrev pub with_turn : Progress → ℕ → Call → Bool → Bool → Option ℕ → Machine → Progress
with_turn progress thread called answered finished waited after =
    record {
      machine = after;
      answers =
          answers_finished
          (answers_after progress.answers thread
          (next_index progress.machine thread) called answered) thread called finished waited;
    }

-- a turn of a thread, whose call is answered where the turn fixes its answer
abbrev pub answered_turn : ScriptParts → Progress → ℕ → Progress
answered_turn script progress thread =
    option_map_or
    (λ called.
    with_turn
    progress
    thread
    called
    (has_answered progress.machine (turn script progress.machine thread))
    (has_finished progress.machine (turn script progress.machine thread) thread)
    (mark_given progress.machine (turn script progress.machine thread) thread)
    (turn script progress.machine thread))
    (ready_call script progress.machine thread)
    progress

-- ---- the entries that come of it

-- what comes of all turns
abbrev pub last_progress : ScriptParts → Progress
last_progress script = fold (answered_turn script) (start_progress script) (turns_of script)

-- an entry with its mark
abbrev pub marked_entry : Machine → Entry → Entry
marked_entry machine entry =
    record entry { waited = slice_index_or (thread_at machine entry.thread).marks (entry.index - 1) None }

-- the entries in the order in which their answers were fixed, each with its mark
abbrev pub answered_turns : ScriptParts → List Entry
answered_turns script = map (marked_entry (last_progress script).machine) (last_progress script).entries
