-- The order in which the calls of a script are answered when its threads take turns, and which of them wait: a machine
-- over the script alone. (C API, critical sections; which locks are let go and taken again, and when: profile)
use Rattle.std.specs.Prelude.{◌≡◌, ℕ, Bool, true, false, ◌+◌, ◌*◌, ◌==◌, nat_lt, List, [], ◌∷◌, ◌++◌, map, fold, length, take, sum, slice_get, slice_set, slice_index_or, Option, Some, None, is_some, is_none, if◌then◌else◌}
use Rattle.std.specs.Option.{option_map_or, unwrap_or}
use Rattle.std.specs.List.{flat_map, range_with_len}
use Rattle.std.specs.List.Sorted.{IsPermutation}
use Rattle.ft_model.specs.declared.call.Call.{Call}
use Rattle.ft_model.specs.declared.call.Call.TheVariants as call
use Rattle.ft_model.specs.declared.entry.Entry.{Entry}
use Rattle.ft_model.specs.declared.entry.Storage.{Storage}
use Rattle.ft_model.specs.declared.script.ScriptParts.{ScriptParts}
use Rattle.ft_model.specs.Calls.{containers_of, locks_of}
use Rattle.ft_model.specs.Scripts.{cursor_of}
use Rattle.ft_model.specs.Histories.{calls_of, IsChronicle, open_sections_after}

-- ---- what a call needs

-- whether a call makes the cursor
abbrev pub makes : ℕ → Call → Bool
makes number called = option_map_or (λ made. made == number) (cursor_of called) false

-- the container of a cursor after these calls of its thread: that of the call that made it last
abbrev pub cursor_containers : List Call → ℕ → List ℕ
cursor_containers calls number =
    fold (λ containers called. if makes number called then containers_of called else containers) [] calls

-- the containers whose locks a call takes, after these calls of its thread; a call that is tried without a lock takes
-- none here
abbrev pub locks_taken : List Call → Call → List ℕ
locks_taken before (call.Next number) = cursor_containers before number
locks_taken before (call.Dict container dict_call) =
    if locks_of (call.Dict container dict_call) == 0 then [] else containers_of (call.Dict container dict_call)
locks_taken before (call.List container list_call) =
    if locks_of (call.List container list_call) == 0 then [] else containers_of (call.List container list_call)
locks_taken before (call.Set container set_call) =
    if locks_of (call.Set container set_call) == 0 then [] else containers_of (call.Set container set_call)
locks_taken before (call.Deque container deque_call) =
    if locks_of (call.Deque container deque_call) == 0 then [] else containers_of (call.Deque container deque_call)
locks_taken before (call.Begin first second) =
    if locks_of (call.Begin first second) == 0 then [] else containers_of (call.Begin first second)
locks_taken before call.End = if locks_of call.End == 0 then [] else containers_of call.End
locks_taken before call.Quiesce = if locks_of call.Quiesce == 0 then [] else containers_of call.Quiesce
locks_taken before (call.Await other index) =
    if locks_of (call.Await other index) == 0 then [] else containers_of (call.Await other index)
locks_taken before call.Dump = if locks_of call.Dump == 0 then [] else containers_of call.Dump

-- the lower number first
abbrev pub lower_first : List ℕ → List ℕ
lower_first (a ∷ b ∷ []) = if nat_lt b a then b ∷ a ∷ [] else a ∷ b ∷ []
lower_first containers = containers

-- ---- the machine

-- a section that is open: its containers, and the locks that it took itself
pub record OpenSection : Type 0 where
  pub containers : List ℕ
  pub taken : List ℕ

-- a thread between two turns
pub record ThreadState : Type 0 where
  -- the marks of its calls that have finished, in order: the thread that each waited for first, where it waited
  pub marks : List (Option ℕ)
  -- whether the answer of its next call is fixed
  pub fixed : Bool
  -- its open sections, innermost first
  pub sections : List OpenSection
  -- the locks that its next call has taken itself and keeps: at most the lower of two
  pub own : List ℕ
  -- the thread that its next call waited for first, where it has waited
  pub mark : Option ℕ

-- the thread that has the lock of each container; the threads; and the calls whose answers are fixed, in that order,
-- each as its thread and its place among the thread's calls
pub record Machine : Type 0 where
  pub holders : List (Option ℕ)
  pub threads : List ThreadState
  pub answered : List (ℕ × ℕ)

abbrev pub fresh_thread : ThreadState
fresh_thread = record { marks = []; fixed = false; sections = []; own = []; mark = None }

abbrev pub start_machine : ScriptParts → Machine
start_machine script =
    record {
      holders = map (λ container. None) script.containers;
      threads = map (λ thread. fresh_thread) script.threads;
      answered = [];
    }

-- ---- locks

-- what came of taking locks: who has each, those that were taken now, and the thread that had one of them, where one
-- had
pub record Locking : Type 0 where
  pub holders : List (Option ℕ)
  pub taken : List ℕ
  pub found : Option ℕ

-- whose the lock is, where somebody has it
abbrev pub holder_of : List (Option ℕ) → ℕ → Option ℕ
holder_of holders container = slice_index_or holders container None

abbrev pub also_taken : ℕ → Locking → Locking
also_taken container locking = record locking { taken = container ∷ locking.taken }

-- the locks are taken in order, but for those that the thread has, until another thread has one
abbrev pub take_locks : ℕ → List (Option ℕ) → List ℕ → Locking
take_locks thread holders [] = record { holders = holders; taken = []; found = None }
take_locks thread holders (container ∷ containers) =
    if is_none (holder_of holders container)
    then also_taken container (take_locks thread (slice_set holders container (Some thread)) containers)
    else (if unwrap_or (holder_of holders container) 0 == thread
    then take_locks thread holders containers
    else record { holders = holders; taken = []; found = holder_of holders container })

-- the locks are let go
abbrev pub let_go : List (Option ℕ) → List ℕ → List (Option ℕ)
let_go holders containers = fold (λ left container. slice_set left container None) holders containers

-- ---- turns

abbrev pub thread_at : Machine → ℕ → ThreadState
thread_at machine thread = slice_index_or machine.threads thread fresh_thread

abbrev pub next_call : ScriptParts → ℕ → ThreadState → Option Call
next_call script thread state = slice_get (calls_of script thread) (length state.marks)

-- a section that has let its locks go
abbrev pub without_locks : OpenSection → OpenSection
without_locks section = record section { taken = [] }

-- a thread whose call has just taken these locks itself
abbrev pub with_locking : ThreadState → Locking → ThreadState
with_locking state locking = record state { own = state.own ++ locking.taken }

-- the locks that the sections have taken
abbrev pub section_locks : List OpenSection → List ℕ
section_locks sections = flat_map (λ section. section.taken) sections

-- a thread that waits: the first thread that it found is its call's mark
abbrev pub waiting_thread : ThreadState → ℕ → ThreadState
waiting_thread state found =
    record state {
      sections = map without_locks state.sections;
      mark = if is_some state.mark then state.mark else Some found;
    }

-- a call that finds a lock with another thread: the locks of all sections of its thread are let go; the lock that it
-- took itself before that one is kept
abbrev pub waiting_machine : Machine → ℕ → ThreadState → Locking → ℕ → Machine
waiting_machine machine thread state locking found =
    record machine {
      holders = let_go locking.holders (section_locks state.sections);
      threads = slice_set machine.threads thread (waiting_thread (with_locking state locking) found);
    }

-- the sections of a thread when the answer of a call is fixed, and the locks that are let go then: a `begin` enters a
-- section, which took what the call took; an `end` lets go what its section took; any other call lets go what it took
-- itself
abbrev pub sections_after : Call → List ℕ → List OpenSection → List OpenSection
sections_after called own sections =
    open_sections_after (record { containers = containers_of called; taken = own }) called sections

abbrev pub innermost_taken : List OpenSection → List ℕ
innermost_taken [] = []
innermost_taken (section ∷ sections) = section.taken

abbrev pub lets_go : Call → List ℕ → List OpenSection → List ℕ
lets_go (call.Begin first second) own sections = []
lets_go call.End own sections = innermost_taken sections
lets_go (call.Dict container dict_call) own sections = own
lets_go (call.List container list_call) own sections = own
lets_go (call.Set container set_call) own sections = own
lets_go (call.Deque container deque_call) own sections = own
lets_go (call.Next cursor) own sections = own
lets_go call.Quiesce own sections = own
lets_go (call.Await other index) own sections = own
lets_go call.Dump own sections = own

-- a thread when the answer of its call is fixed
abbrev pub answered_thread : ThreadState → Call → ThreadState
answered_thread state called =
    record state {
      fixed = true;
      sections = sections_after called state.own state.sections;
      own = [];
    }

-- a call that has its locks: its answer is fixed
abbrev pub answered_machine : Machine → ℕ → ThreadState → Call → Locking → Machine
answered_machine machine thread state called locking =
    record {
      holders = let_go locking.holders (lets_go called (state.own ++ locking.taken) state.sections);
      threads = slice_set machine.threads thread (answered_thread (with_locking state locking) called);
      answered = machine.answered ++ (thread, length state.marks) ∷ [];
    }

-- the locks of the innermost section that the thread hasn't are taken
abbrev pub innermost_containers : List OpenSection → List ℕ
innermost_containers [] = []
innermost_containers (section ∷ sections) = section.containers

abbrev pub with_taken : List ℕ → List OpenSection → List OpenSection
with_taken taken [] = []
with_taken taken (section ∷ sections) = record section { taken = section.taken ++ taken } ∷ sections

-- a thread when its call has finished
abbrev pub finished_thread : ThreadState → ThreadState
finished_thread state =
    record {
      marks = state.marks ++ state.mark ∷ [];
      fixed = false;
      sections = with_taken state.own state.sections;
      own = [];
      mark = None;
    }

-- a call whose thread has the locks of its innermost section: it has finished
abbrev pub finished_machine : Machine → ℕ → ThreadState → Locking → Machine
finished_machine machine thread state locking =
    record machine {
      holders = locking.holders;
      threads = slice_set machine.threads thread (finished_thread (with_locking state locking));
    }

-- a step of a thread whose answer is not fixed, and of one whose answer is
abbrev pub answer_step : Machine → ℕ → ThreadState → Call → Locking → Machine
answer_step machine thread state called locking =
    option_map_or (waiting_machine machine thread state locking) locking.found
    (answered_machine machine thread state called locking)

abbrev pub answer_try : ScriptParts → Machine → ℕ → ThreadState → Call → Machine
answer_try script machine thread state called =
    answer_step machine thread state called
    (take_locks thread machine.holders
    (lower_first (locks_taken (take (length state.marks) (calls_of script thread)) called)))

abbrev pub finish_step : Machine → ℕ → ThreadState → Locking → Machine
finish_step machine thread state locking =
    option_map_or (waiting_machine machine thread state locking) locking.found
    (finished_machine machine thread state locking)

abbrev pub finish_try : Machine → ℕ → Machine
finish_try machine thread =
    if (thread_at machine thread).fixed
    then finish_step machine thread (thread_at machine thread)
    (take_locks thread machine.holders (lower_first (innermost_containers (thread_at machine thread).sections)))
    else machine

-- ---- awaits

-- a call that an `await` names: its thread, and its index from 1 (profile)
pub record Awaited : Type 0 where
  pub thread : ℕ
  pub index : ℕ

-- what a call awaits, where it is an `await`
abbrev pub awaited_by : Call → Option Awaited
awaited_by (call.Await thread index) = Some (record { thread = thread; index = index })
awaited_by (call.Dict container dict_call) = None
awaited_by (call.List container list_call) = None
awaited_by (call.Set container set_call) = None
awaited_by (call.Deque container deque_call) = None
awaited_by (call.Next cursor) = None
awaited_by (call.Begin first second) = None
awaited_by call.End = None
awaited_by call.Quiesce = None
awaited_by call.Dump = None

-- what a thread's call at a place, from 0, awaits
abbrev pub awaited : ScriptParts → ℕ → ℕ → Option Awaited
awaited script thread place = option_map_or awaited_by (slice_get (calls_of script thread) place) None

-- whether the call that is awaited has not finished
abbrev pub is_unfinished : Machine → Awaited → Bool
is_unfinished machine one = nat_lt (length (thread_at machine one.thread).marks) one.index

-- whether the next call of a thread is an `await` of such a call
abbrev pub is_awaiting : ScriptParts → Machine → ℕ → Bool
is_awaiting script machine thread =
    if (thread_at machine thread).fixed
    then false
    else option_map_or (is_unfinished machine) (awaited script thread (length (thread_at machine thread).marks)) false

-- the next call, where it awaits nothing
abbrev pub ready_call : ScriptParts → Machine → ℕ → Option Call
ready_call script machine thread =
    if is_awaiting script machine thread then None else next_call script thread (thread_at machine thread)

-- one turn of a thread: one try of its next call, which fixes the answer, where it isn't fixed, and then takes up the
-- innermost section again; a thread without calls spends its turn, and so does one that awaits a call that hasn't
-- finished, which leaves no mark
abbrev pub turn : ScriptParts → Machine → ℕ → Machine
turn script machine thread =
    option_map_or
    (λ called. finish_try
    (if (thread_at machine thread).fixed then machine
    else answer_try script machine thread (thread_at machine thread) called) thread)
    (ready_call script machine thread) machine

-- ---- the order

-- one turn for each thread, in the order of declaration
abbrev pub round_of : ScriptParts → List ℕ
round_of script = range_with_len 0 (length script.threads)

abbrev pub count_of_calls : ScriptParts → ℕ
count_of_calls script = sum (map (λ thread. length thread.calls) script.threads)

-- the turns that the script says, and then rounds: four for each call are enough
abbrev pub turns_of : ScriptParts → List ℕ
turns_of script = script.order ++ flat_map (λ round. round_of script) (range_with_len 0 (4 * count_of_calls script))

abbrev pub last_machine : ScriptParts → Machine
last_machine script = fold (turn script) (start_machine script) (turns_of script)

-- a call of a thread, by its index from 1, with its mark
pub record Ordered : Type 0 where
  pub thread : ℕ
  pub index : ℕ
  pub waited : Option ℕ

abbrev pub ordered_in : Machine → ℕ × ℕ → Ordered
ordered_in machine answered =
    record {
      thread = answered.0;
      index = answered.1 + 1;
      waited = slice_index_or (thread_at machine answered.0).marks answered.1 None;
    }

-- the calls in the order in which their answers are fixed, each with its mark
abbrev pub order_of : ScriptParts → List Ordered
order_of script = map (ordered_in (last_machine script)) (last_machine script).answered

-- an entry's place in that order
abbrev pub ordered_entry : Entry → Ordered
ordered_entry entry = record { thread = entry.thread; index = entry.index; waited = entry.waited }

-- the entries of a history are those of the turns: put in the order in which their answers were fixed, they say what
-- they have to say at their places
pub record IsOrderRun (storage : Storage) (script : ScriptParts) (entries : List Entry) : Type 0 where
  pub chronicle : List Entry
  pub same : IsPermutation chronicle entries
  pub order : map ordered_entry chronicle ≡ order_of script
  pub chronicled : IsChronicle storage script chronicle
