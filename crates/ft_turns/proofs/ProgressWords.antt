-- What has been answered in the turns so far, by the words for answers.
use Rattle.std.proofs.Common.{ℕ, List, Option}
use Rattle.ft_model.specs.declared.call.Call.{Call}
use Rattle.ft_model.specs.declared.cursor.Cursor.{Cursor}
use Rattle.ft_model.specs.declared.entry.Entry.{Entry}
use Rattle.ft_model.specs.declared.reply.Reply.{Reply}
use Rattle.ft_turns.specs.AnsweredTurns.{Tally, hands_in, tally_in, reply_now, entry_now, with_answer as answers_with, with_mark as answers_marked, Progress, next_index}

abbrev pub hands_of : Progress → ℕ → List (Option Cursor)
hands_of progress thread = hands_in progress.answers thread

abbrev pub tally_of : Progress → ℕ → Tally
tally_of progress thread = tally_in progress.answers thread

abbrev pub next_reply : Progress → ℕ → Call → Reply
next_reply progress thread called = reply_now progress.answers thread called

abbrev pub next_entry : Progress → ℕ → Call → Entry
next_entry progress thread called = entry_now progress.answers thread (next_index progress.machine thread) called

-- the answer of the thread's next call is fixed, and the call has finished
abbrev pub with_answer : Progress → ℕ → Call → Progress
with_answer progress thread called = record progress { answers = answers_with progress.answers thread (next_index progress.machine thread) called }

abbrev pub with_mark : Progress → ℕ → Call → Option ℕ → Progress
with_mark progress thread called waited = record progress { answers = answers_marked progress.answers thread called waited }
