-- The entries of threads that took turns, in the order in which their answers were made.
use Rattle.std.specs.Prelude.{◌≡◌, ℕ, ◌<◌, ◌≤◌, false, List, [], map, None, Some, slice_get, slice_index_or}
use Rattle.std.specs.List.{flat_map}
use Rattle.std.specs.List.Sorted.{IsPermutation}
use Rattle.ft_model.specs.declared.call.Call.{Call}
use Rattle.ft_model.specs.declared.call.Call.TheVariants as call
use Rattle.ft_model.specs.declared.entry.Entry.{Entry}
use Rattle.ft_model.specs.declared.entry.Storage.{Storage}
use Rattle.ft_model.specs.declared.reply.Reply.TheVariants as reply
use Rattle.ft_model.specs.declared.script.ScriptParts.{ScriptParts}
use Rattle.ft_model.specs.Numbers.{AreDone, AreNumberedLists, number_after}
use Rattle.ft_model.specs.Scripts.{IsScript}
use Rattle.ft_turns.specs.Orders.{Machine, IsOrderRun, last_machine, thread_at}

-- an entry that stands where there is none
abbrev pub no_entry : Entry
no_entry =
    record { thread = 0; index = 0; stamp = 0; wrote = false; call = call.Quiesce; reply = reply.Done; waited = None }

-- the entry of a thread at a place among the thread's own, of lists for each thread
abbrev pub entry_answered : List (List Entry) → ℕ × ℕ → Entry
entry_answered lists answered = slice_index_or (slice_index_or lists answered.0 []) answered.1 no_entry

-- The marks of each thread's entries are those of the machine, and in the order in which the machine has the answers
-- each entry knows of all writes that there were after each earlier one.
pub record AreAnsweredBy (machine : Machine) (lists : List (List Entry)) : Type 0 where
  pub marks : (thread : ℕ) (mine : List Entry) → slice_get lists thread ≡ Some mine
      → map (λ entry. entry.waited) mine ≡ (thread_at machine thread).marks
  pub rising : (earlier later : ℕ) (one other : ℕ × ℕ) → earlier < later → slice_get machine.answered earlier ≡ Some one
      → slice_get machine.answered later ≡ Some other
      → number_after (entry_answered lists one) ≤ (entry_answered lists other).stamp

-- So they are a run in the order of the script's turns, whatever order the history puts them in.
abbrev pub AnsweredEntriesAreOrderRuns : Type 0
AnsweredEntriesAreOrderRuns =
    (storage : Storage) (script : ScriptParts) (calls : List Call) (lists : List (List Entry)) (history : List Entry)
    → IsScript script → AreNumberedLists storage script calls lists → AreDone script calls lists
    → AreAnsweredBy (last_machine script) lists → IsPermutation (flat_map (λ mine. mine) lists) history
    → IsOrderRun storage script history
