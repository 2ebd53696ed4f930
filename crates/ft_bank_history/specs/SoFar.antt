-- Entries that a caller kept of its pass, beside the writes that its bank has so far: what holds at every moment at which
-- the pass is as it is, whatever other passes have done by then.
use Rattle.std.specs.Prelude.{◌≡◌, ◌+◌, ℕ, All, List, ◌∷◌, ◌++◌, reverse, Some, slice_get}
use Rattle.ft_model.specs.declared.call.Call.{Call}
use Rattle.ft_model.specs.declared.entry.Entry.{Entry as NamedEntry}
use Rattle.ft_model.specs.declared.entry.Storage.TheVariants as storage
use Rattle.ft_model.specs.declared.reply.Raise.TheVariants as raise
use Rattle.ft_model.specs.declared.reply.Reply.TheVariants as reply
use Rattle.ft_model.specs.declared.script.ScriptParts.{ScriptParts}
use Rattle.ft_model.specs.Histories.{cursors_of}
use Rattle.ft_model.specs.Numbers.{IsNumberedThread}
use Rattle.ft_trace.specs.declared.Act.{Act}
use Rattle.ft_trace.specs.declared.Act.TheVariants.{Answer}
use Rattle.ft_trace.specs.declared.View.{View}
use Rattle.ft_trace.specs.Causes.{FoundEmpty}
use Rattle.ft_trace.specs.OwnCursors.{AsksWithin}
use Rattle.ft_trace.specs.Traces.{Event, Sure, history}
use Rattle.ft_bank_history.specs.Numbering.{IsFor}

-- the writes so far, in the order of their numbers
abbrev pub writes_so_far : List Event → List Call
writes_so_far es = reverse (history es)

-- These entries of a thread, the oldest first, are right by the writes so far. Each has the reply of the plain
-- containers after as many of these writes as its stamp says, to a thread with the cursors that the earlier ones leave,
-- or that of a section, or a MemoryError that has its cause there. The stamp of a write is its number, and stamps never
-- fall. The script says how the bank was made, and how many cursors the thread has. (profile)
abbrev pub AreRightSoFar : View → ℕ → List NamedEntry → Type 0
AreRightSoFar v thread mine =
    (script : ScriptParts) → IsFor script v.shape → All (AsksWithin (cursors_of script thread)) mine
    → Sure v (λ es. IsNumberedThread storage.Tables script (writes_so_far es) thread mine)

-- each of these lists, of the threads from this one on, by the same writes
abbrev pub AreAllRightSoFar : View → ℕ → List (List NamedEntry) → Type 0
AreAllRightSoFar v first lists =
    (i : ℕ) (mine : List NamedEntry) → slice_get lists i ≡ Some mine → AreRightSoFar v (first + i) mine

-- Each MemoryError of a class that the pass answered was found by its own call: since the entry before it the pass, which
-- then owed no table, had loaded 0 from the count of the class, and after that its stamp from the counter. (profile)
abbrev pub MemoryErrorsAreFound : View → Type 0
MemoryErrorsAreFound v =
    (called : Call) (class n : ℕ) (newer rest : List Act)
    → v.log ≡ newer ++ Answer called (reply.Raised (raise.Memory class)) n ∷ rest
    → Sure v (λ es. FoundEmpty class n rest)
