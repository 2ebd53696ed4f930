-- Entries beside the writes in their order, the oldest first, in the words of the plain containers.
use Rattle.std.specs.Prelude.{◌≡◌, ℕ, ◌<◌, ◌≤◌, true, All, List, length, reverse, take, Option, Some, slice_get}
use Rattle.ft_model.specs.declared.call.Call.{Call}
use Rattle.ft_model.specs.declared.cursor.Cursor.{Cursor}
use Rattle.ft_model.specs.declared.entry.Entry.{Entry as NamedEntry}
use Rattle.ft_model.specs.declared.reply.Reply.TheVariants as said
use Rattle.ft_model.specs.declared.reply.Raise.TheVariants as raise
use Rattle.ft_model.specs.Answers.{answer, is_write, world_by}
use Rattle.ft_model.specs.Boxings.{boxings}
use Rattle.ft_model.specs.Histories.{IsReplied}
use Rattle.ft_model.specs.TableUses.{Supply, stored_by, IsEarnedReply, IsFittingReply}
use Rattle.ft_trace.specs.declared.Entry.{Entry}
use Rattle.ft_trace.specs.declared.Shape.{Shape}
use Rattle.ft_trace.specs.Earnings.{AllEarned}
use Rattle.ft_trace.specs.Entries.{Numbered, number_count, total}

-- what the passes of a bank may use
abbrev pub supply_in : Shape → Supply
supply_in k = record { tables = k.tables; threads = k.passes; heap = k.heap }

-- The entry beside these writes: its stamp is at most their number, and that of a write is its place among them. Its
-- reply is that of the plain containers after as many writes as the stamp says, to a thread with some cursors, or that
-- of a section, or a MemoryError; a MemoryError has its cause there, that of a heap where as many writes of the pass
-- put a value in a box before it as its heap has places, and fits the call.
pub record StandsInOrder (k : Shape) (calls : List Call) (e : Entry) : Type 0 where
  pub within : e.stamp ≤ length calls
  pub wrote : e.wrote ≡ is_write e.call e.reply
  pub number : e.wrote ≡ true → slice_get calls e.stamp ≡ Some e.call
  pub hands : List (Option Cursor)
  pub reply : IsReplied e.call e.reply (answer (world_by k.starts (take e.stamp calls)) hands e.call).reply
  pub earned : (mine : List NamedEntry)
      → (e.reply ≡ said.Raised raise.Heap → k.heap ≤ boxings k.starts (take e.stamp calls) mine)
      → IsEarnedReply k.starts (supply_in k) (take e.stamp calls) mine e.call e.reply
  pub fitting : IsFittingReply (stored_by k.starts (take e.stamp calls)) e.call e.reply

-- all entries beside the writes: each stands so, and each write is that of one entry
pub record AreInOrder (k : Shape) (calls : List Call) (entries : List Entry) : Type 0 where
  pub each : All (StandsInOrder k calls) entries
  pub once : (n : ℕ) → n < length calls → total (number_count n) entries ≡ 1

-- entries that are numbered and earned by writes from the newest to the first stand so beside the writes in their order
abbrev pub NumberedEntriesAreInOrder : Type 0
NumberedEntriesAreInOrder =
    (k : Shape) (calls : List Call) (entries : List Entry) → Numbered k.starts calls entries → AllEarned k calls entries
    → AreInOrder k (reverse calls) entries
