-- Which rule a history breaks first, and where: the rules that are checked at each place, in their order.
use Rattle.std.specs.Prelude.{◌≡◌, ℕ, ◌+◌, ◌<◌, ◌≤◌, false, List, take, length, Some, slice_get}
use Rattle.std.specs.Ordering.{is_lt}
use Rattle.ft_model.specs.declared.entry.Entry.{Entry}
use Rattle.ft_model.specs.declared.entry.Rule.{Rule}
use Rattle.ft_model.specs.declared.entry.Rule.TheVariants as rule
use Rattle.ft_model.specs.declared.entry.Storage.{Storage}
use Rattle.ft_model.specs.declared.script.ScriptParts.{ScriptParts}
use Rattle.ft_model.specs.Answers.{answer, is_write}
use Rattle.ft_model.specs.Histories.{history_cmp, writes, world_at, entries_of, calls_of, hands_at, IsReplied, IsAwaited, IsMarked, IsKept, IsCounted, IsEarnedAt}

-- ---- the rules at a place (profile)

-- the entry is the next call of its thread
pub record IsNext (script : ScriptParts) (entries : List Entry) (place : ℕ) (entry : Entry) : Type 0 where
  pub index : entry.index ≡ length (entries_of entry.thread (take place entries)) + 1
  pub call : slice_get (calls_of script entry.thread) (length (entries_of entry.thread (take place entries)))
      ≡ Some entry.call

-- its stamp is the number of writes before it, and it is marked as a write exactly where it is one
pub record IsStamped (entries : List Entry) (place : ℕ) (entry : Entry) : Type 0 where
  pub stamp : entry.stamp ≡ length (writes (take place entries))
  pub wrote : entry.wrote ≡ is_write entry.call entry.reply

-- of two reads of one stamp that follow each other the second has no smaller thread, nor the same thread and a smaller
-- index
abbrev pub IsAfter : List Entry → ℕ → Entry → Type 0
IsAfter entries place entry =
    (last : ℕ) (before : Entry) → last + 1 ≡ place → slice_get entries last ≡ Some before
    → before.wrote ≡ false → entry.wrote ≡ false → before.stamp ≡ entry.stamp → is_lt (history_cmp entry before) ≡ false

-- its reply is the plain container's in the world that the writes before it left, a MemoryError aside, or of its
-- section's form
abbrev pub HasRightReply : ScriptParts → List Entry → ℕ → Entry → Type 0
HasRightReply script entries place entry =
    IsReplied entry.call entry.reply
    (answer (world_at script entries (length (writes (take place entries))))
    (hands_at script entries entry.thread place) entry.call).reply

-- the rule holds of the entry at its place
abbrev pub Holds : Storage → ScriptParts → List Entry → Rule → ℕ → Entry → Type 0
Holds storage script entries rule.Whole place entry = IsNext script entries place entry
Holds storage script entries rule.Stamp place entry = IsStamped entries place entry
Holds storage script entries rule.Order place entry = IsAfter entries place entry
Holds storage script entries rule.Reply place entry = HasRightReply script entries place entry
Holds storage script entries rule.Await place entry = IsAwaited entries place entry
Holds storage script entries rule.Mark place entry = IsMarked script entries place entry
Holds storage script entries rule.Kept place entry = IsKept entries place entry
Holds storage script entries rule.Suspended place entry = IsCounted entries place entry
Holds storage script entries rule.Memory place entry = IsEarnedAt storage script entries place entry
Holds storage script entries rule.Missing place entry = Unit {0}
Holds storage script entries rule.World place entry = Unit {0}

-- all calls of each thread are there
abbrev pub IsComplete : ScriptParts → List Entry → Type 0
IsComplete script entries = (thread : ℕ) → length (calls_of script thread) ≤ length (entries_of thread entries)

-- the rule holds after the last entry, where `Missing` alone asks something
abbrev pub HoldsAtEnd : ScriptParts → List Entry → Rule → Type 0
HoldsAtEnd script entries rule.Missing = IsComplete script entries
HoldsAtEnd script entries _ = Unit {0}

-- the rule holds at a place, which is an entry's or the one after the last entry
pub record HoldsAt (storage : Storage) (script : ScriptParts) (entries : List Entry) (place : ℕ)
    (rule : Rule) : Type 0 where
  pub entry : (entry : Entry) → slice_get entries place ≡ Some entry → Holds storage script entries rule place entry
  pub after : place ≡ length entries → HoldsAtEnd script entries rule

-- the order in which the rules are reported, where several are broken at one place
abbrev pub rank_of : Rule → ℕ
rank_of rule.Whole = 0
rank_of rule.Stamp = 1
rank_of rule.Order = 2
rank_of rule.Reply = 3
rank_of rule.Await = 4
rank_of rule.Mark = 5
rank_of rule.Kept = 6
rank_of rule.Suspended = 7
rank_of rule.Memory = 8
rank_of rule.Missing = 9
rank_of rule.World = 10

-- ---- the first broken rule

-- every rule holds at every earlier place, and here every rule that is reported before this one
pub record HoldsBefore (storage : Storage) (script : ScriptParts) (entries : List Entry) (place : ℕ)
    (rule : Rule) : Type 0 where
  pub earlier : (before : ℕ) (other : Rule) → before < place → HoldsAt storage script entries before other
  pub here : (other : Rule) → rank_of other < rank_of rule → HoldsAt storage script entries place other

-- the rule is the first that is broken, at the first place where one is
pub record IsFirstBroken (storage : Storage) (script : ScriptParts) (entries : List Entry) (place : ℕ)
    (rule : Rule) : Type 0 where
  pub before : HoldsBefore storage script entries place rule
  pub broken : ¬ (HoldsAt storage script entries place rule)

-- no rule is broken anywhere
abbrev pub IsUnbroken : Storage → ScriptParts → List Entry → Type 0
IsUnbroken storage script entries = (place : ℕ) (rule : Rule) → HoldsAt storage script entries place rule
