-- What a taking or a giving of a table does, as the log of its pass says, and what it leaves as it was.
use Rattle.std.specs.Prelude.{◌≡◌, ◌≢◌, ◌⊎◌, ℕ, zero, suc, ◌+◌, ◌-◌, ◌*◌, ◌<◌, ◌≤◌, true, List, [], ◌∷◌, ◌++◌}
use Rattle.ft_trace.specs.declared.Act.{Act}
use Rattle.ft_trace.specs.declared.Act.TheVariants.{LowerCount, RaiseCount, ReadCount, ReadFree, TakeTable}
use Rattle.ft_trace.specs.declared.Shape.{Shape}
use Rattle.ft_trace.specs.declared.Snap.{Snap}
use Rattle.ft_trace.specs.declared.View.{View}
use Rattle.ft_trace.specs.Addresses.{container_count, class_of, IsTableName, free_word_of, free_bit_of}
use Rattle.ft_trace.specs.Acts.{has_lock, is_writing, has_committed, has_emptied, stage, clear, announces, used, debt, flight, owes}
use Rattle.ft_trace.specs.Bits.{bit}
use Rattle.ft_trace.specs.Holds.{in_hand}
use Rattle.ft_trace.specs.Traces.{IsAllShut}
use Rattle.ft_bank.specs.declared.table.Table.{Table}
use Rattle.ft_bank.specs.declared.takings.Took.{Took}
use Rattle.ft_bank.specs.declared.takings.Took.TheVariants as took
use Rattle.ft_bank.specs.declared.takings.Search.{Search}
use Rattle.ft_bank.specs.declared.takings.Search.TheVariants as search
use Rattle.ft_bank.specs.Locks.{KnowsSame}
use Rattle.ft_bank.specs.SameBoxes.{SameBoxes}
use Rattle.ft_bank.specs.TableNames.{table_id, IsTableIn}

-- ---- what stays

-- The pass has the same number, shape, tokens, entries and calls left, the same locks and writes, and it knows the same
-- of each container whose lock it has. Of each table for which F holds it has as much as before, and knows its words
-- where it is fresh in its hand.
pub record KeepsHeld (F : ℕ → Type 0) (v w : View) : Type 0 where
  pub number : w.number ≡ v.number
  pub next : w.next ≡ v.next
  pub parts : w.parts ≡ v.parts
  pub tokens : w.tokens ≡ v.tokens
  pub left : w.left ≡ v.left
  pub shape : w.shape ≡ v.shape
  pub entries : w.entries ≡ v.entries
  pub lists : w.lists ≡ v.lists
  pub locks : (o : ℕ) → has_lock o w.log ≡ has_lock o v.log
  pub writes : (o : ℕ) → is_writing o w.log ≡ is_writing o v.log
  pub committed : (o : ℕ) → has_committed o w.log ≡ has_committed o v.log
  pub emptied : (o : ℕ) → has_emptied o w.log ≡ has_emptied o v.log
  pub used : used w.log ≡ used v.log
  pub words : (o : ℕ) → o < container_count v.shape → has_lock o v.log ≡ true
      → KnowsSame o v w
  pub stages : (t : ℕ) → F t → stage t w.log ≡ stage t v.log
  pub hands : (t : ℕ) → F t → IsTableName v.shape t → stage t v.log ≡ 1 → in_hand t w ≡ in_hand t v

-- besides, it announces the same number, has as many tables to retire, and all that it has to do with boxes is as it was
pub record KeepsBut (F : ℕ → Type 0) (v w : View) : Type 0 where
  pub held : KeepsHeld F v w
  pub announces : announces w.log ≡ announces v.log
  pub debt : debt w.log ≡ debt v.log
  pub boxes : SameBoxes v w

-- every table
abbrev pub Each : ℕ → Type 0
Each t = Unit {0}

-- every table but this one
abbrev pub NotTable : Table → ℕ → Type 0
NotTable q t = t ≢ table_id q

-- ---- free tables

-- the bank has this table, and the pass has it not
abbrev pub IsUnclaimed : Shape → Table → View → Type 0
IsUnclaimed k t v = IsTableIn k t × (stage (table_id t) v.log ≡ 0)

-- no version is odd in the words that the pass knows of a table fresh in its hand, by the kind of container that it was
-- filled for
abbrev pub IsShutIn : ℕ → View → Type 0
IsShutIn t v = IsAllShut (class_of t) (in_hand t v)

-- A pass may give a table back that it took, that has stood in no root since and that has no odd version; or one that
-- it retired, where it has found each pass offline or at least at the goal since then.
abbrev pub MayGive : ℕ → View → Type 0
MayGive t v =
    ((stage t v.log ≡ 1) × IsShutIn t v)
    ⊎ ((stage t v.log ≡ 4) × ((p : ℕ) → 0 < p → p ≤ v.shape.passes → clear t p v.log ≡ true))

-- ---- a search for a bit

-- a free word of a class, as traces number it
abbrev pub word_of_class : ℕ → ℕ → ℕ
word_of_class class n = 16 * (class - 3) + n

-- loads of the first n free words of a class, each of which found 0
abbrev pub loads_of_none : ℕ → ℕ → List Act
loads_of_none class zero = []
loads_of_none class (suc n) = ReadFree (word_of_class class n) 0 ∷ loads_of_none class n

-- The first words were 0, and then one was not; the bit of the table in it was cleared at a step that found this in the
-- word, after a load had found that.
pub record Cleared (class : ℕ) (t : Table) (loaded found : ℕ) (acts : List Act) : Type 0 where
  pub word : ℕ
  pub low : word < 16
  pub of : free_word_of (table_id t) ≡ word_of_class class word
  pub snap : Snap
  pub is : acts ≡ TakeTable (table_id t) found snap ∷ ReadFree (word_of_class class word) loaded
      ∷ loads_of_none class word

-- What a search of the free words of a class did: it took a bit that was still set; or it came too late for one, whose
-- word moved between two steps of this search; or each word was 0 at its load.
abbrev pub IsSearch : ℕ → Search → List Act → Type 0
IsSearch class (search.Found t) acts =
    (loaded found : ℕ) × (bit (free_bit_of (table_id t)) found ≡ 1) × Cleared class t loaded found acts
IsSearch class (search.Lost a b) acts = (a ≢ b) × (t : Table) × Cleared class t a b acts
IsSearch class search.Nothing acts = acts ≡ loads_of_none class 16

-- What the pass has after a search: the table, with no odd version, and it is in the midst of nothing; or it is still
-- in the midst of the taking. What it owes stays.
abbrev pub HasFound : Shape → ℕ → Search → View → View → Type 0
HasFound k class (search.Found t) v w =
    IsTableIn k t × (t.class ≡ class) × (stage (table_id t) v.log ≡ 0) × (stage (table_id t) w.log ≡ 1)
    × (flight w.log ≡ 0) × (owes w.log ≡ owes v.log) × IsShutIn (table_id t) w
HasFound k class (search.Lost a b) v w = (flight w.log ≡ flight v.log) × (owes w.log ≡ owes v.log)
HasFound k class search.Nothing v w = (flight w.log ≡ flight v.log) × (owes w.log ≡ owes v.log)

-- every table but the one that was found
abbrev pub StaysInSearch : Search → ℕ → Type 0
StaysInSearch (search.Found q) t = NotTable q t
StaysInSearch (search.Lost a b) t = Each t
StaysInSearch search.Nothing t = Each t

-- What a try to clear the bit of a table answers that was set in this word at its load: it was set in what was found
-- too; or it was not, so that the word has moved.
abbrev pub IsBitCleared : Table → ℕ → ℕ → Search → Type 0
IsBitCleared t loaded found (search.Found q) = (q ≡ t) × (bit (free_bit_of (table_id t)) found ≡ 1)
IsBitCleared t loaded found (search.Lost a b) =
    (a ≡ loaded) × (b ≡ found) × (loaded ≢ found) × (bit (free_bit_of (table_id t)) found ≢ 1)
IsBitCleared t loaded found search.Nothing = ⊥

-- ---- a taking

-- the count of a class was found to be this, and lowered from it
abbrev pub lowered : ℕ → ℕ → List Act
lowered class count = LowerCount class count count ∷ ReadCount class count ∷ []

-- What a taking of a class did. It took the bit of the table after it had lowered the count. Or the count was 0 at the
-- one load of this call. Or the count moved from a to b between two steps of this call; or it was lowered, and then a
-- free word moved from a to b between two steps of it, or each free word was 0 at its load: then the count, which was
-- a, was raised again, and b is 0. (profile)
abbrev pub IsTaking : ℕ → Took → List Act → Type 0
IsTaking class (took.Taken t) acts =
    (count : ℕ) × (rest : List Act) × (0 < count) × IsSearch class (search.Found t) rest
    × (acts ≡ rest ++ lowered class count)
IsTaking class took.AllTaken acts = acts ≡ ReadCount class 0 ∷ []
IsTaking class (took.Moved a b) acts =
    ((a ≢ b) × (acts ≡ LowerCount class a b ∷ ReadCount class a ∷ []))
    ⊎ (((count raised : ℕ) × (rest : List Act) × IsSearch class (search.Lost a b) rest
    × (acts ≡ RaiseCount class raised ∷ (rest ++ lowered class count)))
    ⊎ ((b ≡ 0) × (raised : ℕ) × (acts ≡ RaiseCount class raised ∷ (loads_of_none class 16 ++ lowered class a))))

-- What the pass has after it: the table, one of the bank's and of the class, which it had not before and which has no
-- odd version, and it owes its class; or it owes nothing, as before.
abbrev pub HasTook : Shape → ℕ → Took → View → View → Type 0
HasTook k class (took.Taken t) v w =
    IsTableIn k t × (t.class ≡ class) × (stage (table_id t) v.log ≡ 0) × (stage (table_id t) w.log ≡ 1)
    × (owes w.log ≡ suc class) × IsShutIn (table_id t) w
HasTook k class took.AllTaken v w = owes w.log ≡ 0
HasTook k class (took.Moved a b) v w = owes w.log ≡ 0

-- it found no word changed
abbrev pub HasNotMoved : Took → Type 0
HasNotMoved (took.Taken t) = Unit {0}
HasNotMoved took.AllTaken = Unit {0}
HasNotMoved (took.Moved a b) = ⊥

-- every table but the one that was taken
abbrev pub StaysIn : Took → ℕ → Type 0
StaysIn (took.Taken q) t = NotTable q t
StaysIn took.AllTaken t = Each t
StaysIn (took.Moved a b) t = Each t
