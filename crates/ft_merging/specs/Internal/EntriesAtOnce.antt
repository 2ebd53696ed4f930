-- A write of several entries of a dict or a set: what holds before its commit and after it.
use Rattle.std.specs.Prelude.{◌≡◌, ℕ, ◌%◌, ◌<◌, true, false, []}
use Rattle.ft_model.specs.declared.call.Call.{Call}
use Rattle.ft_model.specs.declared.data.Key.{Key}
use Rattle.ft_model.specs.declared.reply.Reply.{Reply}
use Rattle.ft_model.specs.TableUses.{StoredWorld, after_stored}
use Rattle.ft_trace.specs.declared.Shape.{Shape}
use Rattle.ft_trace.specs.declared.View.{View}
use Rattle.ft_trace.specs.Acts.{has_committed}
use Rattle.ft_trace.specs.Addresses.{class_of, slots}
use Rattle.ft_trace.specs.Carefuls.{IsDead, HasLiveKey, OpensChanged}
use Rattle.ft_trace.specs.Holds.{held_words, held_unboxed, known_state}
use Rattle.ft_trace.specs.Kinds.{rows, under}
use Rattle.ft_trace.specs.Pictures.{entry_field, ContainerWords, Represents}
use Rattle.ft_trace.specs.ContainerStates.{ContainerState, state_at, kind_in, changes}
use Rattle.ft_bank.specs.declared.table.Table.{Table}
use Rattle.ft_bank.specs.TableNames.{table_id}
use Rattle.ft_bank.specs.WriteSteps.{MayCommit, MayHave}
use Rattle.ft_search.specs.OneEntryWrites.{WritesEntries}

-- the version of the entry at a place of the table t
abbrev pub version_of : ℕ → ContainerWords → ℕ → ℕ
version_of t x p = entry_field (slots (class_of t)) x.table p 0

-- all words of the entries of the table t of the container o, but their versions, stand as they stood
abbrev pub KeepsEntries : ℕ → ℕ → View → View → Type 0
KeepsEntries o t v w =
    (p word : ℕ) → 0 < word → word < 8
    → entry_field (slots (class_of t)) (held_words o w).table p word
    ≡ entry_field (slots (class_of t)) (held_words o v).table p word

-- no entry whose version is odd has a key that was deleted and that is there
abbrev pub NoneDead : ℕ → ℕ → ContainerWords → ContainerState → Type 0
NoneDead t m x kept =
    (p : ℕ) (key : Key) → p < m → version_of t x p % 2 ≡ 1 → IsDead (slots (class_of t)) x.table p key
    → under kept.content key ≡ []

-- Some of the entries are put, and the counter isn't raised yet. The words stand for this; an entry with an even
-- version says what the container had before, and one with an odd version is of a key under which it had something
-- else. (profile)
pub record IsMidway (k : Shape) (o : ℕ) (table : Table) (mid : ContainerState) (v : View) : Type 0 where
  pub writes : WritesEntries k o table v
  pub early : has_committed o v.log ≡ false
  pub stands : Represents k.texts (held_unboxed o v) mid
  pub same : (p : ℕ) (key : Key) → p < rows (kind_in k.starts o) (class_of (table_id table))
      → version_of (table_id table) (held_unboxed o v) p % 2 ≡ 0
      → HasLiveKey (slots (class_of (table_id table))) (held_unboxed o v).table p key
      → under mid.content key ≡ under (known_state o v).content key
  pub opens : OpensChanged (slots (class_of (table_id table))) (rows (kind_in k.starts o) (class_of (table_id table)))
      (held_unboxed o v).table (under (known_state o v).content) (under mid.content)
  pub gone : NoneDead (table_id table) (rows (kind_in k.starts o) (class_of (table_id table))) (held_unboxed o v) mid
  pub opened : (p : ℕ) → p < rows (kind_in k.starts o) (class_of (table_id table))
      → version_of (table_id table) (held_unboxed o v) p % 2 ≡ 1 → p < mid.table.fill

-- The counter is raised; the versions of the entries before this place are even again. (profile)
pub record IsClosing (k : Shape) (o : ℕ) (table : Table) (from fill : ℕ) (v : View) : Type 0 where
  pub writes : WritesEntries k o table v
  pub late : has_committed o v.log ≡ true
  pub stands : Represents k.texts (held_unboxed o v) (known_state o v)
  pub gone : NoneDead (table_id table) (rows (kind_in k.starts o) (class_of (table_id table)))
      (held_unboxed o v) (known_state o v)
  pub opened : (p : ℕ) → p < rows (kind_in k.starts o) (class_of (table_id table))
      → version_of (table_id table) (held_unboxed o v) p % 2 ≡ 1 → p < fill
  pub shut : (p : ℕ) → p < rows (kind_in k.starts o) (class_of (table_id table)) → p < from
      → version_of (table_id table) (held_unboxed o v) p % 2 ≡ 0

-- The call may be committed, and the words say what it leaves of the container; that many entries of its table are
-- used. (profile)
pub record MayFinishAll (k : Shape) (o : ℕ) (table : Table) (fill : ℕ) (called : Call) (said : Reply) (v : View)
    : Type 0 where
  pub may : MayCommit v called said
  pub changed : changes called ≡ o
  pub left : ContainerState
  pub left_is : (stored : StoredWorld) → MayHave v stored → state_at (after_stored stored called) o ≡ left
  pub used : left.table.fill ≡ fill
  pub midway : IsMidway k o table left v
