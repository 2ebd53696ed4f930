-- A table that is fresh in the pass's hand, as it is filled with what a dict or a set has.
use Rattle.std.specs.Prelude.{◌≡◌, ◌≢◌, ℕ, suc, ◌<◌, true, false, List, [], ◌∷◌, Some, if◌then◌else◌, length, slice_index}
use Rattle.ft_model.specs.declared.content.Content.{Content}
use Rattle.ft_model.specs.Worlds.{kind_of, length_of, serial_of}
use Rattle.ft_layout.specs.Containers.{class_mask, IsBlock, StandsAs}
use Rattle.ft_keys.specs.declared.words.Access.{Access}
use Rattle.ft_keys.specs.Accesses.{Tells, TellsOld, put_by}
use Rattle.ft_trace.specs.Acts.{has_lock, is_writing, stage}
use Rattle.ft_trace.specs.Addresses.{container_count, class_of, slots, size}
use Rattle.ft_trace.specs.Holds.{held_words, held_unboxed, in_hand}
use Rattle.ft_trace.specs.ContainerStates.{kind_in}
use Rattle.ft_trace.specs.Kinds.{rows, IsKeyed}
use Rattle.ft_trace.specs.Pictures.{root_in, entry_field}
use Rattle.ft_bank.specs.Passes.{shape_of, view, IsPassOf}
use Rattle.ft_bank.specs.PassSections.{stack_of}
use Rattle.ft_bank.specs.TableNames.{table_id, IsTableIn, IsPlaceOf}
use Rattle.ft_boxes.specs.References.{KeepsValues}
use Rattle.ft_table_calls.specs.Adding.{OnlyFilled}
use Rattle.ft_new_keys.specs.declared.fresh.FreshWords.{FreshWords}

-- The pass has the new table fresh in its hand, and the lock of the container, a dict or a set, whose root names the
-- old one and which it doesn't write. (profile)
pub record CanFill (s : FreshWords) : Type 0 where
  pub pass : IsPassOf s.bank.now s.pass.now
  pub container : s.o < container_count (shape_of s.bank.now)
  pub keyed : IsKeyed (kind_in (shape_of s.bank.now).starts s.o)
  pub locked : has_lock s.o (view s.pass.now).log ≡ true
  pub even : is_writing s.o (view s.pass.now).log ≡ false
  pub old_in : IsTableIn (shape_of s.bank.now) s.old
  pub old_root : root_in (held_unboxed s.o (view s.pass.now)) ≡ suc (table_id s.old)
  pub old_mask : s.old_mask ≡ class_mask s.old.class
  pub old_start : IsPlaceOf (shape_of s.bank.now) s.old s.old_start
  pub table_in : IsTableIn (shape_of s.bank.now) s.table
  pub start : IsPlaceOf (shape_of s.bank.now) s.table s.start
  pub fresh : stage (table_id s.table) (view s.pass.now).log ≡ 1
  pub mask : s.mask ≡ class_mask s.table.class

-- the words of the new table, and of the old one what they read where the new one gets values in place, else as they
-- stand; after headers that say nothing
abbrev pub fresh_words : FreshWords → List ℕ
fresh_words s = 0 ∷ 0 ∷ in_hand (table_id s.table) (view s.pass.now)

abbrev pub old_words : FreshWords → List ℕ
old_words s =
    0 ∷ 0 ∷ (if s.in_place then held_unboxed s.o (view s.pass.now) else held_words s.o (view s.pass.now)).table

-- how many entries the old one has
abbrev pub old_entries : FreshWords → ℕ
old_entries s = rows (kind_in (shape_of s.bank.now).starts s.o) (class_of (table_id s.old))

-- The call was a load or a put of one word: the words answered it, and have what it put. (profile)
pub record FreshMade (s : FreshWords) (access : Access) (t : FreshWords) : Type 0 where
  pub bank : t.bank ≡ s.bank
  pub pass : t.pass.ghost_name ≡ s.pass.ghost_name
  pub stack : stack_of t.pass.now ≡ stack_of s.pass.now
  pub o : t.o ≡ s.o
  pub old : t.old ≡ s.old
  pub old_mask : t.old_mask ≡ s.old_mask
  pub old_start : t.old_start ≡ s.old_start
  pub table : t.table ≡ s.table
  pub start : t.start ≡ s.start
  pub mask : t.mask ≡ s.mask
  pub in_place : t.in_place ≡ s.in_place
  pub only : OnlyFilled (view s.pass.now) (view t.pass.now)
  pub values : KeepsValues (view s.pass.now) (view t.pass.now)
  pub tells : Tells s.mask access (fresh_words s)
  pub tells_old : TellsOld s.old_mask access (old_words s)
  pub left : fresh_words t ≡ put_by s.mask access (fresh_words s)
  pub left_old : old_words t ≡ old_words s

-- the first n words of a table of this class are 0
pub record BlankBelow (class n : ℕ) (words : List ℕ) : Type 0 where
  pub long : length words ≡ size class
  pub zeros : (i : ℕ) → i < n → slice_index words i ≡ 0

-- all words of a table of this class are 0
pub record HasZeroWords (class : ℕ) (words : List ℕ) : Type 0 where
  pub long : length words ≡ size class
  pub zeros : (i : ℕ) → slice_index words i ≡ 0

-- The words of a table of this class have what a dict or a set has, each pair or element in one entry, in their order,
-- with its serial, and no entry for another key; each version is 0, and no value names a box. (profile)
pub record IsFilledWith (texts : List ℕ) (class : ℕ) (content : Content) (words : List ℕ) : Type 0 where
  pub says : (block : List ℕ) → IsBlock block (Some class) (length_of content) (length_of content) (serial_of content)
      → StandsAs texts block (0 ∷ 0 ∷ words)
      (record { class = Some class; fill = length_of content; keys = [] }) content
  pub versions : (place : ℕ) → place < rows (kind_of content) class → entry_field (slots class) words place 0 ≡ 0
  pub plain : (place : ℕ) → place < rows (kind_of content) class → entry_field (slots class) words place 4 ≢ 4
