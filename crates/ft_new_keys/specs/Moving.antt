-- A table that a dict or a set gets in the place of the one that it has, with the references of its boxes: each value that
-- stands in a box has its box there as well.
use Rattle.std.specs.Prelude.{◌≡◌, ℕ, zero, suc, ◌<◌, ◌≤◌, nat_lt, if◌then◌else◌, List, [], ◌∷◌, Option, Some}
use Rattle.ft_model.specs.declared.script.Kind.{Kind}
use Rattle.ft_model.specs.Worlds.{length_of, serial_of}
use Rattle.ft_layout.specs.Containers.{IsBlock, StandsAs}
use Rattle.ft_trace.specs.declared.Shape.{Shape}
use Rattle.ft_trace.specs.declared.View.{View}
use Rattle.ft_trace.specs.Addresses.{class_of, slots}
use Rattle.ft_trace.specs.Boxes.{names_box_at, named_in_root, references_held}
use Rattle.ft_trace.specs.ContainerStates.{kind_in}
use Rattle.ft_trace.specs.Holds.{held_words, known_state, in_hand, hand_unboxed}
use Rattle.ft_trace.specs.Kinds.{rows}
use Rattle.ft_trace.specs.Pictures.{root_in, entry_field}
use Rattle.ft_trace.specs.Sums.{sum_to}
use Rattle.ft_bank.specs.declared.table.Table.{Table}
use Rattle.ft_bank.specs.TableNames.{table_id, root_for, words_for}

-- 1 where the value in row p of a table of this kind names the box and the key there was not deleted, else 0
abbrev pub live_names_at : ℕ → Kind → ℕ → List ℕ → ℕ → ℕ
live_names_at b kind class ws p =
    if nat_lt (entry_field (slots class) ws p 2) 3 then names_box_at b kind class ws p else 0

-- 1 where the value names the box and the key was deleted, else 0
abbrev pub gone_names_at : ℕ → Kind → ℕ → List ℕ → ℕ → ℕ
gone_names_at b kind class ws p =
    if nat_lt (entry_field (slots class) ws p 2) 3 then 0 else names_box_at b kind class ws p

-- how many values of a table with this root name the box whose keys were not deleted
abbrev pub live_in_root : ℕ → Kind → ℕ → List ℕ → ℕ
live_in_root b kind zero ws = 0
live_in_root b kind (suc t) ws = sum_to (live_names_at b kind (class_of t) ws) (rows kind (class_of t))

-- and how many whose keys were
abbrev pub gone_in_root : ℕ → Kind → ℕ → List ℕ → ℕ
gone_in_root b kind zero ws = 0
gone_in_root b kind (suc t) ws = sum_to (gone_names_at b kind (class_of t) ws) (rows kind (class_of t))

-- The table that is fresh in the pass's hand reads what the dict or the set o has, each pair or element in one entry, in
-- their order, with its serial, and no entry for another key; each version is 0. It names each box as often as the table
-- that o has does for keys that are there. (profile)
pub record HasMoved (k : Shape) (o : ℕ) (table : Table) (v : View) : Type 0 where
  pub says : (block : List ℕ) → IsBlock block (Some (class_of (table_id table)))
      (length_of (known_state o v).content) (length_of (known_state o v).content) (serial_of (known_state o v).content)
      → StandsAs k.texts block (0 ∷ 0 ∷ hand_unboxed o (table_id table) v)
      (record {
        class = Some (class_of (table_id table));
        fill = length_of (known_state o v).content;
        keys = [];
      }) (known_state o v).content
  pub versions : (place : ℕ) → place < rows (kind_in k.starts o) (class_of (table_id table))
      → entry_field (slots (class_of (table_id table))) (hand_unboxed o (table_id table) v) place 0 ≡ 0
  pub names : (b : ℕ) → named_in_root b (kind_in k.starts o) (suc (table_id table)) (in_hand (table_id table) v)
      ≡ live_in_root b (kind_in k.starts o) (root_in (held_words o v)) (held_words o v).table

-- how often the table that the pass took out of the root of the container o, if it took one out, names the box for keys
-- that were deleted
abbrev pub gone_in_old : Shape → ℕ → Option Table → View → ℕ → ℕ
gone_in_old k o old v b = gone_in_root b (kind_in k.starts o) (root_for old) (words_for old v)

-- the pass holds the references of those boxes (profile)
abbrev pub HoldsGone : Shape → ℕ → Option Table → View → Type 0
HoldsGone k o old v = (b : ℕ) → gone_in_old k o old v b ≤ references_held k b v.log
