-- Elements of one set that another set hasn't, as they go to a fresh table.
use Rattle.std.specs.Prelude.{◌≡◌, ℕ, ◌+◌, ◌<◌, ◌≤◌, Bool, not, ◌&&◌, List, [], ◌∷◌, ◌++◌, filter, length, map, take, Option, Some, None, if◌then◌else◌}
use Rattle.ft_model.specs.declared.content.Element.{Element}
use Rattle.ft_model.specs.declared.script.Kind.TheVariants as kind
use Rattle.ft_model.specs.Contents.{IsSet, has_element}
use Rattle.ft_model.specs.Worlds.{set_of}
use Rattle.ft_layout.specs.declared.slot.Pair.{Pair}
use Rattle.ft_layout.specs.declared.slot.Stored.TheVariants.{Empty}
use Rattle.ft_layout.specs.Containers.{class_mask, used_element}
use Rattle.ft_layout.specs.Tables.{IsSetTable, UsedEntry, hash_of, is_live}
use Rattle.ft_trace.specs.declared.Shape.{Shape}
use Rattle.ft_trace.specs.declared.View.{View}
use Rattle.ft_trace.specs.Addresses.{class_of, slots}
use Rattle.ft_trace.specs.Holds.{held_unboxed, in_hand, known_state}
use Rattle.ft_trace.specs.Kinds.{rows}
use Rattle.ft_trace.specs.Pictures.{entry_field}
use Rattle.ft_bank.specs.declared.table.Table.{Table}
use Rattle.ft_bank.specs.TableNames.{table_id}

-- whether an entry is there whose key the others haven't (Python manual, Set Types)
abbrev pub is_apart : List Element → UsedEntry → Bool
is_apart others entry = is_live entry && not (has_element others entry.key)

-- the pair that is put for it, with its serial
abbrev pub apart_pair : List ℕ → List Element → UsedEntry → Option Pair
apart_pair texts others entry =
    if is_apart others entry
    then Some (record { hash = hash_of texts entry.key; key = entry.key; value = Empty; serial = entry.serial })
    else None

-- the serial of an entry: its own, or that many after the first new one (profile)
abbrev pub serial_at : Option ℕ → ℕ → ℕ → ℕ
serial_at None n own = own
serial_at (Some first) n own = first + n

-- the elements of entries with these serials, counted from n on
abbrev pub at_serials : Option ℕ → ℕ → List UsedEntry → List Element
at_serials first n [] = []
at_serials first n (entry ∷ entries) =
    record { serial = serial_at first n entry.serial; key = entry.key } ∷ at_serials first (n + 1) entries

-- the elements of a table with these used entries that the others haven't
abbrev pub chosen : List Element → Option ℕ → List UsedEntry → List Element
chosen others first used = at_serials first 0 (filter (is_apart others) used)

-- A table that is fresh in the pass's hand has these elements, that many, and no version that isn't 0. (profile)
pub record HasChosen (k : Shape) (table : Table) (elements : List Element) (count : ℕ) (v : View) : Type 0 where
  pub counted : count ≡ length elements
  pub made : IsSetTable k.texts (class_mask (class_of (table_id table))) (map used_element elements)
      (0 ∷ 0 ∷ in_hand (table_id table) v)
  pub versions : (p : ℕ) → p < rows kind.Set (class_of (table_id table))
      → entry_field (slots (class_of (table_id table))) (in_hand (table_id table) v) p 0 ≡ 0

-- In a table that is fresh in the pass's hand, which has these elements at first, those of the set s are put whose
-- entries come before this place and that the set t hasn't, with their serials or with new ones: that many elements are
-- there. For all of them there is room, and then they are a set's. (profile)
pub record IsChosen (k : Shape) (s : ℕ) (from : Table) (t : ℕ) (table : Table) (first : Option ℕ) (start : ℕ)
    (used : List UsedEntry) (mine : List Element) (place count : ℕ) (v : View) : Type 0 where
  pub source : IsSetTable k.texts (class_mask (class_of (table_id from))) used (0 ∷ 0 ∷ (held_unboxed s v).table)
  pub filled : length used ≡ (known_state s v).table.fill
  pub started : length mine ≡ start
  pub next : ℕ
  pub is_set : IsSet next (mine ++ chosen (set_of (known_state t v).content).elements first used)
  pub room : length (mine ++ chosen (set_of (known_state t v).content).elements first used)
      ≤ rows kind.Set (class_of (table_id table))
  pub has : HasChosen k table (mine ++
      chosen (set_of (known_state t v).content).elements first (take place used)) count v
