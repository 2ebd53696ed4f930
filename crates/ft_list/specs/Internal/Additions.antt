-- What is added to a list: the values, the places from which on items change, and what a pass is to know of them.
use Rattle.std.specs.Prelude.{◌≡◌, ◌≢◌, ℕ, suc, ◌<◌, ◌≤◌, true, false, List, ◌++◌, length}
use Rattle.std.specs.List.{insert}
use Rattle.ft_model.specs.declared.call.Call.{Call}
use Rattle.ft_model.specs.declared.data.Value.{Value}
use Rattle.ft_model.specs.declared.script.Kind.TheVariants as kind
use Rattle.ft_layout.specs.declared.slot.Stored.{Stored}
use Rattle.ft_layout.specs.declared.slot.Stored.TheVariants.{Empty, Plain}
use Rattle.ft_layout.specs.Words.{FitsStored, IsStored, stored_kind, stored_payload}
use Rattle.ft_trace.specs.declared.Shape.{Shape}
use Rattle.ft_trace.specs.declared.View.{View}
use Rattle.ft_trace.specs.Acts.{has_lock, is_writing}
use Rattle.ft_trace.specs.Addresses.{container_count, class_of, slots}
use Rattle.ft_trace.specs.Boxes.{place_use, use_taken}
use Rattle.ft_trace.specs.BoxWords.{box_kind}
use Rattle.ft_trace.specs.Holds.{held_unboxed, known_state}
use Rattle.ft_trace.specs.Pictures.{root_in, Represents, item_field}
use Rattle.ft_trace.specs.ContainerStates.{kind_in}
use Rattle.ft_list.specs.declared.addition.Addition.{Addition}
use Rattle.ft_list.specs.declared.addition.Addition.TheVariants.{One, All}
use Rattle.ft_bank.specs.BoxSteps.{HasReferenceFor}
use Rattle.ft_search.specs.HeldValues.{StoresBox}
use Rattle.ft_list.specs.HeldValues.{HasWordsFrom, SharesItems}
use Rattle.ft_list.specs.ListItemWrites.{ReadsAs, known_items, stored_item}

-- how many items are added
abbrev pub count_in : Addition → ℕ
count_in (One place value stored) = 1
count_in (All other count) = count

-- the first place, of that many, whose item changes
abbrev pub first_in : Addition → ℕ → ℕ
first_in (One place value stored) count = place
first_in (All other more) count = count

-- these values with the addition, as the pass knows it
abbrev pub with_added : Addition → View → List Value → List Value
with_added (One place value stored) v values = insert values place value
with_added (All other more) v values = values ++ known_items other v

-- what the item that is added stores; nothing, where items are added that others have
abbrev pub stored_in : Addition → Stored
stored_in (One place value stored) = stored
stored_in (All other count) = Empty

-- A value that is added in a box stands in the list in that box; items that are added stand in the boxes in which they
-- stood in the list that has them.
abbrev pub NamesAdded : ℕ → List Value → Addition → View → View → Type 0
NamesAdded o values (One place value stored) v w =
    stored_kind stored ≡ box_kind → HasWordsFrom o values place value (stored_kind stored) (stored_payload stored) w
NamesAdded o values (All other count) v w = SharesItems o (length values) other count v w

-- the boxes of what is added are those of items, and the pass has no place taken any longer for one that no write
-- stored
abbrev pub HasNamed : ℕ → Addition → View → View → Type 0
HasNamed o addition v w = NamesAdded o (known_items o v) addition v w × ((b : ℕ) → place_use b w.log ≢ use_taken)

-- a box whose place the pass has taken, and which no write of it has stored yet, is the one that is added
abbrev pub StoresAddition : Addition → Call → View → Type 0
StoresAddition (One place value stored) called v = StoresBox stored called v
StoresAddition (All other count) called v = (b : ℕ) → place_use b v.log ≢ use_taken

-- The pass has the lock of the list o; no version is odd there, and its words stand for what the pass knows of it.
-- (profile)
pub record KnowsItems (k : Shape) (o : ℕ) (v : View) : Type 0 where
  pub container : o < container_count k
  pub kind : kind_in k.starts o ≡ kind.List
  pub locked : has_lock o v.log ≡ true
  pub even : is_writing o v.log ≡ false
  pub stands : Represents k.texts (held_unboxed o v) (known_state o v)

-- what the pass may store as an item that is to have this value: words can represent it, and it reads so; for a box that it
-- names the pass holds a reference, and it knows the value in it
pub record CanStore (value : Value) (stored : Stored) (v : View) : Type 0 where
  pub fits : FitsStored stored
  pub own : HasReferenceFor v (stored_kind stored) (stored_payload stored)
  pub reads : ReadsAs v stored (Plain value)

-- The addition is a value that the pass may store so, at a place of a list of that many items; or all the items of a list
-- that the pass knows, of which there are as many as it says.
abbrev pub IsAddition : Shape → ℕ → Addition → View → Type 0
IsAddition k count (One place value stored) v = (place ≤ count) × CanStore value stored v
IsAddition k count (All other more) v = (more ≡ length (known_items other v)) × KnowsItems k other v

-- The pass has the lock of the list m, which it doesn't write, or which is the list o that it writes; and the table
-- that the root of m names stores the items of m as they were before that write. (profile)
pub record GivesItems (k : Shape) (o m : ℕ) (v : View) : Type 0 where
  pub container : m < container_count k
  pub kind : kind_in k.starts m ≡ kind.List
  pub locked : has_lock m v.log ≡ true
  pub quiet : m ≢ o → is_writing m v.log ≡ false
  pub stores : (t p : ℕ) → root_in (held_unboxed m v) ≡ suc t → p < length (known_items m v) → (p < slots (class_of t))
      × IsStored (item_field (held_unboxed m v).table p 1) (item_field (held_unboxed m v).table p 2)
      (stored_item (known_items m v) p)
  pub bare : root_in (held_unboxed m v) ≡ 0 → length (known_items m v) ≡ 0

-- the same of an addition once the pass writes the list o, of that many items
abbrev pub IsAdditionTo : Shape → ℕ → ℕ → Addition → View → Type 0
IsAdditionTo k o count (One place value stored) v = (place ≤ count) × CanStore value stored v
IsAdditionTo k o count (All other more) v = (more ≡ length (known_items other v)) × GivesItems k o other v
