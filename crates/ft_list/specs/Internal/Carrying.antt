-- What a pass holds while it carries a value from one item of a list to another.
use Rattle.std.specs.Prelude.{◌≡◌, ◌≢◌, ◌⊎◌, ℕ, ◌+◌, ◌^◌, ◌<◌, ◌≤◌, List}
use Rattle.ft_model.specs.declared.data.Value.{Value}
use Rattle.ft_layout.specs.declared.slot.Stored.TheVariants.{Plain}
use Rattle.ft_trace.specs.declared.Shape.{Shape}
use Rattle.ft_trace.specs.declared.View.{View}
use Rattle.ft_trace.specs.Boxes.{names_box, references_held}
use Rattle.ft_trace.specs.Holds.{held_words, held_unboxed}
use Rattle.ft_trace.specs.Pictures.{item_field}
use Rattle.ft_bank.specs.BoxSteps.{kind_read, payload_read}
use Rattle.ft_list.specs.HeldValues.{HasWordsFrom}
use Rattle.ft_list.specs.ListItemWrites.{stored_item}

-- Beside the reference for the box that a value with this kind and this payload names, the pass holds so few for each box
-- that it may hold one more.
abbrev pub HoldsFewBut : Shape → ℕ → ℕ → View → Type 0
HoldsFewBut k kind payload v = (b : ℕ) → references_held k b v.log + 1 < 2 ^ 31 + names_box b kind payload

-- it holds so few for each box that it may hold one more
abbrev pub HoldsSpare : Shape → View → Type 0
HoldsSpare k v = (b : ℕ) → references_held k b v.log + 1 < 2 ^ 31

-- each item of the list o has the value that it had, as its words stand
abbrev pub KeepsItemValues : ℕ → View → View → Type 0
KeepsItemValues o v w =
    (place word : ℕ) → 0 < word → word < 4
    → item_field (held_words o w).table place word ≡ item_field (held_words o v).table place word

-- each item of the list o but the one at this place has the value that it had, as its words stand
abbrev pub KeepsOtherItems : ℕ → ℕ → View → View → Type 0
KeepsOtherItems o place v w =
    (p word : ℕ) → p ≢ place → 0 < word → word < 4
    → item_field (held_words o w).table p word ≡ item_field (held_words o v).table p word

-- The item at this place of the list o has the given value, as its kind and its payload stand; or it reads so already, and
-- the given value is carried on.
abbrev pub CarriesValue : ℕ → ℕ → ℕ × ℕ → ℕ × ℕ → View → View → Type 0
CarriesValue o place given carried v w =
    ((item_field (held_words o w).table place 1 ≡ given.0) × (item_field (held_words o w).table place 2 ≡ given.1))
    ⊎ ((carried.0 ≡ given.0) × (carried.1 ≡ given.1)
    × (kind_read v given.0 given.1 ≡ item_field (held_unboxed o v).table place 1)
    × (payload_read v given.0 given.1 ≡ item_field (held_unboxed o v).table place 2))

-- Each item from the first place up to this one stores the value, and the given one is carried on; or an item before this
-- place has it.
abbrev pub HasWordsBefore : ℕ → List Value → ℕ → ℕ → Value → ℕ × ℕ → ℕ × ℕ → View → Type 0
HasWordsBefore o values place at value given carried w =
    ((carried.0 ≡ given.0) × (carried.1 ≡ given.1)
    × ((p : ℕ) → place ≤ p → p < at → stored_item values p ≡ Plain value))
    ⊎ ((from : HasWordsFrom o values place value given.0 given.1 w) × (from.0 < at))
