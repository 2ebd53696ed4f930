-- What a writer may do to a table of a list while others read it without the lock. Items have versions; one is odd
-- while its item is being written. (profile)
use Rattle.std.specs.Prelude.{◌≡◌, ◌≢◌, ℕ, suc, ◌%◌, ◌<◌, ◌≤◌, List, [], ◌∷◌, length, slice_get}
use Rattle.std.specs.Option.{option_map_or}
use Rattle.ft_model.specs.declared.data.Value.{Value}
use Rattle.ft_layout.specs.declared.slot.Stored.TheVariants.{Plain}
use Rattle.ft_layout.specs.Words.{stored_kind, stored_payload}
use Rattle.ft_trace.specs.Pictures.{item_offset, item_field}

-- what an item says
abbrev pub said_at : List ℕ → ℕ → List ℕ
said_at ws p = item_field ws p 1 ∷ item_field ws p 2 ∷ []

-- what a list has at an index, in words: the value's kind and payload; at and past its length the words of nothing
abbrev pub value_words : Value → List ℕ
value_words value = stored_kind (Plain value) ∷ stored_payload (Plain value) ∷ []

abbrev pub words_at : List Value → ℕ → List ℕ
words_at values p = option_map_or value_words (slice_get values p) (0 ∷ 0 ∷ [])

-- what holds of a table of n items that a root names at every moment: an item with an even version says what the list
-- has at its index, and the list is no longer than the table
pub record ItemSound (n : ℕ) (ws : List ℕ) (values : List Value) : Type 0 where
  pub right : (p : ℕ) → p < n → item_field ws p 0 % 2 ≡ 0 → words_at values p ≡ said_at ws p
  pub short : length values ≤ n

-- word i may become x: words of an item are put while its version is odd, versions go up by one, and an item is closed
-- where it says what the list has
pub record ItemCareful (n : ℕ) (ws : List ℕ) (values : List Value) (i x : ℕ) : Type 0 where
  pub odd : (p w : ℕ) → p < n → 0 < w → w < 4 → i ≡ item_offset p w → item_field ws p 0 % 2 ≡ 1
  pub version : (p : ℕ) → p < n → i ≡ item_offset p 0 → x ≡ suc (item_field ws p 0)
  pub closes : (p : ℕ) → p < n → i ≡ item_offset p 0 → x % 2 ≡ 0 → words_at values p ≡ said_at ws p

-- each item whose version is odd is at an index at which the new list has something else than the old one
abbrev pub OpensChangedItems : ℕ → List ℕ → List Value → List Value → Type 0
OpensChangedItems n ws old new = (p : ℕ) → p < n → item_field ws p 0 % 2 ≡ 1 → words_at new p ≢ words_at old p

-- a write may be committed that leaves other values: it changes nothing that an item with an even version says, it
-- changes each item with an odd one, and the list stays no longer than the table
pub record ItemClear (n : ℕ) (ws : List ℕ) (old new : List Value) : Type 0 where
  pub keeps : (p : ℕ) → p < n → item_field ws p 0 % 2 ≡ 0 → words_at new p ≡ words_at old p
  pub opens : OpensChangedItems n ws old new
  pub short : length new ≤ n

-- what stays between two moments in which one root names the table
pub record ItemLater (n : ℕ) (ws zs : List ℕ) : Type 0 where
  pub version : (p : ℕ) → p < n → item_field ws p 0 ≤ item_field zs p 0
  pub same : (p w : ℕ) → p < n → 0 < w → w < 4 → item_field ws p 0 % 2 ≡ 0 → item_field zs p 0 ≡ item_field ws p 0
      → item_field zs p w ≡ item_field ws p w
