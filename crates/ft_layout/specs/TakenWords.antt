-- Words that are taken one at a time, each at its own moment, and what they say together. (profile)
use Rattle.std.specs.Prelude.{◌≡◌, ℕ, ◌+◌, List, [], ◌∷◌, map, reverse, All}

-- a word that was taken: its address, and what it was
pub record TakenWord : Type 0 where
  pub at : ℕ
  pub word : ℕ

-- these, of which the newest comes first, lead from one state to the other
abbrev pub Takes : {S : Type 0} → (S → ℕ → ℕ → S → Type 0) → S → List TakenWord → S → Type 0
Takes gave first [] last = first ≡ last
Takes {S} gave first (taken ∷ earlier) last =
    (between : S) × Takes gave first earlier between × gave between taken.at taken.word last

-- Words were taken at these addresses, in this order. The fact holds of any words that are there as they were taken.
pub record ShowsWords {S : Type 0} (gave : S → ℕ → ℕ → S → Type 0) (first last : S) (addresses : List ℕ)
    (fact : (ℕ → ℕ) → Type 0) : Type 0 where
  pub taken : List TakenWord
  pub takes : Takes gave first taken last
  pub order : map (λ t. t.at) (reverse taken) ≡ addresses
  pub shown : (word : ℕ → ℕ) → All (λ t. word t.at ≡ t.word) taken → fact word

-- what is read of an entry that begins at an address: all its words but the version and the last
abbrev pub entry_addresses : ℕ → List ℕ
entry_addresses start = (start + 1) ∷ (start + 2) ∷ (start + 3) ∷ (start + 4) ∷ (start + 5) ∷ (start + 6) ∷ []

-- of an item likewise
abbrev pub item_addresses : ℕ → List ℕ
item_addresses start = (start + 1) ∷ (start + 2) ∷ []
