-- Lists whose elements have keys, each key once: what is at a key, and what is left without it.
use Rattle.std.proofs.Common.{◌≡◌, ◌≢◌, ℕ, zero, suc, ◌+◌, ◌<◌, Bool, true, false, not, cond, ltb, List, [], ◌∷◌, length, get_or, filter, find, position, Some, None, refl, sym, ap, ◌∙◌, inl, inr, arith}
use Rattle.std.specs.Prelude.{All, AllPairs, remove, slice_get}
use Rattle.std.specs.List.{position_or_len, list_any}
use Rattle.std.proofs.lemmas.Bool.{cases_lt, lt-ltb}
use Rattle.std.proofs.lemmas.List.{get_or_default}
use Rattle.std.proofs.lemmas.List.Folds.{list_any_none, list_any-from_Any, find_at}
use Rattle.std.proofs.lemmas.Option.{slice_get-get_or}
use Rattle.std.proofs.lemmas.List.Sums.{position_or_len_is}
use Rattle.ft_model.specs.declared.data.Key.{Key}
use Rattle.ft_model.specs.Keys.{same_key}
use Rattle.ft_model.proofs.KeyLemmas.{same_key-true, same_key-refl}

-- ---- one element is dropped

pub filter-all : {X : Type 0} (p : X → Bool) (xs : List X) → All (λ x. p x ≡ true) xs → filter p xs ≡ xs
filter-all p [] all = refl
filter-all {X} p (x ∷ xs) all = rw (all 0 x (omega arith)) (ap (λ (ys : List X). x ∷ ys) (filter-all p xs (λ k d low. all (suc k) d (omega arith))))

filter-remove : {X : Type 0} (p : X → Bool) (xs : List X) (k : ℕ) → k < length xs → ((d : X) → p (get_or xs k d) ≡ false) → ((j : ℕ) (d : X) → j < length xs → j ≢ k → p (get_or xs j d) ≡ true) → filter p xs ≡ remove xs k
filter-remove p [] k low dropped kept = absurd (omega arith)
filter-remove p (x ∷ xs) zero low dropped kept = rw (dropped x) (filter-all p xs (λ j d less. kept (suc j) d (omega arith) (λ e. omega arith)))
filter-remove {X} p (x ∷ xs) (suc k) low dropped kept =
    rw (kept 0 x (omega arith) (λ e. omega arith)) (ap (λ (ys : List X). x ∷ ys) (filter-remove p xs k (omega arith) dropped (λ j d less ne. kept (suc j) d (omega arith) (λ e. ne (omega arith)))))

pub length-remove : {X : Type 0} (xs : List X) (k : ℕ) → k < length xs → length (remove xs k) + 1 ≡ length xs
length-remove [] k low = absurd (omega arith)
length-remove (x ∷ xs) zero low = omega arith
length-remove (x ∷ xs) (suc k) low = let rest = length-remove xs k (omega arith) in omega arith

-- ---- keys

not_same : (a b : Key) → a ≢ b → same_key a b ≡ false
not_same a b ne = elim (same_key a b) as (λ t. same_key a b ≡ t → t ≡ false) [
  | true ↦ λ yes. absurd (ne (same_key-true a b yes))
  | false ↦ λ no. refl
] refl

its_key : (a b : Key) → a ≡ b → same_key a b ≡ true
its_key a b same = ap (λ (k : Key). same_key k b) same ∙ same_key-refl b

module _ {Y : Type 0} (key_of : Y → Key) (ys : List Y) (key : Key) where
  -- whether an element is the key's
  abbrev pub at : Y → Bool
  at y = same_key (key_of y) key

  pub none_at : All (λ y. key_of y ≢ key) ys → list_any at ys ≡ false
  none_at none = list_any_none at ys (λ k d low. not_same (key_of (get_or ys k d)) key (none k d low))

  module _ (distinct : AllPairs (λ a b. key_of a ≢ key_of b) ys) (k : ℕ) (low : k < length ys) (here : (d : Y) → key_of (get_or ys k d) ≡ key) where
    yes : (d : Y) → at (get_or ys k d) ≡ true
    yes d = its_key (key_of (get_or ys k d)) key (here d)

    no : (j : ℕ) (d : Y) → j < length ys → j ≢ k → at (get_or ys j d) ≡ false
    no j d less ne =
        not_same (key_of (get_or ys j d)) key (λ same.
        elim (cases_lt j k) [
          | inl below ↦ distinct j k d below low (same ∙ sym (here d))
          | inr above ↦ distinct k j d (omega arith) less (here d ∙ sym same)
        ])

    pub there_at : (d : Y) → list_any at ys ≡ true
    there_at d = list_any-from_Any at ys (k, get_or ys k d, low, get_or_default ys k (get_or ys k d) d low, yes d)

    first : (d : Y) → position_or_len at ys ≡ k
    first d = position_or_len_is at ys k d (omega arith) (λ j less. no j d (omega arith) (λ e. omega arith)) (λ _. yes d)

    pub found_at : (d : Y) → position at ys ≡ Some k
    found_at d =
        let is : position at ys ≡ cond (ltb k (length ys)) (Some k) None = ap (λ (n : ℕ). cond (ltb n (length ys)) (Some n) None) (first d) in
        is ∙ ap (λ (b : Bool). cond b (Some k) None) (lt-ltb k (length ys) low)

    pub find_it : (d : Y) → find at ys ≡ Some (get_or ys k d)
    find_it d = find_at at ys ∙ (ap (λ (n : ℕ). slice_get ys n) (first d) ∙ slice_get-get_or ys k d low)

    -- without the key, that element is gone
    pub without : filter (λ y. not (at y)) ys ≡ remove ys k
    without = filter-remove (λ y. not (at y)) ys k low (λ d. ap not (yes d)) (λ j d less ne. ap not (no j d less ne))
