-- Counting which sections note a lock as taken.
use Rattle.std.proofs.Common.{◌≡◌, ◌≢◌, ◌≤◌, ◌<◌, ◌+◌, ℕ, zero, suc, List, [], ◌∷◌, ◌++◌, length, get_or, take, drop, refl, ap, sym, ◌∙◌, arith, take-append-drop}
use Rattle.std.proofs.Math.Nat.{suc-ne-zero}
use Rattle.std.proofs.Math.ListN.{drop_of_length-le}
use Rattle.std.proofs.lemmas.List.{drop_more, take_more, get_or_default}
use Rattle.ft_bank.specs.declared.sections.OpenSection.{OpenSection}
use Rattle.ft_bank.specs.PassSections.{taken_in, noted_in}

pub noted-append : (o : ℕ) (xs ys : List OpenSection) → noted_in o (xs ++ ys) ≡ noted_in o xs + noted_in o ys
noted-append o [] ys = omega arith
noted-append o (x ∷ xs) ys = let e = noted-append o xs ys in omega (arith, e)

pub zero_unless : (n : ℕ) → (n ≢ 0 → ⊥) → n ≡ 0
zero_unless zero some_one = refl
zero_unless (suc n) some_one = absurd (some_one (suc-ne-zero n))

-- those from a place on, and those after it
pub noted_more : (o : ℕ) (xs : List OpenSection) (i : ℕ) (d : OpenSection) → i < length xs → noted_in o (drop i xs) ≡ taken_in o (get_or xs i d).locks + noted_in o (drop (i + 1) xs)
noted_more o xs i d within = ap (noted_in o) (drop_more xs i (get_or xs i d) within ∙ ap (λ x. x ∷ drop (i + 1) xs) (get_or_default xs i (get_or xs i d) d within))

pub noted_none : (o : ℕ) (xs : List OpenSection) (i : ℕ) → length xs ≤ i → noted_in o (drop i xs) ≡ 0
noted_none o xs i past = ap (noted_in o) (drop_of_length-le xs past)

pub noted_here : (o : ℕ) (xs : List OpenSection) (i : ℕ) (d : OpenSection) → i < length xs → taken_in o (get_or xs i d).locks ≢ 0 → noted_in o (drop i xs) ≢ 0
noted_here o xs i d within here none = here (let more = noted_more o xs i d within in omega (arith, more, none))

pub noted_later : (o : ℕ) (xs : List OpenSection) (i : ℕ) (d : OpenSection) → i < length xs → (taken_in o (get_or xs i d).locks ≢ 0 → ⊥) → noted_in o (drop (i + 1) xs) ≡ noted_in o (drop i xs)
noted_later o xs i d within here =
    let more = noted_more o xs i d within in
    let none : taken_in o (get_or xs i d).locks ≡ 0 = zero_unless _ here in
    omega (arith, more, none)

-- those before a place, and the one there
pub noted_before : (o : ℕ) (xs : List OpenSection) (i : ℕ) (d : OpenSection) → i < length xs → noted_in o (take (i + 1) xs) ≡ noted_in o (take i xs) + taken_in o (get_or xs i d).locks
noted_before o xs i d within =
    let e = ap (noted_in o) (take_more xs i d within) ∙ noted-append o (take i xs) (get_or xs i d ∷ []) in omega (arith, e)

-- one of them is not more than all
pub noted_all : (o : ℕ) (xs : List OpenSection) (i : ℕ) → noted_in o xs ≡ noted_in o (take i xs) + noted_in o (drop i xs)
noted_all o xs i = ap (noted_in o) (sym (take-append-drop i xs)) ∙ noted-append o (take i xs) (drop i xs)
