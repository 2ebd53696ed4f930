-- Sums of the first numbers, and over lists.
use Rattle.std.proofs.Common.{◌≡◌, ◌≢◌, ℕ, zero, suc, ◌+◌, ◌*◌, ◌<◌, ◌≤◌, List, [], ◌∷◌, refl, sym, ap, arith}
use mathlib.Core.Option.{some, some-injective, some-ne-none}
use mathlib.Core.Logic.{dite}
use native.Mathlib.Decide.{ℕ_discrete}
use lib.ListN.{get_elem?}
use Rattle.ft_trace.specs.Sums.{sum_to}
use Rattle.ft_trace.specs.Entries.{total}
use Rattle.ft_trace.specs.declared.View.{View}

pub sum_same : (f g : ℕ → ℕ) (n : ℕ) → ((i : ℕ) → i < n → f i ≡ g i) → sum_to f n ≡ sum_to g n
sum_same f g zero same = refl
sum_same f g (suc n) same = let a = same n (omega arith) in let b = sum_same f g n (λ i low. same i (omega arith)) in omega (arith, a, b)

-- where one is another
pub sum_one : (f g : ℕ → ℕ) (n j : ℕ) → j < n → ((i : ℕ) → i < n → i ≢ j → f i ≡ g i) → sum_to f n + g j ≡ sum_to g n + f j
sum_one f g zero j low same = absurd (omega arith)
sum_one f g (suc n) j low same =
    dite (ℕ_discrete j n)
    (λ (e : j ≡ n).
    let rest = sum_same f g n (λ i less. same i (omega arith) (λ x. omega arith)) in
    let a : f j ≡ f n = ap f e in
    let b : g j ≡ g n = ap g e in
    omega (arith, rest, a, b))
    (λ ne.
    let rest = sum_one f g n j (omega arith) (λ i less apart. same i (omega arith) apart) in
    let last = same n (omega arith) (λ e. ne (sym e)) in
    omega (arith, rest, last))

pub sum_at : (f : ℕ → ℕ) (n j : ℕ) → j < n → f j ≤ sum_to f n
sum_at f zero j low = absurd (omega arith)
sum_at f (suc n) j low =
    dite (ℕ_discrete j n)
    (λ (e : j ≡ n). let a : f j ≡ f n = ap f e in omega (arith, a))
    (λ ne. let b = sum_at f n j (omega arith) in omega (arith, b))

pub sum_below : (f : ℕ → ℕ) (n m : ℕ) → ((i : ℕ) → i < n → f i ≤ m) → sum_to f n ≤ n * m
sum_below f zero m low = omega arith
sum_below f (suc n) m low = let a = low n (omega arith) in let b = sum_below f n m (λ i less. low i (omega arith)) in omega (arith, a, b)

pub sum_none : (f : ℕ → ℕ) (n : ℕ) → ((i : ℕ) → i < n → f i ≡ 0) → sum_to f n ≡ 0
sum_none f zero none = refl
sum_none f (suc n) none = let a = none n (omega arith) in let b = sum_none f n (λ i less. none i (omega arith)) in omega (arith, a, b)

-- one of a list is at most the sum
pub total_at : (f : View → ℕ) (l : List View) (i : ℕ) (v : View) → get_elem? l i ≡ some v → f v ≤ total f l
total_at f [] i v e = absurd (some-ne-none v (sym e))
total_at f (x ∷ xs) zero v e = let same : f x ≡ f v = ap f (some-injective x v e) in omega (arith, same)
total_at f (x ∷ xs) (suc i) v e = let t = total_at f xs i v e in omega (arith, t)

pub total_below : (f g : View → ℕ) (n : ℕ) (l : List View) → ((j : ℕ) (u : View) → get_elem? l j ≡ some u → f u ≤ n * g u) → total f l ≤ n * total g l
total_below f g n [] low = omega arith
total_below f g n (x ∷ xs) low = let a = low 0 x refl in let b = total_below f g n xs (λ j u e. low (suc j) u e) in omega (arith, a, b)

-- where the second is 0 so is the first
pub total_gone : (f g : View → ℕ) (l : List View) → ((u : View) → g u ≡ 0 → f u ≡ 0) → total g l ≡ 0 → total f l ≡ 0
total_gone f g [] gone none = refl
total_gone f g (x ∷ xs) gone none = let a = gone x (omega (arith, none)) in let b = total_gone f g xs gone (omega (arith, none)) in omega (arith, a, b)
