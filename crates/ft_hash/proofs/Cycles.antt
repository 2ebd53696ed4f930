-- The step from x to 5x + 1 goes through all remainders by a power of two in one cycle.
use Rattle.std.proofs.Common.{◌≡◌, ℕ, zero, suc, ◌+◌, ◌*◌, ◌/◌, ◌%◌, ◌^◌, ◌<◌, ◌⊎◌, inl, inr, ⊎_elim, refl, sym, ap, ◌∙◌, arith, add-zero, add-suc, pow_pos, pow-suc}
use Rattle.std.proofs.Math.Nat.{two-pow-succ, pow-zero, mod-one, add-mul-div_left, add-mul-mod_self_left}
use Rattle.std.proofs.Math.Arith.{mod-mul}
use Rattle.std.proofs.lemmas.Bool.{cases_eq}

-- x after n steps
pub steps_from : ℕ → ℕ → ℕ
steps_from x zero = x
steps_from x (suc n) = 5 * steps_from x n + 1

pub steps-suc : (x n : ℕ) → steps_from x (suc n) ≡ 5 * steps_from x n + 1
unfolding steps_from
steps-suc x n = refl

pub steps-zero : (x : ℕ) → steps_from x 0 ≡ x
unfolding steps_from
steps-zero x = refl

steps-add : (x m n : ℕ) → steps_from x (m + n) ≡ steps_from (steps_from x m) n
unfolding steps_from
steps-add x m zero = ap (steps_from x) (add-zero m)
steps-add x m (suc n) = ap (steps_from x) (add-suc m n) ∙ ap (λ y. 5 * y + 1) (steps-add x m n)

-- from e further on, the end is 5 ^ n * e further on
steps-shift : (x e n : ℕ) → steps_from (x + e) n ≡ steps_from x n + 5 ^ n * e
unfolding steps_from
steps-shift x e zero = rw (pow-zero 5) (omega arith)
steps-shift x e (suc n) = rw (pow-suc 5 n) (omega (arith, steps-shift x e n))

five-pow : (n : ℕ) → (t : ℕ) × (5 ^ n ≡ 4 * t + 1)
five-pow zero = (0, pow-zero 5)
five-pow (suc n) = let t = five-pow n in (5 * t.0 + 1, pow-suc 5 n ∙ omega (arith, t.1))

twice-round : (x m n c t : ℕ) → n ≡ m + m → steps_from x m ≡ x + m * (2 * c + 1) → 5 ^ m ≡ 4 * t + 1 → steps_from x n ≡ x + n * (2 * (2 * c * t + c + t) + 1)
twice-round x m n c t double first power =
    ap (steps_from x) double ∙ steps-add x m m ∙ ap (λ y. steps_from y m) first ∙ steps-shift x (m * (2 * c + 1)) m
    ∙ ap (λ p. steps_from x m + p * (m * (2 * c + 1))) power
    ∙ ap (λ y. y + (4 * t + 1) * (m * (2 * c + 1))) first
    ∙ rw double (omega arith)

-- after 2 ^ k steps the number has risen by an odd multiple of 2 ^ k
once-round : (k x : ℕ) → (c : ℕ) × (steps_from x (2 ^ k) ≡ x + 2 ^ k * (2 * c + 1))
unfolding steps_from
once-round zero x = (2 * x, omega arith)
once-round (suc k) x =
    let first = once-round k x in
    let power = five-pow (2 ^ k) in
    (2 * first.0 * power.0 + first.0 + power.0, twice-round x (2 ^ k) (2 ^ suc k) first.0 power.0 (two-pow-succ k) first.1 power.1)

flipped : (a y c : ℕ) → (a % 2 ≡ y % 2 → ⊥) → (a + (2 * c + 1)) % 2 ≡ y % 2
flipped a y c differs = omega arith

-- a number with y's remainder by m has y's remainder by 2 * m too, or else gets it from an odd multiple of m
halves : (m a y : ℕ) → 0 < m → a % m ≡ y % m → (a % (2 * m) ≡ y % (2 * m)) ⊎ ((c : ℕ) → (a + m * (2 * c + 1)) % (2 * m) ≡ y % (2 * m))
halves m a y positive same =
    let low = mod-mul a {m = 2} {c = m} (omega arith) positive in
    let wanted = mod-mul y {m = 2} {c = m} (omega arith) positive in
    ⊎_elim
    (λ h. inl (low ∙ ap (λ b. b * m + a % m) h ∙ ap (λ r. y / m % 2 * m + r) same ∙ sym wanted))
    (λ h. inr (λ c.
    mod-mul (a + m * (2 * c + 1)) {m = 2} {c = m} (omega arith) positive
    ∙ ap (λ q. q % 2 * m + (a + m * (2 * c + 1)) % m) (add-mul-div_left a (2 * c + 1) positive)
    ∙ ap (λ r. (a / m + (2 * c + 1)) % 2 * m + r) (add-mul-mod_self_left a m (2 * c + 1) ∙ same)
    ∙ ap (λ b. b * m + y % m) (flipped (a / m) (y / m) c h)
    ∙ sym wanted))
    (cases_eq (a / m % 2) (y / m % 2))

-- some of the first 2 ^ k numbers has the remainder of y by 2 ^ k
pub reaches : (k x y : ℕ) → (n : ℕ) × (n < 2 ^ k) × (steps_from x n % 2 ^ k ≡ y % 2 ^ k)
reaches zero x y = (0, omega arith, mod-one (steps_from x 0) ∙ sym (mod-one y))
reaches (suc k) x y =
    let below = reaches k x y in
    let m = 2 ^ k in
    let double : 2 ^ suc k ≡ 2 * m = two-pow-succ k ∙ omega arith in
    let round = once-round k (steps_from x below.0) in
    ⊎_elim
    (λ h. (below.0, omega (arith, below.1), rw double h))
    (λ h. (
      below.0 + m,
      omega (arith, below.1),
      rw double (ap (λ a. a % (2 * m)) (steps-add x below.0 m ∙ round.1) ∙ h round.0),
    ))
    (halves m (steps_from x below.0) y (pow_pos k) below.2)
