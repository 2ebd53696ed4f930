-- Halvings of the places between two.
use Rattle.std.proofs.Math.Nat.{pow-suc}
use Rattle.std.proofs.Common.{◌≡◌, ℕ, zero, suc, ◌+◌, ◌-◌, ◌*◌, ◌/◌, ◌^◌, ◌<◌, ◌≤◌, true, false, List, [], ◌∷◌, length, arith, subst, sym}
use Rattle.std.specs.Prelude.{nat_lt}
use Rattle.std.proofs.Math.Decide.{dec_lt}
use Rattle.std.proofs.lemmas.Bool.{lt-ltb, le-ltb}
use mathlib.Core.Logic.{dite}
use Rattle.ft_keys.specs.declared.words.Access.TheVariants.{Entry}
use Rattle.ft_iter.specs.Seeking.{Probed}
use Rattle.ft_iter.proofs.Probing.{probed-more}
use Rattle.ft_layout.specs.Tables.{entry_word}
use Rattle.ft_keys.specs.declared.words.Access.{Access}
use Rattle.ft_iter.specs.Seeking.{FewHalvings}

-- for each number of digits that suffices for all places, as many halvings as these loads leave suffice for what is left
abbrev pub Halved : ℕ → ℕ → ℕ → List Access → Type 0
Halved fill low high calls = (digits : ℕ) → fill < 2 ^ digits → (left : ℕ) × (high - low < 2 ^ left) × (length calls + left ≤ digits)

-- the entry before `low` has a serial of at most `last`, and the one at `high` a greater one
abbrev pub IsBetween : ℕ → List ℕ → ℕ → ℕ → ℕ → ℕ → Type 0
IsBetween mask words fill last low high =
    ((before : ℕ) → before + 1 ≡ low → entry_word mask words before 6 ≤ last)
    × (high < fill → last < entry_word mask words high 6)

pub halved-none : (fill : ℕ) → Halved fill 0 fill []
halved-none fill digits low = (digits, omega (arith, low), omega arith)

-- a half of what is left
pub halved-more : (fill low high low' high' : ℕ) (access : Access) (calls : List Access) → low < high → 2 * (high' - low') ≤ high - low → high' - low' < high - low → Halved fill low high calls → Halved fill low' high' (access ∷ calls)
halved-more fill low high low' high' access calls some_one half less before digits small =
    let b = before digits small in
    by b.0 b.1 b.2
  where
    by : (left : ℕ) → high - low < 2 ^ left → length calls + left ≤ digits → (left' : ℕ) × (high' - low' < 2 ^ left') × (suc (length calls) + left' ≤ digits)
    by zero few most = absurd (omega (arith, few, some_one))
    by (suc left) few most = (left, (let two = pow-suc 2 left in omega (arith, few, half, two)), omega (arith, most))

pub halved-few : (fill low high : ℕ) (calls : List Access) → Halved fill low high calls → FewHalvings fill calls
halved-few fill low high calls before digits small = let b = before digits small in let m = b.2 in omega (arith, m)

-- ---- one halving

module _ {S : Type 0} (gave : S → Access → S → Type 0) (mask : ℕ) where
  -- what is left between these two
  abbrev pub Left : S → S → ℕ → ℕ → ℕ → ℕ → ℕ × ℕ → Type 0
  Left start end before after fill last halves =
      ((halves.0 ≤ halves.1) × (halves.1 ≤ fill)) × Probed gave mask start end before after (Halved fill halves.0 halves.1) (λ ws. IsBetween mask ws fill last halves.0 halves.1)

  pub halves-on : (start between end : S) (before now after fill last low high middle serial : ℕ) (halves : ℕ × ℕ) → middle ≡ low + (high - low) / 2 → low < high → high ≤ fill → after ≡ now + 1
      → (nat_lt last serial ≡ true → (halves.0 ≡ low) × (halves.1 ≡ middle)) → (nat_lt last serial ≡ false → (halves.0 ≡ middle + 1) × (halves.1 ≡ high))
      → Probed gave mask start between before now (Halved fill low high) (λ ws. IsBetween mask ws fill last low high) → gave between (Entry middle 6 serial) end → Left start end before after fill last halves
  halves-on start between end before now after fill last low high middle serial halves mid some_one few one lower upper p step =
      dite (dec_lt last serial)
      (λ (less : last < serial).
      let h = lower (lt-ltb last serial less) in
      let l = h.0 in
      let u = h.1 in (
        (omega (arith, l, u, mid, some_one), omega (arith, l, u, mid, some_one, few)),
        probed-more gave mask start between end before now after middle 6 serial (Halved fill low high) (Halved fill halves.0 halves.1) (λ ws. IsBetween mask ws fill last low high) (λ ws. IsBetween mask ws fill last halves.0 halves.1) one
            (λ calls cost. halved-more fill low high halves.0 halves.1 (Entry middle 6 serial) calls some_one (omega (arith, l, u, mid, some_one)) (omega (arith, l, u, mid, some_one)) cost)
            (λ ws is value. (λ place at. is.0 place (omega (arith, at, l)), λ small. subst (λ (z : ℕ). last < entry_word mask ws z 6) (sym u) (omega (arith, less, value)))) p step,
      ))
      (λ more.
      let not_less : serial ≤ last = omega (arith, more) in
      let h = upper (le-ltb last serial not_less) in
      let l = h.0 in
      let u = h.1 in (
        (omega (arith, l, u, mid, some_one), omega (arith, l, u, mid, some_one, few)),
        probed-more gave mask start between end before now after middle 6 serial (Halved fill low high) (Halved fill halves.0 halves.1) (λ ws. IsBetween mask ws fill last low high) (λ ws. IsBetween mask ws fill last halves.0 halves.1) one
            (λ calls cost. halved-more fill low high halves.0 halves.1 (Entry middle 6 serial) calls some_one (omega (arith, l, u, mid, some_one)) (omega (arith, l, u, mid, some_one)) cost)
            (λ ws is value. (
              λ place at. (let same : middle ≡ place = omega (arith, at, l) in subst (λ (z : ℕ). entry_word mask ws z 6 ≤ last) same (omega (arith, not_less, value))),
              λ small. subst (λ (z : ℕ). last < entry_word mask ws z 6) (sym u) (is.1 (omega (arith, small, u))),
            )) p step,
      ))
