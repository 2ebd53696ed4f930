-- How many values of a table may name one box, and which does where some do.
use Rattle.std.proofs.Common.{◌≡◌, ◌≢◌, ℕ, zero, suc, ◌<◌, ◌≤◌, eqb, Bool, true, false, cond, List, refl, ◌∙◌, arith}
use Rattle.std.specs.Prelude.{slice_index}
use mathlib.Core.Logic.{dite}
use native.Mathlib.Decide.{ℕ_discrete}
use Rattle.std.proofs.Math.Pow.{pow_mono}
use Rattle.ft_model.specs.declared.script.Kind.{Kind}
use Rattle.ft_model.specs.declared.script.Kind.TheVariants as kind
use Rattle.ft_model.specs.Classes.{IsClass}
use Rattle.ft_trace.specs.Addresses.{slots, places}
use Rattle.ft_trace.specs.Boxes.{names_box, names_box_at, value_at}
use Rattle.ft_trace.specs.Kinds.{rows}
use Rattle.ft_trace.specs.Sums.{sum_to}
use Rattle.ft_trace.proofs.Cases.{here, hit, miss}
use Rattle.ft_trace.proofs.Sums.{sum_at, sum_below}

pub rows_few : (kind : Kind) (c : ℕ) → IsClass c → rows kind c ≤ 65536
unfolding slots places
rows_few kind.List c is = let p = pow_mono is.greatest in omega (arith, p)
rows_few kind.Dict c is = let p = pow_mono is.greatest in omega (arith, p)
rows_few kind.Set c is = let p = pow_mono is.greatest in omega (arith, p)
rows_few (kind.Deque bound) c is = omega arith

one_or_none : (x y : Bool) → cond x (cond y 1 0) 0 ≤ 1
one_or_none true true = omega arith
one_or_none true false = omega arith
one_or_none false y = omega arith

pub sum_few : (b : ℕ) (kind : Kind) (class : ℕ) (ws : List ℕ) (n : ℕ) → sum_to (names_box_at b kind class ws) n ≤ n
sum_few b kind class ws n = let s = sum_below (names_box_at b kind class ws) n 1 (λ p low. one_or_none _ _) in omega (arith, s)

-- a value of the rows that names the box
abbrev pub NamingRow : ℕ → Kind → ℕ → List ℕ → ℕ → Type 0
NamingRow b kind class ws n =
    (p : ℕ) × (p < n) × (slice_index ws (value_at kind class p) ≡ 4) × (slice_index ws (suc (value_at kind class p)) ≡ b)

more_rows : (b : ℕ) (kind : Kind) (class : ℕ) (ws : List ℕ) (n : ℕ) → NamingRow b kind class ws n → NamingRow b kind class ws (suc n)
more_rows b kind class ws n row = (row.0, (let low = row.1 in omega (arith, low)), row.2, row.3)

pub named_some : (b : ℕ) (kind : Kind) (class : ℕ) (ws : List ℕ) (n : ℕ) → sum_to (names_box_at b kind class ws) n ≢ 0 → NamingRow b kind class ws n
named_some b kind class ws zero some_ = absurd (some_ refl)
named_some b kind class ws (suc n) some_ =
    let x : ℕ = slice_index ws (value_at kind class n) in
    let y : ℕ = slice_index ws (suc (value_at kind class n)) in
    let before : names_box_at b kind class ws n ≡ 0 → NamingRow b kind class ws (suc n) = λ none. more_rows b kind class ws n (named_some b kind class ws n (λ z. some_ (omega (arith, none, z)))) in
    dite (ℕ_discrete x 4)
    (λ (four : x ≡ 4).
    dite (ℕ_discrete y b)
    (λ (is : y ≡ b). (n, omega arith, four, is))
    (λ ne. before (here x 4 (cond (eqb y b) 1 0) 0 four ∙ miss y b 1 0 ne)))
    (λ ne. before (miss x 4 (cond (eqb y b) 1 0) 0 ne))

-- one value at least names the box of a row
pub row_counts : (b : ℕ) (kind : Kind) (class : ℕ) (ws : List ℕ) (n p : ℕ) → p < n → slice_index ws (value_at kind class p) ≡ 4 → slice_index ws (suc (value_at kind class p)) ≡ b → 0 < sum_to (names_box_at b kind class ws) n
row_counts b kind class ws n p low four is =
    let at = sum_at (names_box_at b kind class ws) n p low in
    let one : names_box_at b kind class ws p ≡ 1 = (λ i. names_box b (four i) (is i)) ∙ hit b 1 0 in
    omega (arith, at, one)
