-- A walk tries every slot of the table, and no other.
use Rattle.std.proofs.Common.{◌≡◌, ℕ, zero, suc, ◌+◌, ◌^◌, ◌<◌, ◌≤◌, Bool, true, false, nat_le, cond, List, [], ◌∷◌, flat_map, All, Contains, get_or, refl, sym, ◌∙◌, subst, arith, leb-true}
use Rattle.std.specs.List.{range_with_len}
use Rattle.std.proofs.lemmas.List.Elements.{All-nil, All-head, All-tail, All-append, All-map, Contains-append_left, Contains-append_right}
use Rattle.std.proofs.lemmas.List.FromFn.{length-range_with_len, get_or-range_with_len, length-map-range_with_len, get_or-map-range_with_len}
use Rattle.ft_hash.specs.Probes.{IsMask, position, run_slots, dict_slots, set_slots}
use Rattle.ft_hash.proofs.Positions.{covers, position-low}

-- ---- no other

-- a run is that many slots in a row, within the table
pub record Row (mask slot : ℕ) (slots : List ℕ) : Type 0 where
  pub count : ℕ
  pub some : 1 ≤ count
  pub few : count ≤ 10
  pub within : slot ≤ mask → slot + count ≤ mask + 1
  pub is : slots ≡ range_with_len slot count

row-of : (mask slot : ℕ) (b : Bool) → nat_le (slot + 9) mask ≡ b → Row mask slot (cond b (range_with_len slot 10) (slot ∷ []))
row-of mask slot true high = let fits : slot + 9 ≤ mask = leb-true (slot + 9) mask high in record { count = 10; some = omega arith; few = omega arith; within = λ _. omega arith; is = refl }
row-of mask slot false high = record { count = 1; some = omega arith; few = omega arith; within = λ low. omega arith; is = refl }

pub run-row : (mask slot : ℕ) → Row mask slot (run_slots mask slot)
unfolding run_slots
run-row mask slot = row-of mask slot (nat_le (slot + 9) mask) refl

run-within : (mask slot : ℕ) → slot ≤ mask → All (λ s. s ≤ mask) (run_slots mask slot)
run-within mask slot low =
    let row = run-row mask slot in
    let inside = row.within low in
    let long = length-range_with_len slot row.count in
    subst (All (λ s. s ≤ mask)) (sym row.is) (λ k d less.
    let here = get_or-range_with_len slot row.count k d (omega arith) in omega arith)

runs-within : (mask : ℕ) (slots : List ℕ) → All (λ s. s ≤ mask) slots → All (λ s. s ≤ mask) (flat_map (run_slots mask) slots)
runs-within mask [] low = All-nil (λ s. s ≤ mask)
runs-within mask (slot ∷ slots) low =
    All-append (λ s. s ≤ mask) (run_slots mask slot) (flat_map (run_slots mask) slots) (run-within mask slot (All-head (λ s. s ≤ mask) slot slots low)) (runs-within mask slots (All-tail (λ s. s ≤ mask) slot slots low))

pub dict_slots-within : (hash mask n : ℕ) → All (λ s. s ≤ mask) (dict_slots hash mask n)
unfolding dict_slots
dict_slots-within hash mask n = All-map (λ s. s ≤ mask) (position hash mask) (range_with_len 0 n) (λ k d inside. let low = position-low hash mask (get_or (range_with_len 0 n) k d) in omega arith)

pub set_slots-within : (hash mask n : ℕ) → All (λ s. s ≤ mask) (set_slots hash mask n)
unfolding set_slots
set_slots-within hash mask n = runs-within mask (dict_slots hash mask n) (dict_slots-within hash mask n)

-- ---- every slot

in-run : (mask slot : ℕ) → Contains (run_slots mask slot) slot
in-run mask slot =
    let row = run-row mask slot in
    let some = row.some in
    let long = length-range_with_len slot row.count in
    let here = get_or-range_with_len slot row.count 0 slot (omega arith) in
    subst (λ (slots : List ℕ). Contains slots slot) (sym row.is) (0, omega arith, here ∙ omega arith)

in-runs : (mask : ℕ) (slots : List ℕ) (slot : ℕ) → Contains slots slot → Contains (flat_map (run_slots mask) slots) slot
in-runs mask [] slot has = absurd (let low = has.1 in omega arith)
in-runs mask (first ∷ slots) slot (zero, low, here) =
    Contains-append_left (run_slots mask first) (flat_map (run_slots mask) slots) slot (subst (λ (s : ℕ). Contains (run_slots mask first) s) here (in-run mask first))
in-runs mask (first ∷ slots) slot (suc k, low, here) =
    Contains-append_right (run_slots mask first) (flat_map (run_slots mask) slots) slot (in-runs mask slots slot (k, omega arith, here))

pub dict_slots-reaches : (hash mask slot : ℕ) → hash < 2 ^ 64 → IsMask mask → slot ≤ mask → Contains (dict_slots hash mask (mask + 14)) slot
unfolding dict_slots
dict_slots-reaches hash mask slot small is low =
    let found = covers hash mask small is slot low in
    let long = length-map-range_with_len (position hash mask) 0 (mask + 14) in
    let inside = found.1 in
    (found.0, omega arith, get_or-map-range_with_len (position hash mask) 0 (mask + 14) found.0 found.0 slot inside (omega arith) ∙ found.2)

pub set_slots-reaches : (hash mask slot : ℕ) → hash < 2 ^ 64 → IsMask mask → slot ≤ mask → Contains (set_slots hash mask (mask + 14)) slot
unfolding set_slots
set_slots-reaches hash mask slot small is low = in-runs mask (dict_slots hash mask (mask + 14)) slot (dict_slots-reaches hash mask slot small is low)
