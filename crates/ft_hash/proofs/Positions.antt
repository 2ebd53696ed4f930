-- Positions of a probe: how the code's steps compute them, and that they cover every slot.
use Rattle.std.proofs.Common.{◌≡◌, ℕ, zero, suc, ◌+◌, ◌*◌, ◌-◌, ◌/◌, ◌%◌, ◌^◌, ◌<◌, ◌≤◌, refl, sym, ap, ap₂, ◌∙◌, arith, add-one, add-suc, mod-lt, mod-eq_of_lt, lt_of_not-le, bit_and}
use Rattle.std.proofs.Math.Nat.{mod-add-mod, pow-le-pow_right, div-eq_of_lt, pow-suc}
use Rattle.std.proofs.lemmas.Nat.{mul-mod_first, and_mask}
use Rattle.std.proofs.Math.Nat.{div-one, div-div-eq-div-mul}
use Rattle.std.proofs.Math.Pow.{mod-mod-pow}
use Rattle.ft_hash.specs.Probes.{IsMask, Covers, ProbeState, perturb, position, probe_state}
use Rattle.ft_hash.proofs.Cycles.{steps_from, steps-suc, steps-zero, reaches}

-- a mask keeps the remainder by the number of slots
pub masked : (mask n : ℕ) → IsMask mask → bit_and n mask ≡ n % (mask + 1)
masked mask n is =
    let k = is.power.0 in
    let low : mask ≡ 2 ^ k - 1 = omega (arith, is.power.1) in
    ap (bit_and n) low ∙ and_mask n k ∙ ap (λ slots. n % slots) (sym is.power.1)

pub position-low : (hash mask n : ℕ) → position hash mask n < mask + 1
unfolding position
position-low hash mask zero = mod-lt hash (omega arith)
position-low hash mask (suc n) = mod-lt (position hash mask n * 5 + perturb hash (suc n) + 1) (omega arith)

-- from the thirteenth shift on nothing is left of the hash
nothing-left : (hash n : ℕ) → hash < 2 ^ 64 → 13 ≤ n → perturb hash n ≡ 0
unfolding perturb
nothing-left hash n small late =
    let grown : 32 ^ 13 ≤ 32 ^ n = pow-le-pow_right (omega arith) late in
    div-eq_of_lt (omega arith)

position-suc : (hash mask n : ℕ) → position hash mask (suc n) ≡ (position hash mask n * 5 + perturb hash (suc n) + 1) % (mask + 1)
unfolding position
position-suc hash mask n = refl

stepped : (x slots : ℕ) → (x % slots * 5 + 0 + 1) % slots ≡ (5 * x + 1) % slots
stepped x slots =
    let times : x % slots * 5 % slots ≡ x * 5 % slots = mul-mod_first x 5 slots in
    let without : x % slots * 5 + 0 + 1 ≡ x % slots * 5 + 1 = omega arith in
    let turned : x * 5 + 1 ≡ 5 * x + 1 = omega arith in
    ap (λ y. y % slots) without
    ∙ sym (mod-add-mod (x % slots * 5) slots 1)
    ∙ ap (λ r. (r + 1) % slots) times
    ∙ mod-add-mod (x * 5) slots 1
    ∙ ap (λ y. y % slots) turned

-- from position 12 on a probe takes steps from x to 5x + 1
position-steps : (hash mask n : ℕ) → hash < 2 ^ 64 → position hash mask (12 + n) ≡ steps_from (position hash mask 12) n % (mask + 1)
position-steps hash mask zero small = sym (mod-eq_of_lt (position-low hash mask 12)) ∙ ap (λ x. x % (mask + 1)) (sym (steps-zero (position hash mask 12)))
position-steps hash mask (suc n) small =
    let slots = mask + 1 in
    let x = steps_from (position hash mask 12) n in
    ap (position hash mask) (add-suc 12 n)
    ∙ position-suc hash mask (12 + n)
    ∙ ap (λ left. (position hash mask (12 + n) * 5 + left + 1) % slots) (nothing-left hash (suc (12 + n)) small (omega arith))
    ∙ ap (λ p. (p * 5 + 0 + 1) % slots) (position-steps hash mask n small)
    ∙ stepped x slots
    ∙ ap (λ y. y % slots) (sym (steps-suc (position hash mask 12) n))

pub covers : (hash mask : ℕ) → hash < 2 ^ 64 → IsMask mask → Covers hash mask
covers hash mask small is slot inside =
    let k = is.power.0 in
    let found = reaches k (position hash mask 12) slot in (
      12 + found.0,
      omega (arith, found.1, is.power.1),
      position-steps hash mask found.0 small
          ∙ ap (λ slots. steps_from (position hash mask 12) found.0 % slots) is.power.1
          ∙ found.2
          ∙ mod-eq_of_lt (omega (arith, is.power.1)),
    )

pub first-state : (hash mask : ℕ) → IsMask mask → record { slot = bit_and hash mask; left = hash; mask = mask } ≡ probe_state hash mask 0
unfolding probe_state position perturb
first-state hash mask is =
    let state : ℕ → ℕ → ProbeState = λ slot left. record { slot = slot; left = left; mask = mask } in
    ap₂ state (masked mask hash is) (sym (div-one hash))

word-sum : (word a b : ℕ) → ((a % word + b) % word + 1) % word ≡ (a + b + 1) % word
word-sum word a b =
    let right : a % word + b + 1 ≡ a % word + (b + 1) = omega arith in
    let left : a + (b + 1) ≡ a + b + 1 = omega arith in
    mod-add-mod (a % word + b) word 1 ∙ ap (λ y. y % word) right ∙ mod-add-mod a word (b + 1) ∙ ap (λ y. y % word) left

-- sums and products modulo 2 ^ 64 have the same remainder by the number of slots
wrapped : (mask slot left : ℕ) → IsMask mask → bit_and (((slot * 5 % 2 ^ 64 + left) % 2 ^ 64 + 1) % 2 ^ 64) mask ≡ (slot * 5 + left + 1) % (mask + 1)
wrapped mask slot left is =
    let k = is.power.0 in
    let n = slot * 5 + left + 1 in
    let bits : k < 64 = lt_of_not-le (λ (h : 64 ≤ k). let grown : 2 ^ 64 ≤ 2 ^ k = pow-le-pow_right (omega arith) h in omega (arith, is.power.1, is.most)) in
    let word = word-sum (2 ^ 64) (slot * 5) left in
    let split : 64 ≡ 64 - k + k = omega arith in
    let shorter : n % 2 ^ 64 % 2 ^ k ≡ n % 2 ^ k =
    ap (λ e. n % 2 ^ e % 2 ^ k) split ∙ mod-mod-pow n (64 - k) k in
    ap (λ y. bit_and y mask) word ∙ masked mask (n % 2 ^ 64) is
    ∙ ap (λ slots. n % 2 ^ 64 % slots) is.power.1 ∙ shorter ∙ ap (λ slots. n % slots) (sym is.power.1)

shifted : (hash n : ℕ) → perturb hash n / 32 ≡ perturb hash (n + 1)
unfolding perturb
shifted hash n =
    div-div-eq-div-mul hash (32 ^ n) 32 ∙ ap (λ d. hash / d) (sym (pow-suc 32 n)) ∙ ap (λ m. hash / 32 ^ m) (sym (add-one n))

state_after : ℕ → ℕ → ℕ → ProbeState
state_after slot left mask = record { slot = bit_and (((slot * 5 % 2 ^ 64 + left / 32) % 2 ^ 64 + 1) % 2 ^ 64) mask; left = left / 32; mask = mask }

next-at : (hash n mask slot left : ℕ) → IsMask mask → slot ≡ position hash mask n → left ≡ perturb hash n →
    state_after slot left mask ≡ probe_state hash mask (n + 1)
unfolding probe_state state_after
next-at hash n mask slot left is here rest =
    let state : ℕ → ℕ → ProbeState = λ slot left. record { slot = slot; left = left; mask = mask } in
    let shift : left / 32 ≡ perturb hash (suc n) = ap (λ l. l / 32) rest ∙ shifted hash n ∙ ap (perturb hash) (add-one n) in
    ap₂ state
    (wrapped mask slot (left / 32) is
    ∙ ap₂ (λ s l. (s * 5 + l + 1) % (mask + 1)) here shift
    ∙ sym (position-suc hash mask n) ∙ ap (position hash mask) (sym (add-one n)))
    (ap (λ l. l / 32) rest ∙ shifted hash n)

-- what `next` answers and leaves, of a probe whose fields are seen as the state
pub next-state : (slot left mask : ℕ) (state : ProbeState) → IsMask mask → record { slot = slot; left = left; mask = mask } ≡ state →
    (hash n : ℕ) → state ≡ probe_state hash state.mask n →
    (slot ≡ position hash state.mask n)
    × (record { slot = bit_and (((slot * 5 % 2 ^ 64 + left / 32) % 2 ^ 64 + 1) % 2 ^ 64) mask; left = left / 32; mask = mask } ≡ probe_state hash state.mask (n + 1))
unfolding probe_state state_after
next-state slot left mask state is seen hash n same =
    let here : slot ≡ position hash state.mask n = ap (λ s. s.slot) seen ∙ ap (λ s. s.slot) same in
    let rest : left ≡ perturb hash n = ap (λ s. s.left) seen ∙ ap (λ s. s.left) same in
    let masks : mask ≡ state.mask = ap (λ s. s.mask) seen in
    (here, next-at hash n mask slot left is (here ∙ ap (λ m. position hash m n) (sym masks)) rest ∙ ap (λ m. probe_state hash m (n + 1)) masks)
