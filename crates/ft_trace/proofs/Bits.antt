-- One bit of a word, after one bit of it was changed.
use Rattle.std.proofs.Common.{◌≡◌, ◌≢◌, ℕ, zero, suc, ◌+◌, ◌*◌, ◌/◌, ◌%◌, ◌^◌, ◌<◌, refl, sym, ap, ◌∙◌, arith, mod-lt}
use Rattle.std.specs.Prelude.{bit_and, bit_or}
use Rattle.std.specs.Int.{w64, bit_not}
use Rattle.std.proofs.Math.Nat.{div-div-eq-div-mul, pow-suc}
use Rattle.std.proofs.lemmas.Nat.Bits.{bit_at_clear_same, bit_at_clear_other, bit_at_set_same, bit_at_set_other}
use Rattle.ft_trace.specs.Bits.{bit, bit_on, bit_off, full}

pub bit_small : (b n : ℕ) → bit b n < 2
unfolding bit
bit_small b n = mod-lt (n / 2 ^ b) (omega arith)

pub off_same : (b n : ℕ) → b < 64 → bit b (bit_off b n) ≡ 0
unfolding bit bit_off
off_same b n low = bit_at_clear_same w64 n b low

pub on_same : (b n : ℕ) → b < 64 → bit b (bit_on b n) ≡ 1
unfolding bit bit_on
on_same b n low = bit_at_set_same w64 n b low

pub off_else : (b c n : ℕ) → b < 64 → c < 64 → b ≢ c → bit c (bit_off b n) ≡ bit c n
unfolding bit bit_off
off_else b c n low less ne = bit_at_clear_other w64 n b low c less (λ e. ne (sym e))

pub on_else : (b c n : ℕ) → b < 64 → b ≢ c → bit c (bit_on b n) ≡ bit c n
unfolding bit bit_on
on_else b c n low ne = bit_at_set_other w64 n b low c (λ e. ne (sym e))

pub bit_full : (n b : ℕ) → b < n → bit b (full n) ≡ 1
unfolding bit
bit_full zero b low = absurd (omega arith)
bit_full (suc n) zero low = omega arith
bit_full (suc n) (suc b) low =
    let two : 2 * 2 ^ b ≡ 2 ^ suc b = (let p = pow-suc 2 b in omega (arith, p)) in
    let half : (full n * 2 + 1) / 2 ≡ full n = omega arith in
    let e : (full n * 2 + 1) / 2 ^ suc b ≡ full n / 2 ^ b = ap (λ (z : ℕ). (full n * 2 + 1) / z) (sym two) ∙ (sym (div-div-eq-div-mul (full n * 2 + 1) 2 (2 ^ b)) ∙ ap (λ (z : ℕ). z / 2 ^ b) half) in
    ap (λ (z : ℕ). z % 2) e ∙ bit_full n b (omega arith)

-- what the steps of the bank do
pub off_is : (b n : ℕ) → bit_off b n ≡ bit_and n (bit_not w64 (1 * 2 ^ b % 2 ^ 64))
unfolding bit_off
off_is b n = refl

pub on_is : (b n : ℕ) → bit_on b n ≡ bit_or n (1 * 2 ^ b % 2 ^ 64)
unfolding bit_on
on_is b n = refl
