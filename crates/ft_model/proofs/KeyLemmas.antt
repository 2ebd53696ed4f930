-- `same_key` says when two keys are equal, and a table of the keys of elements has those keys.
use Rattle.std.proofs.Common.{◌≡◌, ℕ, Bool, true, false, nat_eq, refl, sym, ap, ◌∙◌}
use Rattle.std.specs.Prelude.{ℤ}
use Rattle.std.specs.Ordering.{int_eq}
use Rattle.std.specs.Cmp.{signed_Decides}
use Rattle.std.proofs.lemmas.Bool.{false≢true}
use Rattle.std.proofs.lemmas.Bool.Decides.{nat_tests}
use Rattle.std.proofs.Common.{arith}
use Rattle.ft_model.specs.declared.data.Key.{Key}
use Rattle.ft_model.specs.declared.data.Key.TheVariants.{Int, Text}
use Rattle.ft_model.specs.declared.data.Sym.{Sym}
use Rattle.ft_model.specs.Keys.{same_key}

pub same_key-true : (a b : Key) → same_key a b ≡ true → a ≡ b
same_key-true (Int x) (Int y) h = ap Int ((signed_Decides x y).0 h)
same_key-true (Text s) (Text t) h =
    let e : s.0 ≡ t.0 = grind (arith, nat_tests) in
    ap (λ (n : ℕ). Text (record { 0 = n })) e
same_key-true (Int x) (Text t) h = absurd cc
same_key-true (Text s) (Int y) h = absurd cc

pub same_key-refl : (a : Key) → same_key a a ≡ true
same_key-refl (Int x) = (signed_Decides x x).1 refl
same_key-refl (Text s) = grind (arith, nat_tests)

pub same_key-flip : (a b : Key) → same_key a b ≡ same_key b a
same_key-flip a b =
    elim (same_key a b) as (λ t. same_key a b ≡ t → t ≡ same_key b a) [
      | true ↦ λ same. sym (ap (λ k. same_key k a) (sym (same_key-true a b same)) ∙ same_key-refl a)
      | false ↦ λ differ.
          elim (same_key b a) as (λ t. same_key b a ≡ t → false ≡ t) [
            | true ↦ λ same. absurd (false≢true (sym differ ∙ ap (λ k. same_key k b) (sym (same_key-true b a same)) ∙ same_key-refl b))
            | false ↦ λ both. refl
          ] refl
    ] refl

-- a test that answers as `same_key` at each kind of key
pub same_key-from_kinds : (eq : Key → Key → Bool) → ((x y : ℤ) → eq (Int x) (Int y) ≡ int_eq x y) → ((s t : Sym) → eq (Text s) (Text t) ≡ nat_eq s.0 t.0) → ((x : ℤ) (t : Sym) → eq (Int x) (Text t) ≡ false) → ((s : Sym) (y : ℤ) → eq (Text s) (Int y) ≡ false) → (a b : Key) → eq a b ≡ same_key a b
same_key-from_kinds eq ints texts one other (Int x) (Int y) = ints x y
same_key-from_kinds eq ints texts one other (Text s) (Text t) = texts s t
same_key-from_kinds eq ints texts one other (Int x) (Text t) = one x t
same_key-from_kinds eq ints texts one other (Text s) (Int y) = other s y
