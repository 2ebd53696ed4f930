-- `is_value` says when two values are equal.
use Rattle.std.proofs.Common.{◌≡◌, ℕ, true, refl, ap, arith}
use Rattle.std.specs.Cmp.{signed_Decides}
use Rattle.std.proofs.lemmas.Bool.Decides.{nat_tests}
use Rattle.ft_model.specs.declared.data.Value.{Value}
use Rattle.ft_model.specs.declared.data.Value.TheVariants.{Nothing, Int, Text}
use Rattle.ft_model.specs.Keys.{is_value}

pub is_value-true : (a b : Value) → is_value a b ≡ true → a ≡ b
is_value-true Nothing Nothing h = refl
is_value-true (Int x) (Int y) h = ap Int ((signed_Decides x y).0 h)
is_value-true (Text s) (Text t) h =
    let e : s.0 ≡ t.0 = grind (arith, nat_tests) in
    ap (λ (n : ℕ). Text (record { 0 = n })) e
is_value-true Nothing (Int y) h = absurd cc
is_value-true Nothing (Text t) h = absurd cc
is_value-true (Int x) Nothing h = absurd cc
is_value-true (Int x) (Text t) h = absurd cc
is_value-true (Text s) Nothing h = absurd cc
is_value-true (Text s) (Int y) h = absurd cc

pub is_value-refl : (a : Value) → is_value a a ≡ true
is_value-refl Nothing = refl
is_value-refl (Int x) = (signed_Decides x x).1 refl
is_value-refl (Text s) = grind (arith, nat_tests)
