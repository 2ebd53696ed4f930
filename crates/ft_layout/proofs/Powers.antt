-- How many slots a table of each class has, and what that makes of its entries and words.
use Rattle.std.proofs.Common.{◌≡◌, ℕ, ◌+◌, ◌-◌, ◌*◌, ◌^◌, ◌≤◌, List, arith, map, ap, ◌∙◌, refl}
use Rattle.std.specs.Prelude.{sum}
use Rattle.std.specs.List.{range_with_len}
use Rattle.std.proofs.Math.Pow.{pow_mono}
use Rattle.std.proofs.lemmas.List.FromFn.{sum_by-map-range_with_len_more}
use Rattle.ft_model.specs.Classes.{IsClass}
use Rattle.ft_layout.specs.Sizes.{table_size}
use Rattle.ft_layout.specs.Starts.{tables_of_class, words_below}

pub slots_range : (class : ℕ) → IsClass class → (8 ≤ 2 ^ class) × (2 ^ class ≤ 65536)
slots_range class is = (pow_mono is.least, pow_mono is.greatest)

-- no class is below the least
pub words_below-none : (tables : List ℕ) → words_below tables 3 ≡ 0
unfolding words_below
words_below-none tables = refl

-- one class more
pub words_below-more : (tables : List ℕ) (class : ℕ) → 3 ≤ class → words_below tables (class + 1) ≡ words_below tables class + tables_of_class tables class * table_size class
unfolding words_below
words_below-more tables class low =
    let of : ℕ → ℕ = λ below. tables_of_class tables below * table_size below in
    let more : class + 1 - 3 ≡ class - 3 + 1 = omega arith in
    ap (λ (n : ℕ). sum (map of (range_with_len 3 n))) more ∙ sum_by-map-range_with_len_more (λ (x : ℕ). x) of 3 (class - 3) class (omega arith)
