use Rattle.std.proofs.Common.{◌≡◌, ℕ, ◌+◌, ◌-◌, ◌*◌, ◌≤◌, ap, ◌∙◌, arith}
use Rattle.std.proofs.lemmas.Nat.{mul-le}
use Rattle.ft_layout.specs.Sizes.{table_size}
use Rattle.ft_layout.specs.Starts.{tables_of_class}
use Rattle.ft_layout.proofs.Powers.{words_below-none, words_below-more}
use Rattle.ft_layout.proofs.start.table_start.Goals as goal

pub loop-below-init : goal.loop-below-init
loop-below-init c = record { is = omega (arith, words_below-none c.args.tables.now); most = omega arith }

pub loop-below-preserved : goal.loop-below-preserved
loop-below-preserved c =
    let tables = c.args.tables.now in
    let below = c.loop-below.below in
    let more = words_below-more tables below c.loop-below.auto.below in
    let size : c.table_size.result ≡ table_size below = c.table_size.ensures.is in
    let count : c.from.result ≡ tables_of_class tables below = c.from.ensures in
    let few : c.from.result ≤ 1024 = let h = (c.requires.tables.counts (below - 3) 0 (omega arith)).1 in omega arith in
    let product : c.from.result * c.table_size.result ≤ 1024 * 415058 = mul-le c.from.result c.table_size.result 1024 415058 few c.table_size.ensures.most in
    let words : c.from.result * c.table_size.result ≡ tables_of_class tables below * table_size below = ap (λ (n : ℕ). n * c.table_size.result) count ∙ ap (λ (n : ℕ). tables_of_class tables below * n) size in
    record {
      is = omega arith;
      most = omega arith;
    }

pub returns-clause-within : goal.returns-clause-within
returns-clause-within c =
    let number = c.args.number in
    let size : c.table_size-2.result ≡ table_size c.args.class = c.table_size-2.ensures.is in
    let least = c.requires.class.least in
    let most = c.requires.class.greatest in
    let few : number + 1 ≤ 1024 = let h = (c.requires.tables.counts (c.args.class - 3) 0 (let k = c.requires.tables.classes in omega arith)).1 in let n = c.requires.number in omega arith in
    let product : (number + 1) * c.table_size-2.result ≤ 1024 * 415058 = mul-le (number + 1) c.table_size-2.result 1024 415058 few c.table_size-2.ensures.most in
    let same : c.from-2.result * c.table_size-2.result ≡ number * c.table_size-2.result = ap (λ (n : ℕ). n * c.table_size-2.result) c.from-2.ensures in
    let start = c.loop-below.invariant.most in
    let below = c.loop-below.auto.below-end least in
    omega (arith, product, same, size, start, below)
