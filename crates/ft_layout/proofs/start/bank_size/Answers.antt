use Rattle.std.proofs.Common.{◌≡◌, ℕ, ◌+◌, ◌-◌, ◌*◌, ◌≤◌, ap, arith}
use Rattle.ft_layout.specs.Sizes.{table_size}
use Rattle.ft_layout.specs.Starts.{tables_of_class}
use Rattle.ft_layout.proofs.Powers.{words_below-more}
use Rattle.ft_layout.proofs.start.bank_size.Goals as goal

pub returns-clause-is : goal.returns-clause-is
returns-clause-is c =
    let tables = c.args.tables.now in
    let some : 1 ≤ tables_of_class tables 16 = (c.requires.tables.counts 13 0 (let k = c.requires.tables.classes in omega arith)).0 in
    let count : tables_of_class tables 16 ≡ tables_of_class tables 16 - 1 + 1 = omega (arith, some) in
    let all : tables_of_class tables 16 * table_size 16 ≡ (tables_of_class tables 16 - 1 + 1) * table_size 16 = ap (λ (n : ℕ). n * table_size 16) count in
    let more = words_below-more tables 16 (omega arith) in
    omega (arith, all, more, c.table_start-start.ensures.is, c.table_size.ensures.is)
