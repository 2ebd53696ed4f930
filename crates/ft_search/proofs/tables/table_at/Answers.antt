use Rattle.std.proofs.Common.{◌-◌, arith}
use Rattle.ft_bank.specs.Passes.{shape_of}
use Rattle.ft_trace.specs.Addresses.{class_of, number_of, IsTableName}
use Rattle.ft_search.proofs.tables.table_at.Goals as goal
use Rattle.ft_search.proofs.tables.table_at.Goals.{Else-root-eq0}

names : (c : Else-root-eq0) → IsTableName (shape_of c.args.bank.now) (c.args.root - 1)
names c = c.requires (c.args.root - 1) (let some = c.if-root-eq0.false in omega (arith, some))

pub overflow_cast-result : goal.overflow_cast-result
unfolding class_of
overflow_cast-result c = let n = names c in let most = n.0.greatest in omega (arith, most)

pub returns-clause-in_bank : goal.returns-clause-in_bank
unfolding class_of number_of
returns-clause-in_bank c = names c
