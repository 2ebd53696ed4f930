use Rattle.std.proofs.Common.{refl}
use Rattle.ft_ledger.proofs.RowErrors.{used_again_errors}
use Rattle.ft_ledger.proofs.rows.retired_tables_are_used_again.Goals as goal

pub returns-clause-order : goal.returns-clause-order
returns-clause-order c = refl

pub returns-clause-errors : goal.returns-clause-errors
returns-clause-errors c = used_again_errors

pub returns-clause-smaller : goal.returns-clause-smaller
returns-clause-smaller c = refl

pub returns-clause-greater : goal.returns-clause-greater
returns-clause-greater c = refl
