use Rattle.std.proofs.Common.{refl}
use Rattle.ft_ledger.proofs.RowErrors.{sixth_errors}
use Rattle.ft_ledger.proofs.RowScripts.{sixth_is_script}
use Rattle.ft_ledger.proofs.rows.sixth_keys_retire_a_table.Goals as goal

pub returns-clause-errors : goal.returns-clause-errors
returns-clause-errors c = sixth_errors

pub returns-clause-smaller : goal.returns-clause-smaller
returns-clause-smaller c = refl

pub returns-clause-greater : goal.returns-clause-greater
returns-clause-greater c = refl

pub returns-clause-script : goal.returns-clause-script
returns-clause-script c = sixth_is_script
