use Rattle.ft_ledger.proofs.Retirements.{entry_changes}
use Rattle.ft_ledger.proofs.laws.tables_wait_for_all_threads.Goals as goal

pub returns : goal.returns
returns c = entry_changes
