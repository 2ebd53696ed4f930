use Rattle.ft_ledger.proofs.GivenUp.{rises_with_tables}
use Rattle.ft_ledger.proofs.laws.write_numbers_count_tables.Goals as goal

pub returns : goal.returns
returns c = rises_with_tables
