use Rattle.ft_ledger.proofs.Reached.{has_reached}
use Rattle.ft_ledger.proofs.laws.goals_are_write_numbers.Goals as goal

pub returns : goal.returns
returns c = has_reached
