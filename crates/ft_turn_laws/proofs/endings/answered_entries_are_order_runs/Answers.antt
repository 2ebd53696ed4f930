use Rattle.ft_turn_laws.proofs.OrderedRuns as proved
use Rattle.ft_turn_laws.proofs.endings.answered_entries_are_order_runs.Goals as goal

pub returns : goal.returns
returns c = proved.order_runs
