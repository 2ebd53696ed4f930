use Rattle.ft_turns.proofs.AllCallsFinish.{each_finishes}
use Rattle.ft_turns.proofs.laws.all_calls_finish.Goals as goal

pub returns : goal.returns
returns c = each_finishes
