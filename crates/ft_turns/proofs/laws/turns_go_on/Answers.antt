use Rattle.ft_turns.proofs.AllCallsFinish.{turns_go_on}
use Rattle.ft_turns.proofs.laws.turns_go_on.Goals as goal

pub returns : goal.returns
returns c = turns_go_on
