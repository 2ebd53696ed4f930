use Rattle.ft_turns.proofs.Chronicled.{chronicled}
use Rattle.ft_turns.proofs.AllCallsFinish.{each_finishes}
use Rattle.ft_turns.proofs.chronicles.turns_make_a_chronicle.Goals as goal

pub returns : goal.returns
returns c script rule = chronicled script rule (each_finishes script rule)
