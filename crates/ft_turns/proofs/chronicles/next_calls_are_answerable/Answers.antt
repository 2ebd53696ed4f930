use Rattle.ft_turns.proofs.Answerable.{answerable}
use Rattle.ft_turns.proofs.chronicles.next_calls_are_answerable.Goals as goal

pub returns : goal.returns
returns c = answerable
