use Rattle.ft_trace.proofs.Rule as rule
use Rattle.ft_trace.proofs.laws.numbers_have_room.Goals as goal

pub returns : goal.returns
returns c = rule.numbers_have_room
