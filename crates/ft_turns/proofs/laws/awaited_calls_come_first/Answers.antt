use Rattle.ft_turns.proofs.AwaitedFirst as first
use Rattle.ft_turns.proofs.laws.awaited_calls_come_first.Goals as goal

pub returns : goal.returns
returns c = first.awaited_calls_come_first
