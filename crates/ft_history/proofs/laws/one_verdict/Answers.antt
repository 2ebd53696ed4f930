use Rattle.ft_history.proofs.OneVerdict.{one_verdict as proof}
use Rattle.ft_history.proofs.laws.one_verdict.Goals as goal

pub returns : goal.returns
returns c = proof
