use Rattle.ft_trace.proofs.Rule as rule
use Rattle.ft_trace.proofs.laws.one_pass_is_alone.Goals as goal

pub returns : goal.returns
returns c = rule.one_pass_is_alone
