use Rattle.ft_trace.proofs.OddValues as law
use Rattle.ft_trace.proofs.boxes.odd_values_may_be_any.Goals as goal

pub returns : goal.returns
returns c = law.odd_values_may_be_any
