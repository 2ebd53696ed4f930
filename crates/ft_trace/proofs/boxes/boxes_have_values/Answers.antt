use Rattle.ft_trace.proofs.BoxedValues as law
use Rattle.ft_trace.proofs.boxes.boxes_have_values.Goals as goal

pub returns : goal.returns
returns c = law.boxes_have_values
