use Rattle.ft_trace.proofs.ReferencesOfPuts as law
use Rattle.ft_trace.proofs.boxes.puts_have_references.Goals as goal

pub returns : goal.returns
returns c = law.puts_have_references
