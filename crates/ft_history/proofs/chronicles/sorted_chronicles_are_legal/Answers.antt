use Rattle.ft_history.proofs.SortedChronicles.{legal_when_sorted}
use Rattle.ft_history.proofs.chronicles.sorted_chronicles_are_legal.Goals as goal

pub returns : goal.returns
returns c = legal_when_sorted
