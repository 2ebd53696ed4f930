use Rattle.std.proofs.Common.{length}
use Rattle.ft_model.proofs.split.+are_first.Given as goal

abbrev pub decreases-are_first : goal.decreases-are_first
decreases-are_first l = length l.keys.now
