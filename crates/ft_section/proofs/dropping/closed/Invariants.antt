use Rattle.std.proofs.Common.{length}
use Rattle.ft_section.proofs.dropping.closed.Given as goal

abbrev pub decreases-loop : goal.decreases-loop
decreases-loop l = length l.sections
