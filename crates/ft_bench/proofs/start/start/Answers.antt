use Rattle.ft_bench.proofs.CallerLemmas.{free_from}
use Rattle.ft_bench.proofs.start.start.Goals as goal

pub hire-requires : goal.hire-requires
hire-requires c = free_from _ _ 0 _ c.in-Ok.ensures.callers
