use Rattle.ft_bench.proofs.CallerLemmas.{free_from}
use Rattle.ft_bench.proofs.script.start.Goals as goal

pub enter_all-requires : goal.enter_all-requires
enter_all-requires c = free_from _ _ 0 _ c.in-Ok.ensures.callers
