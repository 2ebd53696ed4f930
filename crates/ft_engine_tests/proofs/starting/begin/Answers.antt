use Rattle.ft_engine_tests.proofs.CallersOnline.{free_from}
use Rattle.ft_engine_tests.proofs.starting.begin.Goals as goal

pub enter_all-requires : goal.enter_all-requires
enter_all-requires c = free_from _ _ 0 _ c.in-Ok.ensures.callers
