use Rattle.std.proofs.lemmas.List.Elements.{All-set}
use Rattle.ft_engine_tests.specs.TestCallers.{IsWorkerOf}
use Rattle.ft_engine_tests.proofs.awaiting.await_in.Goals as goal

pub returns : goal.returns
returns c =
    All-set (IsWorkerOf c.args.engine.now) c.args.workers.now 1 c.await_first.new.worker c.in_ok-await_first.ensures c.requires.workers
