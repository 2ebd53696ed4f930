use Rattle.std.proofs.lemmas.List.Elements.{All-set}
use Rattle.ft_engine_tests.specs.TestCallers.{IsWorkerOf}
use Rattle.ft_engine_tests.proofs.many.make.Goals as goal

pub returns : goal.returns
returns c =
    All-set (IsWorkerOf c.args.engine.now) c.args.workers.now c.args.thread c.try_once.new.worker c.in_ok-try_once.ensures.worker c.requires
