use Rattle.std.proofs.lemmas.List.Elements.{All-set}
use Rattle.ft_engine_tests.specs.TestCallers.{IsWorkerOf}
use Rattle.ft_engine_tests.proofs.giving_up.give_up_as.Goals as goal

pub returns : goal.returns
returns c =
    All-set (IsWorkerOf c.args.engine.now) c.args.workers.now c.args.thread c.give_up.new.worker c.give_up.ensures c.requires
