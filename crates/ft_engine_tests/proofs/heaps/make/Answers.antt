use Rattle.std.proofs.lemmas.List.Elements.{All-set}
use Rattle.std.proofs.lemmas.Result.{on_ok_weaker}
use Rattle.ft_engine_tests.specs.TestCallers.{IsWorkerOf}
use Rattle.ft_engine_tests.proofs.heaps.make.Goals as goal

pub returns : goal.returns
returns c =
    on_ok_weaker c.make_one.result (λ one. All-set (IsWorkerOf c.args.engine.now) c.args.workers.now c.args.thread c.make_one.new.worker one c.requires) c.make_one.ensures
