use Rattle.std.proofs.lemmas.List.Elements.{All-set}
use Rattle.std.proofs.lemmas.Result.{on_ok_weaker}
use Rattle.ft_engine_tests.specs.TestCallers.{IsWorkerOf}
use Rattle.ft_engine_tests.proofs.turns.turn_of.Goals as goal

pub returns : goal.returns
returns c =
    on_ok_weaker c.turn.result (λ one. All-set (IsWorkerOf c.args.engine.now) c.args.workers.now c.args.thread c.turn.new.worker one c.requires) c.turn.ensures
