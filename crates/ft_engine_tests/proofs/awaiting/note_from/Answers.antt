use Rattle.std.proofs.lemmas.List.Elements.{All-set}
use Rattle.ft_engine_tests.specs.TestCallers.{IsWorkerOf}
use Rattle.ft_engine_tests.proofs.awaiting.note_from.Goals as goal

pub returns-clause-workers : goal.returns-clause-workers
returns-clause-workers c =
    All-set (IsWorkerOf c.args.engine.now) c.args.workers.now 0 c.note_after.new.worker c.in_ok-note.ensures.worker c.requires
