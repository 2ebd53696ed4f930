use Rattle.std.proofs.Common.{◌≡◌, ◌+◌, length}
use Rattle.std.specs.Vec.Iter.{into_iter_items, into_iter_len}
use Rattle.ft_model.specs.Limits.{most_cursors}
use Rattle.ft_engine.specs.Callers.{AreFreshCallers}
use Rattle.ft_run_threads.specs.Workers.{AreFrom, IsAtStart}
use Rattle.ft_run_threads.proofs.starting.hire.Given as goal

abbrev pub invariant-loop-caller : goal.invariant-loop-caller
invariant-loop-caller l =
    AreFreshCallers l.engine most_cursors (length l.workers.items) (into_iter_items l.caller-iterator)
    × AreFrom (IsAtStart l.engine l.script) 0 l.workers.items
    × (length l.workers.items + length (into_iter_items l.caller-iterator) ≡ length (into_iter_items l.initial.caller-iterator))
    × (into_iter_len l.caller-iterator ≡ length (into_iter_items l.caller-iterator))
