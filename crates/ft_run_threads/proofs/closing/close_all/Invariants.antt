use Rattle.std.proofs.Common.{◌≡◌, ◌+◌, ◌≤◌, length, map}
use Rattle.std.specs.Vec.Iter.{into_iter_items, into_iter_len}
use Rattle.ft_bank.specs.Passes.{shape_of}
use Rattle.ft_engine.specs.Callers.{bank_of}
use Rattle.ft_engine.specs.Resting.{token_count}
use Rattle.ft_run_threads.specs.Workers.{AreFrom, HasTakenIn, HasWorked}
use Rattle.ft_run_threads.proofs.closing.close_all.Given as goal

abbrev pub invariant-loop-worker : goal.invariant-loop-worker
invariant-loop-worker l =
    HasTakenIn l.engine l.script l.caller (map (λ list. list.items) l.lists.items)
    × AreFrom (HasWorked l.engine l.script) (length l.lists.items) (into_iter_items l.worker-iterator)
    × (length l.lists.items + length (into_iter_items l.worker-iterator) ≡ (shape_of (bank_of l.engine)).passes)
    × (into_iter_len l.worker-iterator ≡ length (into_iter_items l.worker-iterator))
    × (length l.lists.items ≤ token_count l.caller)
