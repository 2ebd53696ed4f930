use Rattle.std.proofs.Common.{◌≡◌, ◌+◌, length}
use Rattle.std.specs.Vec.Iter.{into_iter_items, into_iter_len}
use Rattle.ft_model.specs.Limits.{most_cursors}
use Rattle.ft_bank.specs.Passes.{shape_of}
use Rattle.ft_engine.specs.Callers.{AreFreshCallers, bank_of}
use Rattle.ft_engine.specs.Resting.{token_count}
use Rattle.ft_run_turns.specs.Internal.CallerSeats.{AreNewFrom, IsNewCaller}
use Rattle.ft_run_turns.proofs.seating.gather_all.Given as goal

abbrev pub invariant-loop-caller : goal.invariant-loop-caller
invariant-loop-caller l =
    IsNewCaller l.engine 0 l.first
    × AreNewFrom l.engine 1 l.others.items
    × AreFreshCallers l.engine most_cursors (length l.others.items + 1) (into_iter_items l.caller-iterator)
    × (token_count l.first ≡ length l.others.items + 1)
    × (length l.others.items + 1 + length (into_iter_items l.caller-iterator) ≡ (shape_of (bank_of l.engine)).passes)
    × (into_iter_len l.caller-iterator ≡ length (into_iter_items l.caller-iterator))
