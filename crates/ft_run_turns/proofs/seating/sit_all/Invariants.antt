use Rattle.std.proofs.Common.{◌≡◌, ◌+◌, length}
use Rattle.std.specs.Vec.Iter.{into_iter_items, into_iter_len}
use Rattle.ft_bank.specs.Passes.{shape_of}
use Rattle.ft_engine.specs.Callers.{bank_of}
use Rattle.ft_run_turns.specs.Internal.CallerSeats.{AreNewFrom, AreNewSeats, IsHeld, NobodyOwns}
use Rattle.ft_run_turns.proofs.seating.sit_all.Given as goal

abbrev pub invariant-loop-other : goal.invariant-loop-other
invariant-loop-other l =
    AreNewSeats l.engine l.script 0 l.seats.items
    × IsHeld l.engine l.tokens
    × NobodyOwns l.engine (length l.seats.items) l.tokens
    × AreNewFrom l.engine (length l.seats.items) (into_iter_items l.other-iterator)
    × (length l.seats.items + length (into_iter_items l.other-iterator) ≡ (shape_of (bank_of l.engine)).passes)
    × (into_iter_len l.other-iterator ≡ length (into_iter_items l.other-iterator))
