use Rattle.std.proofs.Common.{◌≡◌, ◌+◌, ◌++◌, length, map}
use Rattle.std.specs.Vec.Iter.{into_iter_items, into_iter_len}
use Rattle.ft_engine.specs.Resting.{HasFloor}
use Rattle.ft_run_threads.specs.Workers.{HasTakenIn}
use Rattle.ft_run_turns.specs.Internal.CallerSeats.{AreEndSeats, seat_entries, vec_lists}
use Rattle.ft_run_turns.proofs.ending.gather_in.Given as goal

abbrev pub invariant-loop-seat : goal.invariant-loop-seat
invariant-loop-seat l =
    HasTakenIn l.engine l.script l.caller (vec_lists l.lists.items)
    × AreEndSeats l.engine l.script (length l.lists.items) (into_iter_items l.seat-iterator)
    × (vec_lists l.lists.items ++ map seat_entries (into_iter_items l.seat-iterator) ≡ map seat_entries l.fn.seats.items)
    × (into_iter_len l.seat-iterator ≡ length (into_iter_items l.seat-iterator))
    × HasFloor l.caller
