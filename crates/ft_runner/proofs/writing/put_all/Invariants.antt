use Rattle.std.proofs.Common.{false, ◌-◌, ◌≤◌, length, take}
use Rattle.ft_runner.specs.Transfers.{Receives}
use Rattle.ft_runner.proofs.writing.put_all.Given as goal

abbrev pub invariant-loop-done : goal.invariant-loop-done
invariant-loop-done g l =
    let sink = g.K.Sink in
    record {
      within : l.done ≤ length l.bytes;
      receives : Receives (sink.stream l.fn.sink) (take l.done l.bytes) false (sink.stream l.sink);
    }

abbrev pub decreases-loop-done : goal.decreases-loop-done
decreases-loop-done g l = length l.bytes - l.done
