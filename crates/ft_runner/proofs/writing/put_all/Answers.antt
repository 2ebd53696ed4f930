use Rattle.std.proofs.Common.{arith, take, drop}
use Rattle.std.proofs.lemmas.List.{take-append-drop, take_rest, length-drop}
use Rattle.std.proofs.lemmas.Result.{err_from_is_err_and}
use Rattle.ft_runner.proofs.StreamLemmas.{Receives-fails, Receives-piece}
use Rattle.ft_runner.proofs.writing.put_all.Goals as goal

pub returns-in_err-done : goal.returns-in_err-done
returns-in_err-done g c =
    let sink = g.K.Sink in
    let bytes = c.args.bytes.now in
    let p = err_from_is_err_and c.from_residual.result c.from_residual.ensures.1 in
    rw p.1 (record {
      prefix = take c.loop-done.done bytes;
      is_prefix = (drop c.loop-done.done bytes, take-append-drop c.loop-done.done bytes);
      receives = Receives-fails (sink.stream c.args.sink.now) (sink.stream c.loop-done.sink) (sink.stream c.put.new.self) (take c.loop-done.done bytes) c.loop-done.invariant.receives c.in_err-done.ensures.failed c.in_err-done.ensures.faults;
    })

pub loop-done-preserved : goal.loop-done-preserved
loop-done-preserved g c =
    let sink = g.K.Sink in
    let bytes = c.args.bytes.now in
    let done = c.loop-done.done in
    let count = rw take_rest at c.in_ok-done.ensures.count in
    let more = rw take_rest at c.in_ok-done.ensures.bytes in
    record {
      within = omega (arith, count, length-drop done bytes, c.loop-done.invariant.within);
      receives = Receives-piece (sink.stream c.args.sink.now) (sink.stream c.loop-done.sink) (sink.stream c.put.new.self) bytes done c.in_ok-done.field-0 c.loop-done.invariant.receives more c.in_ok-done.ensures.faults;
    }
