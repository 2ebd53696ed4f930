use Rattle.ft_runner.proofs.ReportLemmas.{input_done, stops_input_done}
use Rattle.ft_runner.proofs.tool.check.Goals as goal

pub returns-in-Ok : goal.returns-in-Ok
returns-in-Ok g c =
    let source = g.S.Source in
    let sink = g.K.Sink in
    let run = rw (c.deref.ensures.value) at c.check_text.ensures in
    input_done (source.stream c.args.source.now) (source.stream c.read_input.new.source) (sink.stream c.args.sink.now) (sink.stream c.check_text.new.sink) c.in-Ok.input.bytes.items c.check_text.result c.in-Ok.ensures.0 c.in-Ok.ensures.1 run

pub returns-in-Err : goal.returns-in-Err
returns-in-Err g c =
    let source = g.S.Source in
    let sink = g.K.Sink in
    rw c.stopped.ensures (stops_input_done (source.stream c.args.source.now) (source.stream c.read_input.new.source) (sink.stream c.args.sink.now) c.in-Err.fault c.in-Err.ensures)
