use Rattle.std.proofs.Common.{refl}
use Rattle.ft_runner.specs.declared.command.Subcommand.TheVariants as subcommand
use Rattle.ft_runner.proofs.ReportLemmas.{stops_reading_done, text_done}
use Rattle.ft_runner.proofs.tool.run.Goals as goal

pub returns-in-Ok : goal.returns-in-Ok
returns-in-Ok g c =
    let source = g.S.Source in
    let sink = g.K.Sink in
    let run = rw (c.deref.ensures.value) at c.run_text.ensures in
    text_done (source.stream c.args.source.now) (source.stream c.read_all.new.source) (sink.stream c.args.sink.now) (sink.stream c.run_text.new.sink) c.in-Ok.bytes.items c.run_text.result subcommand.Run refl c.in-Ok.ensures run

pub returns-in-Err : goal.returns-in-Err
returns-in-Err g c =
    let source = g.S.Source in
    let sink = g.K.Sink in
    rw c.stopped.ensures (stops_reading_done (source.stream c.args.source.now) (source.stream c.read_all.new.source) (sink.stream c.args.sink.now) subcommand.Run refl c.in-Err.fault c.in-Err.ensures)
