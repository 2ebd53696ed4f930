use Rattle.std.proofs.Common.{◌≡◌}
use Rattle.ft_runner.specs.declared.command.Subcommand.TheVariants as subcommand
use Rattle.ft_runner.proofs.ReportLemmas.{run_forgotten, run_refused}
use Rattle.ft_runner.proofs.tool.run_text.Goals as goal

pub put_run-requires-clause-read : goal.put_run-requires-clause-read
put_run-requires-clause-read g c = (c.args.bytes.now, c.in-Ok.ensures.read)

pub returns-in-Err : goal.returns-in-Err
returns-in-Err g c =
    let sink = g.K.Sink in
    rw c.refused.ensures (run_refused subcommand.Run c.args.bytes.now (sink.stream c.args.sink.now) c.in-Err.refused c.in-Err.ensures.fault)

pub returns-in-Ok-run_threads : goal.returns-in-Ok-run_threads
returns-in-Ok-run_threads g c = c.put_run.ensures subcommand.Run c.args.bytes.now c.in-Ok.ensures.read (λ turns. absurd (let no : subcommand.Run ≡ subcommand.Turns = turns in cc))

pub returns : goal.returns
returns g c =
    let sink = g.K.Sink in
    run_forgotten subcommand.Run c.args.bytes.now (sink.stream c.args.sink.now)
