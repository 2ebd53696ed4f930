use Rattle.ft_runner.specs.declared.command.Subcommand.TheVariants as subcommand
use Rattle.ft_runner.proofs.ReportLemmas.{run_forgotten, run_refused}
use Rattle.ft_runner.proofs.tool.turns_text.Goals as goal

pub put_run-requires-clause-read : goal.put_run-requires-clause-read
put_run-requires-clause-read g c = (c.args.bytes.now, c.in-Ok.ensures.read)

pub returns-in-Err : goal.returns-in-Err
returns-in-Err g c =
    let sink = g.K.Sink in
    rw c.refused.ensures (run_refused subcommand.Turns c.args.bytes.now (sink.stream c.args.sink.now) c.in-Err.refused c.in-Err.ensures.fault)

pub returns-in-Ok-run_turns : goal.returns-in-Ok-run_turns
returns-in-Ok-run_turns g c = c.put_run.ensures subcommand.Turns c.args.bytes.now c.in-Ok.ensures.read (λ turns. c.in-Ok-run_turns.ensures.order)

pub returns : goal.returns
returns g c =
    let sink = g.K.Sink in
    run_forgotten subcommand.Turns c.args.bytes.now (sink.stream c.args.sink.now)
