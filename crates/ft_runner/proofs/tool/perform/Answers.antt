use Rattle.std.proofs.Common.{◌∙◌, Option, sym, subst}
use Rattle.ft_runner.specs.declared.command.Subcommand.{Subcommand}
use Rattle.ft_runner.specs.declared.outcome.Outcome.TheVariants as outcome
use Rattle.ft_runner.specs.Reports.{IsCommandDone}
use Rattle.ft_runner.proofs.ReportLemmas.{memory_done, usage_done}
use Rattle.ft_runner.proofs.tool.perform.Goals as goal

pub returns-in-Ok-None-clause-done : goal.returns-in-Ok-None-clause-done
returns-in-Ok-None-clause-done g c command found =
    let source = g.S.Source in
    let sink = g.K.Sink in
    let a = source.stream c.args.source.now in
    let b = sink.stream c.args.sink.now in
    let none = sym (rw c.in-Ok-None.is at c.in-Ok-None.field-0-is) ∙ (rw c.in-Ok-None.is at found) in
    subst (λ (asked : Option Subcommand). IsCommandDone asked a a b b outcome.Usage) none (usage_done a b)

pub returns-in-Err-clause-done : goal.returns-in-Err-clause-done
returns-in-Err-clause-done g c command found =
    let source = g.S.Source in
    let sink = g.K.Sink in
    memory_done command (source.stream c.args.source.now) (sink.stream c.args.sink.now)
