use Rattle.ft_runner.specs.declared.command.Subcommand.TheVariants as subcommand
use Rattle.ft_runner.proofs.CauseLemmas.{cause_of}
use Rattle.ft_runner.proofs.ReportedVerdicts.{reported}
use Rattle.ft_runner.proofs.laws.verdicts_are_reported.Goals as goal

pub returns : goal.returns
returns c text report script entries lines found is within input on =
    reported text script entries lines found within input on report.fault (cause_of subcommand.Check text report is)
