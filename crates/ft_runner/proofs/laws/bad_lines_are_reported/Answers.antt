use Rattle.std.proofs.Common.{◌≡◌, ◌⊎◌, ℕ, List, refl, ap, inl, inr}
use Rattle.ft_runner.specs.declared.command.Subcommand.TheVariants as subcommand
use Rattle.ft_runner.specs.declared.report.Fault.{Fault}
use Rattle.ft_runner.specs.declared.report.Fault.TheVariants as fault
use Rattle.ft_runner.specs.FaultCauses.{IsCheckCause}
use Rattle.ft_runner.specs.Checking.{IsWithinLimits}
use Rattle.ft_runner.specs.Findings.{IsBadAt}
use Rattle.ft_runner.proofs.CauseLemmas.{cause_of}
use Rattle.ft_runner.proofs.OneBadLine.{no_fault_before, one_bad_line}
use Rattle.ft_runner.proofs.OneFinding.{no_bad_line}
use Rattle.ft_runner.proofs.SeparatorLemmas.{past_within}
use Rattle.ft_runner.proofs.laws.bad_lines_are_reported.Goals as goal

module _ (text : List ℕ) (line : ℕ) (within : IsWithinLimits text) (bad : IsBadAt text line) where
  reported : (f : Fault) → IsCheckCause text f → (f ≡ fault.Transcript line) ⊎ (f ≡ fault.Memory)
  reported (fault.Transcript other) cause = inl (ap fault.Transcript (one_bad_line text other line cause.1 bad))
  reported fault.Memory cause = inr refl
  reported fault.Clean cause = absurd (no_bad_line text cause.1.script cause.1.entries cause.1.lines cause.1.input line bad)
  reported (fault.NotLegal place rule) cause = absurd (no_bad_line text cause.1.script cause.1.entries cause.1.lines cause.1.input line bad)
  reported (fault.Script at kind) cause = absurd (no_fault_before text line (record { line = at; kind = kind; which = cause.1 }) bad cause.2)
  reported fault.TooLong cause = absurd (past_within text cause within)
  reported fault.Usage cause = absurd cause
  reported fault.Read cause = absurd cause
  reported fault.Write cause = absurd cause

pub returns : goal.returns
returns c text report line on within bad = reported text line within bad report.fault (cause_of subcommand.Check text report on)
