-- What `check` is given of what a run of a script wrote. (profile)
use Rattle.std.specs.Prelude.{◌≡◌, ℕ, true, List, [], ◌++◌, length, codes, Some}
use Rattle.ft_runner.specs.declared.command.Subcommand.{Subcommand}
use Rattle.ft_runner.specs.declared.report.Fault.TheVariants as fault
use Rattle.ft_runner.specs.declared.report.Report.{Report}
use Rattle.ft_runner.specs.FaultCauses.{IsReportOn}
use Rattle.ft_runner.specs.Checking.{begins_line}

-- a line can begin after the text: it is empty, or ends with a line feed
abbrev pub EndsLine : List ℕ → Type 0
EndsLine text = begins_line text (length text) ≡ true

-- a script's text, the line `---`, and a transcript
abbrev pub checked_text : List ℕ → List ℕ → List ℕ
checked_text text written = text ++ codes "---\n" ++ written

-- the command was asked of the text, all was done, and this is what the sink got
pub record IsWritten (command : Subcommand) (text written : List ℕ) : Type 0 where
  pub report : Report
  pub on : IsReportOn command text report
  pub clean : report.fault ≡ fault.Clean
  pub empty : on.sink.content ≡ Some []
  pub got : on.sink'.content ≡ Some written
