-- What is reported of a text, where the source tells it and no stream fails. (profile)
use Rattle.std.specs.Prelude.{◌≡◌, ◌≢◌, ◌<◌, ◌≤◌, ℕ, List, length, Option, Some, Ok}
use Rattle.ft_history.specs.declared.verdict.Verdict.TheVariants as verdict
use Rattle.ft_io.specs.Streams.{raised, Stream}
use Rattle.ft_model.specs.declared.script.ScriptParts.{ScriptParts}
use Rattle.ft_script.specs.declared.fault.Which.{Which}
use Rattle.ft_script.specs.ReadScripts.{read_script}
use Rattle.ft_runner.specs.declared.command.Subcommand.{Subcommand}
use Rattle.ft_runner.specs.declared.command.Subcommand.TheVariants as subcommand
use Rattle.ft_runner.specs.declared.report.Fault.{Fault}
use Rattle.ft_runner.specs.declared.report.Fault.TheVariants as fault
use Rattle.ft_runner.specs.declared.report.Report.{Report}
use Rattle.ft_runner.specs.Checking.{IsPastLimit, IsWithinLimits}
use Rattle.ft_runner.specs.Commands.{command_of}
use Rattle.ft_runner.specs.Findings.{IsBadAt, IsFound}
use Rattle.ft_runner.specs.Reports.{IsFirstFault, IsReport, IsScriptFault}
use Rattle.ft_runner.specs.Transfers.{script_limit}

-- the words are this command, the source has this text before the call, and no call of the source or the sink fails
pub record IsReportOn (command : Subcommand) (text : List ℕ) (report : Report) : Type 0 where
  pub words : List (List ℕ)
  pub source : Stream
  pub source' : Stream
  pub sink : Stream
  pub sink' : Stream
  pub errors : Stream
  pub errors' : Stream
  pub is : IsReport words source source' sink sink' errors errors' report
  pub asked : command_of words ≡ Some command
  pub has : source.content ≡ Some text
  pub source_stood : source'.faults ≢ raised source.faults
  pub sink_stood : sink'.faults ≢ raised sink.faults

-- what a text has where this is reported of it and it is run; memory may run out with any text
abbrev pub IsRunCause : List ℕ → Fault → Type 0
IsRunCause text fault.Clean = (length text ≤ script_limit) × (script : ScriptParts) × (read_script text ≡ Ok script)
IsRunCause text (fault.Script line kind) =
    (length text ≤ script_limit) × (limit : Option Which)
    × IsFirstFault text (record { line = line; kind = kind; which = limit })
IsRunCause text fault.TooLong = script_limit < length text
IsRunCause text fault.Memory = Unit {0}
IsRunCause text fault.Usage = ⊥
IsRunCause text fault.Read = ⊥
IsRunCause text fault.Write = ⊥
IsRunCause text (fault.NotLegal place rule) = ⊥
IsRunCause text (fault.Transcript line) = ⊥

-- and where it is checked
abbrev pub IsCheckCause : List ℕ → Fault → Type 0
IsCheckCause text fault.Clean = IsWithinLimits text × IsFound text verdict.Legal
IsCheckCause text (fault.NotLegal place rule) = IsWithinLimits text × IsFound text (verdict.Not place rule)
IsCheckCause text (fault.Transcript line) = IsWithinLimits text × IsBadAt text line
IsCheckCause text (fault.Script line kind) =
    IsWithinLimits text × (limit : Option Which)
    × IsScriptFault text (record { line = line; kind = kind; which = limit })
IsCheckCause text fault.TooLong = IsPastLimit text
IsCheckCause text fault.Memory = Unit {0}
IsCheckCause text fault.Usage = ⊥
IsCheckCause text fault.Read = ⊥
IsCheckCause text fault.Write = ⊥

-- and where a script is made, which no text can spoil
abbrev pub IsMakeCause : Fault → Type 0
IsMakeCause fault.Clean = Unit {0}
IsMakeCause fault.Memory = Unit {0}
IsMakeCause (fault.Script line kind) = ⊥
IsMakeCause fault.Usage = ⊥
IsMakeCause fault.Read = ⊥
IsMakeCause fault.Write = ⊥
IsMakeCause fault.TooLong = ⊥
IsMakeCause (fault.NotLegal place rule) = ⊥
IsMakeCause (fault.Transcript line) = ⊥

-- what a text has where this is reported of it
abbrev pub IsCause : Subcommand → List ℕ → Fault → Type 0
IsCause subcommand.Run text reported = IsRunCause text reported
IsCause subcommand.Turns text reported = IsRunCause text reported
IsCause subcommand.Check text reported = IsCheckCause text reported
IsCause (subcommand.Make calls) text reported = IsMakeCause reported
IsCause (subcommand.MakeTurns calls) text reported = IsMakeCause reported
