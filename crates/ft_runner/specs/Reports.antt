-- What the tool does and reports.
use Rattle.std.specs.Prelude.{◌≡◌, ◌≢◌, ℕ, ◌==◌, Bool, true, false, nat_lt, if◌then◌else◌, ◌⊎◌, ◌≤◌, List, [], ◌++◌, length, Option, Some, None, is_none, All, Ok, Err, codes}
use Rattle.std.specs.Fmt.{decimal}
use Rattle.ft_history.specs.declared.verdict.Verdict.{Verdict}
use Rattle.ft_history.specs.declared.verdict.Verdict.TheVariants as verdict
use Rattle.ft_bank.specs.declared.closed.Closed.{Closed}
use Rattle.ft_io.specs.Streams.{Stream}
use Rattle.ft_model.specs.declared.entry.Entry.{Entry}
use Rattle.ft_model.specs.declared.script.ScriptParts.{ScriptParts}
use Rattle.ft_model.specs.Histories.{IsLegal}
use Rattle.ft_model.specs.Numbers.{AreFitting}
use Rattle.ft_script.specs.declared.fault.ScriptFault.{ScriptFault}
use Rattle.ft_script.specs.Faults.{kind_text}
use Rattle.ft_script.specs.ReadScripts.{read_script}
use Rattle.ft_script.specs.Texts.{transcript}
use Rattle.ft_run_turns.specs.OrderedHistories.{IsOrderRunFor}
use Rattle.ft_turns.specs.ShortReplies.{HasShortReply}
use Rattle.ft_runner.specs.declared.command.Subcommand.{Subcommand}
use Rattle.ft_runner.specs.declared.command.Subcommand.TheVariants as subcommand
use Rattle.ft_runner.specs.declared.outcome.Outcome.{Outcome}
use Rattle.ft_runner.specs.declared.outcome.Outcome.TheVariants as outcome
use Rattle.ft_runner.specs.declared.reading.ReadFault.{ReadFault}
use Rattle.ft_runner.specs.declared.reading.ReadFault.TheVariants as read
use Rattle.ft_runner.specs.declared.report.Fault.{Fault}
use Rattle.ft_runner.specs.declared.report.Fault.TheVariants as fault
use Rattle.ft_runner.specs.declared.report.Report.{Report}
use Rattle.ft_runner.specs.Checking.{most_checked, CanFit, IsReadInTime, IsScriptPart, IsTooLong, IsWithinLimits}
use Rattle.ft_runner.specs.Commands.{command_of}
use Rattle.ft_runner.specs.Findings.{broken_line, legal_line, stored, IsBadAt, IsFound}
use Rattle.ft_runner.specs.LeftBanks.{LeavesBank}
use Rattle.ft_runner.specs.Making.{IsMadeScript, IsSummary}
use Rattle.ft_runner.specs.Transfers.{most_read, script_limit, GivesBytes, HasEnded, IsPrefix, Receives, Reported}

-- ---- what a call comes to

-- the fault that is reported
abbrev pub fault_of : Outcome → Fault
fault_of (outcome.Clean history closed) = fault.Clean
fault_of (outcome.Script refused) = fault.Script refused.line refused.kind
fault_of outcome.Usage = fault.Usage
fault_of outcome.Read = fault.Read
fault_of (outcome.Write history closed) = fault.Write
fault_of outcome.Memory = fault.Memory
fault_of outcome.TooLong = fault.TooLong
fault_of (outcome.NotLegal place rule) = fault.NotLegal place rule
fault_of (outcome.Transcript line) = fault.Transcript line

-- the history that is reported, which is empty where none was written
abbrev pub history_of : Outcome → List Entry
history_of (outcome.Clean history closed) = history.items
history_of (outcome.Script refused) = []
history_of outcome.Usage = []
history_of outcome.Read = []
history_of (outcome.Write history closed) = history.items
history_of outcome.Memory = []
history_of outcome.TooLong = []
history_of (outcome.NotLegal place rule) = []
history_of (outcome.Transcript line) = []

-- what is reported to be left of the bank, which is nothing where no history was written
abbrev pub closed_of : Outcome → Option Closed
closed_of (outcome.Clean history closed) = closed
closed_of (outcome.Script refused) = None
closed_of outcome.Usage = None
closed_of outcome.Read = None
closed_of (outcome.Write history closed) = closed
closed_of outcome.Memory = None
closed_of outcome.TooLong = None
closed_of (outcome.NotLegal place rule) = None
closed_of (outcome.Transcript line) = None

-- the status that the program ends with
abbrev pub status_of : Fault → ℕ
status_of fault.Clean = 0
status_of (fault.Script line kind) = 1
status_of fault.Usage = 2
status_of fault.Read = 3
status_of fault.Write = 4
status_of fault.Memory = 5
status_of fault.TooLong = 6
status_of (fault.NotLegal place rule) = 7
status_of (fault.Transcript line) = 8

-- the line that the errors get
abbrev pub error_line : Outcome → List ℕ
error_line (outcome.Clean history closed) = []
error_line (outcome.Script refused) =
    codes "ftpy: line " ++ decimal refused.line ++ codes ": " ++ decimal refused.kind ++ codes " "
    ++ kind_text refused.kind refused.which ++ codes "\n"
error_line outcome.Usage = codes "ftpy: usage: run | turns | check | make N [turns]\n"
error_line outcome.Read = codes "ftpy: read fault\n"
error_line (outcome.Write history closed) = codes "ftpy: write fault\n"
error_line outcome.Memory = codes "ftpy: want of memory\n"
error_line outcome.TooLong = codes "ftpy: too long\n"
error_line (outcome.NotLegal place rule) = []
error_line (outcome.Transcript line) = codes "ftpy: transcript line " ++ decimal line ++ codes "\n"

-- whether a fault has such a line
abbrev pub has_line : Fault → Bool
has_line fault.Clean = false
has_line (fault.NotLegal place rule) = false
has_line _ = true

abbrev pub is_usage_outcome : Outcome → Bool
is_usage_outcome outcome.Usage = true
is_usage_outcome _ = false

abbrev pub is_read_outcome : Outcome → Bool
is_read_outcome outcome.Read = true
is_read_outcome _ = false

abbrev pub is_write_outcome : Outcome → Bool
is_write_outcome (outcome.Write history closed) = true
is_write_outcome _ = false

abbrev pub is_memory_outcome : Outcome → Bool
is_memory_outcome outcome.Memory = true
is_memory_outcome _ = false

abbrev pub is_too_long_outcome : Outcome → Bool
is_too_long_outcome outcome.TooLong = true
is_too_long_outcome _ = false

-- all input was read, for a command that reads
abbrev pub has_ended : Outcome → Bool
has_ended (outcome.Clean history closed) = true
has_ended (outcome.Script refused) = true
has_ended outcome.Usage = false
has_ended outcome.Read = false
has_ended (outcome.Write history closed) = true
has_ended outcome.Memory = false
has_ended outcome.TooLong = false
has_ended (outcome.NotLegal place rule) = true
has_ended (outcome.Transcript line) = true

-- work on bytes that are there can come to this: no word is wrong, and reading is over
abbrev pub comes_of_text : Outcome → Bool
comes_of_text (outcome.Clean history closed) = true
comes_of_text (outcome.Script refused) = true
comes_of_text outcome.Usage = false
comes_of_text outcome.Read = false
comes_of_text (outcome.Write history closed) = true
comes_of_text outcome.Memory = true
comes_of_text outcome.TooLong = false
comes_of_text (outcome.NotLegal place rule) = true
comes_of_text (outcome.Transcript line) = true

-- a text that is refused, or memory ran out before that was known
abbrev pub refusal_of : ScriptFault → Outcome
refusal_of refused = if refused.kind == 14 then outcome.Memory else outcome.Script refused

-- reading has stopped before the end
abbrev pub stopped : ReadFault → Outcome
stopped read.Failed = outcome.Read
stopped read.Memory = outcome.Memory
stopped read.TooLong = outcome.TooLong

-- what is reported of a verdict, where no stream fails and memory is had
abbrev pub reported_of : Verdict → Fault
reported_of verdict.Legal = fault.Clean
reported_of (verdict.Not place rule) = fault.NotLegal place rule

-- ---- a script that is run

-- the history is one of the script that the bytes are, under `turns` the one of its turns, and this is its text
pub record IsCommandHistory (command : Subcommand) (bytes : List ℕ) (history : List Entry)
    (text : List ℕ) : Type 0 where
  pub script : ScriptParts
  pub read : read_script bytes ≡ Ok script
  pub legal : IsLegal stored script history
  pub order : command ≡ subcommand.Turns → IsOrderRunFor script history
  -- each MemoryError of a class stands on a call that would take a table of that class there
  pub fitting : AreFitting stored script history
  -- no number of a reply is greater than what it counts can be
  pub short : All HasShortReply history
  pub written : text ≡ transcript script history

-- these bytes are a prefix of the text of such a history
pub record IsHistoryBegun (command : Subcommand) (bytes : List ℕ) (history : List Entry) (put : List ℕ) : Type 0 where
  pub text : List ℕ
  pub whole : IsCommandHistory command bytes history text
  pub prefix : IsPrefix put text

-- a script's first fault; out of memory is none
pub record IsFirstFault (bytes : List ℕ) (refused : ScriptFault) : Type 0 where
  pub first : read_script bytes ≡ Err refused
  pub in_text : refused.kind ≢ 14

-- what it says of the bytes that came that running them came to this, and of the bytes that were put
abbrev pub MeansRun : Subcommand → List ℕ → Outcome → List ℕ → Type 0
MeansRun command came (outcome.Clean history closed) put =
    IsCommandHistory command came history.items put × LeavesBank came history.items closed
MeansRun command came (outcome.Write history closed) put =
    IsHistoryBegun command came history.items put × LeavesBank came history.items closed
MeansRun command came (outcome.Script refused) put = IsFirstFault came refused × (put ≡ [])
MeansRun command came outcome.Read put = put ≡ []
MeansRun command came outcome.TooLong put = put ≡ []
MeansRun command came outcome.Memory put =
    (put ≡ []) ⊎ ((unsaid : List Entry) × IsHistoryBegun command came unsaid put)
MeansRun command came outcome.Usage put = ⊥
MeansRun command came (outcome.NotLegal place rule) put = ⊥
MeansRun command came (outcome.Transcript line) put = ⊥

-- what a command that runs a script does: more than a script may have stops the reading, else it goes on to the end
pub record DoesRun (command : Subcommand) (ended : Outcome) (came : List ℕ) (source' : Stream)
    (put : List ℕ) : Type 0 where
  pub too_long : is_too_long_outcome ended ≡ nat_lt script_limit (length came)
  pub few : length came ≤ most_read
  pub to_end : has_ended ended ≡ true → HasEnded source'
  pub means : MeansRun command came ended put

-- ---- a transcript that is checked

-- the first fault of the script that stands before the line `---`
abbrev pub IsScriptFault : List ℕ → ScriptFault → Type 0
IsScriptFault bytes refused = (text : List ℕ) × IsScriptPart bytes text × IsFirstFault text refused

-- what it says of the bytes that came that checking them came to this, and of the bytes that were put; the line of a
-- broken rule is said apart
abbrev pub MeansChecked : List ℕ → Outcome → List ℕ → Type 0
MeansChecked came (outcome.Clean history closed) put =
    IsFound came verdict.Legal × (history.items ≡ []) × (closed ≡ None) × (put ≡ legal_line)
MeansChecked came (outcome.Write history closed) put =
    IsFound came verdict.Legal × (history.items ≡ []) × (closed ≡ None) × IsPrefix put legal_line
MeansChecked came (outcome.NotLegal place rule) put = IsFound came (verdict.Not place rule)
MeansChecked came (outcome.Transcript line) put = IsBadAt came line × (put ≡ [])
MeansChecked came (outcome.Script refused) put = IsScriptFault came refused × (put ≡ [])
MeansChecked came outcome.Read put = put ≡ []
MeansChecked came outcome.TooLong put = put ≡ []
MeansChecked came outcome.Memory put = put ≡ []
MeansChecked came outcome.Usage put = ⊥

-- what `check` does: more than a script and a transcript may have, whatever follows, stops the reading, and no more is
-- asked for then; what was read to its end is within
pub record DoesCheck (ended : Outcome) (source : Stream) (came : List ℕ) (source' : Stream)
    (put : List ℕ) : Type 0 where
  pub too_long : is_too_long_outcome ended ≡ true → IsTooLong source came source'
  pub fits : is_read_outcome ended ≡ true → CanFit came
  pub within : has_ended ended ≡ true → IsWithinLimits came
  pub few : length came ≤ most_checked
  pub in_time : IsReadInTime came
  pub to_end : has_ended ended ≡ true → HasEnded source'
  pub means : MeansChecked came ended put

-- ---- a script that is made

-- what it says of the bytes that were put that making came to this; the whole text is as the relation says, which
-- speaks too of the history and of what is left of a bank that are reported
abbrev pub MeansMade : (List Entry → Option Closed → List ℕ → Type 0) → Outcome → List ℕ → Type 0
MeansMade IsWhole (outcome.Clean history closed) put = IsWhole history.items closed put
MeansMade IsWhole (outcome.Write history closed) put =
    (text : List ℕ) × IsWhole history.items closed text × IsPrefix put text
MeansMade IsWhole outcome.Memory put = put ≡ []
MeansMade IsWhole (outcome.Script refused) put = ⊥
MeansMade IsWhole outcome.Usage put = ⊥
MeansMade IsWhole outcome.Read put = ⊥
MeansMade IsWhole outcome.TooLong put = ⊥
MeansMade IsWhole (outcome.NotLegal place rule) put = ⊥
MeansMade IsWhole (outcome.Transcript line) put = ⊥

-- what a command that makes a script does: it reads nothing
pub record DoesMake (IsWhole : List Entry → Option Closed → List ℕ → Type 0) (ended : Outcome) (source : Stream)
    (came : List ℕ) (source' : Stream) (put : List ℕ) : Type 0 where
  pub nothing_came : came ≡ []
  pub untouched : source' ≡ source
  pub means : MeansMade IsWhole ended put

-- ---- the parts that all commands have

-- what goes into the sink: the line of a broken rule, whole or a prefix where the sink failed; or else these bytes, and
-- the sink failed exactly where that is the fault
abbrev pub PutsFor : Outcome → Stream → List ℕ → Stream → Type 0
PutsFor (outcome.NotLegal place rule) before put after =
    ((put ≡ broken_line place rule) × Receives before put false after)
    ⊎ (IsPrefix put (broken_line place rule) × Receives before put true after)
PutsFor other before put after = Receives before put (is_write_outcome other) after

-- the bytes that are there have come to this, which says so much of them and of the bytes that were put
pub record ComesTo (Means : Outcome → List ℕ → Type 0) (sink sink' : Stream) (ended : Outcome) : Type 0 where
  pub put : List ℕ
  pub writing : PutsFor ended sink put sink'
  pub means : Means ended put
  pub cause : comes_of_text ended ≡ true

-- what each command does; words that are none read and put nothing
abbrev pub DoesCommand : Option Subcommand → Outcome → Stream → List ℕ → Stream → List ℕ → Type 0
DoesCommand None ended source came source' put = (came ≡ []) × (put ≡ [])
DoesCommand (Some subcommand.Run) ended source came source' put = DoesRun subcommand.Run ended came source' put
DoesCommand (Some subcommand.Turns) ended source came source' put = DoesRun subcommand.Turns ended came source' put
DoesCommand (Some subcommand.Check) ended source came source' put = DoesCheck ended source came source' put
DoesCommand (Some (subcommand.Make calls)) ended source came source' put =
    DoesMake (IsMadeScript calls) ended source came source' put
DoesCommand (Some (subcommand.MakeTurns calls)) ended source came source' put =
    DoesMake (IsSummary calls) ended source came source' put

-- what is done for this command, and what it comes to
pub record IsCommandDone (command : Option Subcommand) (source source' sink sink' : Stream)
    (ended : Outcome) : Type 0 where
  -- the bytes that came, and those that were put
  pub came : List ℕ
  pub put : List ℕ
  -- usage exactly where there is no command, unless memory ran out first
  pub usage : is_memory_outcome ended ≡ false → is_usage_outcome ended ≡ is_none command
  -- a fault of reading or writing exactly where the count rose
  pub reading : GivesBytes source came (is_read_outcome ended) source'
  pub writing : PutsFor ended sink put sink'
  pub own : DoesCommand command ended source came source' put

-- what the tool reports for these words, from what the source, the sink and the errors tell before it to what they tell
-- after it
pub record IsReport (words : List (List ℕ)) (source source' sink sink' errors errors' : Stream)
    (report : Report) : Type 0 where
  pub ended : Outcome
  pub done : IsCommandDone (command_of words) source source' sink sink' ended
  pub fault : report.fault ≡ fault_of ended
  pub history : report.history.items ≡ history_of ended
  pub closed : report.closed ≡ closed_of ended
  pub status : report.status ≡ status_of report.fault
  -- the errors get the line of the fault; where it has none, they are left alone
  pub reported : Reported errors (error_line ended) errors'
  pub untouched : has_line report.fault ≡ false → errors' ≡ errors
