-- What is left of the bank of a script that was run.
use Rattle.std.specs.Prelude.{◌≡◌, ℕ, List, Option, Some, Ok}
use Rattle.ft_bank.specs.declared.closed.Closed.{Closed}
use Rattle.ft_bank.specs.Closings.{shape_in}
use Rattle.ft_model.specs.declared.entry.Entry.{Entry}
use Rattle.ft_model.specs.declared.script.ScriptParts.{ScriptParts}
use Rattle.ft_script.specs.ReadScripts.{read_script}
use Rattle.ft_run_threads.specs.ClosedHistories.{HasEntriesOf}
use Rattle.ft_run_threads.specs.Workers.{IsBankFor}

-- what is left of a bank that was made for the script that the bytes are, and has just the history's entries, marks
-- aside
pub record IsLeft (bytes : List ℕ) (history : List Entry) (closed : Closed) : Type 0 where
  pub script : ScriptParts
  pub read : read_script bytes ≡ Ok script
  pub bank : IsBankFor script (shape_in closed)
  pub entries : HasEntriesOf closed history

-- there is such a bank
abbrev pub LeavesBank : List ℕ → List Entry → Option Closed → Type 0
LeavesBank bytes history closed = (bank : Closed) × (closed ≡ Some bank) × IsLeft bytes history bank
