-- What a script has come to that was run.
use Rattle.std.specs.Prelude.{◌≡◌, length, map}
use Rattle.ft_bank.specs.Closings.{shape_in}
use Rattle.ft_model.specs.declared.script.ScriptParts.{ScriptParts}
use Rattle.ft_model.specs.Answers.{shown_of}
use Rattle.ft_model.specs.Histories.{writes, world_at, IsLegal}
use Rattle.ft_model.specs.Numbers.{AreFitting}
use Rattle.ft_run_threads.specs.ClosedHistories.{HasEntriesOf}
use Rattle.ft_run_threads.specs.Workers.{IsBankFor}
use Rattle.ft_runner.specs.declared.running.ScriptRun.{ScriptRun}
use Rattle.ft_runner.specs.Findings.{stored}

-- a legal history of the script, what is shown of the contents after its writes, and what is left of a bank that was
-- made for the script and has just the history's entries, marks aside
pub record IsRunOf (script : ScriptParts) (run : ScriptRun) : Type 0 where
  pub legal : IsLegal stored script run.history.items
  pub fitting : AreFitting stored script run.history.items
  pub contents : run.contents.items
      ≡ map shown_of (world_at script run.history.items (length (writes run.history.items)))
  pub bank : IsBankFor script (shape_in run.closed)
  pub entries : HasEntriesOf run.closed run.history.items
