-- Callers after the last turn.
use Rattle.std.specs.Prelude.{◌≡◌, ℕ, List, map, Some, slice_get}
use Rattle.std.specs.List.{flat_map}
use Rattle.std.specs.List.Sorted.{IsPermutation}
use Rattle.ft_model.specs.declared.call.Call.{Call}
use Rattle.ft_model.specs.declared.entry.Entry.{Entry}
use Rattle.ft_model.specs.declared.entry.Storage.{Storage}
use Rattle.ft_model.specs.declared.script.ScriptParts.{ScriptParts}
use Rattle.ft_model.specs.Numbers.{AreDone, AreNumberedLists}
use Rattle.ft_model.specs.Scripts.{IsScript}
use Rattle.ft_trace.specs.declared.View.{View}
use Rattle.ft_bank_history.specs.Marks.{HaveScriptCalls}
use Rattle.ft_engine.specs.declared.caller.Flight.TheVariants as flight
use Rattle.ft_turns.specs.Orders.{IsOrderRun, last_machine, turns_of}
use Rattle.ft_turn_laws.specs.Runs.{AreAnsweredBy}
use Rattle.ft_turn_laws.specs.Standing.{Standing}
use Rattle.ft_turn_laws.specs.Turns.{AreInStep}

-- the entries of each caller
abbrev pub entry_lists : List Standing → List (List Entry)
entry_lists standings = map (λ standing. standing.entries) standings

-- All calls are made: no caller is in a call, the entries are of just the calls that the script has, and in the order
-- of the turns each knows of all writes before it.
pub record HaveFinished (script : ScriptParts) (standings : List Standing) : Type 0 where
  pub idle : (thread : ℕ) (standing : Standing) → slice_get standings thread ≡ Some standing
      → standing.flight ≡ flight.Idle
  pub made : HaveScriptCalls script (entry_lists standings)
  pub answered : AreAnsweredBy (last_machine script) (entry_lists standings)

-- after all turns of a script it is so
abbrev pub LastTurnsFinish : Type 0
LastTurnsFinish =
    (script : ScriptParts) (v : View) (standings : List Standing) → IsScript script
    → AreInStep script (turns_of script) v standings → HaveFinished script standings

-- So what the callers were answered is a run in the order of the turns, where their entries are numbered and done.
abbrev pub TurnsAreOrderRuns : Type 0
TurnsAreOrderRuns =
    (storage : Storage) (script : ScriptParts) (v : View) (standings : List Standing) (calls : List Call)
    (history : List Entry) → IsScript script → AreInStep script (turns_of script) v standings
    → AreNumberedLists storage script calls (entry_lists standings) → AreDone script calls (entry_lists standings)
    → IsPermutation (flat_map (λ mine. mine) (entry_lists standings)) history
    → IsOrderRun storage script history
