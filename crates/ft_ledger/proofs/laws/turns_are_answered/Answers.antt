use Rattle.ft_model.specs.declared.script.ScriptParts.{ScriptParts}
use Rattle.ft_model.specs.Scripts.{IsScript}
use Rattle.ft_ledger.specs.LedgerLaws.{AreAnswered}
use Rattle.ft_turns.proofs.AllCallsFinish.{each_finishes}
use Rattle.ft_turns.proofs.Chronicled.{chronicled}
use Rattle.ft_turns.specs.AnsweredTurns.{answered_turns}
use Rattle.ft_ledger.proofs.laws.turns_are_answered.Goals as goal

answered : (script : ScriptParts) → IsScript script → AreAnswered script (answered_turns script)
answered script rule =
    let of_turns = (chronicled script rule (each_finishes script rule)).chronicled in
    record { whole = of_turns.whole; answered = of_turns.answered }

pub returns : goal.returns
returns c = answered
