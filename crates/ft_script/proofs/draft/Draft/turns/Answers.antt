use Rattle.std.proofs.lemmas.Result.{err_from_is_err_and}
use Rattle.ft_script.specs.Internal.Outcomes.{draft_of}
use Rattle.ft_script.proofs.LineReading.{turns_on, turns_end, turns_done}
use Rattle.ft_script.proofs.draft.Draft.turns.Goals as goal

pub loop-name-preserved : goal.loop-name-preserved
loop-name-preserved c = (
  turns_on (draft_of c.loop-name.self) (draft_of c.turn.new.self) c.args.names.now c.loop-name.name-index _ _ c.loop-name-test.true c.in_ok-turn.ensures.read c.loop-name.invariant.0,
  (rw c.in_ok-turn.ensures.threads c.loop-name.invariant.1),
)

pub returns-in_err-turn : goal.returns-in_err-turn
returns-in_err-turn c =
    let p = err_from_is_err_and c.from_residual.result c.from_residual.ensures.1 in
    rw (p.1, p.2) (turns_end c.in_err-turn.field-0.0 (draft_of c.loop-name.self) c.args.names.now c.loop-name.name-index _ _ c.loop-name-test.true c.in_err-turn.ensures.read c.loop-name.invariant.0)

pub returns : goal.returns
returns c = turns_done (draft_of c.loop-name.self) c.args.names.now c.loop-name.name-index _ c.loop-name-test.false c.loop-name.invariant.0
