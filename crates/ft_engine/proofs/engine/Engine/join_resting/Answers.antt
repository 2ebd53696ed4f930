use Rattle.std.proofs.Common.{◌∙◌, ◌++◌, ap, refl, sym, arith}
use Rattle.ft_trace.specs.declared.View.{View}
use Rattle.ft_trace.specs.Floors.{at_floor}
use Rattle.ft_bank.specs.Floors.{rests}
use Rattle.ft_bank.specs.Passes.{view}
use Rattle.ft_engine.proofs.AtRest.{rest_free, rest_in}
use Rattle.ft_engine.proofs.Callers.{joined_caller}
use Rattle.ft_engine.proofs.KeptLists.{joined_state}
use Rattle.ft_engine.proofs.Presences.{joined_online}
use Rattle.ft_engine.proofs.SoFar.{all_answers_right}
use Rattle.ft_engine.proofs.engine.Engine.join_resting.Goals as goal

pub join_resting-requires-clause-free : goal.join_resting-requires-clause-free
join_resting-requires-clause-free c = let r = c.requires.other.1 in rest_free c.args.self.now r.0 c.args.other r.1 r.2 c.requires.done

pub returns-clause-caller : goal.returns-clause-caller
returns-clause-caller c =
    let x = c.join_resting.ensures.view in
    joined_caller c.args.self.now c.args.caller.now c.join_resting.new.pass (rests c.args.other.pass) x.0 c.requires.caller c.requires.idle c.join_resting.ensures.pass c.join_resting.ensures.sections x.1

pub returns-clause-kept : goal.returns-clause-kept
returns-clause-kept c mine theirs y at_rest are more next =
    let old = c.args.caller.now in
    let x = c.join_resting.ensures.view in
    joined_state old (record old { pass = c.join_resting.new.pass }) y mine theirs (rest_in (view old.pass) (view c.join_resting.new.pass) y c.args.other x.0 at_rest x.1) c.join_resting.ensures.sections refl
    (λ none. absurd (let e = y.pass.numbered in omega (arith, e, none))) (sym at_rest.flight ∙ c.requires.done.idle) are more next

pub returns-clause-floor : goal.returns-clause-floor
returns-clause-floor c =
    let x = c.join_resting.ensures.view in
    record { floor = ap (λ (v : View). v.has_floor) x.1; since = ap (λ (v : View). at_floor v.log) x.1 }

pub returns-clause-right : goal.returns-clause-right
returns-clause-right c mine theirs y at_rest are more next =
    let joined = record c.args.caller.now { pass = c.join_resting.new.pass } in
    all_answers_right joined (mine ++ theirs) c.requires.idle (returns-clause-kept c mine theirs y at_rest are more next)

pub returns-clause-online : goal.returns-clause-online
returns-clause-online c y at_rest were theirs next =
    let old = c.args.caller.now in
    let x = c.join_resting.ensures.view in
    joined_online old (record old { pass = c.join_resting.new.pass }) y (rest_in (view old.pass) (view c.join_resting.new.pass) y c.args.other x.0 at_rest x.1)
    (λ none. absurd (let e = y.pass.numbered in omega (arith, e, none))) were theirs next
