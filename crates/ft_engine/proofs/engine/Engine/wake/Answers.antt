use Rattle.ft_bank.specs.Floors.{rests}
use Rattle.ft_engine.specs.declared.caller.Caller.{Caller}
use Rattle.ft_engine.specs.Resting.{RestsAs}
use Rattle.ft_engine.proofs.AtRest.{woken_before, woken_caller, woken_has}
use Rattle.ft_engine.proofs.Callers.{HasSame}
use Rattle.ft_engine.proofs.engine.Engine.wake.Goals as goal

the_caller : goal.After-wake-pass → Caller
the_caller c = record { pass = c.wake-pass.result; cursors = c.args.resting.cursors; calls = c.args.resting.calls; made = c.args.resting.made; flight = c.args.resting.flight }

has_same : (c : goal.After-wake-pass) (x : Caller) → RestsAs x c.args.resting → HasSame x (the_caller c)
unfolding the_caller
has_same c x at_rest = record { cursors = at_rest.cursors; calls = at_rest.calls; made = at_rest.made; flight = at_rest.flight }

pub returns-clause-caller : goal.returns-clause-caller
unfolding the_caller
returns-clause-caller c =
    let r = c.requires.resting.1 in
    let x = c.wake-pass.ensures.view in
    woken_caller c.args.self.now r.0 c.args.resting c.args.tokens (the_caller c) x.0 x.1 r.1 r.2 x.2 c.wake-pass.ensures.sections (has_same c r.0 r.2) c.wake-pass.ensures.pass

pub returns-clause-same : goal.returns-clause-same
unfolding the_caller
returns-clause-same c y is at_rest =
    let x = c.wake-pass.ensures.view in
    woken_before c.args.self.now y c.args.resting c.args.tokens (the_caller c) x.0 x.1 is at_rest x.2 c.wake-pass.ensures.sections (has_same c y at_rest)

pub returns-clause-woken : goal.returns-clause-woken
unfolding the_caller
returns-clause-woken c =
    let x = c.wake-pass.ensures.view in
    woken_has (rests c.args.resting.pass) c.args.tokens (the_caller c) x.0 x.1 x.2 x.3
