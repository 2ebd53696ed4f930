use Rattle.std.proofs.Common.{sym, ap, subst}
use Rattle.ft_trace.specs.declared.View.{View}
use Rattle.ft_trace.specs.Acts.{announces, presence_of}
use Rattle.ft_trace.specs.Floors.{at_floor}
use Rattle.ft_bank.specs.Floors.{carried}
use Rattle.ft_bank.specs.Passes.{view}
use Rattle.ft_engine.proofs.AtRest.{as_before, gathered_steady, still_of}
use Rattle.ft_engine.proofs.Callers.{same_but_pass, steady_caller}
use Rattle.ft_engine.proofs.PassesAfter.{IsSteady}
use Rattle.ft_engine.proofs.engine.Engine.gather.Goals as goal

steady : (c : goal.After-gather) → IsSteady (view c.args.caller.now.pass) (view c.gather.new.pass)
steady c =
    let v = view c.args.caller.now.pass in
    let x = c.gather.ensures.view in
    subst (IsSteady v) (sym x.1) (gathered_steady v (carried c.args.tokens) x.0 c.args.tokens.blank (still_of c.args.self.now c.args.caller.now c.requires.caller))

pub returns-clause-caller : goal.returns-clause-caller
returns-clause-caller c =
    let old = c.args.caller.now in
    steady_caller c.args.self.now old (record old { pass = c.gather.new.pass }) c.requires.caller (same_but_pass old c.gather.new.pass) c.gather.ensures.pass c.gather.ensures.sections (steady c)

pub returns-clause-same : goal.returns-clause-same
returns-clause-same c =
    let old = c.args.caller.now in
    as_before old (record old { pass = c.gather.new.pass }) (same_but_pass old c.gather.new.pass) c.gather.ensures.sections (steady c) (ap (λ (v : View). announces v.log) c.gather.ensures.view.1) (ap (λ (v : View). presence_of v.log) c.gather.ensures.view.1)

pub returns-clause-floor : goal.returns-clause-floor
returns-clause-floor c = record { floor = ap (λ (v : View). v.has_floor) c.gather.ensures.view.1; since = ap (λ (v : View). at_floor v.log) c.gather.ensures.view.1 }

pub returns-clause-tokens : goal.returns-clause-tokens
returns-clause-tokens c = ap (λ (v : View). v.tokens) c.gather.ensures.view.1
