use Rattle.std.proofs.Common.{refl, sym, ap, ◌∙◌, subst, arith}
use Rattle.std.proofs.Math.Logic.{∥∥₁_elim}
use Rattle.std.proofs.Math.Nat.{ℕ_set}
use Rattle.ft_trace.specs.declared.Shape.{Shape}
use Rattle.ft_trace.specs.declared.View.{View}
use Rattle.ft_trace.specs.Acts.{announces, told_in, presence_of}
use Rattle.ft_bank.specs.Passes.{shape_of, view}
use Rattle.ft_engine.proofs.AtRest.{as_before, floored_steady, still_of, tokens_low}
use Rattle.ft_engine.proofs.Callers.{same_but_pass, steady_caller}
use Rattle.ft_engine.proofs.PassesAfter.{IsSteady}
use Rattle.ft_engine.proofs.ReadContents.{steady_all}
use Rattle.ft_engine.proofs.engine.Engine.take_floor.Goals as goal
use Rattle.ft_engine.proofs.Presences.{same_online}

pub take_floor-requires-clause-all : goal.take_floor-requires-clause-all
take_floor-requires-clause-all c =
    let p = c.args.caller.now.pass in
    let passes = (shape_of c.args.self.now.bank).passes in
    ∥∥₁_elim p.possible (ℕ_set (view p).tokens passes)
    (λ x.
    let low = tokens_low (view p) x in
    let all = c.requires.all in
    let same = ap (λ (k : Shape). k.passes) c.requires.caller.pass.1 in
    omega (arith, low, all, same))

steady : (c : goal.After-take_floor) → IsSteady (view c.args.caller.now.pass) (view c.take_floor.new.pass)
steady c =
    let v = view c.args.caller.now.pass in
    let d = c.take_floor.ensures.did in
    subst (IsSteady v) (sym d.2.1) (floored_steady v d.0 d.1 (still_of c.args.self.now c.args.caller.now c.requires.caller))

pub returns-clause-caller : goal.returns-clause-caller
returns-clause-caller c =
    let old = c.args.caller.now in
    let d = c.take_floor.ensures.did in
    steady_caller c.args.self.now old (record old { pass = c.take_floor.new.pass }) c.requires.caller (same_but_pass old c.take_floor.new.pass) (d.2.0 ∙ c.requires.caller.pass.0, ap (λ (v : View). v.shape) d.2.1 ∙ c.requires.caller.pass.1) d.2.2 (steady c)

pub returns-clause-same : goal.returns-clause-same
returns-clause-same c =
    let old = c.args.caller.now in
    let d = c.take_floor.ensures.did in
    as_before old (record old { pass = c.take_floor.new.pass }) (same_but_pass old c.take_floor.new.pass) d.2.2 (steady c) (ap (λ (v : View). announces v.log) d.2.1) (ap (λ (v : View). presence_of v.log) d.2.1)

pub returns-clause-floor : goal.returns-clause-floor
returns-clause-floor c = ap (λ (v : View). v.has_floor) c.take_floor.ensures.did.2.1

pub returns-clause-kept : goal.returns-clause-kept
returns-clause-kept c lists are =
    let old = c.args.caller.now in
    steady_all old (record old { pass = c.take_floor.new.pass }) lists (steady c) c.take_floor.ensures.did.2.2 refl (ap (λ (v : View). told_in v.log) c.take_floor.ensures.did.2.1) are

pub returns-clause-online : goal.returns-clause-online
returns-clause-online c =
    let old = c.args.caller.now in
    let is = c.take_floor.ensures.did.2.1 in
    let same = steady c in
    same_online old (record old { pass = c.take_floor.new.pass }) same.number same.lists (ap (λ (v : View). presence_of v.log) is) (ap (λ (v : View). told_in v.log) is)
