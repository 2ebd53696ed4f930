use Rattle.std.proofs.Common.{◌<◌, ◌∙◌, ap, refl, sym, subst}
use Rattle.ft_trace.specs.declared.View.{View}
use Rattle.ft_trace.specs.Acts.{announces, presence_after_announcing, presence_of}
use Rattle.ft_bank.specs.Passes.{view}
use Rattle.ft_engine.proofs.Callers.{calm_kept, ready_of}
use Rattle.ft_engine.proofs.PassesAfter.{IsCalm, came_online, enters_calm}
use Rattle.ft_engine.proofs.engine.Engine.enter.Goals as goal

pub returns-clause-kept : goal.returns-clause-kept
returns-clause-kept c mine kept =
    let old = c.args.caller.now in
    let v = view old.pass in
    let d = c.enter.ensures.did in
    let calm = subst (IsCalm v) (sym d.1.1) (enters_calm v d.0 v.number (ready_of c.args.self.now old c.requires.caller c.requires.idle).inside.1.still) in
    calm_kept old (record old { pass = c.enter.new.pass }) mine calm d.1.2 refl kept

pub returns-clause-presence : goal.returns-clause-presence
returns-clause-presence c never =
    let d = c.enter.ensures.did in
    let some : 0 < d.0 = subst (λ (z : View). 0 < announces z.log) d.1.1 c.enter.ensures.online in
    ap (λ (z : View). presence_of z.log) d.1.1 ∙ (ap (presence_after_announcing d.0) never ∙ came_online d.0 some)
