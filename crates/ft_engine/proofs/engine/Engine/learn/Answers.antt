use Rattle.std.proofs.Common.{refl, sym, subst}
use Rattle.ft_bank.specs.Notes.{says, told_by}
use Rattle.ft_bank.specs.Passes.{view}
use Rattle.ft_engine.proofs.Callers.{calm_caller, calm_kept, ready_of}
use Rattle.ft_engine.proofs.PassesAfter.{IsCalm, learnt_calm}
use Rattle.ft_engine.proofs.engine.Engine.learn.Goals as goal

calm : (c : goal.After-learn) → IsCalm (view c.args.caller.now.pass) (view c.learn.new.pass)
calm c =
    let old = c.args.caller.now in
    let v = view old.pass in
    let x = c.learn.ensures.view in
    subst (IsCalm v) (sym x.1) (learnt_calm v (says c.args.note) x.0 (told_by c.args.note) (ready_of c.args.self.now old c.requires.caller c.requires.idle).inside.1.still)

pub returns-clause-caller : goal.returns-clause-caller
returns-clause-caller c = calm_caller c.args.self.now c.args.caller.now c.learn.new.pass c.requires.caller c.requires.idle c.learn.ensures.pass c.learn.ensures.sections (calm c)

pub returns-clause-kept : goal.returns-clause-kept
returns-clause-kept c mine kept =
    let old = c.args.caller.now in
    calm_kept old (record old { pass = c.learn.new.pass }) mine (calm c) c.learn.ensures.sections refl kept
