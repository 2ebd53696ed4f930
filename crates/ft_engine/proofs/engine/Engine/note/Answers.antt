use Rattle.std.proofs.Common.{refl, sym, subst}
use Rattle.ft_bank.specs.Passes.{view}
use Rattle.ft_engine.proofs.Callers.{calm_kept, ready_of}
use Rattle.ft_engine.proofs.PassesAfter.{IsCalm, same_calm}
use Rattle.ft_engine.proofs.engine.Engine.note.Goals as goal

pub returns-clause-kept : goal.returns-clause-kept
returns-clause-kept c mine kept =
    let old = c.args.caller.now in
    let v = view old.pass in
    let d = c.note.ensures.pass in
    let calm = subst (IsCalm v) (sym d.1) (same_calm v (ready_of c.args.self.now old c.requires.caller c.requires.idle).inside.1.still) in
    calm_kept old (record old { pass = c.note.new.pass }) mine calm d.2 refl kept
