use Rattle.std.proofs.Common.{subst}
use Rattle.ft_bank.specs.Passes.{IsPassOf}
use Rattle.ft_new_keys.proofs.FilledTables.{ran_fresh}
use Rattle.ft_replacing.proofs.sharing.rebuild_in.Goals as goal

pub returns-clause-pass : goal.returns-clause-pass
returns-clause-pass c = let m = c.rebuild.ensures.moves in (ran_fresh c.args.words.now m.calls c.rebuild.new.words m.runs).pass

pub returns-clause-stack : goal.returns-clause-stack
returns-clause-stack c = let m = c.rebuild.ensures.moves in (ran_fresh c.args.words.now m.calls c.rebuild.new.words m.runs).stack

pub returns-clause-only : goal.returns-clause-only
returns-clause-only c = let m = c.rebuild.ensures.moves in (ran_fresh c.args.words.now m.calls c.rebuild.new.words m.runs).only

pub returns-clause-may : goal.returns-clause-may
returns-clause-may c =
    let m = c.rebuild.ensures.moves in
    let r = ran_fresh c.args.words.now m.calls c.rebuild.new.words m.runs in
    subst (λ b. IsPassOf b.now c.rebuild.new.words.pass.now) r.bank c.rebuild.ensures.can.0.pass
