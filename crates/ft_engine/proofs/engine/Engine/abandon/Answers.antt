use Rattle.ft_bank.specs.Passes.{view}
use Rattle.ft_engine.proofs.GivingUp.{abandoned_caller, abandoned_kept, in_call_of}
use Rattle.ft_engine.proofs.SectionCalls.{only_nothing}
use Rattle.ft_engine.proofs.engine.Engine.abandon.Goals as goal

pub drop_all-requires : goal.drop_all-requires
drop_all-requires c = in_call_of c.args.self.now.bank c.args.caller.now.pass c.args.caller.now.cursors.items c.args.caller.now.flight c.requires.inside

pub returns-clause-caller : goal.returns-clause-caller
returns-clause-caller c = abandoned_caller c.args.self.now c.args.caller.now c.drop_all.new.pass c.requires c.drop_all.ensures.locked c.drop_all.ensures.ready

pub returns-clause-same : goal.returns-clause-same
returns-clause-same c = only_nothing (view c.args.caller.now.pass) (view c.drop_all.new.pass) c.drop_all.ensures.locked

pub returns-clause-kept : goal.returns-clause-kept
returns-clause-kept c mine unanswered none names kept = abandoned_kept c.args.caller.now c.drop_all.new.pass mine c.drop_all.ensures.locked c.drop_all.ensures.owners c.drop_all.ensures.stack unanswered none names kept
