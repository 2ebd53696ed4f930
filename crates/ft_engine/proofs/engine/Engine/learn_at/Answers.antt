use Rattle.std.proofs.Common.{◌+◌}
use Rattle.std.specs.Prelude.{None}
use Rattle.ft_model.specs.Calls.{moved_cursor}
use Rattle.ft_model.specs.declared.reply.Reply.TheVariants as reply
use Rattle.ft_bank.specs.Passes.{view}
use Rattle.ft_bank_history.proofs.SoFar.{memory_errors_are_found}
use Rattle.ft_engine.specs.declared.attempts.Tried.TheVariants as tried
use Rattle.ft_engine.specs.Attempts.{entries_with_answer}
use Rattle.ft_engine.specs.Callers.{thread_of}
use Rattle.ft_engine.proofs.AtOnce.{done_ready}
use Rattle.ft_engine.proofs.Callers.{ready_of}
use Rattle.ft_engine.proofs.Keeping.{no_answer_idle}
use Rattle.ft_engine.proofs.SoFar.{answers_right}
use Rattle.ft_engine.proofs.engine.Engine.learn_at.Goals as goal
use Rattle.std.proofs.Common.{ap}

pub learn_answer-stamp-requires-clause-ready : goal.learn_answer-stamp-requires-clause-ready
learn_answer-stamp-requires-clause-ready c = ready_of c.args.self.now c.args.caller.now c.requires.caller c.requires.may.idle

pub returns-clause-tried : goal.returns-clause-tried
returns-clause-tried c =
    let t = c.learn_answer-stamp.ensures in
    done_ready c.args.self.now c.args.caller.now c.learn_answer-stamp.new.pass c.args.call.now reply.Done c.learn_answer-stamp.result c.requires.caller c.requires.may.idle c.requires.may.left (ap moved_cursor c.requires.may.told.await) t.ready t.tried

pub returns-clause-right : goal.returns-clause-right
returns-clause-right c mine kept =
    let t = c.learn_answer-stamp.ensures in
    let old = c.args.caller.now in
    let done = done_ready c.args.self.now old c.learn_answer-stamp.new.pass c.args.call.now reply.Done c.learn_answer-stamp.result c.requires.caller c.requires.may.idle c.requires.may.left (ap moved_cursor c.requires.may.told.await) t.ready t.tried in
    answers_right (record old { pass = c.learn_answer-stamp.new.pass; made = old.made + 1 }) (entries_with_answer (thread_of old) c.args.call.now (tried.Done reply.Done c.learn_answer-stamp.result None) mine) (no_answer_idle old.flight c.requires.may.idle) (done.kept mine kept)

pub returns-clause-found_none : goal.returns-clause-found_none
returns-clause-found_none c = memory_errors_are_found (view c.learn_answer-stamp.new.pass)
