use Rattle.std.proofs.Common.{rules, IsTrue, ◌<◌}
use Rattle.ft_engine.specs.Callers.{left_of, thread_of}
use Rattle.ft_engine_tests.proofs.AwaitedNotes.{may_learn}
use Rattle.ft_engine_tests.proofs.awaiting.await_first.Goals as goal

-- src/awaiting.rt:145:9
pub learn_at-stamp-requires-clause-may : goal.learn_at-stamp-requires-clause-may
learn_at-stamp-requires-clause-may c =
    let can_look : IsTrue c.can_look.result = search rules in
    let can = c.can_look.ensures can_look in
    let left : 0 < left_of c.args.worker.now.caller = search rules in
    let later : 0 < thread_of c.args.worker.now.caller = search rules in
    may_learn c.args.engine.now c.args.worker.now.caller c.args.note can.2 (c.requires.worker.1 can.0) left later
    c.requires.note.0 c.requires.note.1
