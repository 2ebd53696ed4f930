use Rattle.std.proofs.Common.{refl}
use Rattle.ft_model.specs.Histories.{calls_of}
use Rattle.ft_run_threads.proofs.ScriptFacts.{ends_level}
use Rattle.ft_run_threads.proofs.Between.{gave_up, gave_up_member, visited, visited_member, worked}
use Rattle.ft_run_threads.proofs.working.work.Goals as goal

pub make_own-requires-clause-worker : goal.make_own-requires-clause-worker
make_own-requires-clause-worker g c κs within =
    let calls = calls_of c.args.script.now c.args.thread in
    (visited c.args.engine.now c.args.thread calls 0 c.args.worker.now _ c.requires.worker.0 c.enter.ensures.same c.enter.ensures.caller refl c.enter.ensures.kept, c.enter.ensures.online, c.enter.ensures.presence c.requires.worker.1)

pub returns-then-make_own : goal.returns-then-make_own
returns-then-make_own g c =
    let script = c.args.script.now in
    let i = c.args.thread in
    let x = c.leave.ensures in
    worked c.args.engine.now script i (calls_of script i) c.make_own.new.worker _ refl (ends_level script i c.parts-parts.ensures.rule) (c.make_own.ensures.made c.if-make_own.true).0 x.same x.caller refl x.kept x.offline x.merged (x.presence (c.make_own.ensures.made c.if-make_own.true).2)

pub returns-else-make_own : goal.returns-else-make_own
returns-else-make_own g c =
    let e = c.args.engine.now in
    let i = c.args.thread in
    let given = gave_up_member e i c.make_own.new.worker.caller c.abandon.new.caller c.make_own.ensures.member c.abandon.ensures.same c.abandon.ensures.caller in
    gave_up e c.args.script.now i _ (visited_member e i c.abandon.new.caller c.leave-else-make_own.new.caller given c.leave-else-make_own.ensures.same c.leave-else-make_own.ensures.caller) refl
