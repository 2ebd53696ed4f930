use Rattle.std.proofs.Common.{◌+◌}
use Rattle.ft_script.proofs.MadeLines.{call_added, last_number, number_drawn, thread_line_added}
use Rattle.ft_script.proofs.generator.push_thread.Goals as goal

pub loop-preserved : goal.loop-preserved
loop-preserved c =
    let drawn = number_drawn c.args.first c.loop.counter c.loop.number c.drawn_after-number.result c.loop.invariant.0 c.drawn_after-number.ensures in
    (drawn, call_added c.args.first c.loop.counter c.drawn_after-number.result c.push-2.new.self.items c.loop.out.items c.push_call.new.out.items drawn c.loop.invariant.1 c.in_ok-push_call.ensures)

pub returns-clause-lines : goal.returns-clause-lines
returns-clause-lines c =
    thread_line_added (65 + c.args.thread) c.args.first c.loop.counter c.args.calls c.args.out.now.items c.extend_from_slice.new.self.items c.push.new.self.items c.push-2.new.self.items c.loop.out.items c.loop.auto.counter-end c.loop-test.false
    c.in_ok-extend_from_slice.ensures.items c.in_ok-push.ensures.items c.in_ok-push-2.ensures.items c.loop.invariant.1

pub returns-clause-number : goal.returns-clause-number
returns-clause-number c = last_number c.args.first c.loop.counter c.args.calls c.loop.number c.loop.auto.counter-end c.loop-test.false c.loop.invariant.0
