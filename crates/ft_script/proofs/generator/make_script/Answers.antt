use Rattle.ft_script.proofs.MadeLines.{number_past, thread_added}
use Rattle.ft_script.proofs.generator.make_script.Goals as goal

pub loop-thread-preserved : goal.loop-thread-preserved
loop-thread-preserved c = (
  number_past c.args.calls c.loop-thread.thread c.share.result c.loop-thread.number c.in_ok-number.number c.loop-thread.invariant.0 c.share.ensures c.in_ok-number.ensures.number,
  thread_added c.args.calls c.loop-thread.thread c.loop-thread.number c.share.result c.extend_from_slice.new.self.items c.loop-thread.text.items c.push_thread.new.out.items c.loop-thread.invariant.0 c.share.ensures c.loop-thread.invariant.1 c.in_ok-number.ensures.lines,
)
