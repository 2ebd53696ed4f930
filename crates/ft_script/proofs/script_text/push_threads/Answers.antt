use Rattle.ft_script.proofs.PrintedLines.{thread_printed}
use Rattle.ft_script.proofs.script_text.push_threads.Goals as goal

pub loop-place-preserved : goal.loop-place-preserved
loop-place-preserved c =
    thread_printed c.args.out.now.items c.loop-place.out.items c.push_thread_lines.new.out.items c.args.script.now c.args.script.now.threads c.loop-place.place c.index-threads-place.result
    (rw c.as_slice-threads.ensures at c.loop-place-test.true) (rw c.as_slice-threads.ensures at c.index-threads-place.is) c.loop-place.invariant c.in_ok-push_thread_lines.ensures
