use Rattle.std.proofs.lemmas.Result.{on_ok_weaker}
use Rattle.ft_script.proofs.PrintedLines.{thread_lines_printed}
use Rattle.ft_script.proofs.script_text.push_thread_lines.Goals as goal

pub returns : goal.returns
returns c =
    on_ok_weaker c.push_calls.result
    (thread_lines_printed c.args.out.now.items c.extend_from_slice.new.self.items c.extend_from_slice-2.new.self.items c.push.new.self.items c.push_calls.new.out.items c.as_slice.result.now c.as_slice-2.result.now c.args.script.now c.args.place c.args.thread.now
    c.as_slice.ensures c.as_slice-2.ensures c.in_ok-extend_from_slice.ensures.items c.in_ok-extend_from_slice-2.ensures.items c.in_ok-push.ensures.items)
    c.push_calls.ensures
