use Rattle.ft_script.proofs.Printed.{entry_line-pieces}
use Rattle.ft_script.proofs.print.push_entry_line.Goals as goal

pub returns : goal.returns
returns c =
    entry_line-pieces _ _ _ _ _ _ _ _ _ _ c.args.script.now c.args.entry.now
    c.in_ok-push_place.ensures c.in_ok-push.ensures.items c.in_ok-push_stamp.ensures c.in_ok-push-2.ensures.items c.in_ok-push_call.ensures
    c.in_ok-extend_from_slice.ensures.items c.in_ok-push_reply.ensures c.in_ok-push_mark.ensures c.in_ok-push-3.ensures.items
