use Rattle.std.proofs.Common.{◌∙◌, ap}
use Rattle.std.proofs.lemmas.Result.{on_ok_weaker}
use Rattle.ft_script.specs.Awaits.{has_awaits}
use Rattle.ft_script.proofs.PrintedLines.{script_printed}
use Rattle.ft_script.proofs.script_text.push_script.Goals as goal

pub returns : goal.returns
returns c =
    on_ok_weaker c.push_order.result
    (script_printed c.args.out.now.items c.push_version.new.out.items c.push_containers.new.out.items c.push_tables.new.out.items c.push_line.new.out.items c.push_threads.new.out.items c.push_order.new.out.items c.args.script.now c.has_awaits.result c.as_slice-2.result.now c.as_slice-3.result.now c.from.result
    (c.has_awaits.ensures ∙ ap has_awaits c.as_slice.ensures) c.as_slice-2.ensures c.as_slice-3.ensures c.from.ensures c.in_ok-push_version.ensures c.in_ok-push_containers.ensures c.in_ok-push_tables.ensures c.in_ok-push_line.ensures c.in_ok-push_threads.ensures)
    c.push_order.ensures
