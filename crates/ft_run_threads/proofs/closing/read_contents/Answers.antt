use Rattle.std.proofs.Common.{map, ◌∙◌}
use Rattle.std.specs.declared.alloc.Global.{Global}
use Rattle.std.specs.Prelude.{Vec}
use Rattle.ft_model.specs.declared.entry.Entry.{Entry}
use Rattle.ft_run_threads.proofs.WholeLists.{still_taken}
use Rattle.ft_run_threads.proofs.closing.read_contents.Goals as goal

pub returns-clause-taken : goal.returns-clause-taken
returns-clause-taken c =
    let e = c.args.engine.now in
    let script = c.args.script.now in
    let lists = map (λ (list : Vec Entry Global). list.items) c.args.lists.now in
    let floored = c.take_floor.ensures in
    let read = c.contents.ensures in
    let before = still_taken e script c.args.caller.now c.take_floor.new.caller lists c.requires.taken floored.caller floored.same (floored.kept lists) floored.online in
    still_taken e script c.take_floor.new.caller c.contents.new.caller lists before read.caller read.read.same (read.read.kept lists) read.read.online

pub returns-clause-floor : goal.returns-clause-floor
returns-clause-floor c = c.contents.ensures.read.floor.floor ∙ c.take_floor.ensures.floor
