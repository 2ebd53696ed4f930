use Rattle.std.proofs.Common.{◌∙◌}
use Rattle.ft_run_threads.proofs.WholeLists.{still_taken}
use Rattle.ft_run_turns.specs.Internal.CallerSeats.{vec_lists}
use Rattle.ft_run_turns.proofs.ending.read_contents.Goals as goal

pub returns-clause-taken : goal.returns-clause-taken
returns-clause-taken c =
    let read = c.contents.ensures in
    let lists = vec_lists c.args.lists.now in
    still_taken c.args.engine.now c.args.script.now c.args.caller.now c.contents.new.caller lists c.requires.taken read.caller read.read.same (read.read.kept lists) read.read.online

pub returns-clause-floor : goal.returns-clause-floor
returns-clause-floor c = c.contents.ensures.read.floor.floor ∙ c.requires.floor
