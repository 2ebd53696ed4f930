use Rattle.std.proofs.Common.{refl}
use Rattle.ft_bank.specs.Passes.{view}
use Rattle.ft_bank.proofs.KnownAfterSteps.{loaded_low}
use Rattle.ft_bank.proofs.bank.Bank.answer_cursor.Goals as goal

pub answer_cursor_as-requires-clause-ready : goal.answer_cursor_as-requires-clause-ready
answer_cursor_as-requires-clause-ready c es id knows small =
    let s = c.requires.shown in
    (tt, (s.moved, loaded_low (view c.args.pass.now) c.args.stamp s.loaded es id knows, s.moves es id knows, s.loaded, refl, s.left))
