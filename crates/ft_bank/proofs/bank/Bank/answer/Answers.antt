use Rattle.ft_bank.specs.Passes.{view}
use Rattle.ft_bank.proofs.KnownAfterSteps.{loaded_low}
use Rattle.ft_bank.proofs.bank.Bank.answer.Goals as goal

pub answer_as-requires-clause-ready : goal.answer_as-requires-clause-ready
answer_as-requires-clause-ready c es id knows small =
    let s = c.requires.shown in
    (tt, (s.read, loaded_low (view c.args.pass.now) c.args.number s.loaded es id knows, s.replied es id knows, s.loaded, s.cause es id knows, s.left, s.no_cursor es id knows))
