use Rattle.ft_trace.specs.Addresses.{write_number}
use Rattle.ft_trace.proofs.Addresses.{at_low}
use Rattle.ft_bank.specs.Passes.{shape_of, view}
use Rattle.ft_bank.proofs.ReuseSteps.{number_some, write_number_keeps}
use Rattle.std.proofs.Common.{sym, subst}
use Rattle.ft_bank.specs.Takings.{KeepsBut, Each}
use Rattle.ft_bank.proofs.bank.Bank.write_number.Goals as goal

pub load_as-requires-clause-word : goal.load_as-requires-clause-word
load_as-requires-clause-word c = at_low (shape_of c.args.self.now) write_number tt

pub returns-clause-some : goal.returns-clause-some
returns-clause-some c = number_some (view c.args.pass.now) c.load_as.result c.load_as.ensures.acted

pub returns-clause-keeps : goal.returns-clause-keeps
returns-clause-keeps c =
    let v = view c.args.pass.now in
    subst (KeepsBut Each v) (sym c.load_as.ensures.did.1) (write_number_keeps v c.load_as.result c.load_as.ensures.acted)
