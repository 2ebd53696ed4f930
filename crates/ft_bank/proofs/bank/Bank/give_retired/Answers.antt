use Rattle.std.proofs.Common.{ℕ, ◌+◌, ◌*◌, ap, ◌∙◌, inr}
use Rattle.ft_trace.specs.declared.View.{View}
use Rattle.ft_trace.specs.Acts.{flight}
use Rattle.ft_bank.proofs.TableAddresses.{class_is}
use Rattle.ft_bank.proofs.bank.Bank.give_retired.Goals as goal

pub raise_count-requires-clause-flight : goal.raise_count-requires-clause-flight
raise_count-requires-clause-flight c =
    let class = class_is c.args.table c.requires.table.2 in
    inr (ap (λ (u : View). flight u.log) c.set_bit.ensures.did.1 ∙ ap (λ (z : ℕ). 2 * z + 2) class)
