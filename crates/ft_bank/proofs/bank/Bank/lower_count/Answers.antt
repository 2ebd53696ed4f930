use Rattle.std.proofs.Common.{ℕ, ◌<◌, sym, subst}
use Rattle.ft_trace.specs.Addresses.{count_of_class, extent}
use Rattle.ft_trace.proofs.Addresses.{at_low}
use Rattle.ft_bank.specs.Passes.{shape_of, view}
use Rattle.ft_bank.specs.Takings.{KeepsBut, Each}
use Rattle.ft_bank.proofs.Freeing.{lower_keeps}
use Rattle.ft_bank.proofs.bank.Bank.lower_count.Goals as goal

pub exchange_as-requires-clause-word : goal.exchange_as-requires-clause-word
exchange_as-requires-clause-word c = subst (λ (w : ℕ). w < extent (shape_of c.args.self.now)) (sym c.free_count_word-word.ensures) (at_low (shape_of c.args.self.now) (count_of_class c.args.class) c.requires.class)

pub returns-clause-keeps : goal.returns-clause-keeps
returns-clause-keeps c =
    let v = view c.args.pass.now in
    subst (KeepsBut Each v) (sym c.exchange_as.ensures.did.1) (lower_keeps v _ _ c.exchange_as.result c.exchange_as.ensures.acted)
