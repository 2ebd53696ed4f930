use Rattle.std.proofs.Common.{ℕ, ◌<◌, sym, subst}
use Rattle.ft_trace.specs.Addresses.{count_of_class, extent}
use Rattle.ft_trace.proofs.Addresses.{at_low}
use Rattle.ft_bank.specs.Passes.{shape_of, view}
use Rattle.ft_bank.specs.Takings.{KeepsBut, Each}
use Rattle.ft_bank.proofs.Freeing.{count_keeps}
use Rattle.ft_bank.proofs.bank.Bank.read_count.Goals as goal

pub load_as-requires-clause-word : goal.load_as-requires-clause-word
load_as-requires-clause-word c = subst (λ (w : ℕ). w < extent (shape_of c.args.self.now)) (sym c.free_count_word-word.ensures) (at_low (shape_of c.args.self.now) (count_of_class c.args.class) c.requires.class)

pub returns-clause-keeps : goal.returns-clause-keeps
returns-clause-keeps c =
    let v = view c.args.pass.now in
    subst (KeepsBut Each v) (sym c.load_as.ensures.did.1) (count_keeps v _ c.load_as.result c.load_as.ensures.acted)
