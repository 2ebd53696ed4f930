use Rattle.std.proofs.Common.{ℕ, ◌<◌, ◌/◌, refl, sym, ◌∙◌, subst, arith}
use Rattle.ft_trace.specs.declared.Shape.{Shape}
use Rattle.ft_trace.specs.Addresses.{extent}
use Rattle.ft_bank.specs.Passes.{view, shape_of}
use Rattle.ft_bank.specs.TableNames.{table_id, IsTableIn}
use Rattle.ft_bank.specs.Takings.{KeepsBut, NotTable}
use Rattle.ft_bank.proofs.Freeing.{word_low, word_at, on_at, give_ready, give_keeps}
use Rattle.ft_bank.proofs.bank.Bank.set_bit.Goals as goal

pub give_as-requires-clause-word : goal.give_as-requires-clause-word
give_as-requires-clause-word c = subst (λ (w : ℕ). w < extent (shape_of c.args.self.now)) (sym c.free_word-word.ensures) (word_low (shape_of c.args.self.now) c.args.table.class (c.args.table.number / 64) c.requires.table.0 (let n = c.requires.table.2 in omega (arith, n)))

pub give_as-requires-clause-act : goal.give_as-requires-clause-act
give_as-requires-clause-act c n s = (word_at c.args.table (table_id c.args.table) c.requires.table.0 c.requires.table.2 refl ∙ sym c.free_word-word.ensures, λ m. on_at c.args.table (table_id c.args.table) m c.requires.table.2 refl)

pub give_as-requires-clause-ready : goal.give_as-requires-clause-ready
give_as-requires-clause-ready c =
    let v = view c.args.pass.now in
    give_ready v c.free_word-word.result (table_id c.args.table) c.args.table refl (subst (λ (z : Shape). IsTableIn z c.args.table) (sym c.requires.pass.1) c.requires.table) c.requires.may c.requires.idle

pub returns-clause-keeps : goal.returns-clause-keeps
returns-clause-keeps c =
    let v = view c.args.pass.now in
    subst (KeepsBut (NotTable c.args.table) v) (sym c.give_as.ensures.did.1) (give_keeps v c.args.table c.give_as.ensures.acted)
