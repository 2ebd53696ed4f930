use Rattle.std.proofs.Common.{◌≡◌, ℕ, ◌+◌, ◌*◌, ◌<◌, sym, ap, ◌∙◌, subst, arith}
use Rattle.ft_trace.specs.declared.Act.TheVariants.{ReadFree}
use Rattle.ft_trace.specs.declared.Shape.{Shape}
use Rattle.ft_trace.specs.Addresses.{extent}
use Rattle.ft_trace.specs.Acts.{view_after}
use Rattle.ft_bank.specs.Passes.{view, shape_of}
use Rattle.ft_bank.specs.declared.table.Table.{Table}
use Rattle.ft_bank.specs.Rules.{Acted}
use Rattle.ft_bank.specs.Takings.{KeepsBut, Each, IsUnclaimed, word_of_class}
use Rattle.ft_bank.proofs.Freeing.{word_low, free_keeps, unclaimed}
use Rattle.ft_bank.proofs.bank.Bank.read_free.Goals as goal

pub load_as-requires-clause-word : goal.load_as-requires-clause-word
load_as-requires-clause-word c = subst (λ (w : ℕ). w < extent (shape_of c.args.self.now)) (sym c.free_word.ensures) (word_low (shape_of c.args.self.now) c.args.class c.args.word c.requires.class c.requires.word)

pub returns-clause-free : goal.returns-clause-free
returns-clause-free c n small one =
    let v = view c.args.pass.now in
    let number : c.from-number.result ≡ word_of_class c.args.class c.args.word = omega (arith, c.from-number.ensures) in
    let acted : Acted v (ReadFree (word_of_class c.args.class c.args.word) c.load_as.result) = subst (λ (z : ℕ). Acted v (ReadFree z c.load_as.result)) number c.load_as.ensures.acted in
    let is : view c.load_as.new.pass ≡ view_after (ReadFree (word_of_class c.args.class c.args.word) c.load_as.result) v = c.load_as.ensures.did.1 ∙ ap (λ (z : ℕ). view_after (ReadFree z c.load_as.result) v) number in
    let q : Table = record { class = c.args.class; number = 64 * c.args.word + n } in
    subst (λ (z : Shape). IsUnclaimed z q (view c.load_as.new.pass)) c.requires.pass.1
    (subst (IsUnclaimed v.shape q) (sym is) (unclaimed v c.args.class c.args.word c.load_as.result n c.requires.class c.requires.word small one acted))

pub returns-clause-keeps : goal.returns-clause-keeps
returns-clause-keeps c =
    let v = view c.args.pass.now in
    subst (KeepsBut Each v) (sym c.load_as.ensures.did.1) (free_keeps v c.from-number.result c.load_as.result c.load_as.ensures.acted)
