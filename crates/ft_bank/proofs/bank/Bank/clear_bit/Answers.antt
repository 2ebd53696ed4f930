use Rattle.std.proofs.Common.{◌≡◌, ◌≢◌, ℕ, ◌<◌, ◌/◌, refl, sym, ap, ◌∙◌, subst, arith}
use Rattle.ft_trace.specs.declared.Act.TheVariants.{TakeTable}
use Rattle.ft_trace.specs.declared.Shape.{Shape}
use Rattle.ft_trace.specs.Addresses.{extent, free_bit_of}
use Rattle.ft_trace.specs.Acts.{view_after}
use Rattle.ft_trace.specs.Bits.{bit}
use Rattle.ft_bank.specs.Passes.{view, shape_of}
use Rattle.ft_bank.specs.Rules.{Acted}
use Rattle.ft_bank.specs.TableNames.{table_id, IsTableIn}
use Rattle.ft_bank.proofs.Freeing.{word_low, word_at, off_at, bit_read, take_ready, found_has, found_keeps, lost_has, lost_stays}
use Rattle.ft_bank.proofs.bank.Bank.clear_bit.Goals as goal

pub mask_as-found-requires-clause-word : goal.mask_as-found-requires-clause-word
mask_as-found-requires-clause-word c = subst (λ (w : ℕ). w < extent (shape_of c.args.self.now)) (sym c.free_word-word.ensures) (word_low (shape_of c.args.self.now) c.args.table.class (c.args.table.number / 64) c.requires.table.0 (let n = c.requires.table.2 in omega (arith, n)))

pub mask_as-found-requires-clause-act : goal.mask_as-found-requires-clause-act
mask_as-found-requires-clause-act c n s = (word_at c.args.table c.name.result c.requires.table.0 c.requires.table.2 c.name.ensures ∙ sym c.free_word-word.ensures, λ m. off_at c.args.table c.name.result m c.requires.table.2 c.name.ensures)

pub mask_as-found-requires-clause-ready : goal.mask_as-found-requires-clause-ready
mask_as-found-requires-clause-ready c =
    let v = view c.args.pass.now in
    take_ready v c.free_word-word.result c.name.result c.args.table c.name.ensures (subst (λ (z : Shape). IsTableIn z c.args.table) (sym c.requires.pass.1) c.requires.table) c.requires.apart c.requires.lowered

pub returns-then-found-bit-eq1-clause-did : goal.returns-then-found-bit-eq1-clause-did
returns-then-found-bit-eq1-clause-did c =
    let v = view c.args.pass.now in
    let e = c.mask_as-found.ensures.did in
    let is = e.1.1 ∙ ap (λ (z : ℕ). view_after (TakeTable z c.mask_as-found.result e.0) v) c.name.ensures in
    (c.mask_as-found.result, e.0, (e.1.0, is, e.1.2), (refl, bit_read c.args.table c.mask_as-found.result c.requires.table.2 ∙ c.if-found-bit-eq1.true))

pub returns-then-found-bit-eq1-clause-has : goal.returns-then-found-bit-eq1-clause-has
returns-then-found-bit-eq1-clause-has c =
    let v = view c.args.pass.now in
    let e = c.mask_as-found.ensures.did in
    let q = c.args.table in
    let f = c.mask_as-found.result in
    let is = e.1.1 ∙ ap (λ (z : ℕ). view_after (TakeTable z f e.0) v) c.name.ensures in
    let acted = subst (λ (z : ℕ). Acted v (TakeTable z f e.0)) c.name.ensures e.2 in
    found_has v (view c.mask_as-found.new.pass) q f e.0 is acted (shape_of c.args.self.now) c.requires.table c.requires.apart (bit_read q f c.requires.table.2 ∙ c.if-found-bit-eq1.true)

pub returns-then-found-bit-eq1-clause-keeps : goal.returns-then-found-bit-eq1-clause-keeps
returns-then-found-bit-eq1-clause-keeps c =
    let v = view c.args.pass.now in
    let e = c.mask_as-found.ensures.did in
    let q = c.args.table in
    let f = c.mask_as-found.result in
    let is = e.1.1 ∙ ap (λ (z : ℕ). view_after (TakeTable z f e.0) v) c.name.ensures in
    let acted = subst (λ (z : ℕ). Acted v (TakeTable z f e.0)) c.name.ensures e.2 in
    found_keeps v (view c.mask_as-found.new.pass) q f e.0 is acted

pub returns-else-found-bit-eq1-clause-did : goal.returns-else-found-bit-eq1-clause-did
returns-else-found-bit-eq1-clause-did c =
    let v = view c.args.pass.now in
    let e = c.mask_as-found.ensures.did in
    let q = c.args.table in
    let f = c.mask_as-found.result in
    let is = e.1.1 ∙ ap (λ (z : ℕ). view_after (TakeTable z f e.0) v) c.name.ensures in
    let off : bit (free_bit_of (table_id q)) f ≢ 1 = λ one. c.if-found-bit-eq1.false (sym (bit_read q f c.requires.table.2) ∙ one) in
    (f, e.0, (e.1.0, is, e.1.2), (refl, refl, (λ same. off (subst (λ (z : ℕ). bit (free_bit_of (table_id q)) z ≡ 1) same c.requires.set)), off))

pub returns-else-found-bit-eq1-clause-has : goal.returns-else-found-bit-eq1-clause-has
returns-else-found-bit-eq1-clause-has c =
    let v = view c.args.pass.now in
    let e = c.mask_as-found.ensures.did in
    let q = c.args.table in
    let f = c.mask_as-found.result in
    let is = e.1.1 ∙ ap (λ (z : ℕ). view_after (TakeTable z f e.0) v) c.name.ensures in
    let acted = subst (λ (z : ℕ). Acted v (TakeTable z f e.0)) c.name.ensures e.2 in
    lost_has v (view c.mask_as-found.new.pass) q f e.0 is acted (shape_of c.args.self.now) c.args.loaded f (λ one. c.if-found-bit-eq1.false (sym (bit_read q f c.requires.table.2) ∙ one))

pub returns-else-found-bit-eq1-clause-keeps : goal.returns-else-found-bit-eq1-clause-keeps
returns-else-found-bit-eq1-clause-keeps c =
    let v = view c.args.pass.now in
    let e = c.mask_as-found.ensures.did in
    let q = c.args.table in
    let f = c.mask_as-found.result in
    let is = e.1.1 ∙ ap (λ (z : ℕ). view_after (TakeTable z f e.0) v) c.name.ensures in
    let acted = subst (λ (z : ℕ). Acted v (TakeTable z f e.0)) c.name.ensures e.2 in
    lost_stays v (view c.mask_as-found.new.pass) q f e.0 is acted (λ one. c.if-found-bit-eq1.false (sym (bit_read q f c.requires.table.2) ∙ one))
