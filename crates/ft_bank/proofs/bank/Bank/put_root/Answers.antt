use Rattle.std.proofs.Common.{◌≡◌, ℕ, ◌+◌, ◌<◌, refl, sym, ap, ◌∙◌, subst}
use Rattle.ft_trace.specs.declared.Shape.{Shape}
use Rattle.ft_trace.specs.declared.View.{View}
use Rattle.ft_trace.specs.declared.Act.TheVariants.{PutRoot}
use Rattle.ft_trace.specs.Addresses.{container_count}
use Rattle.ft_trace.specs.Acts.{view_after}
use Rattle.ft_trace.specs.Pictures.{root_in}
use Rattle.ft_trace.specs.Holds.{held_words, held_unboxed}
use Rattle.ft_trace.specs.Traces.{Ready}
use Rattle.ft_bank.specs.Passes.{view, shape_of}
use Rattle.ft_bank.specs.Rules.{Acted}
use Rattle.ft_bank.specs.WriteSteps.{KeepsUnwritten, with_root, with_unboxed_root}
use Rattle.ft_bank.proofs.KnownAfterSteps.{keeps_unwritten}
use Rattle.ft_bank.proofs.WordsPut.{root_put, root_unboxed, root_moves}
use Rattle.ft_bank.proofs.Readying.{root_ready}
use Rattle.ft_bank.proofs.TableAddresses.{each_named}
use Rattle.ft_bank.specs.SameBoxes.{MovesReferences}
use Rattle.ft_bank.proofs.bank.Bank.put_root.Goals as goal

pub store_as-requires-clause-ready : goal.store_as-requires-clause-ready
store_as-requires-clause-ready c =
    let v = view c.args.pass.now in
    let low : c.args.o < container_count v.shape = subst (λ (z : Shape). c.args.o < container_count z) (sym c.requires.pass.1) c.requires.container in
    let tables = each_named (shape_of c.args.self.now) v.shape c.args.root c.requires.pass.1 c.requires.table in
    subst (λ (z : ℕ). Ready v (c.block_of-word.result + 2) (λ n. PutRoot c.args.o z (root_in (held_words c.args.o v)))) (sym c.root_value-value.ensures) (root_ready v (c.block_of-word.result + 2) c.args.o c.args.root low tables c.requires.may)

pub returns-clause-keeps : goal.returns-clause-keeps
returns-clause-keeps c =
    let v = view c.args.pass.now in
    subst (KeepsUnwritten v) (sym c.store_as.ensures.did.1) (keeps_unwritten v (PutRoot c.args.o c.root_value-value.result (root_in (held_words c.args.o v))) (λ p b. refl) c.store_as.ensures.acted)

pub returns-clause-held : goal.returns-clause-held
returns-clause-held c =
    let v = view c.args.pass.now in
    let old = root_in (held_words c.args.o v) in
    let low : c.args.o < container_count v.shape = subst (λ (z : Shape). c.args.o < container_count z) (sym c.requires.pass.1) c.requires.container in
    let tables = each_named (shape_of c.args.self.now) v.shape c.args.root c.requires.pass.1 c.requires.table in
    let acted = subst (λ (z : ℕ). Acted v (PutRoot c.args.o z old)) c.root_value-value.ensures c.store_as.ensures.acted in
    let is = c.store_as.ensures.did.1 ∙ ap (λ (z : ℕ). view_after (PutRoot c.args.o z old) v) c.root_value-value.ensures in
    subst (λ (w : View). held_words c.args.o w ≡ with_root (held_words c.args.o v) c.args.root v) (sym is) (root_put v c.args.o c.args.root old low tables c.requires.may.odd acted)

pub root_value-value-requires : goal.root_value-value-requires
root_value-value-requires c t e = let is = c.requires.table t e in (is.0, is.2)

pub returns-clause-unboxed : goal.returns-clause-unboxed
returns-clause-unboxed c =
    let v = view c.args.pass.now in
    let o = c.args.o in
    let old = root_in (held_words o v) in
    let low : o < container_count v.shape = subst (λ (z : Shape). o < container_count z) (sym c.requires.pass.1) c.requires.container in
    let tables = each_named (shape_of c.args.self.now) v.shape c.args.root c.requires.pass.1 c.requires.table in
    let acted = subst (λ (z : ℕ). Acted v (PutRoot o z old)) c.root_value-value.ensures c.store_as.ensures.acted in
    let is = c.store_as.ensures.did.1 ∙ ap (λ (z : ℕ). view_after (PutRoot o z old) v) c.root_value-value.ensures in
    subst (λ (w : View). held_unboxed o w ≡ with_unboxed_root (held_unboxed o v) o c.args.root v) (sym is) (root_unboxed v o c.args.root old low tables c.requires.may.odd acted)

pub returns-clause-moves : goal.returns-clause-moves
returns-clause-moves c =
    let v = view c.args.pass.now in
    let o = c.args.o in
    let old = root_in (held_words o v) in
    let low : o < container_count v.shape = subst (λ (z : Shape). o < container_count z) (sym c.requires.pass.1) c.requires.container in
    let tables = each_named (shape_of c.args.self.now) v.shape c.args.root c.requires.pass.1 c.requires.table in
    let acted = subst (λ (z : ℕ). Acted v (PutRoot o z old)) c.root_value-value.ensures c.store_as.ensures.acted in
    let is = c.store_as.ensures.did.1 ∙ ap (λ (z : ℕ). view_after (PutRoot o z old) v) c.root_value-value.ensures in
    subst (MovesReferences o v) (sym is) (root_moves v o _ old acted.2.1.3.8)
