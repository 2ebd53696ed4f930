use Rattle.std.proofs.Common.{◌≡◌, ◌<◌, refl, sym, subst}
use Rattle.ft_trace.specs.declared.Shape.{Shape}
use Rattle.ft_trace.specs.declared.View.{View}
use Rattle.ft_trace.specs.declared.Act.TheVariants.{PutBlock}
use Rattle.ft_trace.specs.Addresses.{container_count}
use Rattle.ft_trace.specs.Holds.{held_words, held_unboxed}
use Rattle.ft_bank.specs.Passes.{view}
use Rattle.ft_bank.specs.WriteSteps.{KeepsUnwritten, with_block}
use Rattle.ft_bank.proofs.KnownAfterSteps.{keeps_unwritten}
use Rattle.ft_bank.proofs.WordsPut.{block_put, block_unboxed, block_moves}
use Rattle.ft_bank.proofs.BoxedSteps.{block_boxes}
use Rattle.ft_bank.specs.SameBoxes.{SameBoxes, MovesReferences}
use Rattle.ft_bank.proofs.bank.Bank.put_block.Goals as goal

pub returns-clause-keeps : goal.returns-clause-keeps
returns-clause-keeps c =
    let v = view c.args.pass.now in
    subst (KeepsUnwritten v) (sym c.store_as.ensures.did.1) (keeps_unwritten v (PutBlock c.args.o c.args.word c.args.value) (λ p b. refl) c.store_as.ensures.acted)

pub returns-clause-held : goal.returns-clause-held
returns-clause-held c =
    let v = view c.args.pass.now in
    let low : c.args.o < container_count v.shape = subst (λ (z : Shape). c.args.o < container_count z) (sym c.requires.pass.1) c.requires.container in
    subst (λ (w : View). held_words c.args.o w ≡ with_block (held_words c.args.o v) c.args.word c.args.value) (sym c.store_as.ensures.did.1) (block_put v c.args.o c.args.word c.args.value low c.requires.word.0 c.requires.word.1 c.requires.odd c.store_as.ensures.acted)

pub returns-clause-unboxed : goal.returns-clause-unboxed
returns-clause-unboxed c =
    let v = view c.args.pass.now in
    let low : c.args.o < container_count v.shape = subst (λ (z : Shape). c.args.o < container_count z) (sym c.requires.pass.1) c.requires.container in
    subst (λ (w : View). held_unboxed c.args.o w ≡ with_block (held_unboxed c.args.o v) c.args.word c.args.value) (sym c.store_as.ensures.did.1) (block_unboxed v c.args.o c.args.word c.args.value low c.requires.word.0 c.requires.word.1 c.requires.odd c.store_as.ensures.acted)

pub returns-clause-boxes : goal.returns-clause-boxes
returns-clause-boxes c =
    let v = view c.args.pass.now in
    subst (SameBoxes v) (sym c.store_as.ensures.did.1) (block_boxes v c.args.o c.args.word c.args.value c.store_as.ensures.acted)

pub returns-clause-moves : goal.returns-clause-moves
returns-clause-moves c =
    let v = view c.args.pass.now in
    let low : c.args.o < container_count v.shape = subst (λ (z : Shape). c.args.o < container_count z) (sym c.requires.pass.1) c.requires.container in
    subst (MovesReferences c.args.o v) (sym c.store_as.ensures.did.1) (block_moves v c.args.o c.args.word c.args.value low c.requires.word.0 c.requires.word.1 c.requires.odd c.store_as.ensures.acted)
