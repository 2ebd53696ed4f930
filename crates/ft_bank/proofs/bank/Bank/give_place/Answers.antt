use Rattle.std.proofs.Common.{ℕ, sym, ap, ◌∙◌, subst}
use Rattle.ft_trace.specs.Addresses.{at, heap_bits, maker_of, place_word_of}
use Rattle.ft_trace.specs.Acts.{view_after}
use Rattle.ft_trace.specs.Traces.{Ready}
use Rattle.ft_trace.specs.declared.Act.TheVariants.{GivePlace}
use Rattle.ft_bank.specs.Passes.{view, shape_of}
use Rattle.ft_bank.specs.BoxSteps.{box_id}
use Rattle.ft_bank.proofs.BoxAddresses.{box_named, place_low, place_at_is, place_on}
use Rattle.ft_bank.proofs.BoxReady.{give_place_ready}
use Rattle.ft_bank.proofs.BoxedSteps.{boxed_by}
use Rattle.ft_bank.proofs.bank.Bank.give_place.Goals as goal

pub set_as-requires-clause-act : goal.set_as-requires-clause-act
set_as-requires-clause-act c n s =
    let low = place_low (shape_of c.args.self.now) c.args.b c.args.self.now.fits.heap c.requires.name in
    ((λ d. at (c.requires.pass.1 d) (heap_bits (maker_of c.name_of.result) (place_word_of c.name_of.result))) ∙ (place_at_is (shape_of c.args.self.now) c.args.b c.name_of.result low c.name_of.ensures ∙ sym c.heap_at-at.ensures.is), λ m. place_on c.args.b c.name_of.result m low c.name_of.ensures)

pub set_as-requires-clause-ready : goal.set_as-requires-clause-ready
set_as-requires-clause-ready c =
    let v = view c.args.pass.now in
    let k = shape_of c.args.self.now in
    let b = box_id c.args.b in
    let same = c.requires.pass.1 in
    let is = box_named k c.args.b c.args.self.now.fits.heap c.requires.name in
    let j = c.heap_at-at.result in
    subst (λ (z : ℕ). Ready v j (λ n. GivePlace z)) (sym c.name_of.ensures) (give_place_ready k v j b same is c.requires.due)

pub returns-clause-did : goal.returns-clause-did
returns-clause-did c =
    let v = view c.args.pass.now in
    let d = c.set_as.ensures.did in
    (d.0, d.1 ∙ ap (λ (z : ℕ). view_after (GivePlace z) v) c.name_of.ensures, d.2)

pub returns-clause-only : goal.returns-clause-only
returns-clause-only c = boxed_by (GivePlace c.name_of.result) (view c.args.pass.now) _ tt c.set_as.ensures.did.1 c.set_as.ensures.acted
