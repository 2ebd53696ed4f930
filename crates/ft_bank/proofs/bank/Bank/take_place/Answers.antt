use Rattle.std.proofs.Common.{◌≡◌, ℕ, sym, ap, ◌∙◌, subst, arith}
use Rattle.ft_trace.specs.Addresses.{at, heap_bits, maker_of, place_word_of}
use Rattle.ft_trace.specs.Acts.{view_after}
use Rattle.ft_trace.specs.Traces.{ReadyAs}
use Rattle.ft_trace.specs.declared.Act.TheVariants.{TakePlace}
use Rattle.ft_bank.specs.Rules.{Acted}
use Rattle.ft_bank.specs.Passes.{view, shape_of}
use Rattle.ft_bank.specs.BoxSteps.{box_id}
use Rattle.ft_bank.proofs.BoxAddresses.{box_named, maker_is, place_low, place_at_is, place_off}
use Rattle.ft_bank.proofs.BoxReady.{take_ready, free_found}
use Rattle.ft_bank.proofs.BoxedSteps.{boxed_by}
use Rattle.ft_bank.proofs.bank.Bank.take_place.Goals as goal

pub mask_as-requires-clause-act : goal.mask_as-requires-clause-act
mask_as-requires-clause-act c n s =
    let low = place_low (shape_of c.args.self.now) c.args.b c.args.self.now.fits.heap c.requires.name in
    let name : c.from.result ≡ box_id c.args.b = c.from.ensures ∙ c.name_of.ensures in
    ((λ d. at (c.requires.pass.1 d) (heap_bits (maker_of c.from.result) (place_word_of c.from.result))) ∙ (place_at_is (shape_of c.args.self.now) c.args.b c.from.result low name ∙ sym c.heap_at-at.ensures.is), λ m. place_off c.args.b c.from.result m low name)

pub mask_as-requires-clause-ready : goal.mask_as-requires-clause-ready
mask_as-requires-clause-ready c =
    let v = view c.args.pass.now in
    let k = shape_of c.args.self.now in
    let b = box_id c.args.b in
    let same = c.requires.pass.1 in
    let is = box_named k c.args.b c.args.self.now.fits.heap c.requires.name in
    let j = c.heap_at-at.result in
    let m = maker_is c.args.b (place_low (shape_of c.args.self.now) c.args.b c.args.self.now.fits.heap c.requires.name) in
    let mine = c.requires.maker in
    let name : c.from.result ≡ box_id c.args.b = c.from.ensures ∙ c.name_of.ensures in
    subst (λ (z : ℕ). ReadyAs v j (λ n s. TakePlace z n)) (sym name) (take_ready k v j b same is (omega (arith, mine, m)) c.requires.apart.0 c.requires.apart.1 c.requires.idle)

pub returns-clause-did : goal.returns-clause-did
returns-clause-did c =
    let v = view c.args.pass.now in
    let d = c.mask_as.ensures.did.1 in
    let name : c.from.result ≡ box_id c.args.b = c.from.ensures ∙ c.name_of.ensures in
    (d.0, d.1 ∙ ap (λ (z : ℕ). view_after (TakePlace z c.mask_as.result) v) name, d.2)

pub returns-clause-took : goal.returns-clause-took
returns-clause-took c seen =
    let v = view c.args.pass.now in
    let k = shape_of c.args.self.now in
    let b = box_id c.args.b in
    let same = c.requires.pass.1 in
    let is = box_named k c.args.b c.args.self.now.fits.heap c.requires.name in
    let m = maker_is c.args.b (place_low (shape_of c.args.self.now) c.args.b c.args.self.now.fits.heap c.requires.name) in
    let mine = c.requires.maker in
    let name : c.from.result ≡ box_id c.args.b = c.from.ensures ∙ c.name_of.ensures in
    free_found k v 0 b same is c.mask_as.result (omega (arith, mine, m)) (subst (λ (z : ℕ). Acted v (TakePlace z c.mask_as.result)) name c.mask_as.ensures.did.2) seen

pub returns-clause-only : goal.returns-clause-only
returns-clause-only c = boxed_by (TakePlace c.from.result c.mask_as.result) (view c.args.pass.now) _ tt c.mask_as.ensures.did.1.1 c.mask_as.ensures.did.2
