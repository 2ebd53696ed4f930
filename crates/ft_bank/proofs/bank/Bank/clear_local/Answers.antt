use Rattle.std.proofs.Common.{ℕ, refl, sym, ap, ◌∙◌, subst}
use Rattle.ft_trace.specs.Addresses.{at, box_word}
use Rattle.ft_trace.specs.Acts.{view_after}
use Rattle.ft_trace.specs.Traces.{Ready}
use Rattle.ft_trace.specs.declared.Act.TheVariants.{ClearLocal}
use Rattle.ft_bank.specs.Passes.{view, shape_of}
use Rattle.ft_bank.specs.BoxSteps.{box_id}
use Rattle.ft_bank.proofs.BoxAddresses.{box_named}
use Rattle.ft_bank.proofs.BoxReady.{clear_ready}
use Rattle.ft_bank.proofs.BoxedSteps.{boxed_by}
use Rattle.ft_bank.proofs.bank.Bank.clear_local.Goals as goal

pub store_as-requires-clause-act : goal.store_as-requires-clause-act
store_as-requires-clause-act c n s = ((λ d. at (c.requires.pass.1 d) (box_word (c.name_of.ensures d) 3)) ∙ sym c.box_at-at.ensures.is, λ m. refl)

pub store_as-requires-clause-ready : goal.store_as-requires-clause-ready
store_as-requires-clause-ready c =
    let v = view c.args.pass.now in
    let k = shape_of c.args.self.now in
    let b = box_id c.args.b in
    let same = c.requires.pass.1 in
    let is = box_named k c.args.b c.args.self.now.fits.heap c.requires.name in
    let j = c.box_at-at.result in
    subst (λ (z : ℕ). Ready v j (λ n. ClearLocal z)) (sym c.name_of.ensures) (clear_ready k v j b same is c.requires.own c.requires.whole)

pub returns-clause-did : goal.returns-clause-did
returns-clause-did c =
    let v = view c.args.pass.now in
    let d = c.store_as.ensures.did in
    (d.0, d.1 ∙ ap (λ (z : ℕ). view_after (ClearLocal z) v) c.name_of.ensures, d.2)

pub returns-clause-only : goal.returns-clause-only
returns-clause-only c = boxed_by (ClearLocal c.name_of.result) (view c.args.pass.now) _ tt c.store_as.ensures.did.1 c.store_as.ensures.acted
