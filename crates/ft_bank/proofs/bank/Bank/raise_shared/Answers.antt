use Rattle.std.proofs.Common.{ℕ, refl, sym, ap, ◌∙◌, subst, arith}
use Rattle.ft_trace.specs.Addresses.{at, box_word}
use Rattle.ft_trace.specs.Acts.{view_after}
use Rattle.ft_trace.specs.Traces.{Ready}
use Rattle.ft_trace.specs.declared.Act.TheVariants.{RaiseShared}
use Rattle.ft_bank.specs.Passes.{view, shape_of}
use Rattle.ft_bank.specs.BoxSteps.{box_id}
use Rattle.ft_bank.proofs.BoxAddresses.{box_named}
use Rattle.ft_bank.proofs.BoxReady.{raise_shared_ready}
use Rattle.ft_bank.proofs.BoxedSteps.{boxed_by}
use Rattle.ft_bank.proofs.bank.Bank.raise_shared.Goals as goal

pub exchange_as-requires-clause-act : goal.exchange_as-requires-clause-act
exchange_as-requires-clause-act c n s = ((λ d. at (c.requires.pass.1 d) (box_word (c.name_of.ensures d) 0)) ∙ sym c.box_at-at.ensures.is, λ m. refl)

pub exchange_as-requires-clause-ready : goal.exchange_as-requires-clause-ready
exchange_as-requires-clause-ready c =
    let v = view c.args.pass.now in
    let k = shape_of c.args.self.now in
    let b = box_id c.args.b in
    let same = c.requires.pass.1 in
    let is = box_named k c.args.b c.args.self.now.fits.heap c.requires.name in
    let j = c.box_at-at.result in
    subst (λ (z : ℕ). Ready v j (λ n. RaiseShared z c.args.old n)) (sym c.name_of.ensures) (raise_shared_ready k v j b same is c.args.old c.requires.shared c.requires.live (let l = c.ranges.old.fits in omega (arith, l)) c.requires.few c.requires.saw)

pub returns-clause-did : goal.returns-clause-did
returns-clause-did c =
    let v = view c.args.pass.now in
    let d = c.exchange_as.ensures.did in
    (d.0, d.1 ∙ ap (λ (z : ℕ). view_after (RaiseShared z c.args.old c.exchange_as.result) v) c.name_of.ensures, d.2)

pub returns-clause-only : goal.returns-clause-only
returns-clause-only c = boxed_by (RaiseShared c.name_of.result c.args.old c.exchange_as.result) (view c.args.pass.now) _ tt c.exchange_as.ensures.did.1 c.exchange_as.ensures.acted
