use Rattle.std.proofs.Common.{ℕ, ◌-◌, refl, sym, ap, ◌∙◌, subst, arith}
use Rattle.ft_trace.specs.Addresses.{at, box_word}
use Rattle.ft_trace.specs.Acts.{view_after}
use Rattle.ft_trace.specs.Traces.{Ready}
use Rattle.ft_trace.specs.declared.Act.TheVariants.{DropLocal}
use Rattle.ft_bank.specs.Passes.{view, shape_of}
use Rattle.ft_bank.specs.BoxSteps.{box_id}
use Rattle.ft_bank.proofs.BoxAddresses.{box_named}
use Rattle.ft_bank.proofs.BoxReady.{drop_local_ready}
use Rattle.ft_bank.proofs.BoxedSteps.{boxed_by}
use Rattle.ft_bank.proofs.bank.Bank.drop_local.Goals as goal

pub store_as-requires-clause-act : goal.store_as-requires-clause-act
store_as-requires-clause-act c n s = ((λ d. at (c.requires.pass.1 d) (box_word (c.name_of.ensures d) 3)) ∙ sym c.box_at-at.ensures.is, λ m. refl)

pub store_as-requires-clause-ready : goal.store_as-requires-clause-ready
store_as-requires-clause-ready c =
    let v = view c.args.pass.now in
    let k = shape_of c.args.self.now in
    let b = box_id c.args.b in
    let same = c.requires.pass.1 in
    let is = box_named k c.args.b c.args.self.now.fits.heap c.requires.name in
    let j = c.box_at-at.result in
    subst (λ (z : ℕ). Ready v j (λ n. DropLocal z (c.args.count - 1))) (sym c.name_of.ensures) (drop_local_ready k v j b same is (c.args.count - 1) c.requires.own (let e = c.requires.count.0 in let l = c.requires.count.1 in omega (arith, e, l)) c.requires.held)

pub returns-clause-did : goal.returns-clause-did
returns-clause-did c =
    let v = view c.args.pass.now in
    let d = c.store_as.ensures.did in
    (d.0, d.1 ∙ ap (λ (z : ℕ). view_after (DropLocal z (c.args.count - 1)) v) c.name_of.ensures, d.2)

pub returns-clause-only : goal.returns-clause-only
returns-clause-only c = boxed_by (DropLocal c.name_of.result (c.args.count - 1)) (view c.args.pass.now) _ tt c.store_as.ensures.did.1 c.store_as.ensures.acted
