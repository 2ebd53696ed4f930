use Rattle.std.proofs.Common.{ℕ, ◌+◌, ◌*◌, refl, sym, ap, ◌∙◌, subst}
use Rattle.ft_trace.specs.Addresses.{at, box_word}
use Rattle.ft_trace.specs.Acts.{view_after}
use Rattle.ft_trace.specs.Traces.{Ready}
use Rattle.ft_trace.specs.declared.Act.TheVariants.{MergeCounts}
use Rattle.ft_bank.specs.Passes.{view, shape_of}
use Rattle.ft_bank.specs.BoxSteps.{box_id}
use Rattle.ft_bank.proofs.BoxAddresses.{box_named}
use Rattle.ft_bank.proofs.BoxReady.{merge_ready}
use Rattle.ft_bank.proofs.BoxedSteps.{boxed_by}
use Rattle.ft_bank.proofs.bank.Bank.merge_counts.Goals as goal

pub raise_as-requires-clause-act : goal.raise_as-requires-clause-act
raise_as-requires-clause-act c n s = ((λ d. at (c.requires.pass.1 d) (box_word (c.name_of.ensures d) 0)) ∙ sym c.box_at-at.ensures.is, λ m. refl)

pub raise_as-requires-clause-ready : goal.raise_as-requires-clause-ready
raise_as-requires-clause-ready c =
    let v = view c.args.pass.now in
    let k = shape_of c.args.self.now in
    let b = box_id c.args.b in
    let same = c.requires.pass.1 in
    let is = box_named k c.args.b c.args.self.now.fits.heap c.requires.name in
    let j = c.box_at-at.result in
    subst (λ (z : ℕ). Ready v j (λ n. MergeCounts z (4 * c.args.taken + 3) n)) (sym c.name_of.ensures) (merge_ready k v j b same is (4 * c.args.taken + 3) c.requires.own c.requires.cleared (ap (λ (x : ℕ). 4 * x + 3) c.requires.taken.0))

pub returns-clause-did : goal.returns-clause-did
returns-clause-did c =
    let v = view c.args.pass.now in
    let d = c.raise_as.ensures.did in
    (d.0, d.1 ∙ ap (λ (z : ℕ). view_after (MergeCounts z (4 * c.args.taken + 3) c.raise_as.result) v) c.name_of.ensures, d.2)

pub returns-clause-only : goal.returns-clause-only
returns-clause-only c = boxed_by (MergeCounts c.name_of.result (4 * c.args.taken + 3) c.raise_as.result) (view c.args.pass.now) _ tt c.raise_as.ensures.did.1 c.raise_as.ensures.acted
