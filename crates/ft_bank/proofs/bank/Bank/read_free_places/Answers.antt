use Rattle.std.proofs.Common.{ℕ, refl, sym, ap, ◌∙◌, subst}
use Rattle.ft_trace.specs.Addresses.{at, heap_bits}
use Rattle.ft_trace.specs.Acts.{view_after}
use Rattle.ft_trace.specs.Traces.{Ready}
use Rattle.ft_trace.specs.declared.Act.TheVariants.{ReadFreePlaces}
use Rattle.ft_bank.specs.Passes.{view, shape_of}
use Rattle.ft_bank.proofs.BoxReady.{read_places_ready}
use Rattle.ft_bank.proofs.BoxedSteps.{places_loaded}
use Rattle.ft_bank.proofs.bank.Bank.read_free_places.Goals as goal

pub load_as-requires-clause-act : goal.load_as-requires-clause-act
load_as-requires-clause-act c n s = ((λ d. at (c.requires.pass.1 d) (heap_bits c.args.maker (c.from.ensures d))) ∙ sym c.heap_at-at.ensures.is, λ m. refl)

pub load_as-requires-clause-ready : goal.load_as-requires-clause-ready
load_as-requires-clause-ready c =
    let v = view c.args.pass.now in
    let k = shape_of c.args.self.now in
    let j = c.heap_at-at.result in
    subst (λ (z : ℕ). Ready v j (λ n. ReadFreePlaces c.args.maker z n)) (sym c.from.ensures) (read_places_ready k v j c.args.maker c.args.word c.requires.pass.1 c.requires.maker c.requires.word)

pub returns-clause-did : goal.returns-clause-did
returns-clause-did c =
    let v = view c.args.pass.now in
    let d = c.load_as.ensures.did in
    (d.0, d.1 ∙ ap (λ (z : ℕ). view_after (ReadFreePlaces c.args.maker z c.load_as.result) v) c.from.ensures, d.2)

pub returns-clause-only : goal.returns-clause-only
returns-clause-only c = places_loaded (view c.args.pass.now) _ c.args.maker c.from.result c.load_as.result c.load_as.ensures.did.1 c.load_as.ensures.acted
