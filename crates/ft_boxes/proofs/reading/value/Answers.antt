use Rattle.std.proofs.Common.{◌≡◌, ℕ, true, Some, subst, sym, ◌∙◌, inl, inr, refl}
use Rattle.std.proofs.Math.Logic.{∥∥₁_elim}
use Rattle.ft_layout.specs.declared.slot.Stored.TheVariants.{Plain}
use Rattle.ft_layout.specs.Words.{IsStored}
use Rattle.ft_model.specs.declared.data.Value.{Value}
use Rattle.ft_trace.specs.declared.Shape.{Shape}
use Rattle.ft_trace.specs.Boxes.{known_box_word, knows_box_word}
use Rattle.ft_bank.specs.BoxSteps.{box_id}
use Rattle.ft_bank.specs.Passes.{shape_of, view}
use Rattle.ft_boxes.proofs.Heaps.{is_value, knows_value, names_held}
use Rattle.ft_boxes.proofs.reading.value.Goals as goal

pub unreachable-requires : goal.unreachable-requires
unreachable-requires c =
    let v = view c.args.pass.now in
    let x = view c.read_box-kind.new.pass in
    let w = view c.read_box-payload.new.pass in
    let found = is_value v x w c.args.held.now.at c.read_box-kind.result c.read_box-payload.result c.requires.held c.read_box-kind.ensures.did.1 c.read_box-payload.ensures.did.1 c.read_box-payload.new.pass.possible in
    ∥∥₁_elim {P = ⊥} found (λ a b. absurd a) (λ value. c.in_default.not-Some value.stored ((c.value_of.ensures value.stored).0 value.words))

pub returns-clause-value : goal.returns-clause-value
returns-clause-value c =
    knows_value (view c.args.pass.now) (view c.read_box-kind.new.pass) (view c.read_box-payload.new.pass) c.args.held.now.at c.read_box-kind.result c.read_box-payload.result c.requires.held c.read_box-kind.ensures.did.1 c.read_box-payload.ensures.did.1 c.in-Some.value ((c.value_of.ensures c.in-Some.value).1 c.in-Some.is)

one_value : (a b : Value) → Some a ≡ Some b → a ≡ b
one_value a b e = cc

pub returns-clause-known : goal.returns-clause-known
returns-clause-known c was knows =
    let v = view c.args.pass.now in
    let x = view c.read_box-kind.new.pass in
    let k = shape_of c.args.bank.now in
    let n = box_id c.args.held.now.at in
    let shape = c.requires.pass.1 in
    let name = names_held v c.args.pass.now.possible c.args.held.now.at c.requires.held in
    let kind : c.read_box-kind.result ≡ known_box_word v.shape n 1 v.log =
    subst (λ (z : Shape). c.read_box-kind.result ≡ known_box_word z n 1 v.log) (sym shape) (c.read_box-kind.ensures.known (inl refl) (subst (λ (z : Shape). knows_box_word z n 1 v.log ≡ true) shape knows.kind)) in
    let at_load = c.read_box-kind.ensures.only.boxes.knows n 2 name (inr refl) knows.payload in
    let then : x.shape ≡ k = c.read_box-kind.ensures.only.work.pass.shape ∙ shape in
    let payload : c.read_box-payload.result ≡ known_box_word v.shape n 2 v.log =
    subst (λ (z : Shape). c.read_box-payload.result ≡ known_box_word z n 2 x.log) (sym then) (c.read_box-payload.ensures.known (inr refl) (subst (λ (z : Shape). knows_box_word z n 2 x.log ≡ true) then at_load.0)) ∙ at_load.1 in
    let stored = subst (λ (z : ℕ × ℕ). IsStored z.0 z.1 (Plain was)) (λ d. (sym kind d, sym payload d)) knows.words in
    one_value c.in-Some.value was (sym c.in-Some.is ∙ (c.value_of.ensures was).0 stored)
