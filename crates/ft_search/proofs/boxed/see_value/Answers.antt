use Rattle.std.proofs.Common.{◌≡◌, ℕ, true, inl, inr, true≢false, [], ◌∷◌, refl, sym, ◌∙◌, subst, arith}
use Rattle.ft_trace.specs.declared.Act.TheVariants.{ReadBox}
use Rattle.ft_trace.specs.declared.Shape.{Shape}
use Rattle.ft_trace.specs.Boxes.{known_box_word, knows_box_word}
use Rattle.ft_trace.specs.Addresses.{maker_of, place_in}
use Rattle.ft_bank.specs.Passes.{shape_of, view}
use Rattle.ft_bank.specs.BoxSteps.{box_id}
use Rattle.ft_bank.specs.Series.{DidAll}
use Rattle.ft_search.proofs.Running.{did_none, did_trans}
use Rattle.ft_search.proofs.Unboxing.{name_is}
use Rattle.ft_search.proofs.boxed.see_value.Goals as goal

-- ---- in place

pub returns-then-kind-ne-BOX_KIND-clause-did : goal.returns-then-kind-ne-BOX_KIND-clause-did
returns-then-kind-ne-BOX_KIND-clause-did c = did_none c.args.pass.now

pub returns-then-kind-ne-BOX_KIND-clause-sees : goal.returns-then-kind-ne-BOX_KIND-clause-sees
returns-then-kind-ne-BOX_KIND-clause-sees c = ((λ e. absurd (true≢false (sym e))), λ e. (refl, refl, λ four. absurd (c.if-kind-ne-BOX_KIND.true four)))

-- ---- a name of no box of the bank

pub returns-then-passes-maker-clause-did : goal.returns-then-passes-maker-clause-did
returns-then-passes-maker-clause-did c = did_none c.args.pass.now

pub returns-then-passes-maker-clause-sees : goal.returns-then-passes-maker-clause-sees
unfolding maker_of
returns-then-passes-maker-clause-sees c = (
  (λ e. absurd (true≢false (sym e))),
  λ e. (refl, refl, λ four name. absurd (let low = name.0 in let high = c.if-passes-maker.true in let is = c.from-passes.ensures in let all = c.passes.ensures in omega (arith, low, high, is, all))),
)

pub returns-then-heap-place-clause-did : goal.returns-then-heap-place-clause-did
returns-then-heap-place-clause-did c = did_none c.args.pass.now

pub returns-then-heap-place-clause-sees : goal.returns-then-heap-place-clause-sees
unfolding place_in
returns-then-heap-place-clause-sees c = (
  (λ e. absurd (true≢false (sym e))),
  λ e. (refl, refl, λ four name. absurd (let low = name.1 in let high = c.if-heap-place.true in let is = c.from-heap.ensures in let all = c.heap.ensures in omega (arith, low, high, is, all))),
)

-- ---- in a box

pub box_of-b-requires : goal.box_of-b-requires
box_of-b-requires c = let low = c.if-passes-maker.false in let is = c.from-passes.ensures in let few = c.passes.type_inv in omega (arith, low, is, few)

pub read_box-found-requires-clause-name : goal.read_box-found-requires-clause-name
unfolding maker_of place_in
read_box-found-requires-clause-name c =
    let b = c.box_of-b.ensures in (
      (let low = c.if-passes-maker.false in let is = c.from-passes.ensures in let all = c.passes.ensures in let at = b.maker in omega (arith, low, is, all, at)),
      (let low = c.if-heap-place.false in let is = c.from-heap.ensures in let all = c.heap.ensures in let at = b.place in omega (arith, low, is, all, at)),
    )

pub read_box-value-requires-clause-name : goal.read_box-value-requires-clause-name
unfolding maker_of place_in
read_box-value-requires-clause-name c =
    let b = c.box_of-b.ensures in (
      (let low = c.if-passes-maker.false in let is = c.from-passes.ensures in let all = c.passes.ensures in let at = b.maker in omega (arith, low, is, all, at)),
      (let low = c.if-heap-place.false in let is = c.from-heap.ensures in let all = c.heap.ensures in let at = b.place in omega (arith, low, is, all, at)),
    )

pub returns-clause-did : goal.returns-clause-did
returns-clause-did c =
    let p = c.args.pass.now in
    let q = c.read_box-found.new.pass in
    let r = c.read_box-value.new.pass in
    let id = box_id c.box_of-b.result in
    let is : id ≡ c.args.payload = name_is c.box_of-b.result c.args.payload c.box_of-b.ensures.maker c.box_of-b.ensures.place in
    subst (λ (b : ℕ). DidAll (ReadBox b 2 c.read_box-value.result ∷ (ReadBox b 1 c.read_box-found.result ∷ [])) p r) is
    (did_trans (ReadBox id 2 c.read_box-value.result ∷ []) (ReadBox id 1 c.read_box-found.result ∷ []) p q r c.read_box-found.ensures.did c.read_box-value.ensures.did)

pub returns-clause-sees : goal.returns-clause-sees
returns-clause-sees c = ((λ e. c.if-kind-ne-BOX_KIND.false), λ e. absurd (true≢false e))

-- ---- what a pass knows that keeps the box

pub returns-then-kind-ne-BOX_KIND-clause-known : goal.returns-then-kind-ne-BOX_KIND-clause-known
returns-then-kind-ne-BOX_KIND-clause-known c e = absurd (true≢false (sym e))

pub returns-then-passes-maker-clause-known : goal.returns-then-passes-maker-clause-known
returns-then-passes-maker-clause-known c e = absurd (true≢false (sym e))

pub returns-then-heap-place-clause-known : goal.returns-then-heap-place-clause-known
returns-then-heap-place-clause-known c e = absurd (true≢false (sym e))

pub returns-clause-known : goal.returns-clause-known
returns-clause-known c e known =
    let v = view c.args.pass.now in
    let w = view c.read_box-found.new.pass in
    let k = shape_of c.args.bank.now in
    let id : box_id c.box_of-b.result ≡ c.args.payload = name_is c.box_of-b.result c.args.payload c.box_of-b.ensures.maker c.box_of-b.ensures.place in
    let shape : w.shape ≡ k = c.read_box-found.ensures.only.work.pass.shape ∙ c.requires.pass.1 in
    let still = c.read_box-found.ensures.only.boxes.knows c.args.payload 2 known.0 (inr refl) known.2 in
    let one : knows_box_word k (box_id c.box_of-b.result) 1 v.log ≡ true =
    subst (λ (z : Shape × ℕ). knows_box_word z.0 z.1 1 v.log ≡ true) (λ d. (c.requires.pass.1 d, sym id d)) known.1 in
    let two : knows_box_word k (box_id c.box_of-b.result) 2 w.log ≡ true =
    subst (λ (z : Shape × ℕ). knows_box_word z.0 z.1 2 w.log ≡ true) (λ d. (shape d, sym id d)) still.0 in (
      c.read_box-found.ensures.known (inl refl) one ∙ (λ d. known_box_word (sym c.requires.pass.1 d) (id d) 1 v.log),
      c.read_box-value.ensures.known (inr refl) two ∙ ((λ d. known_box_word (sym shape d) (id d) 2 w.log) ∙ still.1),
    )
