use Rattle.std.proofs.Common.{◌≡◌, ℕ, true, [], ◌∷◌, refl, sym, ◌∙◌, subst, inl, inr}
use Rattle.ft_trace.specs.declared.Act.TheVariants.{ReadBox}
use Rattle.ft_trace.specs.declared.Shape.{Shape}
use Rattle.ft_trace.specs.Addresses.{IsBoxName}
use Rattle.ft_trace.specs.Boxes.{known_box_word, knows_box_word}
use Rattle.ft_bank.specs.BoxSteps.{box_id}
use Rattle.ft_bank.specs.Passes.{shape_of, view}
use Rattle.ft_bank.proofs.KnownAfterWrites.{loaded_then}
use Rattle.ft_search.proofs.Calling.{loaded_same}
use Rattle.ft_search.proofs.Running.{did_none, did_trans}
use Rattle.ft_search.proofs.Unboxing.{name_in, name_is, name_low, reads_boxed, reads_plain}
use Rattle.ft_search.proofs.boxed.read_value.Goals as goal
use Rattle.ft_search.proofs.boxed.read_value.Goals.{After-read_box-value, After-box_of-b}

-- ---- in place

pub returns-then-kind-ne-BOX_KIND-clause-looks : goal.returns-then-kind-ne-BOX_KIND-clause-looks
returns-then-kind-ne-BOX_KIND-clause-looks c = ([], tt, did_none c.args.pass.now, λ t. refl)

pub returns-then-kind-ne-BOX_KIND-clause-only : goal.returns-then-kind-ne-BOX_KIND-clause-only
returns-then-kind-ne-BOX_KIND-clause-only c = loaded_same (view c.args.pass.now)

pub returns-then-kind-ne-BOX_KIND-clause-kind : goal.returns-then-kind-ne-BOX_KIND-clause-kind
returns-then-kind-ne-BOX_KIND-clause-kind c = sym (reads_plain (view c.args.pass.now) c.args.kind c.args.payload c.if-kind-ne-BOX_KIND.true).0

pub returns-then-kind-ne-BOX_KIND-clause-payload : goal.returns-then-kind-ne-BOX_KIND-clause-payload
returns-then-kind-ne-BOX_KIND-clause-payload c = sym (reads_plain (view c.args.pass.now) c.args.kind c.args.payload c.if-kind-ne-BOX_KIND.true).1

-- ---- in a box

pub box_of-b-requires : goal.box_of-b-requires
box_of-b-requires c = name_low (view c.args.pass.now) c.args.payload c.args.pass.now.possible (c.requires.known c.if-kind-ne-BOX_KIND.false).0

pub read_box-kind-requires-clause-name : goal.read_box-kind-requires-clause-name
read_box-kind-requires-clause-name c =
    let k = c.requires.known c.if-kind-ne-BOX_KIND.false in
    name_in (shape_of c.args.bank.now) c.box_of-b.result c.args.payload c.box_of-b.ensures.maker c.box_of-b.ensures.place (subst (λ (z : Shape). IsBoxName z c.args.payload) c.requires.pass.1 k.0)

pub read_box-value-requires-clause-name : goal.read_box-value-requires-clause-name
read_box-value-requires-clause-name c =
    let k = c.requires.known c.if-kind-ne-BOX_KIND.false in
    name_in (shape_of c.args.bank.now) c.box_of-b.result c.args.payload c.box_of-b.ensures.maker c.box_of-b.ensures.place (subst (λ (z : Shape). IsBoxName z c.args.payload) c.requires.pass.1 k.0)

pub returns-clause-looks : goal.returns-clause-looks
returns-clause-looks c =
    let id = box_id c.box_of-b.result in
    let one = ReadBox id 1 c.read_box-kind.result ∷ [] in
    let two = ReadBox id 2 c.read_box-value.result ∷ [] in
    (ReadBox id 2 c.read_box-value.result ∷ one, tt, did_trans two one c.args.pass.now c.read_box-kind.new.pass c.read_box-value.new.pass c.read_box-kind.ensures.did c.read_box-value.ensures.did, λ t. refl)

pub returns-clause-only : goal.returns-clause-only
returns-clause-only c = loaded_then (view c.args.pass.now) (view c.read_box-kind.new.pass) (view c.read_box-value.new.pass) c.read_box-kind.ensures.only c.read_box-value.ensures.only

id_is : (c : After-box_of-b) → box_id c.box_of-b.result ≡ c.args.payload
id_is c = name_is c.box_of-b.result c.args.payload c.box_of-b.ensures.maker c.box_of-b.ensures.place

pub returns-clause-kind : goal.returns-clause-kind
returns-clause-kind c =
    let v = view c.args.pass.now in
    let k = c.requires.known c.if-kind-ne-BOX_KIND.false in
    let id = id_is (goal.at.returns-clause-kind c).After-box_of-b in
    let known : knows_box_word (shape_of c.args.bank.now) (box_id c.box_of-b.result) 1 v.log ≡ true =
    subst (λ (z : Shape × ℕ). knows_box_word z.0 z.1 1 v.log ≡ true) (λ d. (c.requires.pass.1 d, sym id d)) k.1 in
    c.read_box-kind.ensures.known (inl refl) known
    ∙ ((λ d. known_box_word (sym c.requires.pass.1 d) (id d) 1 v.log) ∙ sym (reads_boxed v c.args.kind c.args.payload c.if-kind-ne-BOX_KIND.false).0)

pub returns-clause-payload : goal.returns-clause-payload
returns-clause-payload c =
    let v = view c.args.pass.now in
    let w = view c.read_box-kind.new.pass in
    let k = c.requires.known c.if-kind-ne-BOX_KIND.false in
    let id = id_is (goal.at.returns-clause-payload c).After-box_of-b in
    let still = c.read_box-kind.ensures.only.boxes.knows c.args.payload 2 k.0 (inr refl) k.2 in
    let shape : w.shape ≡ shape_of c.args.bank.now = c.read_box-kind.ensures.only.work.pass.shape ∙ c.requires.pass.1 in
    let known : knows_box_word (shape_of c.args.bank.now) (box_id c.box_of-b.result) 2 w.log ≡ true =
    subst (λ (z : Shape × ℕ). knows_box_word z.0 z.1 2 w.log ≡ true) (λ d. (shape d, sym id d)) still.0 in
    c.read_box-value.ensures.known (inr refl) known
    ∙ ((λ d. known_box_word (sym shape d) (id d) 2 w.log) ∙ (still.1 ∙ sym (reads_boxed v c.args.kind c.args.payload c.if-kind-ne-BOX_KIND.false).1))
