use Rattle.std.proofs.Common.{◌≡◌, ℕ, ◌+◌, ◌<◌, eqb, cond, sym, ap, ◌∙◌, subst}
use Rattle.ft_layout.specs.declared.slot.Ref.{Ref}
use Rattle.ft_trace.specs.declared.Shape.{Shape}
use Rattle.ft_trace.specs.Addresses.{IsBoxName}
use Rattle.ft_trace.specs.Boxes.{references_held}
use Rattle.ft_bank.specs.BoxSteps.{box_id, IsBoxIn}
use Rattle.ft_bank.specs.Passes.{shape_of, view}
use Rattle.ft_boxes.specs.References.{box_of, HoldsBox}
use Rattle.ft_search.proofs.Unboxing.{name_in, name_is, name_low}
use Rattle.ft_search.proofs.boxed.release.Goals as goal
use Rattle.ft_search.proofs.boxed.release.Goals.{After-box_of}

id_is : (c : After-box_of) → box_id c.box_of.result ≡ c.args.payload
id_is c = name_is c.box_of.result c.args.payload c.box_of.ensures.maker c.box_of.ensures.place

holds : (c : After-box_of) → HoldsBox c.box_of.result (view c.args.pass.now)
holds c =
    let v = view c.args.pass.now in
    let k : v.shape ≡ shape_of c.args.bank.now = c.requires.pass.1 in (
      subst (λ (z : Shape). IsBoxIn z c.box_of.result) (sym k) (name_in (shape_of c.args.bank.now) c.box_of.result c.args.payload c.box_of.ensures.maker c.box_of.ensures.place c.requires.name),
      subst (λ (z : Shape × ℕ). 0 < references_held z.0 z.1 v.log) (λ d. (sym k d, sym (id_is c) d)) c.requires.held,
    )

pub box_of-requires : goal.box_of-requires
box_of-requires c = name_low (view c.args.pass.now) c.args.payload c.args.pass.now.possible (subst (λ (z : Shape). IsBoxName z c.args.payload) (sym c.requires.pass.1) c.requires.name)

pub taken-held-requires-clause-held : goal.taken-held-requires-clause-held
taken-held-requires-clause-held c = holds (goal.at.taken-held-requires-clause-held c).After-box_of

pub release-requires-clause-held : goal.release-requires-clause-held
release-requires-clause-held c = subst (λ (r : Ref). HoldsBox r (view c.args.pass.now)) (sym c.taken-held.ensures) (holds (goal.at.release-requires-clause-held c).After-box_of)

pub returns-clause-references : goal.returns-clause-references
returns-clause-references c b =
    let v = view c.args.pass.now in
    let w = view c.release.new.pass in
    let id : box_id (box_of c.taken-held.result) ≡ c.args.payload = ap box_id c.taken-held.ensures ∙ id_is (goal.at.returns-clause-references c).After-box_of in
    subst (λ (z : Shape × Shape × ℕ). references_held z.0 b v.log ≡ references_held z.1 b w.log + cond (eqb b z.2) 1 0) (λ d. (c.requires.pass.1 d, c.release.ensures.pass.1 d, id d)) (c.release.ensures.less b)
