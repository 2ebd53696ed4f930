use Rattle.std.proofs.Common.{◌≡◌, ℕ, ◌+◌, arith, eqb, cond, sym, subst}
use Rattle.ft_trace.specs.declared.Shape.{Shape}
use Rattle.ft_trace.specs.Addresses.{IsBoxName}
use Rattle.ft_trace.specs.Boxes.{references_held, KeepsBox}
use Rattle.ft_trace.proofs.Cases.{hit}
use Rattle.ft_layout.specs.declared.slot.Ref.{Ref}
use Rattle.ft_bank.specs.BoxSteps.{box_id, IsBoxIn}
use Rattle.ft_boxes.specs.References.{HoldsBox}
use Rattle.ft_bank.specs.Passes.{shape_of, view}
use Rattle.ft_search.proofs.Unboxing.{name_in, name_is, name_low}
use Rattle.ft_search.proofs.boxed.raise_named.Goals as goal
use Rattle.ft_search.proofs.boxed.raise_named.Goals.{After-box_of}

id_is : (c : After-box_of) → box_id c.box_of.result ≡ c.args.payload
id_is c = name_is c.box_of.result c.args.payload c.box_of.ensures.maker c.box_of.ensures.place

pub box_of-requires : goal.box_of-requires
box_of-requires c = name_low (view c.args.pass.now) c.args.payload c.args.pass.now.possible (subst (λ (z : Shape). IsBoxName z c.args.payload) (sym c.requires.pass.1) c.requires.name)

pub raise_kept-held-requires-clause-name : goal.raise_kept-held-requires-clause-name
raise_kept-held-requires-clause-name c = name_in (shape_of c.args.bank.now) c.box_of.result c.args.payload c.box_of.ensures.maker c.box_of.ensures.place c.requires.name

pub raise_kept-held-requires-clause-kept : goal.raise_kept-held-requires-clause-kept
raise_kept-held-requires-clause-kept c = subst (λ (b : ℕ). KeepsBox (shape_of c.args.bank.now) b (view c.args.pass.now).log) (sym (id_is (goal.at.raise_kept-held-requires-clause-kept c).After-box_of)) c.requires.kept

pub keep-requires-clause-held : goal.keep-requires-clause-held
keep-requires-clause-held c =
    let w = view c.raise_kept-held.new.pass in
    let k : w.shape ≡ shape_of c.args.bank.now = c.raise_kept-held.ensures.pass.1 in
    let more = c.raise_kept-held.ensures.more (box_id c.box_of.result) in
    let one = hit {A = ℕ} (box_id c.box_of.result) 1 0 in
    subst (λ (r : Ref). HoldsBox r w) (sym c.raise_kept-held.ensures.held)
    (subst (λ (z : Shape). IsBoxIn z c.box_of.result) (sym k) (name_in (shape_of c.args.bank.now) c.box_of.result c.args.payload c.box_of.ensures.maker c.box_of.ensures.place c.requires.name), omega (arith, more, one))

pub returns-clause-references : goal.returns-clause-references
returns-clause-references c b =
    let v = view c.args.pass.now in
    let w = view c.raise_kept-held.new.pass in
    subst (λ (z : Shape × Shape × ℕ). references_held z.1 b w.log ≡ references_held z.0 b v.log + cond (eqb b z.2) 1 0) (λ d. (c.requires.pass.1 d, c.raise_kept-held.ensures.pass.1 d, id_is (goal.at.returns-clause-references c).After-box_of d)) (c.raise_kept-held.ensures.more b)
