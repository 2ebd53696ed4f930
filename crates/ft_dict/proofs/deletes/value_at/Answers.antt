use Rattle.std.proofs.Common.{◌<◌, Some, sym, ap, ◌∙◌, subst}
use Rattle.std.proofs.Math.Logic.{∥∥₁_elim}
use Rattle.ft_model.specs.declared.content.Content.{Content}
use Rattle.ft_trace.specs.declared.Shape.{Shape}
use Rattle.ft_trace.specs.Addresses.{container_count}
use Rattle.ft_trace.specs.ContainerStates.{kind_in}
use Rattle.ft_bank.specs.Passes.{view}
use Rattle.ft_search.specs.Held.{IsHeldAt}
use Rattle.ft_search.proofs.FoundInContents.{dict_known}
use Rattle.ft_dict.proofs.Reading.{value_known}
use Rattle.ft_dict.proofs.deletes.value_at.Goals as goal

pub unreachable-requires : goal.unreachable-requires
unreachable-requires c =
    let v = view c.args.pass.now in
    let d = c.args.d in
    let is = dict_known v d c.args.pass.now.possible c.requires.locked (ap (λ (k : Shape). kind_in k.starts d) c.requires.pass.1 ∙ c.requires.dict) in
    let h = subst (λ (z : Content). IsHeldAt z c.args.key (Some (c.args.value_kind, c.args.payload))) is.1 c.requires.held in
    let low = subst (λ (k : Shape). d < container_count k) (sym c.requires.pass.1) c.requires.container in
    ∥∥₁_elim c.args.pass.now.possible (λ a b. absurd a)
    (λ possible.
    let r = value_known v d c.args.key is.0 c.args.value_kind c.args.payload h.0 possible low c.requires.locked is.1 c.requires.key h.1 in
    c.in_default.not-Some r.0 ((c.value_of.ensures r.0).0 r.1))

pub returns : goal.returns
returns c =
    let v = view c.args.pass.now in
    let d = c.args.d in
    let is = dict_known v d c.args.pass.now.possible c.requires.locked (ap (λ (k : Shape). kind_in k.starts d) c.requires.pass.1 ∙ c.requires.dict) in
    let h = subst (λ (z : Content). IsHeldAt z c.args.key (Some (c.args.value_kind, c.args.payload))) is.1 c.requires.held in
    (is.0, is.1, (c.args.value_kind, c.args.payload, h.0, h.1, (c.value_of.ensures c.in-Some.value).1 c.in-Some.is))
