use Rattle.std.proofs.Common.{◌≡◌, sym, ap, ◌∙◌, Some}
use Rattle.std.specs.Prelude.{nat_lt}
use Rattle.std.specs.List.{find, slice_get}
use Rattle.std.specs.Map.{values_of}
use Rattle.ft_model.proofs.PlacedMembers.{find-after}
use Rattle.ft_model.proofs.members.Members.after.Goals as goal

pub returns-in-Some : goal.returns-in-Some
returns-in-Some g c =
    sym (ap (λ members. find (λ member. nat_lt c.args.serial (g.T.Member.serial_of member)) members) (sym c.self.view_is)
    ∙ find-after g.T.Member.key_of g.T.Member.serial_of c.self.inside.members.entries c.range.result c.args.serial c.self.invariant.placed (c.range.ensures.between tt)
    ∙ ap (λ entries. slice_get (values_of entries) 0) c.in-Some.ensures.steps)

pub returns-in-None : goal.returns-in-None
returns-in-None g c =
    sym (ap (λ members. find (λ member. nat_lt c.args.serial (g.T.Member.serial_of member)) members) (sym c.self.view_is)
    ∙ find-after g.T.Member.key_of g.T.Member.serial_of c.self.inside.members.entries c.range.result c.args.serial c.self.invariant.placed (c.range.ensures.between tt)
    ∙ ap (λ entries. slice_get (values_of entries) 0) c.in-None.ensures.steps.0)
