use Rattle.std.proofs.Common.{◌≡◌, sym, ap, ◌∙◌, reverse, Some}
use Rattle.std.specs.Prelude.{nat_lt}
use Rattle.std.specs.List.{find}
use Rattle.ft_model.proofs.PlacedMembers.{find-before, find-none_before}
use Rattle.ft_model.proofs.members.Members.before.Goals as goal

pub returns-in-Some : goal.returns-in-Some
returns-in-Some g c =
    sym (ap (λ members. find (λ member. nat_lt (g.T.Member.serial_of member) c.args.serial) (reverse members)) (sym c.self.view_is)
    ∙ find-before g.T.Member.key_of g.T.Member.serial_of c.self.inside.members.entries c.range.result c.next_back.new.self c.args.serial (c.in-Some.field-0-0.now, c.in-Some.member.now) c.self.invariant.placed (c.range.ensures.between tt) c.in-Some.ensures.steps)

pub returns-in-None : goal.returns-in-None
returns-in-None g c =
    sym (ap (λ members. find (λ member. nat_lt (g.T.Member.serial_of member) c.args.serial) (reverse members)) (sym c.self.view_is)
    ∙ find-none_before g.T.Member.key_of g.T.Member.serial_of c.self.inside.members.entries c.range.result c.args.serial c.self.invariant.placed (c.range.ensures.between tt) c.in-None.ensures.steps.0)
