use Rattle.std.proofs.Common.{◌≡◌, sym, ap, ◌∙◌, ◌-◌, length, true, reverse, Some}
use Rattle.std.specs.List.{find, slice_get}
use Rattle.std.specs.Map.{values_of}
use Rattle.ft_model.proofs.PlacedMembers.{find_last, last_value}
use Rattle.ft_model.proofs.members.Members.last.Goals as goal

pub returns-in-Some : goal.returns-in-Some
returns-in-Some g c =
    sym (ap (λ members. find (λ _. true) (reverse members)) (sym c.self.view_is) ∙ find_last (values_of c.self.inside.members.entries) ∙ last_value c.self.inside.members.entries _ c.in-Some.ensures.last)
