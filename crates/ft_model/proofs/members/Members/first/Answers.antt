use Rattle.std.proofs.Common.{sym, ap, ◌∙◌, true}
use Rattle.std.specs.List.{find}
use Rattle.std.specs.Map.{values_of}
use Rattle.ft_model.proofs.PlacedMembers.{find_true, values_at}
use Rattle.ft_model.proofs.members.Members.first.Goals as goal

pub returns-in-Some : goal.returns-in-Some
returns-in-Some g c = sym (ap (find (λ _. true)) (sym c.self.view_is) ∙ find_true (values_of c.self.inside.members.entries) ∙ values_at c.self.inside.members.entries 0 _ c.in-Some.ensures.first)
