use Rattle.std.proofs.Common.{◌≡◌, ap, sym, ◌∙◌, ◌-◌, ◌++◌, ◌∷◌, [], length}
use Rattle.std.specs.List.{slice_get}
use Rattle.std.specs.Map.{values_of}
use Rattle.ft_model.specs.contracts.data.KeyPartialEq.TheImpl.{ghosts}
use Rattle.ft_model.proofs.MemberLemmas.{same_keys}
use Rattle.ft_model.proofs.PlacedMembers.{kept-last, values-last, get_last, take_but_last}
use Rattle.ft_model.proofs.members.Members.pop_last.Goals as goal

pub invariant_of-self-2 : goal.invariant_of-self-2
invariant_of-self-2 g c = kept-last g.T.Member.key_of g.T.Member.serial_of ghosts.eq same_keys c.self.inside.members c.pop_last.new.self c.self.inside.serials c.remove.new.self (c.in_ok-member.field-0-0, c.in_ok-member.member) c.key.result c.self.invariant c.in_ok-member.ensures.removal c.key.ensures c.remove.ensures.updates.0

pub returns-clause-last : goal.returns-clause-last
returns-clause-last g c =
    let xs = values_of c.pop_last.new.self.entries in
    let all : values_of c.self.inside.members.entries ≡ xs ++ c.in_ok-member.member ∷ [] = ap values_of c.in_ok-member.ensures.removal ∙ values-last g.T.Member.key_of g.T.Member.serial_of c.pop_last.new.self.entries c.in_ok-member.field-0-0 c.in_ok-member.member in
    sym (ap (λ members. slice_get members (length members - 1)) (sym c.self.view_is ∙ all) ∙ get_last xs c.in_ok-member.member)
