use Rattle.std.proofs.Common.{◌≡◌, ◌∷◌, ◌++◌, sym, ap, subst, ◌∙◌}
use Rattle.ft_model.specs.Members.{AreMembers}
use Rattle.ft_model.proofs.PlacedMembers.{absent_split, below_split}
use Rattle.ft_model.proofs.members.Members.copy.Goals as goal

are : (g : _) (c : goal.After-push-arg-1 g) → AreMembers g.T.Member.key_of g.T.Member.serial_of (c.loop-member.made ++ c.in-Some.member.now ∷ c.next.new.self)
are g c = subst (AreMembers g.T.Member.key_of g.T.Member.serial_of) (sym c.loop-member.invariant ∙ ap (λ rest. c.loop-member.made ++ rest) c.in-Some.ensures.steps) c.values-member-items.ensures.are_members

pub push-requires-clause-absent : goal.push-requires-clause-absent
push-requires-clause-absent g c = absent_split g.T.Member.key_of g.T.Member.serial_of c.loop-member.made c.next.new.self c.in-Some.member.now (are g c).distinct

pub push-requires-clause-last : goal.push-requires-clause-last
push-requires-clause-last g c = below_split g.T.Member.key_of g.T.Member.serial_of c.loop-member.made c.next.new.self c.in-Some.member.now (are g c).rising
