use Rattle.std.proofs.Common.{◌≡◌, take}
use Rattle.ft_model.proofs.members.Members.from_slice.Given as goal

abbrev pub invariant-loop-member : goal.invariant-loop-member
invariant-loop-member g l = l.made ≡ take l.member-index l.members
