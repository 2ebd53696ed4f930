use Rattle.std.proofs.Common.{◌≡◌, ◌++◌}
use Rattle.ft_model.proofs.members.Members.copy.Given as goal

abbrev pub invariant-loop-member : goal.invariant-loop-member
invariant-loop-member g l = l.made ++ l.member-iterator ≡ l.self
