use Rattle.std.proofs.Common.{rules}
use Rattle.ft_model.specs.contracts.data.KeyPartialEq.TheImpl.{ghosts}
use Rattle.ft_model.proofs.MemberLemmas.{same_keys}
use Rattle.ft_model.proofs.PlacedMembers.{kept-first}
use Rattle.ft_model.proofs.members.Members.pop_first.Goals as goal

pub invariant_of-self-2 : goal.invariant_of-self-2
invariant_of-self-2 g c = kept-first g.T.Member.key_of g.T.Member.serial_of ghosts.eq same_keys c.self.inside.members c.pop_first.new.self c.self.inside.serials c.remove.new.self (c.in_ok-member.field-0-0, c.in_ok-member.member) c.key.result c.self.invariant c.in_ok-member.ensures.removal c.key.ensures c.remove.ensures.updates.0
