use Rattle.std.proofs.Common.{◌≡◌, sym, ap, ◌∙◌, Some}
use Rattle.std.specs.List.{find}
use Rattle.std.specs.BTreeMap.{values}
use Rattle.ft_model.specs.Members.{is_member, serial_at}
use Rattle.ft_model.specs.contracts.data.KeyPartialEq.TheImpl.{ghosts}
use Rattle.ft_model.proofs.MemberLemmas.{same_keys, found_same}
use Rattle.ft_model.proofs.PlacedMembers.{lookup-placed}
use Rattle.ft_model.proofs.members.Members.find.Goals as goal

pub returns-clause-member : goal.returns-clause-member
returns-clause-member g c =
    let found : serial_at g.T.Member.key_of g.T.Member.serial_of (values c.self.inside.members) c.args.key ≡ Some c.in_ok-serial.serial.now =
    sym (c.in_ok-serial.ensures.value ∙ found_same g.T.Member.key_of g.T.Member.serial_of ghosts.eq same_keys c.self.inside.serials.entries c.args.key ∙ c.self.invariant.found c.args.key) in
    c.copied.ensures ∙ c.get-2.ensures.value
    ∙ lookup-placed g.T.Member.key_of g.T.Member.serial_of c.self.inside.members.entries c.args.key c.in_ok-serial.serial.now c.self.invariant.placed c.self.invariant.are found
    ∙ ap (λ members. find (is_member g.T.Member.key_of c.args.key) members) c.self.view_is
