use Rattle.std.proofs.Common.{◌≡◌, sym, ap, ◌∙◌, Some, None}
use Rattle.std.specs.Prelude.{option_map}
use Rattle.std.specs.BTreeMap.{values}
use Rattle.ft_model.specs.Members.{serial_at}
use Rattle.ft_model.proofs.PlacedMembers.{kept-put, lookup-placed, with_member}
use Rattle.ft_model.proofs.members.Members.put.Goals as goal

pub unreachable-requires : goal.unreachable-requires
unreachable-requires g c =
    let key = g.T.Member.key_of c.args.member in
    let found : serial_at g.T.Member.key_of g.T.Member.serial_of (values c.self.inside.members) key ≡ Some c.serial.result =
    ap (λ members. serial_at g.T.Member.key_of g.T.Member.serial_of members key) c.self.view_is ∙ c.requires ∙ ap Some (sym c.serial.ensures) in
    let none : None ≡ Some c.serial.result =
    ap (option_map g.T.Member.serial_of) (sym c.in-Err.ensures.absent ∙ lookup-placed g.T.Member.key_of g.T.Member.serial_of c.self.inside.members.entries key c.serial.result c.self.invariant.placed c.self.invariant.are found) ∙ found in
    cc

pub invariant_of-self : goal.invariant_of-self
invariant_of-self g c =
    let found = ap (λ members. serial_at g.T.Member.key_of g.T.Member.serial_of members (g.T.Member.key_of c.args.member)) c.self.view_is ∙ c.requires in
    (kept-put g.T.Member.key_of g.T.Member.serial_of c.self.inside.members c.insert.new.self c.self.inside.serials c.args.member c.serial.result c.self.invariant c.serial.ensures found c.in-Ok.ensures.entries).0

pub returns : goal.returns
returns g c =
    let found = ap (λ members. serial_at g.T.Member.key_of g.T.Member.serial_of members (g.T.Member.key_of c.args.member)) c.self.view_is ∙ c.requires in
    (kept-put g.T.Member.key_of g.T.Member.serial_of c.self.inside.members c.insert.new.self c.self.inside.serials c.args.member c.serial.result c.self.invariant c.serial.ensures found c.in-Ok.ensures.entries).1
    ∙ ap (with_member g.T.Member.key_of g.T.Member.serial_of c.args.member) c.self.view_is
