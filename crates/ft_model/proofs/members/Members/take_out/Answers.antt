use Rattle.std.proofs.Common.{◌≡◌, not, sym, ap, ◌∙◌, Some, None}
use Rattle.std.specs.Prelude.{filter}
use Rattle.std.specs.BTreeMap.{values}
use Rattle.ft_model.specs.Members.{is_member, serial_at}
use Rattle.ft_model.specs.contracts.data.KeyPartialEq.TheImpl.{ghosts}
use Rattle.ft_model.proofs.MemberLemmas.{same_keys, found_same, filter-none, position-none}
use Rattle.ft_model.proofs.PlacedMembers.{kept-remove}
use Rattle.ft_model.proofs.members.Members.take_out.Goals as goal

pub invariant_of-self : goal.invariant_of-self
invariant_of-self g c =
    let found : serial_at g.T.Member.key_of g.T.Member.serial_of (values c.self.inside.members) c.args.key ≡ Some c.in-Some.serial =
    sym (c.in-Some.ensures.value ∙ found_same g.T.Member.key_of g.T.Member.serial_of ghosts.eq same_keys c.self.inside.serials.entries c.args.key ∙ c.self.invariant.found c.args.key) in
    (kept-remove g.T.Member.key_of g.T.Member.serial_of ghosts.eq same_keys c.self.inside.members c.remove-in-Some.new.self c.self.inside.serials c.remove.new.self c.args.key c.in-Some.serial c.self.invariant found c.remove-in-Some.ensures.entries c.remove.ensures.updates.0).0

pub returns-in-Some : goal.returns-in-Some
returns-in-Some g c =
    let found : serial_at g.T.Member.key_of g.T.Member.serial_of (values c.self.inside.members) c.args.key ≡ Some c.in-Some.serial =
    sym (c.in-Some.ensures.value ∙ found_same g.T.Member.key_of g.T.Member.serial_of ghosts.eq same_keys c.self.inside.serials.entries c.args.key ∙ c.self.invariant.found c.args.key) in
    (kept-remove g.T.Member.key_of g.T.Member.serial_of ghosts.eq same_keys c.self.inside.members c.remove-in-Some.new.self c.self.inside.serials c.remove.new.self c.args.key c.in-Some.serial c.self.invariant found c.remove-in-Some.ensures.entries c.remove.ensures.updates.0).1
    ∙ ap (filter (λ member. not (is_member g.T.Member.key_of c.args.key member))) c.self.view_is

pub returns-in_default : goal.returns-in_default
returns-in_default g c =
    let none : serial_at g.T.Member.key_of g.T.Member.serial_of (values c.self.inside.members) c.args.key ≡ None =
    sym (sym c.in_default.is ∙ c.remove.ensures.value ∙ found_same g.T.Member.key_of g.T.Member.serial_of ghosts.eq same_keys c.self.inside.serials.entries c.args.key ∙ c.self.invariant.found c.args.key) in
    sym (filter-none g.T.Member.key_of g.T.Member.serial_of (values c.self.inside.members) c.args.key (position-none g.T.Member.key_of g.T.Member.serial_of (values c.self.inside.members) c.args.key none))
    ∙ ap (filter (λ member. not (is_member g.T.Member.key_of c.args.key member))) c.self.view_is
