use Rattle.std.proofs.Common.{ap, ◌∙◌, is_some}
use Rattle.std.specs.List.{list_any}
use Rattle.std.specs.BTreeMap.{values}
use Rattle.ft_model.specs.Members.{is_member}
use Rattle.ft_model.specs.contracts.data.KeyPartialEq.TheImpl.{ghosts}
use Rattle.ft_model.proofs.MemberLemmas.{same_keys, serial_at-some, found_same}
use Rattle.ft_model.proofs.members.Members.has.Goals as goal

pub returns : goal.returns
returns g c =
    c.contains_key.ensures
    ∙ ap is_some (found_same g.T.Member.key_of g.T.Member.serial_of ghosts.eq same_keys c.self.inside.serials.entries c.args.key ∙ c.self.invariant.found c.args.key)
    ∙ serial_at-some g.T.Member.key_of g.T.Member.serial_of (values c.self.inside.members) c.args.key
    ∙ ap (λ members. list_any (is_member g.T.Member.key_of c.args.key) members) c.self.view_is
