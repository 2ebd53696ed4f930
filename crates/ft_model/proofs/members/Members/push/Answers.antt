use Rattle.std.proofs.Common.{◌≡◌, ◌∷◌, ◌++◌, [], ◌<◌, sym, ap, subst, ◌∙◌, false}
use Rattle.std.specs.Prelude.{All}
use Rattle.std.specs.List.{list_any}
use Rattle.std.specs.BTreeMap.{values}
use Rattle.std.specs.Map.{values_of}
use Rattle.ft_model.specs.Members.{is_member, serial_at, AreKept}
use Rattle.ft_model.specs.contracts.data.KeyPartialEq.TheImpl.{ghosts}
use Rattle.ft_model.proofs.MemberLemmas.{same_keys, table-push, table-undone}
use Rattle.ft_model.proofs.PlacedMembers.{kept-push}
use Rattle.ft_model.proofs.members.Members.push.Goals as goal

pushed : (g : _) (c : goal.In-Ok g) → AreKept g.T.Member.key_of g.T.Member.serial_of c.insert-2.new.self c.insert.new.self × (values c.insert-2.new.self ≡ values c.self.inside.members ++ c.args.member ∷ [])
pushed g c =
    let absent : list_any (is_member g.T.Member.key_of (g.T.Member.key_of c.args.member)) (values c.self.inside.members) ≡ false = ap (λ members. list_any (is_member g.T.Member.key_of (g.T.Member.key_of c.args.member)) members) c.self.view_is ∙ c.requires.absent in
    let last = subst (λ members. All (λ other. g.T.Member.serial_of other < g.T.Member.serial_of c.args.member) members) (sym c.self.view_is) c.requires.last in
    let table = table-push g.T.Member.key_of g.T.Member.serial_of ghosts.eq same_keys c.self.inside.serials.entries c.insert.new.self.entries (values c.self.inside.members) c.args.member c.key.result c.serial.result c.key.ensures c.serial.ensures c.in_ok-insert.ensures.updates.0 c.self.invariant.found absent in
    kept-push g.T.Member.key_of g.T.Member.serial_of c.self.inside.members c.insert-2.new.self c.self.inside.serials c.insert.new.self c.args.member c.serial-2.result c.self.invariant c.serial-2.ensures absent last c.in-Ok.ensures.entries table

pub invariant_of-self-in-Ok : goal.invariant_of-self-in-Ok
invariant_of-self-in-Ok g c = (pushed g c).0

pub returns-in-Ok-clause-ok : goal.returns-in-Ok-clause-ok
returns-in-Ok-clause-ok g c = (pushed g c).1 ∙ ap (λ members. members ++ c.args.member ∷ []) c.self.view_is

pub invariant_of-self-in-Err : goal.invariant_of-self-in-Err
invariant_of-self-in-Err g c =
    let absent : list_any (is_member g.T.Member.key_of c.key.result) (values c.self.inside.members) ≡ false = ap (λ key. list_any (is_member g.T.Member.key_of key) (values c.self.inside.members)) c.key.ensures ∙ ap (λ members. list_any (is_member g.T.Member.key_of (g.T.Member.key_of c.args.member)) members) c.self.view_is ∙ c.requires.absent in
    let same : c.key-in-Err.result ≡ c.key.result = c.key-in-Err.ensures ∙ sym c.key.ensures in
    let stays : values c.insert-2.new.self ≡ values c.self.inside.members = ap values_of {x = c.insert-2.new.self.entries} c.in-Err.ensures.err in
    let table = table-undone g.T.Member.key_of g.T.Member.serial_of ghosts.eq same_keys c.self.inside.serials.entries c.insert.new.self.entries c.remove.new.self.entries (values c.self.inside.members) c.key.result c.key-in-Err.result c.serial.result same c.in_ok-insert.ensures.updates.0 c.remove.ensures.updates.0 c.self.invariant.found absent in
    record {
      are = rw stays c.self.invariant.are;
      placed = rw c.in-Err.ensures.err c.self.invariant.placed;
      found = λ wanted. table wanted ∙ ap (λ members. serial_at g.T.Member.key_of g.T.Member.serial_of members wanted) (sym stays);
    }
