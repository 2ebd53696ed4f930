use Rattle.std.proofs.Common.{◌*◌, ◌^◌, ◌<◌, sym, subst, arith}
use Rattle.ft_trace.specs.declared.Shape.{Shape}
use Rattle.ft_bank.specs.Passes.{shape_of, view}
use Rattle.ft_bank.proofs.ShownReplies.{serials_have_room}
use Rattle.ft_merging.proofs.JoinedSame.{known_cap}
use Rattle.ft_set.proofs.Joins.{xor_parts}
use Rattle.ft_set.proofs.merges.xor_by.Goals as goal

pub part_by-requires-clause-serials : goal.part_by-requires-clause-serials
part_by-requires-clause-serials c =
    let a = c.args in
    let room = serials_have_room (view a.pass.now) a.s a.pass.now.possible (subst (λ (k : Shape). k.passes * k.calls < 2 ^ 46) (sym c.requires.pass.1) a.bank.now.few) c.requires.may.locked in
    omega (arith, room)

pub part_by-requires-clause-parts : goal.part_by-requires-clause-parts
part_by-requires-clause-parts c =
    let a = c.args in
    let k = shape_of a.bank.now in
    let v = view a.pass.now in
    xor_parts k a.s a.t v c.requires.pass.1 a.pass.now.possible c.requires.may c.requires.other c.requires.set c.requires.other_set
    (known_cap k a.t v c.requires.pass.1 a.pass.now.possible c.requires.other.keyed c.requires.other.locked c.requires.other.stands (record { pairs = c.used_entries_follow_a_dict.ensures.first; elements = c.used_entries_follow_a_set.ensures.first }))
