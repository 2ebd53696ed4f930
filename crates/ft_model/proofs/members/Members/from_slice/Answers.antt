use Rattle.std.proofs.Common.{◌≡◌, ◌<◌, length, get_or, take, ap, ◌∙◌, arith}
use Rattle.std.specs.List.{list_any}
use Rattle.std.proofs.lemmas.List.{get_or-take, get_or_default, length-take-le}
use Rattle.ft_model.specs.Members.{is_member}
use Rattle.ft_model.proofs.MemberLemmas.{absent_before}
use Rattle.ft_model.proofs.members.Members.from_slice.Goals as goal

pub push-requires-clause-absent : goal.push-requires-clause-absent
push-requires-clause-absent g c =
    let i = c.loop-member.member-index in
    let xs = c.args.members.now in
    ap (list_any (is_member g.T.Member.key_of (g.T.Member.key_of c.member-item.result))) c.loop-member.invariant
    ∙ ap (λ m. list_any (is_member g.T.Member.key_of (g.T.Member.key_of m)) (take i xs)) c.member-item.is
    ∙ absent_before g.T.Member.key_of xs i c.member-item.result c.loop-member-test.true c.requires.distinct

pub push-requires-clause-last : goal.push-requires-clause-last
push-requires-clause-last g c = λ k d low.
    let i = c.loop-member.member-index in
    let xs = c.args.members.now in
    let long : length c.loop-member.made ≡ i = ap length c.loop-member.invariant ∙ length-take-le i xs c.loop-member.auto.member-index-end in
    let below : g.T.Member.serial_of (get_or xs k c.member-item.result) < g.T.Member.serial_of (get_or xs i c.member-item.result) = c.requires.rising k i c.member-item.result (omega arith) c.loop-member-test.true in
    let there : g.T.Member.serial_of (get_or c.loop-member.made k d) ≡ g.T.Member.serial_of (get_or xs k c.member-item.result) = ap (λ members. g.T.Member.serial_of (get_or members k d)) c.loop-member.invariant ∙ ap g.T.Member.serial_of (get_or-take i xs k d (omega arith) ∙ get_or_default xs k d c.member-item.result (omega (arith, c.loop-member-test.true))) in
    let here : g.T.Member.serial_of c.member-item.result ≡ g.T.Member.serial_of (get_or xs i c.member-item.result) = ap g.T.Member.serial_of c.member-item.is in
    omega arith
