use Rattle.std.proofs.Common.{◌++◌, suc, length, subst, ap, ◌∙◌, sym, arith}
use Rattle.std.specs.Prelude.{All}
use Rattle.ft_script.proofs.Printed.{each_listed, each_more}
use Rattle.ft_script.proofs.shown.push_each.Goals as goal

pub loop-member-preserved : goal.loop-member-preserved
loop-member-preserved g c =
    let text = g.T.Shown.text c.args.strings.now in
    let rest = subst (All (g.T.Shown.is_of (length c.args.strings.now))) c.in-Some.ensures.steps c.loop-member.invariant.rest in
    record {
      printed = each_more text _ c.loop-member.out.items c.extend_from_slice.new.self.items c.push_to.new.out.items c.in-Some.member.now c.next.new.self c.in_ok-extend_from_slice.ensures.items c.in_ok-push_to.ensures (ap (λ left. c.loop-member.out.items ++ each_listed text left) (sym c.in-Some.ensures.steps) ∙ c.loop-member.invariant.printed);
      rest = λ k d low. rest (suc k) d (omega arith);
    }
