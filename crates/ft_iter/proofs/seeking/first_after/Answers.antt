use Rattle.std.proofs.Common.{refl, ◌∙◌}
use Rattle.ft_iter.proofs.Halving.{halves-on}
use Rattle.ft_iter.proofs.seeking.first_after.Goals as goal

pub halvings-preserved : goal.halvings-preserved
halvings-preserved g c =
    let inv = c.halvings.invariant in
    let entry = c.entry-serial in
    let left = halves-on g.W.Words.gave (g.W.Words.mask c.args.words.now) c.args.words.now c.halvings.words entry.new.self c.args.steps.now c.halvings.steps c.tick.new.self c.args.fill c.args.last c.halvings.low c.halvings.high _ entry.result c.half-lower.result refl c.halvings-test.true inv.order.1 c.tick.ensures c.half-lower.ensures.lower c.half-lower.ensures.upper inv.probed entry.ensures.gave in
    record {
      can = (entry.ensures.can.0, λ may. entry.ensures.can.1 (inv.can.1 may), entry.ensures.can.2 ∙ inv.can.2);
      order = left.0;
      probed = left.1;
    }
