use Rattle.std.proofs.Common.{arith}
use Rattle.ft_script.proofs.Printed.{printed_list}
use Rattle.ft_script.proofs.shown.push_listed.Goals as goal

pub returns : goal.returns
returns g c = printed_list _ _ _ (g.T.Shown.text c.args.strings.now) c.args.shown.now c.first-item.result c.loop-next.next-index (omega arith) c.loop-next-test.false c.first-item.is c.in_ok-push_to.ensures c.loop-next.invariant
