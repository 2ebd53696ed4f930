use Rattle.std.proofs.Common.{◌≡◌, drop, refl, ap, arith}
use Rattle.ft_keys.specs.Accesses.{index_loads}
use Rattle.ft_keys.proofs.SlotTries.{front-of}
use Rattle.ft_keys.proofs.search.try_slot.Goals as goal

pub returns-in-Unused-clause-loads : goal.returns-in-Unused-clause-loads
returns-in-Unused-clause-loads g c =
    let left = c.args.walk.now.left in
    let slot = c.in-Some.slot in
    let one = c.in-Unused.ensures.loads in
    let count : index_loads one.0 ≡ 1 = ap index_loads one.2 in
    let ticked = c.tick.ensures in
    (one.0, one.1, (refl, (drop 1 left, front-of left slot c.in-Some.ensures.next, one.2)), omega arith)
