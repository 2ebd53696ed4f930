use Rattle.ft_bank.specs.Passes.{view}
use Rattle.ft_reuse_tests.proofs.PassesLeft.{left_is_free}
use Rattle.ft_reuse_tests.proofs.joining.finish.Goals as goal

pub returns-clause-free : goal.returns-clause-free
returns-clause-free c =
    let d = c.leave.ensures.did in
    let m = c.merge_all.ensures in
    left_is_free (view c.drop_all.new.pass) (view c.merge_all.new.pass) (view c.leave.new.pass) d.0 c.drop_all.ensures.free c.drop_all.ensures.ready.inside.1.still m.only m.same m.places m.settled m.merges.all d.1 c.leave.ensures.offline
