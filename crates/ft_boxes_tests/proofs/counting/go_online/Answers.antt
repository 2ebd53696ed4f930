use Rattle.ft_bank.specs.Passes.{view}
use Rattle.ft_boxes_tests.proofs.StillPasses.{entered_calls}
use Rattle.ft_boxes_tests.proofs.counting.go_online.Goals as goal

pub returns : goal.returns
returns c =
    let did = c.enter.ensures.did in
    record {
      caller = entered_calls c.args.bank.now c.args.pass.now c.enter.new.pass (view c.args.pass.now).number did.0 c.requires c.enter.ensures.pass did.1.2 did.1.1;
      online = c.enter.ensures.online;
    }
