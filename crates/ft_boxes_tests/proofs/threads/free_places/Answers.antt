use Rattle.std.proofs.Common.{ap, ◌∙◌}
use Rattle.ft_trace.specs.declared.View.{View}
use Rattle.ft_boxes_tests.proofs.StillPasses.{loaded_calls}
use Rattle.ft_boxes_tests.proofs.threads.free_places.Goals as goal

pub returns : goal.returns
returns c =
    let did = c.read_free_places.ensures.did in
    let was = c.requires.may in
    record { may = loaded_calls c.args.bank.now c.args.pass.now c.read_free_places.new.pass was (did.0 ∙ was.pass.0, ap (λ (v : View). v.shape) did.1 ∙ was.pass.1) did.2 c.read_free_places.ensures.only }
