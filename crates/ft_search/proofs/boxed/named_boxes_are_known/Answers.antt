use Rattle.ft_bank.specs.Passes.{view}
use Rattle.ft_bank.proofs.NamedBoxes.{named_is_box, named_is_known}
use Rattle.ft_search.proofs.boxed.named_boxes_are_known.Goals as goal

pub returns : goal.returns
returns c o t row low mine names less four =
    let p = c.args.pass.now in
    let v = view p in
    let known = named_is_known v o t row p.possible low mine names less four in
    (named_is_box v o t row p.possible low mine names less four, known.0, known.1)
