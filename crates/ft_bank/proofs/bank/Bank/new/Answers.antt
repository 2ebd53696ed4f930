use Rattle.std.proofs.Common.{sym, ap, ◌∙◌, subst}
use Rattle.ft_trace.specs.Acts.{starter}
use Rattle.ft_bank.specs.Passes.{shape_of}
use Rattle.ft_bank.specs.NewPasses.{HasMade}
use Rattle.ft_bank.proofs.Openings.{starts}
use Rattle.ft_bank.proofs.bank.Bank.new.Goals as goal

pub others-requires-clause-made : goal.others-requires-clause-made
others-requires-clause-made c =
    let k = shape_of c.in_ok-bank.bank in
    let e = c.in_ok-bank.ensures in
    subst (HasMade k 0) (sym (e.view ∙ ap starter (sym e.shape))) (starts k)
