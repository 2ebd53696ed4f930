use Rattle.std.proofs.Common.{rules, append_assoc}
use Rattle.ft_script.proofs.Printed.{listed-cons}
use Rattle.ft_script.proofs.shown.push_parted.Goals as goal

pub returns : goal.returns
returns g c = search (rules, listed-cons, append_assoc)
