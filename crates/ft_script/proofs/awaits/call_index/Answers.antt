use Rattle.std.proofs.Common.{Ok, Err}
use Rattle.ft_script.proofs.NumberLemmas.{index_is}
use Rattle.ft_script.proofs.awaits.call_index.Goals as goal

pub returns-in-Ok : goal.returns-in-Ok
returns-in-Ok c = index_is c.args.digits.now (Ok c.in-Ok.index) c.requires c.in-Ok.ensures

pub returns-in-Err : goal.returns-in-Err
returns-in-Err c = index_is c.args.digits.now (Err _) c.requires c.in-Err.ensures
