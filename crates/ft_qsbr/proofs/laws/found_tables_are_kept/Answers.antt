use Rattle.ft_bank.specs.Passes.{view}
use Rattle.ft_qsbr.proofs.Lawful.{found_kept}
use Rattle.ft_qsbr.proofs.laws.found_tables_are_kept.Goals as goal

pub returns : goal.returns
returns c = found_kept (view c.args.pass.now)
