use Rattle.ft_bank.specs.Passes.{view}
use Rattle.ft_qsbr.proofs.Lawful.{cleared_unread}
use Rattle.ft_qsbr.proofs.laws.cleared_tables_are_not_read.Goals as goal

pub returns : goal.returns
returns c = cleared_unread (view c.args.pass.now)
