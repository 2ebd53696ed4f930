use Rattle.ft_section.proofs.Fresh.{fresh_ready}
use Rattle.ft_section.proofs.beginning.new_passes_are_ready.Goals as goal

pub returns : goal.returns
returns c = fresh_ready c.args.bank.now c.requires.0 c.args.pass.now c.requires.1
