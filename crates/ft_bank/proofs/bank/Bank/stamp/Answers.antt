use Rattle.ft_trace.specs.Addresses.{counter}
use Rattle.ft_trace.proofs.Addresses.{at_low}
use Rattle.ft_bank.specs.Passes.{shape_of, view}
use Rattle.ft_bank.proofs.Seen.{load_sees}
use Rattle.ft_bank.proofs.bank.Bank.stamp.Goals as goal

pub load_as-requires-clause-word : goal.load_as-requires-clause-word
load_as-requires-clause-word c = at_low (shape_of c.args.self.now) counter tt

pub returns-clause-seen : goal.returns-clause-seen
returns-clause-seen c = load_sees (view c.args.pass.now) c.load_as.result c.load_as.ensures.acted
