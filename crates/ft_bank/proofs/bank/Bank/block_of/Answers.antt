use Rattle.std.proofs.Common.{arith}
use Rattle.ft_trace.proofs.Addresses.{far_up, far_low}
use Rattle.ft_bank.specs.Passes.{shape_of}
use Rattle.ft_bank.proofs.bank.Bank.block_of.Goals as goal

pub returns-clause-low : goal.returns-clause-low
returns-clause-low c =
    let k = shape_of c.args.self.now in
    omega (arith, far_up k, far_low k, c.requires.container)
