use Rattle.std.proofs.Common.{arith}
use Rattle.ft_bank.proofs.bank.Bank.unlock.Goals as goal

pub store_as-requires-clause-word : goal.store_as-requires-clause-word
store_as-requires-clause-word c = omega (arith, c.block_of-word.ensures.low)
