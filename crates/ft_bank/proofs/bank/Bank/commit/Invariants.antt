use Rattle.ft_trace.specs.declared.Act.TheVariants.{Commit}
use Rattle.ft_bank.proofs.bank.Bank.commit.Given as goal

abbrev pub ghosts-commit_as : goal.ghosts-commit_as
ghosts-commit_as a = record { act = λ n s. Commit a.call.now a.reply.now n s }
