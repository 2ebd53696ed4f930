use Rattle.ft_trace.specs.declared.Act.TheVariants.{PutHeader}
use Rattle.ft_bank.specs.TableNames.{table_id}
use Rattle.ft_bank.proofs.bank.Bank.put_goal.Given as goal

abbrev pub ghosts-goal_as : goal.ghosts-goal_as
ghosts-goal_as a = record { act = λ n. PutHeader (table_id a.table) a.goal }
