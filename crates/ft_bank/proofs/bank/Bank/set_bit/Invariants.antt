use Rattle.ft_trace.specs.declared.Act.TheVariants.{GiveTable}
use Rattle.ft_bank.specs.TableNames.{table_id}
use Rattle.ft_bank.proofs.bank.Bank.set_bit.Given as goal

abbrev pub ghosts-give_as : goal.ghosts-give_as
ghosts-give_as a = record { act = λ n. GiveTable (table_id a.table) }
