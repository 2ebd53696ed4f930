use Rattle.ft_trace.specs.declared.Act.TheVariants.{PublishBox}
use Rattle.ft_bank.proofs.bank.Bank.publish_box.Given as goal

abbrev pub ghosts-store_as : goal.ghosts-store_as
ghosts-store_as a = record { act = λ n. PublishBox a.o }
