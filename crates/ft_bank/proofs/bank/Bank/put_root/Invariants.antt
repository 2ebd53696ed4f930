use Rattle.ft_trace.specs.declared.Act.TheVariants.{PutRoot}
use Rattle.ft_trace.specs.Pictures.{root_in}
use Rattle.ft_trace.specs.Holds.{held_words}
use Rattle.ft_bank.specs.Passes.{view}
use Rattle.ft_bank.proofs.bank.Bank.put_root.Given as goal

abbrev pub ghosts-store_as : goal.ghosts-store_as
ghosts-store_as a = record { act = λ n. PutRoot a.o a.t (root_in (held_words a.o (view a.pass.now))) }
