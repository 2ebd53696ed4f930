use Rattle.ft_trace.specs.declared.Act.TheVariants.{ReadBlock}
use Rattle.ft_bank.proofs.bank.Bank.read_block.Given as goal

abbrev pub ghosts-load_as : goal.ghosts-load_as
ghosts-load_as a = record { act = λ n. ReadBlock a.o a.i n }
