use Rattle.ft_trace.specs.declared.Act.TheVariants.{MergeCounts}
use Rattle.ft_bank.proofs.bank.Bank.merge_counts.Given as goal

abbrev pub ghosts-raise_as : goal.ghosts-raise_as
ghosts-raise_as a = record { act = λ n. MergeCounts a.b a.more n }
