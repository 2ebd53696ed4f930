use Rattle.ft_trace.specs.declared.Act.TheVariants.{Answer}
use Rattle.ft_bank.proofs.bank.Bank.answer.Given as goal

abbrev pub ghosts-answer_as : goal.ghosts-answer_as
ghosts-answer_as a = record { act = λ n. Answer a.call.now a.reply.now a.number }
