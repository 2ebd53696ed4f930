use Rattle.ft_trace.specs.declared.Act.TheVariants.{AnswerCursor}
use Rattle.ft_bank.specs.Passes.{cursor_under}
use Rattle.ft_bank.proofs.bank.Bank.answer_cursor.Given as goal

abbrev pub ghosts-answer_cursor_as : goal.ghosts-answer_cursor_as
ghosts-answer_cursor_as a = record { act = λ n. AnswerCursor a.call.now a.reply.now a.stamp a.number (cursor_under a.pass.now a.number) a.cursor.now }
