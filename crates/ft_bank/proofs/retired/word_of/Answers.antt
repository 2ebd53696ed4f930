use Rattle.std.proofs.Common.{sym}
use Rattle.ft_bank.proofs.Freeing.{word_is}
use Rattle.ft_bank.proofs.retired.word_of.Goals as goal

pub returns-clause-is : goal.returns-clause-is
returns-clause-is c = sym (word_is c.args.table c.requires.class c.requires.number)
