use Rattle.ft_script.proofs.SaidLines.{same_said}
use Rattle.ft_script.proofs.laws.only_words_are_read.Goals as goal

pub returns : goal.returns
returns c = same_said
