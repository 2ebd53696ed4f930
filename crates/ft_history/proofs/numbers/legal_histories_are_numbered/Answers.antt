use Rattle.ft_history.proofs.NumberedHistories.{numbers_of_history}
use Rattle.ft_history.proofs.numbers.legal_histories_are_numbered.Goals as goal

pub returns : goal.returns
returns c = numbers_of_history
