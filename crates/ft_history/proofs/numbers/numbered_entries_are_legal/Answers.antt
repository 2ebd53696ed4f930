use Rattle.ft_history.proofs.NumberedHistories.{history_by_numbers}
use Rattle.ft_history.proofs.numbers.numbered_entries_are_legal.Goals as goal

pub returns : goal.returns
returns c = history_by_numbers
