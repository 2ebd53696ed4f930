use Rattle.ft_history.proofs.LaterNumbers.{needs_stay, right_stays}
use Rattle.ft_history.proofs.numbers.right_entries_stay_right.Goals as goal

pub returns-clause-needs : goal.returns-clause-needs
returns-clause-needs c = needs_stay

pub returns-clause-right : goal.returns-clause-right
returns-clause-right c = right_stays
