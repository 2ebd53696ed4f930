use Rattle.ft_history.proofs.WriteNumbers.{write_numbers}
use Rattle.ft_history.proofs.laws.writes_are_numbered.Goals as goal

pub returns : goal.returns
returns c = λ storage script entries legal. write_numbers entries (λ place entry at. (legal.chronicle.answered place entry at).stamp)
