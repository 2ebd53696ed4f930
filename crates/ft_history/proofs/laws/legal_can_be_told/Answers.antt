use Rattle.ft_history.proofs.LegalThere.{legal_told}
use Rattle.ft_history.proofs.laws.legal_can_be_told.Goals as goal

pub returns : goal.returns
returns c = legal_told
