use Rattle.ft_history.proofs.Unbroken.{unbroken_of_legal, legal_of_unbroken}
use Rattle.ft_history.proofs.laws.legal_is_unbroken.Goals as goal

pub returns : goal.returns
returns c = λ storage script entries. (unbroken_of_legal storage script entries, legal_of_unbroken storage script entries)
