use Rattle.ft_ledger.proofs.AddingUp.{adds_up, even_before}
use Rattle.ft_ledger.proofs.laws.tables_add_up.Goals as goal

pub returns-clause-classes : goal.returns-clause-classes
returns-clause-classes c script entries place rule are errors = (even_before script entries rule are errors place).kept

pub returns-clause-sum : goal.returns-clause-sum
returns-clause-sum c script entries place rule are errors = adds_up script entries rule are errors place
