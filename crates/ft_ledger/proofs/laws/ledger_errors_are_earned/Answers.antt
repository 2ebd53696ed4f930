use Rattle.ft_ledger.proofs.Earned.{used_up, fitting, all_are_earned}
use Rattle.ft_ledger.proofs.laws.ledger_errors_are_earned.Goals as goal

pub returns-clause-found : goal.returns-clause-found
returns-clause-found c script entries rule are errors place entry at class memory =
    record {
      used_up = used_up script entries rule are errors place entry at class memory;
      fitting = fitting script entries rule are errors place entry at class memory;
    }

pub returns-clause-earned : goal.returns-clause-earned
returns-clause-earned c script entries rule are errors others = all_are_earned script entries rule are errors others
