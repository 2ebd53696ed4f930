use Rattle.ft_ledger.proofs.HeldBack.{own_held}
use Rattle.ft_ledger.proofs.laws.own_tables_are_held_back.Goals as goal

pub returns : goal.returns
returns c script entries whole place entry at collects = own_held script entries whole place entry at collects
