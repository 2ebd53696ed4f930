use Rattle.ft_ledger.proofs.Leaving.{leaves_after_last, all_leave}
use Rattle.ft_ledger.proofs.laws.threads_leave_after_their_last_calls.Goals as goal

pub returns-clause-each : goal.returns-clause-each
returns-clause-each c script entries place thread whole within = leaves_after_last script entries whole place thread within

pub returns-clause-all : goal.returns-clause-all
returns-clause-all c script entries whole = all_leave script entries whole
