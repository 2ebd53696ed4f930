use Rattle.ft_runner.proofs.CauseLemmas.{cause_of}
use Rattle.ft_runner.proofs.laws.reports_have_their_causes.Goals as goal

pub returns : goal.returns
returns c command text report on = cause_of command text report on
