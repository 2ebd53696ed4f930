use Rattle.ft_trace.proofs.FitCalls.{contents_fit, contents_fit_at}
use Rattle.ft_trace.proofs.laws.contents_fit.Goals as goal

pub returns : goal.returns
returns c k es valid = (contents_fit k es valid, contents_fit_at k es valid)
