use Rattle.ft_trace.proofs.Lows.{lows}
use Rattle.ft_trace.proofs.laws.entry_versions_are_low.Goals as goal

pub returns : goal.returns
returns c k es valid o low t names p less = let all = lows k es valid o low t names in (all.odd p less, all.even p less)
