use Rattle.std.proofs.Common.{sym}
use Rattle.ft_board.proofs.awaits.Awaits.put.Goals as goal

pub returns : goal.returns
returns c = record { put = λ named at. rw (sym c.self.view_is) (c.in_ok-insert.ensures.updates.0 (named, at)) }
