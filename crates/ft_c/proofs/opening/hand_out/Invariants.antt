use Rattle.std.proofs.Common.{All}
use Rattle.std.specs.Vec.Iter.{into_iter_items}
use Rattle.ft_facade.specs.Sessions.{IsSession}
use Rattle.ft_c.specs.Handles.{IsHandle}
use Rattle.ft_c.proofs.opening.hand_out.Given as goal

abbrev pub invariant-loop-session : goal.invariant-loop-session
invariant-loop-session l = All IsSession (into_iter_items l.session-iterator) × All IsHandle l.out
