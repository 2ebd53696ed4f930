use Rattle.std.proofs.Common.{◌≡◌, ◌+◌, ℕ, length}
use Rattle.std.specs.Arc.{arc_value}
use Rattle.std.specs.Vec.Iter.{into_iter_items}
use Rattle.ft_engine.specs.Callers.{AreFreshCallers}
use Rattle.ft_facade.specs.Sessions.{AreFreshSessions}
use Rattle.ft_facade.proofs.session.sessions_of.Given as goal

abbrev pub invariant-loop-caller : goal.invariant-loop-caller
invariant-loop-caller l =
    ((room : ℕ) → AreFreshCallers (arc_value l.engine) room 0 (into_iter_items l.initial.caller-iterator)
    → AreFreshCallers (arc_value l.engine) room (length l.sessions.items) (into_iter_items l.caller-iterator)
    × AreFreshSessions (arc_value l.engine) room 0 l.sessions.items)
    × (length l.sessions.items + length (into_iter_items l.caller-iterator) ≡ length (into_iter_items l.initial.caller-iterator))
