use Rattle.std.proofs.Common.{◌≡◌}
use Rattle.ft_model.specs.Worlds.{start_hands}
use Rattle.ft_engine.proofs.engine.Engine.caller.Given as goal

abbrev pub invariant-loop : goal.invariant-loop
invariant-loop l = l.room.items ≡ start_hands l.counter
