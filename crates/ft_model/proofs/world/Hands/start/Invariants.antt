use Rattle.std.proofs.Common.{◌≡◌}
use Rattle.ft_model.specs.Worlds.{start_hands}
use Rattle.ft_model.proofs.world.Hands.start.Given as goal

abbrev pub invariant-loop : goal.invariant-loop
invariant-loop l = l.cursors.items ≡ start_hands l.counter
