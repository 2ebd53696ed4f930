use Rattle.std.proofs.Common.{◌≡◌, take}
use Rattle.ft_model.specs.Worlds.{start_world}
use Rattle.ft_model.proofs.world.World.start.Given as goal

abbrev pub invariant-loop-container : goal.invariant-loop-container
invariant-loop-container l = l.contents.items ≡ start_world (take l.container-index l.containers)
