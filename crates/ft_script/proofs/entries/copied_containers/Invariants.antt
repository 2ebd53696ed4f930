use Rattle.std.proofs.Common.{◌≡◌, take}
use Rattle.ft_script.proofs.entries.copied_containers.Given as goal

abbrev pub invariant-loop-container : goal.invariant-loop-container
invariant-loop-container l = l.copied.items ≡ take l.container-index l.containers
