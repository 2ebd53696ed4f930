use Rattle.std.proofs.Common.{◌≡◌, rules}
use Rattle.ft_model.specs.Worlds.{start_world}
use Rattle.ft_text_tests.proofs.StartWorlds.{start_is}
use Rattle.ft_text_tests.proofs.printing.prints_worlds.Goals as goal

pub print_world-requires : goal.print_world-requires
print_world-requires c d =
    let is : d.in_ok-world.world ≡ start_world d.in_ok-script.script.containers = search rules in
    start_is d.in_ok-script.script d.in_ok-world.world is
