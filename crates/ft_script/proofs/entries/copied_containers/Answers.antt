use Rattle.std.proofs.Common.{◌∙◌}
use Rattle.std.proofs.lemmas.List.{take_all}
use Rattle.ft_script.proofs.entries.copied_containers.Goals as goal

pub returns : goal.returns
returns c = c.from_vec.ensures ∙ c.loop-container.invariant ∙ take_all c.loop-container.container-index c.args.containers.now c.loop-container-test.false
