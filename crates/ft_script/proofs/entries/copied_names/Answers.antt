use Rattle.std.proofs.Common.{◌∙◌}
use Rattle.std.proofs.lemmas.List.{take_all}
use Rattle.ft_script.proofs.entries.copied_names.Goals as goal

pub returns : goal.returns
returns c = c.from_vec.ensures ∙ c.loop-name.invariant ∙ take_all c.loop-name.name-index c.args.names.now c.loop-name-test.false
