use Rattle.std.proofs.Common.{◌≡◌, ◌++◌, take}
use Rattle.std.specs.List.{flat_map}
use Rattle.ft_script.specs.ScriptTexts.{container_words}
use Rattle.ft_script.specs.Texts.{line}
use Rattle.ft_script.proofs.script_text.push_containers.Given as goal

abbrev pub invariant-loop-container : goal.invariant-loop-container
invariant-loop-container l = l.out.items ≡ l.initial.out.items ++ flat_map (λ container. line (container_words container)) (take l.container-index l.containers)
