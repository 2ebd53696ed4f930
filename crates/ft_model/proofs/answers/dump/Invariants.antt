use Rattle.std.proofs.Common.{◌≡◌, map, take}
use Rattle.ft_model.specs.Answers.{shown_of}
use Rattle.ft_model.proofs.answers.dump.Given as goal

abbrev pub invariant-loop-content : goal.invariant-loop-content
invariant-loop-content l = l.all.items ≡ map shown_of (take l.content-index l.world)
