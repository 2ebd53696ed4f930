use Rattle.ft_section.specs.declared.answers.Objects.{Objects}
use Rattle.ft_section.specs.Ready.{MayTry}
use Rattle.ft_dict_tests.proofs.calls.first_wrong.Given as goal

abbrev pub invariant-loop-place : goal.invariant-loop-place
invariant-loop-place g l = (objects : Objects) → MayTry l.bank l.pass objects
