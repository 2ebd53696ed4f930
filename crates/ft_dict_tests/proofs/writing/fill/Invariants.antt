use Rattle.ft_section.specs.declared.answers.Objects.{Objects}
use Rattle.ft_section.specs.Ready.{MayTry}
use Rattle.ft_dict_tests.proofs.writing.fill.Given as goal

abbrev pub invariant-loop-key : goal.invariant-loop-key
invariant-loop-key l = record { may : (objects : Objects) → MayTry l.bank l.writer objects }
