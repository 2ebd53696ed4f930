use Rattle.ft_bank.specs.PassSections.{stack_of}
use Rattle.ft_section_tests.proofs.StackDepths.{ended_less_deep}
use Rattle.ft_section_tests.proofs.steps.finish.Goals as goal

pub returns-clause-depth : goal.returns-clause-depth
returns-clause-depth c =
    ended_less_deep (stack_of c.args.pass.now) (stack_of c.end.new.pass) c.requires.depth (λ outer top is. (c.end.ensures.section outer top is).1)
