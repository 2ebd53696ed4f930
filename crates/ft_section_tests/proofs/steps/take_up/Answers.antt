use Rattle.ft_bank.specs.PassSections.{stack_of}
use Rattle.ft_section_tests.proofs.StackDepths.{taken_up_as_deep}
use Rattle.ft_section_tests.proofs.steps.take_up.Goals as goal

pub returns-clause-depth : goal.returns-clause-depth
returns-clause-depth c =
    taken_up_as_deep c.resume.result (stack_of c.args.pass.now) (stack_of c.resume.new.pass) c.resume.ensures.stack c.resume.ensures.waiting
