use Rattle.ft_board_tests.specs.Makers.{IsMaker}
use Rattle.ft_board_tests.proofs.steps.all_come_out.Given as goal

abbrev pub invariant-loop-step : goal.invariant-loop-step
invariant-loop-step g l = IsMaker l.bank l.pass
