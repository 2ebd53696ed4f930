use Rattle.ft_board.specs.Boards.{name_of}
use Rattle.ft_board_tests.proofs.steps.come_out.Given as goal

abbrev pub ghosts-all_come_out : goal.ghosts-all_come_out
ghosts-all_come_out g a = record { bank = name_of a.bank.now; stopped = λ thread. Unit {0} }
