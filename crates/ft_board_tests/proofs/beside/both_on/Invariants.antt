use Rattle.ft_board.specs.Boards.{name_of}
use Rattle.ft_board_tests.proofs.beside.both_on.Given as goal

abbrev pub ghosts-both_beside : goal.ghosts-both_beside
ghosts-both_beside g a = record { bank = name_of a.bank.now; stopped = λ thread. Unit {0} }
