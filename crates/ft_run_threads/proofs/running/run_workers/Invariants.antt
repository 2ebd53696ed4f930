use Rattle.ft_board.specs.Boards.{name_of}
use Rattle.ft_engine.specs.Callers.{bank_of}
use Rattle.ft_run_threads.proofs.running.run_workers.Given as goal

-- the board is of this engine's bank
abbrev pub ghosts-work_on_board : goal.ghosts-work_on_board
ghosts-work_on_board g a = record { bank = name_of (bank_of a.engine.now); stopped = λ thread. Unit {0} }
