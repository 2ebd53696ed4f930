use Rattle.std.specs.Prelude.{All}
use Rattle.ft_board.specs.Boards.{IsNoteFor}
use Rattle.ft_board_tests.specs.Makers.{IsMaker}
use Rattle.ft_board_tests.proofs.notes.notes_of.Given as goal

abbrev pub invariant-loop : goal.invariant-loop
invariant-loop g l = IsMaker l.bank l.pass × All (IsNoteFor g.N.Naming.bank 0 1) l.notes.items
