use Rattle.std.proofs.Common.{◌≡◌, length}
use Rattle.std.specs.Prelude.{All}
use Rattle.ft_board.specs.Boards.{IsNoteFor, name_of}
use Rattle.ft_engine.specs.Callers.{bank_of, thread_of}
use Rattle.ft_run_threads.specs.Workers.{HasNoted}
use Rattle.ft_run_threads.proofs.awaiting.notes.Given as goal

abbrev pub invariant-loop : goal.invariant-loop
invariant-loop l =
    HasNoted l.engine l.initial.caller l.caller
    × (length l.notes.items ≡ l.counter)
    × All (IsNoteFor (name_of (bank_of l.engine)) (thread_of l.initial.caller) l.index) l.notes.items
