use Rattle.std.proofs.Common.{ℕ, sym, subst}
use Rattle.std.specs.Prelude.{All}
use Rattle.atomic_table.specs.Seated.{TableId}
use Rattle.ft_board.specs.Boards.{IsNoteFor, name_of}
use Rattle.ft_engine.specs.Callers.{bank_of}
use Rattle.ft_run_threads.proofs.awaiting.publish.Goals as goal

pub publish-requires-clause-notes : goal.publish-requires-clause-notes
publish-requires-clause-notes g c =
    let notes = c.in-Ok.notes.items in
    let index = c.args.index in
    subst (λ (bank : TableId). All (IsNoteFor bank c.thread-thread.result index) notes) c.requires.bank
    (subst (λ (thread : ℕ). All (IsNoteFor (name_of (bank_of c.args.engine.now)) thread index) notes) (sym c.thread-thread.ensures) c.in-Ok.ensures.notes)
