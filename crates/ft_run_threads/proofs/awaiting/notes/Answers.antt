use Rattle.std.proofs.Common.{◌+◌, ◌∙◌, ℕ, [], ◌∷◌, ◌++◌, length, ap}
use Rattle.std.proofs.lemmas.List.{length_push}
use Rattle.std.proofs.lemmas.List.Elements.{All-push, All-same}
use Rattle.ft_bank.specs.declared.note.Note.{Note}
use Rattle.ft_board.specs.Boards.{IsNoteFor, name_of}
use Rattle.ft_engine.specs.Callers.{bank_of, thread_of}
use Rattle.ft_run_threads.specs.Workers.{HasNoted}
use Rattle.ft_run_threads.proofs.Noting.{note_for, noted_then}
use Rattle.ft_run_threads.proofs.awaiting.notes.Goals as goal

pub loop-preserved : goal.loop-preserved
loop-preserved c =
    let e = c.args.engine.now in
    let first = c.args.caller.now in
    let d = c.loop.caller in
    let made = c.note-note.ensures in
    let inv = c.loop.invariant in
    let since : HasNoted e d c.note-note.new.caller = record { caller = made.caller; same = made.same; announced = made.announced; presence = made.presence; kept = made.kept } in
    let For : Note → Type 0 = IsNoteFor (name_of (bank_of e)) (thread_of first) c.args.index in
    let tells : For c.note-note.result = note_for e first d c.note-note.result c.args.index inv.0.same made.note.0 made.told c.requires.made in
    let items = c.in_ok-push.ensures.items in (
      noted_then e first d c.note-note.new.caller inv.0 since,
      ap length items ∙ (length_push c.loop.notes.items c.note-note.result ∙ ap (λ (n : ℕ). n + 1) inv.1),
      All-same For _ (c.loop.notes.items ++ c.note-note.result ∷ []) items (All-push For c.loop.notes.items c.note-note.result inv.2 tells),
    )

pub returns-in_err-push-clause-noted : goal.returns-in_err-push-clause-noted
returns-in_err-push-clause-noted c =
    let made = c.note-note.ensures in
    noted_then c.args.engine.now c.args.caller.now c.loop.caller c.note-note.new.caller c.loop.invariant.0
    (record { caller = made.caller; same = made.same; announced = made.announced; presence = made.presence; kept = made.kept })
