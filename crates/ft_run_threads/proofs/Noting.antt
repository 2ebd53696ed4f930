-- Callers that make notes, and what these tell.
use Rattle.std.proofs.Common.{◌≡◌, ◌≤◌, ◌∙◌, ℕ, suc, List, [], ◌∷◌, length, refl, sym, subst, arith, le_refl, le_trans}
use Rattle.ft_trace.specs.declared.Entry.{Entry}
use Rattle.ft_trace.specs.declared.Told.{Told}
use Rattle.ft_trace.specs.Acts.{own_told, seen_writes, presence_of}
use Rattle.ft_trace.proofs.Cases.{miss}
use Rattle.ft_bank.specs.declared.note.Note.{Note}
use Rattle.ft_bank.specs.Notes.{IsNoteOf, told_by}
use Rattle.ft_bank.specs.Passes.{view}
use Rattle.ft_board.specs.Boards.{IsNoteFor, name_of}
use Rattle.ft_engine.specs.declared.caller.Caller.{Caller}
use Rattle.ft_engine.specs.declared.engine.Engine.{Engine}
use Rattle.ft_engine.specs.Callers.{IsCallerOf, bank_of, pass_of, thread_of}
use Rattle.ft_engine.specs.Visits.{SameCallerWork}
use Rattle.ft_engine.proofs.Callers.{some_number}
use Rattle.ft_run_threads.specs.Workers.{HasNoted}

pub same_work : (c : Caller) → SameCallerWork c c
same_work c = record { number = refl; next = refl; parts = refl; entries = refl; taken = refl; sections = refl; cursors = refl; calls = refl; made = refl; flight = refl; seen = le_refl _; merged = λ merged. merged }

work_then : (b c d : Caller) → SameCallerWork b c → SameCallerWork c d → SameCallerWork b d
work_then b c d x y = record {
  number = y.number ∙ x.number;
  next = y.next ∙ x.next;
  parts = y.parts ∙ x.parts;
  entries = y.entries ∙ x.entries;
  taken = y.taken ∙ x.taken;
  sections = y.sections ∙ x.sections;
  cursors = y.cursors ∙ x.cursors;
  calls = y.calls ∙ x.calls;
  made = y.made ∙ x.made;
  flight = y.flight ∙ x.flight;
  seen = le_trans x.seen y.seen;
  merged = λ merged. y.merged (x.merged merged);
}

pub none_noted : (e : Engine) (c : Caller) → IsCallerOf e c → HasNoted e c c
none_noted e c is = record { caller = is; same = same_work c; announced = refl; presence = refl; kept = λ mine kept. kept }

pub noted_then : (e : Engine) (b c d : Caller) → HasNoted e b c → HasNoted e c d → HasNoted e b d
noted_then e b c d x y = record {
  caller = y.caller;
  same = work_then b c d x.same y.same;
  announced = y.announced ∙ x.announced;
  presence = y.presence ∙ x.presence;
  kept = λ mine kept. y.kept mine (x.kept mine kept);
}

-- a note of a caller tells of all calls that it was answered
pub note_for : (e : Engine) (c d : Caller) (note : Note) (index : ℕ) → SameCallerWork c d → IsNoteOf (bank_of e) note → told_by note ≡ own_told (view (pass_of d)) → index ≤ length (view (pass_of c)).entries → IsNoteFor (name_of (bank_of e)) (thread_of c) index note
note_for e c d note index same of told made =
    let v = view (pass_of d) in
    let one : Told = record { pass = v.number; seen = seen_writes v; entries = v.entries; presence = presence_of v.log } in
    let some = some_number (pass_of d) in
    let own : own_told v ≡ one ∷ [] = miss v.number 0 [] (one ∷ []) (λ none. omega (arith, none, some)) in
    let number : v.number ≡ (view (pass_of c)).number = same.number in
    let pass : v.number ≡ suc (thread_of c) = omega (arith, some, number) in
    record { of = of; tells = (one, told ∙ own, pass, subst (λ (es : List Entry). index ≤ length es) (sym same.entries) made) }
