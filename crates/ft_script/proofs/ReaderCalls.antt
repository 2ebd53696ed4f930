-- Calls that are read with the draft of a script, and what that leaves of it.
use Rattle.std.proofs.Common.{◌≡◌, ℕ, ◌<◌, List, [], length, get_or, set, Option, Some, Result, Ok, Err, sym, ap, ◌∙◌}
use Rattle.std.specs.Prelude.{OnOk, slice_get}
use Rattle.std.specs.Option.{option_map_or}
use Rattle.std.proofs.lemmas.List.{set-get_or, get_or-map}
use Rattle.std.proofs.lemmas.Option.{slice_get-get_or}
use Rattle.ft_model.specs.declared.call.Call.{Call}
use Rattle.ft_model.specs.declared.script.ScriptParts.{ScriptParts}
use Rattle.ft_model.specs.declared.script.Thread.{Thread}
use Rattle.ft_script.specs.Drafts.{Draft}
use Rattle.ft_script.specs.declared.fault.Fault.{Fault}
use Rattle.ft_script.specs.declared.fault.LineError.{LineError}
use Rattle.ft_script.specs.declared.fault.LineError.TheVariants as error
use Rattle.ft_script.specs.Internal.Candidates.{only_call}
use Rattle.ft_script.specs.Drafts.{draft_at, draft_with_all}
use Rattle.ft_script.specs.Internal.Outcomes.{Gives, GivesWithDraft}
use Rattle.ft_script.specs.Internal.Readers.{IsReaderOf, IsUnchanged}

gives_only : (r : Result Call LineError) (new : Draft) (given : Result (Call × Draft) Fault) → GivesWithDraft r new given → Gives (λ called. called) r (only_call given)
gives_only (Ok called) new given h = ap only_call h
gives_only (Err error.Memory) new given h = tt
gives_only (Err (error.Fault found)) new given h = ap only_call h

-- the cursors that stand at a thread's place are the thread's
cursors_at : (script : ScriptParts) (draft : Draft) (cursors : List (List (List ℕ))) (thread : ℕ) (inside e : List (List ℕ)) → IsReaderOf script draft cursors → thread < length script.threads → inside ≡ get_or cursors thread e → inside ≡ (draft_at script thread).cursors
cursors_at script draft cursors thread inside e h low is =
    let d : Thread = record { name = []; cursors = []; calls = [] } in
    let at : slice_get script.threads thread ≡ Some (get_or script.threads thread d) = slice_get-get_or script.threads thread d low in
    is ∙ ap (λ (l : List (List (List ℕ))). get_or l thread e) h.cursors_are ∙ get_or-map (λ (t : Thread). t.cursors) script.threads thread d e low
    ∙ ap (λ (o : Option Thread). option_map_or (λ (t : Thread). t.cursors) o []) (sym at)

draft_by : (script : ScriptParts) (draft : Draft) (cursors : List (List (List ℕ))) (thread : ℕ) (inside : List (List ℕ)) → IsReaderOf script draft cursors → inside ≡ (draft_at script thread).cursors → record draft { cursors = inside } ≡ draft_at script thread
draft_by script draft cursors thread inside h is =
    ap (λ (d : Draft). let with : Draft = record d { cursors = inside } in with) h.draft_is
    ∙ ap (λ (l : List (List ℕ)). let with : Draft = record (draft_with_all script) { cursors = l } in with) is

ap_reads : (s : Result Call LineError) (n : Draft) (f : Draft → Result (Call × Draft) Fault) (a b : Draft) → a ≡ b → GivesWithDraft s n (f a) → GivesWithDraft s n (f b)
ap_reads (Ok called) n f a b e g = ap f (sym e) ∙ g
ap_reads (Err error.Memory) n f a b e g = tt
ap_reads (Err (error.Fault found)) n f a b e g = ap f (sym e) ∙ g

pub call_read : (script : ScriptParts) (draft new : Draft) (cursors : List (List (List ℕ))) (thread : ℕ) (inside e : List (List ℕ)) (r : Result Call LineError) (read : Draft → Result (Call × Draft) Fault) → IsReaderOf script draft cursors → thread < length script.threads → inside ≡ get_or cursors thread e →
    GivesWithDraft r new (read (record draft { cursors = inside })) → Gives (λ called. called) r (only_call (read (draft_at script thread)))
call_read script draft new cursors thread inside e r read h low is reads =
    let same : record draft { cursors = inside } ≡ draft_at script thread = draft_by script draft cursors thread inside h (cursors_at script draft cursors thread inside e h low is) in
    gives_only r new (read (draft_at script thread)) (ap_reads r new read _ _ same reads)

abbrev both : Call → Draft → Call × Draft
both called draft = (called, draft)

pub draft_kept : (script : ScriptParts) (draft new : Draft) (cursors : List (List (List ℕ))) (thread : ℕ) (inside e back last : List (List ℕ)) (r : Result Call LineError) (read : Draft → Result (Call × Draft) Fault) → IsReaderOf script draft cursors → thread < length script.threads → inside ≡ get_or cursors thread e →
    GivesWithDraft r new (read (record draft { cursors = inside })) → back ≡ draft.cursors → last ≡ new.cursors → OnOk r (IsUnchanged (draft_at script thread) (read (draft_at script thread)) → IsReaderOf script (record new { cursors = back }) (set cursors thread last))
draft_kept script draft new cursors thread inside e back last (Err found) read h low is reads back_is last_is = tt
draft_kept script draft new cursors thread inside e back last (Ok called) read h low is reads back_is last_is = λ unchanged.
    let own : inside ≡ (draft_at script thread).cursors = cursors_at script draft cursors thread inside e h low is in
    let same : record draft { cursors = inside } ≡ draft_at script thread = draft_by script draft cursors thread inside h own in
    let good : Call × Draft → Result (Call × Draft) Fault = λ p. Ok p in
    let pairs : good (called, new) ≡ good (unchanged.0, draft_at script thread) = sym reads ∙ ap read same ∙ unchanged.1 in
    let one : both called new ≡ both unchanged.0 (draft_at script thread) = cc in
    let left : new ≡ draft_at script thread = ap (λ (p : Call × Draft). p.1) one in
    let none : back ≡ [] = back_is ∙ ap (λ (d : Draft). d.cursors) h.draft_is in
    record {
      draft_is = ap (λ (d : Draft). let with : Draft = record d { cursors = back } in with) left ∙ ap (λ (l : List (List ℕ)). let with : Draft = record (draft_with_all script) { cursors = l } in with) none;
      cursors_are =
          let mine : last ≡ get_or cursors thread e = last_is ∙ ap (λ (d : Draft). d.cursors) left ∙ sym own ∙ is in
          ap (set cursors thread) mine ∙ set-get_or cursors thread e ∙ h.cursors_are;
    }
