-- How many sections are open after some of a thread's calls.
use Rattle.std.proofs.Common.{◌≡◌, ℕ, zero, suc, ◌+◌, ◌-◌, ◌<◌, List, [], ◌∷◌, ◌++◌, length, map, reverse, take, drop, refl, sym, ap, ◌∙◌, subst, arith, None, Some}
use Rattle.std.specs.Prelude.{fold, slice_get}
use Rattle.std.proofs.lemmas.List.{length-map, length-reverse}
use Rattle.ft_model.specs.declared.call.Call.{Call}
use Rattle.ft_model.specs.declared.call.Call.TheVariants as call
use Rattle.ft_model.specs.declared.entry.Entry.{Entry as NamedEntry}
use Rattle.ft_model.specs.Numbers.{after_begins, begins_of, marks_since}
use Rattle.ft_model.specs.Scripts.{AreNested}
use Rattle.ft_trace.specs.declared.Entry.{Entry}
use Rattle.ft_trace.specs.OwnCursors.{plain_entry}
use Rattle.ft_bank.specs.Passes.{view}
use Rattle.ft_bank.specs.PassSections.{Stack, stack_of}
use Rattle.ft_engine.specs.declared.caller.Caller.{Caller}
use Rattle.ft_engine.specs.declared.caller.Flight.{Flight}
use Rattle.ft_engine.specs.declared.caller.Flight.TheVariants as flight
use Rattle.ft_engine.specs.Asked.{FitsSections}
use Rattle.ft_engine.specs.Callers.{pass_of, thread_of}
use Rattle.ft_engine.specs.Flights.{IsFlightAnswered}
use Rattle.ft_engine.specs.Keeping.{WasAnswered, mark_count, marks_due, pending}

-- ---- depths by calls

abbrev pub step_depth : ℕ → Call → ℕ
step_depth depth (call.Begin first second) = depth + 1
step_depth depth call.End = depth - 1
step_depth depth (call.Dict o dc) = depth
step_depth depth (call.List o lc) = depth
step_depth depth (call.Set o sc) = depth
step_depth depth (call.Deque o qc) = depth
step_depth depth (call.Next number) = depth
step_depth depth call.Quiesce = depth
step_depth depth (call.Await thread index) = depth
step_depth depth call.Dump = depth

-- that many open sections allow the call
abbrev pub FitsDepth : ℕ → Call → Type 0
FitsDepth depth (call.Begin first second) = depth < 16
FitsDepth depth call.End = 0 < depth
FitsDepth depth (call.Dict o dc) = Unit {0}
FitsDepth depth (call.List o lc) = Unit {0}
FitsDepth depth (call.Set o sc) = Unit {0}
FitsDepth depth (call.Deque o qc) = Unit {0}
FitsDepth depth (call.Next number) = Unit {0}
FitsDepth depth call.Quiesce = Unit {0}
FitsDepth depth (call.Await thread index) = Unit {0}
FitsDepth depth call.Dump = Unit {0}

head_fits : (c : Call) (cs : List Call) (depth : ℕ) → AreNested depth (c ∷ cs) → FitsDepth depth c
head_fits (call.Begin first second) cs depth nested = nested.0
head_fits call.End cs depth nested = nested.0
head_fits (call.Dict o dc) cs depth nested = tt
head_fits (call.List o lc) cs depth nested = tt
head_fits (call.Set o sc) cs depth nested = tt
head_fits (call.Deque o qc) cs depth nested = tt
head_fits (call.Next number) cs depth nested = tt
head_fits call.Quiesce cs depth nested = tt
head_fits (call.Await thread index) cs depth nested = tt
head_fits call.Dump cs depth nested = tt

tail_nested : (c : Call) (cs : List Call) (depth : ℕ) → AreNested depth (c ∷ cs) → AreNested (step_depth depth c) cs
tail_nested (call.Begin first second) cs depth nested = nested.1
tail_nested call.End cs depth nested = nested.1
tail_nested (call.Dict o dc) cs depth nested = nested
tail_nested (call.List o lc) cs depth nested = nested
tail_nested (call.Set o sc) cs depth nested = nested
tail_nested (call.Deque o qc) cs depth nested = nested
tail_nested (call.Next number) cs depth nested = nested
tail_nested call.Quiesce cs depth nested = nested
tail_nested (call.Await thread index) cs depth nested = nested.1
tail_nested call.Dump cs depth nested = nested

pub fits_at : (cs : List Call) (depth : ℕ) → AreNested depth cs → (n : ℕ) (c : Call) → slice_get cs n ≡ Some c → FitsDepth (fold step_depth depth (take n cs)) c
fits_at [] depth nested n c at = absurd (let none : None ≡ Some c = at in cc)
fits_at (x ∷ cs) depth nested zero c at = let same : x ≡ c = let e : Some x ≡ Some c = at in cc in subst (FitsDepth depth) same (head_fits x cs depth nested)
fits_at (x ∷ cs) depth nested (suc n) c at = fits_at cs (step_depth depth x) (tail_nested x cs depth nested) n c at

pub ends_at_none : (cs : List Call) (depth : ℕ) → AreNested depth cs → fold step_depth depth cs ≡ 0
ends_at_none [] depth nested = nested
ends_at_none (x ∷ cs) depth nested = ends_at_none cs (step_depth depth x) (tail_nested x cs depth nested)

-- ---- depths by entries

length_drop : (l : List NamedEntry) → length (drop 1 l) ≡ length l - 1
length_drop [] = refl
length_drop (x ∷ l) = let e : length l ≡ suc (length l) - 1 = omega arith in e

one_step : (e : NamedEntry) (c : Call) (begins : List NamedEntry) → length (after_begins e c begins) ≡ step_depth (length begins) c
one_step e (call.Begin first second) begins = let s : suc (length begins) ≡ length begins + 1 = omega arith in s
one_step e call.End begins = length_drop begins
one_step e (call.Dict o dc) begins = refl
one_step e (call.List o lc) begins = refl
one_step e (call.Set o sc) begins = refl
one_step e (call.Deque o qc) begins = refl
one_step e (call.Next number) begins = refl
one_step e call.Quiesce begins = refl
one_step e (call.Await thread index) begins = refl
one_step e call.Dump begins = refl

depth_by : (mine begins : List NamedEntry) → length (fold (λ begins entry. after_begins entry entry.call begins) begins mine) ≡ fold step_depth (length begins) (map (λ entry. entry.call) mine)
depth_by [] begins = refl
depth_by (e ∷ mine) begins = depth_by mine (after_begins e e.call begins) ∙ ap (λ (n : ℕ). fold step_depth n (map (λ (entry : NamedEntry). entry.call) mine)) (one_step e e.call begins)

-- ---- a call without an answer adds nothing

none_pending : (f : Flight) → (IsFlightAnswered f → ⊥) → pending f ≡ []
none_pending flight.Idle unanswered = refl
none_pending (flight.Tried called) unanswered = refl
none_pending (flight.Answered called said stamp) unanswered = absurd (unanswered tt)
none_pending (flight.Refused called) unanswered = refl

none_due : (f : Flight) (marks : List ℕ) → (IsFlightAnswered f → ⊥) → marks_due f marks ≡ marks
none_due flight.Idle marks unanswered = refl
none_due (flight.Tried called) marks unanswered = refl
none_due (flight.Answered called said stamp) marks unanswered = absurd (unanswered tt)
none_due (flight.Refused called) marks unanswered = refl

-- the pass has just the entries that were kept
pub own_entries : (c : Caller) (mine : List NamedEntry) → (IsFlightAnswered c.flight → ⊥) → WasAnswered c mine → (view (pass_of c)).entries ≡ reverse (map plain_entry mine)
own_entries c mine unanswered kept = kept.0.same ∙ ap (λ (l : List Entry). l ++ reverse (map plain_entry mine)) (none_pending c.flight unanswered)

-- as many sections are open as the calls that were made say
pub depth_unanswered : (c : Caller) (mine : List NamedEntry) → (IsFlightAnswered c.flight → ⊥) → WasAnswered c mine → length (stack_of (pass_of c)).sections ≡ fold step_depth 0 (map (λ entry. entry.call) mine)
depth_unanswered c mine unanswered kept =
    let s : Stack = stack_of (pass_of c) in
    let counts = map (λ section. section.marks) s.sections in
    let begun = map (λ begun. marks_since (thread_of c) mine begun) (begins_of mine) in
    sym (length-map s.sections (λ section. section.marks))
    ∙ (sym (length-reverse counts)
    ∙ (ap length (kept.0.sections ∙ none_due c.flight _ unanswered)
    ∙ (length-map begun (λ (n : ℕ). n + mark_count s.mark)
    ∙ (length-map (begins_of mine) (λ begun. marks_since (thread_of c) mine begun)
    ∙ depth_by mine []))))

pub fits_sections : (s : Stack) (c : Call) → FitsDepth (length s.sections) c → FitsSections s c
fits_sections s (call.Begin first second) fits = fits
fits_sections s call.End fits = fits
fits_sections s (call.Dict o dc) fits = tt
fits_sections s (call.List o lc) fits = tt
fits_sections s (call.Set o sc) fits = tt
fits_sections s (call.Deque o qc) fits = tt
fits_sections s (call.Next number) fits = tt
fits_sections s call.Quiesce fits = tt
fits_sections s (call.Await thread index) fits = tt
fits_sections s call.Dump fits = tt
