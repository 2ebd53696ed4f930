-- A call without a reply may be tried again.
use Rattle.std.proofs.Common.{◌≡◌, ◌<◌, ℕ, List, length, refl, sym, ap, ◌∙◌, subst, arith}
use Rattle.std.specs.Prelude.{Option}
use Rattle.std.proofs.lemmas.List.{length-map}
use Rattle.ft_model.specs.declared.call.Call.{Call}
use Rattle.ft_model.specs.declared.call.Call.TheVariants as call
use Rattle.ft_model.specs.declared.cursor.Cursor.{Cursor}
use Rattle.ft_trace.specs.Acts.{announces}
use Rattle.ft_bank.specs.Passes.{shape_of, view}
use Rattle.ft_bank.specs.PassSections.{Stack, stack_of, suspended}
use Rattle.ft_section.specs.declared.answers.Objects.{Objects}
use Rattle.ft_section.specs.Locking.{marks_more}
use Rattle.ft_engine.specs.declared.attempts.Tried.{Tried}
use Rattle.ft_engine.specs.declared.attempts.Tried.TheVariants as tried
use Rattle.ft_engine.specs.declared.caller.Caller.{Caller}
use Rattle.ft_engine.specs.declared.caller.Flight.{Flight}
use Rattle.ft_engine.specs.declared.caller.Flight.TheVariants as flight
use Rattle.ft_engine.specs.declared.engine.Engine.{Engine}
use Rattle.ft_engine.specs.Answering.{MakesNoEntry, HasNone, HasToWait}
use Rattle.ft_engine.specs.Attempts.{ComesAgain, MayAttempt, flight_after}
use Rattle.ft_engine.specs.Flights.{IsFlightAnswered, AllowsCall}
use Rattle.ft_engine.specs.Asked.{FitsSections, IsCallIn}

-- as many open sections allow the same calls
fits_same : (s t : Stack) (called : Call) → length t.sections ≡ length s.sections → FitsSections s called → FitsSections t called
fits_same s t (call.Begin first second) same fits = omega (arith, same, fits)
fits_same s t call.End same fits = omega (arith, same, fits)
fits_same s t (call.Dict o dc) same fits = tt
fits_same s t (call.List o lc) same fits = tt
fits_same s t (call.Set o sc) same fits = tt
fits_same s t (call.Deque o qc) same fits = tt
fits_same s t (call.Next number) same fits = tt
fits_same s t call.Quiesce same fits = tt
fits_same s t (call.Await thread index) same fits = tt
fits_same s t call.Dump same fits = tt

-- it has no answer yet, and the caller is the same but for its locks and what it has read
tried_again : (e : Engine) (c d : Caller) (called : Call) → MayAttempt e c called → (IsFlightAnswered c.flight → ⊥) → MakesNoEntry (view c.pass) (view d.pass) → length (stack_of d.pass).sections ≡ length (stack_of c.pass).sections → d.cursors.items ≡ c.cursors.items → d.calls ≡ c.calls → d.made ≡ c.made → d.flight ≡ flight.Tried called → MayAttempt e d called
tried_again e c d called may unanswered adds sections hands calls made flies = record {
  next = subst (λ (f : Flight). AllowsCall f called) (sym flies) refl;
  names = λ none. subst (λ (hs : List (Option Cursor)). IsCallIn (shape_of e.bank) hs called) (sym hands) (may.names unanswered);
  left = λ none. let l = may.left unanswered in omega (arith, l, calls, made);
  sections = λ none. fits_same (stack_of c.pass) (stack_of d.pass) called sections (may.sections unanswered);
  online = adds.pass.online may.online;
}

-- it waits
pub waiting_again : (e : Engine) (c d : Caller) (called : Call) (objects : Objects) (o owner : ℕ) → MayAttempt e c called → (IsFlightAnswered c.flight → ⊥) → HasToWait e.bank objects o owner c.pass d.pass → d.cursors.items ≡ c.cursors.items → d.calls ≡ c.calls → d.made ≡ c.made → d.flight ≡ flight.Tried called → MayAttempt e d called
waiting_again e c d called objects o owner may unanswered x hands calls made flies =
    let sections = ap (λ (s : Stack). length s.sections) x.stack ∙ length-map (stack_of c.pass).sections (suspended (marks_more (stack_of c.pass).mark)) in
    tried_again e c d called may unanswered x.entry sections hands calls made flies

-- what it needs was moved
pub moved_again : (e : Engine) (c d : Caller) (called : Call) → MayAttempt e c called → (IsFlightAnswered c.flight → ⊥) → HasNone e.bank c.pass d.pass → d.cursors.items ≡ c.cursors.items → d.calls ≡ c.calls → d.made ≡ c.made → d.flight ≡ flight.Tried called → MayAttempt e d called
moved_again e c d called may unanswered x hands calls made flies =
    tried_again e c d called may unanswered x.entry (ap (λ (s : Stack). length s.sections) x.gone.stack) hands calls made flies

-- it has its answer, and its innermost section waits
pub answered_again : (e : Engine) (d : Caller) (called : Call) (t : Tried) → flight_after called t d.flight → (ComesAgain t → IsFlightAnswered d.flight) → 0 < announces (view d.pass).log → ComesAgain t → MayAttempt e d called
answered_again e d called t after answered online again = record {
  next = next t after (answered again) again;
  names = λ none. absurd (none (answered again));
  left = λ none. absurd (none (answered again));
  sections = λ none. absurd (none (answered again));
  online = online;
}
  where
    next : (u : Tried) → flight_after called u d.flight → IsFlightAnswered d.flight → ComesAgain u → AllowsCall d.flight called
    next (tried.NotYet o owner) flies is comes = flies.0
    next (tried.Moved first second) flies is comes = absurd (subst IsFlightAnswered flies is)
    next (tried.Done said stamp mark) flies is comes = absurd comes
    next tried.NoMemory flies is comes = absurd comes
