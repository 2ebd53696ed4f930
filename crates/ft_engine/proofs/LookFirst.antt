-- A call that may be made without a lock, and has no answer, waits only after a contended look.
use Rattle.std.proofs.Common.{◌≡◌, ◌+◌, ℕ, false, true≢false, List, ◌∷◌, ◌++◌, sym, ap, ◌∙◌, subst, append_assoc}
use Rattle.std.specs.Prelude.{IfNone, Option, Some, None, is_some}
use Rattle.ft_model.specs.declared.call.Call.{Call}
use Rattle.ft_model.specs.declared.cursor.Cursor.{Cursor}
use Rattle.ft_trace.specs.declared.Act.{Act}
use Rattle.ft_trace.specs.declared.Act.TheVariants.{Lock}
use Rattle.ft_trace.specs.declared.View.{View}
use Rattle.ft_bank.specs.declared.bank.Bank.{Bank}
use Rattle.ft_bank.specs.declared.pass.Pass.{Pass}
use Rattle.ft_bank.specs.Passes.{view, DidNothing}
use Rattle.ft_section.specs.declared.answers.Look.{Look}
use Rattle.ft_section.specs.declared.answers.Look.TheVariants as look
use Rattle.ft_section.specs.declared.answers.Step.{Step}
use Rattle.ft_section.specs.declared.answers.Step.TheVariants as step
use Rattle.ft_engine.specs.declared.attempts.Tried.{Tried}
use Rattle.ft_engine.specs.declared.attempts.Tried.TheVariants as tried
use Rattle.ft_engine.specs.declared.caller.Caller.{Caller}
use Rattle.ft_engine.specs.Answering.{HasLooked, IsTryOfCall, IsLookedIfAny, settled}
use Rattle.ft_engine.specs.Attempts.{ComesAgain, HasLookedFirst}
use Rattle.ft_engine.specs.Contentions.{may_look}
use Rattle.ft_engine.specs.Flights.{IsFlightAnswered}
use Rattle.ft_engine.proofs.Uncontended.{StandsWithFloor}

-- ---- calls that no look is made for

pub none_looked : (called : Call) (found : Option Look) → may_look called ≡ is_some found → IfNone found (may_look called ≡ false)
none_looked called None made = made
none_looked called (Some answer) made = tt

pub locked_looked : (called : Call) (result : Step) (v w : View) → may_look called ≡ false → HasLooked called v w result
locked_looked called (step.Done said stamp) v w locked = tt
locked_looked called (step.NotYet o owner) v w locked = λ may. absurd (true≢false (sym may ∙ locked))
locked_looked called (step.Moved first second) v w locked = tt
locked_looked called step.NoMemory v w locked = tt

-- ---- calls that are looked first

-- the look answers it
pub settled_looked : (called : Call) (found : Option Look) (result : Step) (v w : View) → settled found ≡ Some result → HasLooked called v w result
settled_looked called None result v w is = absurd (let e : None ≡ Some result = is in cc)
settled_looked called (Some (look.Done said stamp)) result v w is = subst (HasLooked called v w) (let e : Some (step.Done said stamp) ≡ Some result = is in let f : step.Done said stamp ≡ result = cc in f) tt
settled_looked called (Some (look.Contended first second)) result v w is = absurd (let e : None ≡ Some result = is in cc)
settled_looked called (Some look.NoMemory) result v w is = subst (HasLooked called v w) (let e : Some step.NoMemory ≡ Some result = is in let f : step.NoMemory ≡ result = cc in f) tt

-- it comes to the call under its locks, which waits
waits_looked : (b : Bank) (hands : List (Option Cursor)) (called : Call) (p q r s : Pass) (found : Option Look) (o owner : ℕ) → StandsWithFloor (view p) found → settled found ≡ None → IsLookedIfAny called p q found → IfNone found (may_look called ≡ false) → DidNothing q r → IsTryOfCall b hands called r s (step.NotYet o owner) → HasLooked called (view p) (view s) (step.NotYet o owner)
waits_looked b hands called p q r s None o owner stands none x locked same tried = λ may. absurd (true≢false (sym may ∙ locked))
waits_looked b hands called p q r s (Some (look.Done said stamp)) o owner stands none x locked same tried = absurd (let e : Some (step.Done said stamp) ≡ None = none in cc)
waits_looked b hands called p q r s (Some (look.Contended first second)) o owner stands none x locked same tried =
    λ may.
    let f = tried.2.found.1 in
    let log : (view r).log ≡ x.0 ++ (view p).log = ap (λ (v : View). v.log) same.1 ∙ x.1 in
    record {
      first = first;
      second = second;
      newer = f.newer ++ Lock o (owner + 1) f.snap ∷ f.older;
      part = x.0;
      is = f.is ∙ ap (λ (z : List Act). f.newer ++ Lock o (owner + 1) f.snap ∷ (f.older ++ z)) log
          ∙ sym (append_assoc f.newer (Lock o (owner + 1) f.snap ∷ f.older) (x.0 ++ (view p).log));
      stops = x.3;
      floor = stands;
    }
waits_looked b hands called p q r s (Some look.NoMemory) o owner stands none x locked same tried = absurd (let e : Some step.NoMemory ≡ None = none in cc)

pub contended_looked : (b : Bank) (hands : List (Option Cursor)) (called : Call) (p q r s : Pass) (found : Option Look) (result : Step) → StandsWithFloor (view p) found → settled found ≡ None → IsLookedIfAny called p q found → IfNone found (may_look called ≡ false) → DidNothing q r → IsTryOfCall b hands called r s result → HasLooked called (view p) (view s) result
contended_looked b hands called p q r s found (step.Done said stamp) stands none x locked same tried = tt
contended_looked b hands called p q r s found (step.NotYet o owner) stands none x locked same tried = waits_looked b hands called p q r s found o owner stands none x locked same tried
contended_looked b hands called p q r s found (step.Moved first second) stands none x locked same tried = tt
contended_looked b hands called p q r s found step.NoMemory stands none x locked same tried = tt

-- a call that has its answer waits for its innermost section alone
pub answered_looked : (called : Call) (result : Tried) (c d : Caller) → (ComesAgain result → IsFlightAnswered d.flight) → HasLookedFirst called result c d
answered_looked called (tried.Done said stamp mark) c d answered = tt
answered_looked called (tried.NotYet o owner) c d answered = λ may is. absurd (subst IsFlightAnswered is (answered tt))
answered_looked called (tried.Moved first second) c d answered = tt
answered_looked called tried.NoMemory c d answered = tt
