-- What a caller has still that gave up what it was in.
use Rattle.std.proofs.Common.{◌≡◌, ◌-◌, ℕ, List, [], sym, ap, ◌∙◌, subst, length, arith, ⊎_elim}
use Rattle.std.specs.Prelude.{Option}
use Rattle.ft_model.specs.declared.cursor.Cursor.{Cursor}
use Rattle.ft_model.specs.declared.entry.Entry.{Entry as NamedEntry}
use Rattle.ft_trace.specs.declared.Entry.{Entry}
use Rattle.ft_bank.specs.declared.bank.Bank.{Bank}
use Rattle.ft_bank.specs.declared.pass.Pass.{Pass}
use Rattle.ft_bank.specs.Passes.{view}
use Rattle.ft_bank.specs.PassSections.{Stack, no_sections, stack_of}
use Rattle.ft_trace.specs.Owners.{SameOwners}
use Rattle.ft_bank_history.specs.Marks.{IsNamedIn}
use Rattle.ft_section.specs.Locking.{OnlyLocked}
use Rattle.ft_section.specs.Ready.{IsInCall, IsReady, IsWaiting}
use Rattle.ft_engine.specs.declared.caller.Caller.{Caller}
use Rattle.ft_engine.specs.declared.caller.Flight.{Flight}
use Rattle.ft_engine.specs.declared.caller.Flight.TheVariants as flight
use Rattle.ft_engine.specs.declared.engine.Engine.{Engine}
use Rattle.ft_engine.specs.Callers.{IsCallerOf, thread_of}
use Rattle.ft_engine.specs.Flights.{IsFlightAnswered, IsIn}
use Rattle.ft_engine.specs.Keeping.{AreThreadEntries, WasAnswered}
use Rattle.ft_engine.specs.Owning.{FlightNames}
use Rattle.ft_engine.proofs.Keeping.{kept_abandoned}
use Rattle.ft_engine.proofs.KnownOwners.{abandoned_owned}

-- whatever call it is in
pub in_call_of : (b : Bank) (p : Pass) (hands : List (Option Cursor)) (f : Flight) → IsIn b p hands f → IsInCall b p
in_call_of b p hands flight.Idle i = i.inside
in_call_of b p hands (flight.Tried called) i = ⊎_elim (λ (r : IsReady b p). r.inside) (λ (w : IsWaiting b p i.0). w.inside) i.2
in_call_of b p hands (flight.Answered called said stamp) i = i.0.inside
in_call_of b p hands (flight.Refused called) i = i

pub abandoned_caller : (e : Engine) (c : Caller) (q : Pass) → IsCallerOf e c → OnlyLocked (view c.pass) (view q) → IsReady e.bank q → IsCallerOf e (record c { pass = q; flight = flight.Idle })
abandoned_caller e c q is only ready = record {
  pass = ready.inside.0;
  inside = ready;
  made = is.made ∙ sym (ap length only.entries);
  calls = is.calls;
  few = is.few;
  word = is.word;
  left = let l = only.left in let k = is.left in omega (arith, l, k);
  cursors = λ number low. is.cursors number low ∙ sym (only.cursors number);
  over = is.over;
}

pub abandoned_kept : (c : Caller) (q : Pass) (mine : List NamedEntry) → OnlyLocked (view c.pass) (view q) → SameOwners (view c.pass) (view q) → stack_of q ≡ no_sections → (IsFlightAnswered c.flight → ⊥) → (stack_of c.pass).sections ≡ [] → ((o : ℕ) → FlightNames o c.flight → IsNamedIn o mine) → WasAnswered c mine → WasAnswered (record c { pass = q; flight = flight.Idle }) mine
abandoned_kept c q mine only same stack unanswered none names kept =
    let k = kept_abandoned (thread_of c) (view c.pass).entries (stack_of c.pass) c.flight mine kept.0 unanswered (stack_of q) none stack in (
      subst (λ (x : ℕ × List Entry). AreThreadEntries x.0 x.1 (stack_of q) flight.Idle mine) (λ i. (ap (λ (n : ℕ). n - 1) (sym only.number) i, sym only.entries i)) k,
      abandoned_owned (view c.pass) (view q) (stack_of c.pass) (stack_of q) c.flight mine only.number only.lists same only.cursors unanswered names none (ap (λ (s : Stack). s.sections) stack) kept.1,
    )
