-- What passes say of owners and of their own locks, at the moments of a turn.
use Rattle.std.proofs.Common.{◌≡◌, ℕ, suc, ◌-◌, ◌<◌, Bool, true, List, Option, None, Some, refl, sym, ap, ◌∙◌, arith, inl, inr}
use Rattle.std.proofs.Math.Logic.{∥∥₁_elim}
use Rattle.std.proofs.Math.Nat.{ℕ_set}
use Rattle.ft_model.specs.declared.cursor.Cursor.{Cursor}
use Rattle.ft_trace.specs.declared.View.{View}
use Rattle.ft_trace.specs.Acts.{has_lock}
use Rattle.ft_trace.specs.Addresses.{container_count}
use Rattle.ft_trace.specs.Floors.{at_floor}
use Rattle.ft_bank.specs.declared.bank.Bank.{Bank}
use Rattle.ft_bank.specs.declared.pass.Pass.{Pass}
use Rattle.ft_bank.specs.Passes.{view}
use Rattle.ft_bank.specs.PassSections.{stack_of}
use Rattle.ft_section.specs.Ready.{InCall, IsInCall}
use Rattle.ft_engine.specs.declared.caller.Flight.{Flight}
use Rattle.ft_engine.specs.declared.caller.Flight.TheVariants as flight
use Rattle.ft_engine.specs.Answering.{StaysPass}
use Rattle.ft_engine.specs.Flights.{IsIn}
use Rattle.ft_turn_laws.specs.LockOwners.{owners_in}
use Rattle.ft_turn_laws.proofs.TurnMoments.{IsCounted, owner_after}
use Rattle.ft_turn_laws.proofs.OwnersKnown.{owners_change}

-- which locks the pass has
abbrev pub has_of : Pass → ℕ → Bool
has_of p o = has_lock o (view p).log

-- as a number
code : Option ℕ → ℕ
code None = 0
code (Some q) = suc q

same_code : (a b : Option ℕ) → code a ≡ code b → a ≡ b
unfolding code
same_code None None same = refl
same_code None (Some q) same = absurd (omega arith)
same_code (Some p) None same = absurd (omega arith)
same_code (Some p) (Some q) same = ap Some (let e : p ≡ q = omega arith in e)

-- it is the same pass, with the floor since the same moment
pub record SameFloor (v w : View) : Type 0 where
  pub number : w.number ≡ v.number
  pub shape : w.shape ≡ v.shape
  pub floor : w.has_floor ≡ v.has_floor
  pub since : at_floor w.log ≡ at_floor v.log

pub floor_stays : (v w : View) → StaysPass v w → SameFloor v w
floor_stays v w same = record { number = same.number; shape = same.shape; floor = same.floor; since = same.since }

-- of two moments that both come after a third one
pub floor_between : (u v w : View) → SameFloor u v → SameFloor u w → SameFloor v w
floor_between u v w first second =
    record {
      number = second.number ∙ sym first.number;
      shape = second.shape ∙ sym first.shape;
      floor = second.floor ∙ sym first.floor;
      since = second.since ∙ sym first.since;
    }

-- the owners after steps of the pass
pub owners_then : (p q : Pass) (thread : ℕ) → (view p).number - 1 ≡ thread → SameFloor (view p) (view q) → (view p).has_floor ≡ true → (o : ℕ) → o < container_count (view p).shape
    → owners_in (view q) o ≡ owner_after thread (owners_in (view p)) (has_of p) (has_of q) o
owners_then p q thread is same floor o low =
    let before = owners_in (view q) o in
    let after = owner_after ((view p).number - 1) (owners_in (view p)) (has_of p) (has_of q) o in
    same_code before after
    (∥∥₁_elim p.possible (ℕ_set (code before) (code after)) (λ pp.
    ∥∥₁_elim q.possible (ℕ_set (code before) (code after)) (λ pq.
    ap code (owners_change (view p) (view q) pp pq floor (same.floor ∙ floor) same.number same.shape same.since o low))))
    ∙ ap (λ n. owner_after n (owners_in (view p)) (has_of p) (has_of q) o) is

-- whatever call it is in, its stack notes its locks
may_try : (b : Bank) (p : Pass) (hands : List (Option Cursor)) (f : Flight) → IsIn b p hands f → IsInCall b p
may_try b p hands flight.Idle is = is.inside
may_try b p hands (flight.Tried called) is = elim is.2 [ inl ready ↦ ready.inside | inr waiting ↦ waiting.inside ]
may_try b p hands (flight.Answered called said stamp) is = is.0.inside
may_try b p hands (flight.Refused called) is = is

pub in_call : (b : Bank) (p : Pass) (hands : List (Option Cursor)) (f : Flight) → IsIn b p hands f → InCall (view p) (stack_of p)
in_call b p hands f is = (may_try b p hands f is).1

pub counted_of : (p : Pass) → InCall (view p) (stack_of p) → IsCounted (has_of p) (stack_of p)
counted_of p is = is.locks
