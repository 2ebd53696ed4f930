-- Callers before the first turn, and the floor on its way.
use Rattle.std.proofs.Common.{◌≡◌, ℕ, ◌-◌, ◌<◌, ◌≤◌, le_trans, true, List, [], length, refl, sym, ap, subst, ◌∙◌, arith}
use Rattle.std.specs.Prelude.{slice_index}
use Rattle.std.proofs.Math.Logic.{∥∥₁_elim}
use Rattle.std.proofs.lemmas.Option.{none-some}
use Rattle.ft_model.specs.declared.call.Call.{Call}
use Rattle.ft_model.specs.Histories.{calls_of}
use Rattle.ft_trace.specs.declared.View.{View}
use Rattle.ft_trace.specs.declared.Shape.{Shape}
use Rattle.ft_trace.specs.Acts.{floor_words, seen_writes}
use Rattle.ft_trace.specs.Addresses.{at, counter, extent, lock_of}
use Rattle.ft_trace.specs.Traces.{IsReachable}
use Rattle.ft_trace.proofs.Addresses.{at_low}
use Rattle.ft_trace.proofs.Floored.{floor_stands}
use Rattle.ft_trace.proofs.OneWord.{wide}
use Rattle.ft_bank.specs.Floors.{carried}
use Rattle.ft_bank.specs.Passes.{shape_of, view}
use Rattle.ft_section.specs.Floors.{owner_named}
use Rattle.ft_section.specs.Ready.{IsReady}
use Rattle.ft_engine.specs.declared.caller.Flight.TheVariants as flight
use Rattle.ft_engine.proofs.Callers.{ready_of}
use Rattle.ft_turns.specs.Orders.{ThreadState, fresh_thread}
use Rattle.ft_turns.proofs.LocksOnce.{start_holder, start_thread}
use Rattle.ft_turn_laws.specs.Beginnings.{FloorsAreHandedOn, FreshCallersAreNobody, HasFloorFrom, NewCallersAreInStep, RestingCallersStand, WokenCallersHaveFloor}
use Rattle.ft_turn_laws.specs.Ordered.{nobody}
use Rattle.ft_turn_laws.specs.LockOwners.{owners_in}
use Rattle.ft_turn_laws.specs.Standing.{IsAsThread}

pub fresh_nobody : FreshCallersAreNobody
fresh_nobody e room i c is =
    let ready : IsReady e.bank c.pass = ready_of e c is.caller is.flight in
    let flies : c.flight ≡ flight.Idle = is.flight in
    let sections = is.sections in
    let own = ready.own in
    let mark = ready.mark in
    cc

-- a thread that has had no turn is nobody
fresh_as : (calls : List Call) → IsAsThread calls fresh_thread nobody
fresh_as calls = record { made = refl; marks = refl; flight = refl; stack = record { sections = tt; own = λ o. refl; mark = refl } }

pub new_in_step : NewCallersAreInStep
new_in_step script v standings count fresh free = record {
  machine = record {
    count = count;
    threads = λ thread standing at.
        subst (λ (s : ThreadState). IsAsThread (calls_of script thread) s standing) (sym (start_thread script thread))
        (subst (IsAsThread (calls_of script thread) fresh_thread) (sym (fresh thread standing at)) (fresh_as (calls_of script thread)));
    locks = λ o low. start_holder script o ∙ sym (free o low);
  };
  order = record {
    made = λ place one at. absurd (none-some one at);
    rising = λ earlier later one other less at _. absurd (none-some one at);
    known = λ place one at. absurd (none-some one at);
  };
}

-- ---- the floor

pub same_owners : (v w : View) → HasFloorFrom v w → (o : ℕ) → owners_in v o ≡ owners_in w o
same_owners v w from o =
    ap (λ (ws : List ℕ). owner_named (slice_index ws (at v.shape (lock_of o)))) (sym from.words)
    ∙ ap (λ (k : Shape). owner_named (slice_index (floor_words w.shape w.number w.log) (at k (lock_of o)))) (sym from.shape)

pub handed_on : FloorsAreHandedOn
handed_on script turns v w standings from was =
    record {
      machine = record { count = was.machine.count; threads = was.machine.threads; locks = λ o low. was.machine.locks o low ∙ same_owners v w from o };
      order = record { made = was.order.made; rising = was.order.rising; known = λ place one at. le_trans (was.order.known place one at) from.seen };
    }

-- there are words
some_words : (k : Shape) (v : View) → IsReachable v → v.shape ≡ k → v.has_floor ≡ true → floor_words v.shape v.number v.log ≡ [] → ⊥
some_words k v p is floor none =
    let words = (floor_stands v.shape p.0 p.2.0 p.1 v p.2.1).0 floor in
    let long : length (floor_words v.shape v.number v.log) ≡ extent v.shape = ap length words.1 ∙ wide v.shape p.0 in
    let some : 0 < extent v.shape = at_low v.shape counter tt in
    let empty : length (floor_words v.shape v.number v.log) ≡ 0 = ap length none in
    absurd (omega arith)

pub woken_have_floor : WokenCallersHaveFloor
woken_have_floor e c d t is_c is_d floor hands woken =
    let some : (carried t).floor ≡ [] → ⊥ =
    λ none. ∥∥₁_elim {P = ⊥} c.pass.possible (hlevel) (λ p. some_words (shape_of e.bank) (view c.pass) p is_c.pass.1 floor (sym (hands.words floor) ∙ none)) in
    record {
      shape = is_d.pass.1 ∙ sym is_c.pass.1;
      words = woken.words some ∙ hands.words floor;
      seen = subst (λ n. n ≤ seen_writes (view d.pass)) hands.seen woken.seen;
    }

pub resting_stand : RestingCallersStand
resting_stand c d mine is =
    let flight_is = is.same.flight in
    let stack_is = is.same.sections in
    (ap (λ n. n - 1) is.same.number, cc)
