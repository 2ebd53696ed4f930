-- A caller with the floor that goes online or offline stays in step: it finds the same owners of locks.
use Rattle.std.proofs.Common.{◌≡◌, ℕ, ◌+◌, ◌-◌, ◌<◌, le_trans, Bool, true, false, cond, List, None, Some, length, refl, sym, ap, subst, ◌∙◌, arith}
use Rattle.std.specs.Prelude.{if◌then◌else◌}
use Rattle.std.proofs.lemmas.List.{length-map}
use Rattle.ft_model.specs.declared.script.Declaration.{Declaration}
use Rattle.ft_model.specs.declared.script.ScriptParts.{ScriptParts}
use Rattle.ft_trace.specs.Addresses.{container_count}
use Rattle.ft_bank.specs.Passes.{shape_of, view}
use Rattle.ft_bank.specs.PassSections.{Stack, noted_in, stack_of, taken_in}
use Rattle.ft_section.specs.Ready.{InCall}
use Rattle.ft_engine.specs.declared.caller.Caller.{Caller}
use Rattle.ft_engine.specs.declared.engine.Engine.{Engine}
use Rattle.ft_engine.specs.Callers.{IsCallerOf, bank_of, thread_of}
use Rattle.ft_engine.specs.Resting.{HasFloor, KeepsFloor}
use Rattle.ft_engine.specs.Visits.{SameCallerWork}
use Rattle.ft_turn_laws.specs.Beginnings.{NoneOwns}
use Rattle.ft_turn_laws.specs.LockOwners.{owners_in}
use Rattle.ft_turn_laws.specs.Standing.{Standing}
use Rattle.ft_turn_laws.specs.Turns.{AreInStep}
use Rattle.ft_turn_laws.proofs.PassSteps.{SameFloor, has_of, in_call, owners_then}
use Rattle.ft_run_threads.specs.Workers.{IsBankFor}

same_bool : (a b : Bool) → cond {A = ℕ} a 1 0 ≡ cond b 1 0 → a ≡ b
same_bool true true same = refl
same_bool true false same = absurd (omega (arith, same))
same_bool false true same = absurd (omega (arith, same))
same_bool false false same = refl

module _ (e : Engine) (c d : Caller) (is_c : IsCallerOf e c) (is_d : IsCallerOf e d) (same : SameCallerWork c d) (keeps : KeepsFloor c d) (floor : HasFloor c) where
  same_locks : (o : ℕ) → has_of d.pass o ≡ has_of c.pass o
  same_locks o =
      let now : InCall (view d.pass) (stack_of d.pass) = in_call e.bank d.pass d.cursors.items d.flight is_d.inside in
      let before : InCall (view c.pass) (stack_of c.pass) = in_call e.bank c.pass c.cursors.items c.flight is_c.inside in
      same_bool (has_of d.pass o) (has_of c.pass o)
      (sym (now.locks o) ∙ (ap (λ (s : Stack). noted_in o s.sections + taken_in o s.own) same.sections ∙ before.locks o))

  pub same_owners_now : (o : ℕ) → o < container_count (view c.pass).shape → owners_in (view d.pass) o ≡ owners_in (view c.pass) o
  same_owners_now o low =
      let onwards : SameFloor (view c.pass) (view d.pass) = record { number = same.number; shape = is_d.pass.1 ∙ sym is_c.pass.1; floor = keeps.floor; since = keeps.since } in
      let stays : SameFloor (view c.pass) (view c.pass) = record { number = refl; shape = refl; floor = refl; since = refl } in
      let now = owners_then c.pass d.pass (thread_of c) refl onwards floor o low in
      let before = owners_then c.pass c.pass (thread_of c) refl stays floor o low in
      let owners = owners_in (view c.pass) in
      let had = has_of c.pass in
      now
      ∙ (ap (λ (b : Bool). if b then Some (thread_of c) else (if had o then None else owners o)) (same_locks o)
      ∙ sym before)

  pub visited_none : (count : ℕ) → NoneOwns (view c.pass) count → NoneOwns (view d.pass) count
  visited_none count none o thread low below owned =
      let shape = is_d.pass.1 ∙ sym is_c.pass.1 in
      let here : o < container_count (view c.pass).shape = subst (λ k. o < container_count k) shape low in
      none o thread here below (sym (same_owners_now o here) ∙ owned)

  pub visited_step : (script : ScriptParts) (turns : List ℕ) (standings : List Standing) → IsBankFor script (shape_of (bank_of e)) → AreInStep script turns (view c.pass) standings → AreInStep script turns (view d.pass) standings
  visited_step script turns standings bank was =
      let count : container_count (view c.pass).shape ≡ length script.containers = ap container_count is_c.pass.1 ∙ (ap length bank.starts ∙ length-map script.containers (λ (one : Declaration). one.start)) in
      record {
        machine = record {
          count = was.machine.count;
          threads = was.machine.threads;
          locks = λ o low. was.machine.locks o low ∙ sym (same_owners_now o (subst (λ n. o < n) (sym count) low));
        };
        order = record { made = was.order.made; rising = was.order.rising; known = λ place one at. le_trans (was.order.known place one at) same.seen };
      }
