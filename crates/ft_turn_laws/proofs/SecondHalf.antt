-- The second half of a try: the innermost section is taken up again, or it waits for a lock of that.
use Rattle.std.proofs.Common.{◌≡◌, ℕ, ◌<◌, true, List, [], ◌∷◌, ◌++◌, length, reverse, None, Some, refl, ap, subst, ◌∙◌, arith, inl, inr}
use Rattle.std.specs.Prelude.{All}
use Rattle.std.proofs.lemmas.List.{get_or_push, length_push}
use Rattle.ft_model.specs.declared.call.Call.{Call}
use Rattle.ft_model.specs.declared.script.ScriptParts.{ScriptParts}
use Rattle.ft_trace.specs.Addresses.{container_count}
use Rattle.ft_bank.specs.declared.bank.Bank.{Bank}
use Rattle.ft_bank.specs.declared.pass.Pass.{Pass}
use Rattle.ft_bank.specs.declared.sections.OpenSection.{OpenSection}
use Rattle.ft_bank.specs.Passes.{view}
use Rattle.ft_bank.specs.PassSections.{stack_of}
use Rattle.ft_section.specs.Locking.{TakenUp, waiting}
use Rattle.ft_section.specs.Locking.{with_own as keeping}
use Rattle.ft_section.specs.Ready.{HasTop, MayResume}
use Rattle.ft_section.specs.LockTakings.{IsLockTaking}
use Rattle.ft_engine.specs.Halves.{KeepsTopLower, KnewTop}
use Rattle.ft_turns.specs.Orders.{Locking, Machine, ThreadState, finish_try, finished_thread, next_call, take_locks, thread_at, waiting_thread, with_locking}
use Rattle.ft_turns.proofs.MachineSteps.{wanted_again}
use Rattle.ft_turns.proofs.LocksOnce.{IsOwned}
use Rattle.ft_turn_laws.specs.LockOwners.{owners_in}
use Rattle.ft_turn_laws.specs.MatchingStacks.{AreAsSections}
use Rattle.ft_turn_laws.proofs.TurnMoments.{IsCounted, Stands, owner_after}
use Rattle.ft_turn_laws.proofs.PassSteps.{has_of}
use Rattle.ft_turn_laws.proofs.MachineSections.{last_or_none, reverse_push}
use Rattle.ft_turn_laws.proofs.StepsOfTries.{AreTwoOf, asks_top}
use Rattle.ft_turn_laws.proofs.TurnOutcomes.{Comes, finishes_again, waits_again}

-- the last of a list
all_last : {X : Type 0} (P : X → Type 0) (xs ys : List X) (y : X) → xs ≡ ys ++ y ∷ [] → All P xs → P y
all_last P xs ys y is all =
    subst P (get_or_push ys y y (length ys) refl)
    ((subst (All P) is all) (length ys) y (omega (arith, length_push ys y)))

module _ (script : ScriptParts) (machine : Machine) (thread : ℕ) (called : Call) (b : Bank) (p q : Pass)
    (count : container_count (view p).shape ≡ length script.containers) (floor : (view p).has_floor ≡ true)
    (inv : IsOwned script machine) (stands : Stands script machine thread (owners_in (view p)) (has_of p) (stack_of p)) (may : MayResume b p)
    (counted : IsCounted (has_of q) (stack_of q)) (are : (o : ℕ) → o < length script.containers → owners_in (view q) o ≡ owner_after thread (owners_in (view p)) (has_of p) (has_of q) o)
    (next : next_call script thread (thread_at machine thread) ≡ Some called) (fixed : (thread_at machine thread).fixed ≡ true) where
  abbrev state : ThreadState
  state = thread_at machine thread

  abbrev again : Locking
  again = take_locks thread machine.holders (wanted_again machine thread)

  top_two : (outer : List OpenSection) (top : OpenSection) → (stack_of p).sections ≡ outer ++ top ∷ [] → AreTwoOf script top.locks.lower top.locks.upper
  top_two outer top cut =
      let taking : IsLockTaking (view p).shape top.locks = all_last (λ (section : OpenSection). IsLockTaking (view p).shape section.locks) (stack_of p).sections outer top cut may.inside.1.sections in
      let low = taking.low in
      record { order = taking.order; low = omega arith }

  pub takes_up : TakenUp (stack_of p) (stack_of q) → KnewTop p None → HasTop q
      → Comes script machine (finish_try machine thread) thread (owners_in (view q)) (has_of q) (stack_of q) (finished_thread (with_locking state again)) machine.answered
  takes_up up knew has =
      finishes_again script machine thread called (owners_in (view p)) (owners_in (view q)) (has_of p) (has_of q) (stack_of p) (stack_of q) inv stands counted are next fixed up
      (λ outer top cut. record {
        two = top_two outer top cut;
        free = knew floor outer top cut;
        own = may.own outer top cut;
        all = (let after = up.top outer top cut in has outer _ after.2);
      })

  pub waits_on : (o owner : ℕ) → ((stack_of p).sections ≡ [] → ⊥) → stack_of q ≡ waiting (keeping (stack_of p) (stack_of q).own) owner → KeepsTopLower o p q → KnewTop p (Some (o, owner))
      → Comes script machine (finish_try machine thread) thread (owners_in (view q)) (has_of q) (stack_of q) (waiting_thread (with_locking state again) owner) machine.answered
  waits_on o owner some is kept knew =
      elim (last_or_none (stack_of p).sections) [
        | inl none ↦ absurd (some none)
        | inr cut ↦
            let outer = cut.0 in
            let top = cut.1 in
            let sections : AreAsSections state.sections (top ∷ reverse outer) = subst (AreAsSections state.sections) (ap reverse cut.2 ∙ reverse_push outer top) stands.stack.sections in
            waits_again script machine thread called (owners_in (view p)) (owners_in (view q)) (has_of p) (has_of q) (stack_of p) (stack_of q) inv stands counted are next fixed
            top.locks.lower top.locks.upper o owner (asks_top state.sections (reverse outer) top sections)
            (record { two = top_two outer top cut.2; first = knew floor outer top cut.2; stack = is; kept = kept outer top cut.2 })
      ]
