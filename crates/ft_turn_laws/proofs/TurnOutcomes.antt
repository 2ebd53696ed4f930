-- What a turn of a thread comes to beside a try of its caller, by halves: the answer is made or waited for, and the
-- innermost section is taken up again or waited for.
use Rattle.std.proofs.Common.{◌≡◌, ◌≢◌, ℕ, ◌+◌, ◌<◌, Bool, true, false, List, [], ◌∷◌, ◌++◌, length, Option, None, Some, refl, sym, ap, subst, ◌∙◌, arith, inl, inr}
use Rattle.std.specs.Prelude.{◌==◌, ◌||◌, if◌then◌else◌}
use Rattle.std.specs.Option.{option_map}
use Rattle.ft_model.specs.declared.call.Call.{Call}
use Rattle.ft_model.specs.declared.script.ScriptParts.{ScriptParts}
use Rattle.ft_bank.specs.declared.sections.OpenSection.{OpenSection}
use Rattle.ft_bank.specs.PassSections.{Stack, taken_in}
use Rattle.ft_section.specs.Locking.{TakenUp, at_one, waiting}
use Rattle.ft_section.specs.Locking.{with_own as keeping}
use Rattle.ft_turns.specs.Orders.{Locking, Machine, ThreadState, answered_machine, answered_thread, finish_try, finished_machine, finished_thread, next_call, ready_call, take_locks, thread_at, turn, waiting_machine, waiting_thread, with_locking}
use Rattle.ft_turns.proofs.MachineSteps.{IsTry, there, wanted, wanted_again}
use Rattle.ft_turns.proofs.LocksOnce.{IsOwned, owned_steps}
use Rattle.ft_turn_laws.specs.Placings.{pair_of}
use Rattle.ft_turn_laws.proofs.TurnMoments.{IsCounted, Stands, first_other, owner_after}
use Rattle.ft_turn_laws.proofs.MachineSections.{last_or_none}
use Rattle.ft_turn_laws.proofs.StepsOfTries.{AreTwoOf, IsTopOf, changed, finds_same, finishes_bare, finishes_inside, waits_step}
use Rattle.ft_turn_laws.proofs.Taking.{Finds}
use Rattle.ft_turn_laws.proofs.TurnForms.{answers_first, finishes_second, waits_first, waits_second}

-- the thread stands so after it, and the others as before; and these are the answers that are fixed
pub record Comes (script : ScriptParts) (machine after : Machine) (thread : ℕ) (owners : ℕ → Option ℕ) (has : ℕ → Bool) (s : Stack) (now : ThreadState) (answered : List (ℕ × ℕ)) : Type 0 where
  pub stands : Stands script after thread owners has s
  pub state : thread_at after thread ≡ now
  pub others : (other : ℕ) → other ≢ thread → thread_at after other ≡ thread_at machine other
  pub answers : after.answered ≡ answered

-- what a pass that waits has found, and which locks it keeps
pub record IsWait (script : ScriptParts) (owners : ℕ → Option ℕ) (has : ℕ → Bool) (s t : Stack) (lower upper c q : ℕ) : Type 0 where
  pub two : AreTwoOf script lower upper
  pub first : first_other owners has lower upper ≡ Some (c, q)
  pub stack : t ≡ waiting (keeping s t.own) q
  pub kept : (r : ℕ) → taken_in r t.own ≡ taken_in r s.own + (if (c == lower) || has lower then 0 else at_one lower r)

module _ (script : ScriptParts) (machine : Machine) (thread : ℕ) (called : Call) (owners owners_after : ℕ → Option ℕ) (has has_after : ℕ → Bool) (s t : Stack)
    (inv : IsOwned script machine) (stands : Stands script machine thread owners has s)
    (counted : IsCounted has_after t) (are : (o : ℕ) → o < length script.containers → owners_after o ≡ owner_after thread owners has has_after o)
    (next : next_call script thread (thread_at machine thread) ≡ Some called) where
  abbrev state : ThreadState
  state = thread_at machine thread

  abbrev locked : List ℕ → Locking
  locked containers = take_locks thread machine.holders containers

  low_thread : thread < length machine.threads
  low_thread = omega (arith, there script thread state called next, inv.threads)

  finds_in : (containers : List ℕ) (lower upper : ℕ) → containers ≡ pair_of lower upper → AreTwoOf script lower upper → Finds lower (has lower) (first_other owners has lower upper) (locked containers)
  finds_in containers lower upper asks two =
      subst (λ os. Finds lower (has lower) (first_other owners has lower upper) (locked os)) (sym asks)
      (finds_same script machine thread called owners owners_after has has_after s t inv stands counted are lower upper two)

  -- the call has to wait for its answer
  pub waits_turn : ready_call script machine thread ≡ Some called → state.fixed ≡ false → (lower upper c q : ℕ) → wanted script machine thread called ≡ pair_of lower upper → IsWait script owners has s t lower upper c q
      → Comes script machine (turn script machine thread) thread owners_after has_after t (waiting_thread (with_locking state (locked (wanted script machine thread called))) q) machine.answered
  waits_turn ready unfixed lower upper c q asks wait =
      let containers = wanted script machine thread called in
      let f = finds_in containers lower upper asks wait.two in
      let found : (locked containers).found ≡ Some q = f.found ∙ ap (option_map (λ x. x.1)) wait.first in
      let after : Machine = waiting_machine machine thread state (locked containers) q in
      let now = changed script machine thread called owners owners_after has has_after s t inv stands counted are (waiting_thread (with_locking state (locked containers)) q) next in
      let is : turn script machine thread ≡ after = waits_first script machine thread called ready low_thread q unfixed found in
      subst (λ m. Comes script machine m thread owners_after has_after t (waiting_thread (with_locking state (locked containers)) q) machine.answered) (sym is)
      (record {
        stands = waits_step script machine thread called owners owners_after has has_after s t inv stands counted are false containers lower upper c q
            (record { next = next; state = unfixed; asks = refl }) asks wait.two wait.first wait.stack wait.kept;
        state = now.0;
        others = now.1;
        answers = refl;
      })

  -- the innermost section has to be waited for
  pub waits_again : state.fixed ≡ true → (lower upper c q : ℕ) → wanted_again machine thread ≡ pair_of lower upper → IsWait script owners has s t lower upper c q
      → Comes script machine (finish_try machine thread) thread owners_after has_after t (waiting_thread (with_locking state (locked (wanted_again machine thread))) q) machine.answered
  waits_again fixed lower upper c q asks wait =
      let containers = wanted_again machine thread in
      let f = finds_in containers lower upper asks wait.two in
      let found : (locked containers).found ≡ Some q = f.found ∙ ap (option_map (λ x. x.1)) wait.first in
      let after : Machine = waiting_machine machine thread state (locked containers) q in
      let now = changed script machine thread called owners owners_after has has_after s t inv stands counted are (waiting_thread (with_locking state (locked containers)) q) next in
      let is : finish_try machine thread ≡ after = waits_second machine thread fixed q found in
      subst (λ m. Comes script machine m thread owners_after has_after t (waiting_thread (with_locking state (locked containers)) q) machine.answered) (sym is)
      (record {
        stands = waits_step script machine thread called owners owners_after has has_after s t inv stands counted are true containers lower upper c q
            (record { next = next; state = fixed; asks = refl }) asks wait.two wait.first wait.stack wait.kept;
        state = now.0;
        others = now.1;
        answers = refl;
      })

  -- the call finishes
  pub finishes_again : state.fixed ≡ true → TakenUp s t
      → ((outer : List OpenSection) (top : OpenSection) → s.sections ≡ outer ++ top ∷ [] → IsTopOf script owners has has_after s top.locks)
      → Comes script machine (finish_try machine thread) thread owners_after has_after t (finished_thread (with_locking state (locked (wanted_again machine thread)))) machine.answered
  finishes_again fixed up known =
      let containers = wanted_again machine thread in
      let try : IsTry script machine thread called true containers = record { next = next; state = fixed; asks = refl } in
      let after : Machine = finished_machine machine thread state (locked containers) in
      let now = changed script machine thread called owners owners_after has has_after s t inv stands counted are (finished_thread (with_locking state (locked containers))) next in
      let done : (locked containers).found ≡ None × Stands script after thread owners_after has_after t =
      elim (last_or_none s.sections) [
        | inl bare ↦ finishes_bare script machine thread called owners owners_after has has_after s t inv stands counted are containers try refl bare up
        | inr cut ↦ finishes_inside script machine thread called owners owners_after has has_after s t inv stands counted are containers try refl cut.0 cut.1 cut.2 (known cut.0 cut.1 cut.2) up
      ] in
      let is : finish_try machine thread ≡ after = finishes_second machine thread fixed done.0 in
      subst (λ m. Comes script machine m thread owners_after has_after t (finished_thread (with_locking state (locked containers))) machine.answered) (sym is)
      (record { stands = done.1; state = now.0; others = now.1; answers = refl })

  -- the answer is made, and the thread goes on from there
  pub answered : ready_call script machine thread ≡ Some called → (locked (wanted script machine thread called)).found ≡ None → state.fixed ≡ false
      → Stands script (answered_machine machine thread state called (locked (wanted script machine thread called))) thread owners_after has_after t
      → (turn script machine thread ≡ finish_try (answered_machine machine thread state called (locked (wanted script machine thread called))) thread)
      × IsOwned script (answered_machine machine thread state called (locked (wanted script machine thread called)))
      × Comes script machine (answered_machine machine thread state called (locked (wanted script machine thread called))) thread owners_after has_after t (answered_thread (with_locking state (locked (wanted script machine thread called))) called) (machine.answered ++ (thread, length state.marks) ∷ [])
  answered ready found unfixed now_stands =
      let containers = wanted script machine thread called in
      let now = changed script machine thread called owners owners_after has has_after s t inv stands counted are (answered_thread (with_locking state (locked containers)) called) next in (
        answers_first script machine thread called ready low_thread unfixed found,
        (owned_steps script).answers machine thread called containers (record { next = next; state = unfixed; asks = refl }) found inv,
        record { stands = now_stands; state = now.0; others = now.1; answers = refl },
      )
