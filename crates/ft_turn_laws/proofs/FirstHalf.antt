-- The first half of a try: the answer of the call is made, or it waits for a lock.
use Rattle.std.proofs.Common.{◌≡◌, ℕ, ◌<◌, Bool, true, false, List, [], ◌∷◌, ◌++◌, length, take, Option, None, Some, refl, sym, ap, subst, ◌∙◌, inl, inr}
use Rattle.std.specs.Option.{option_map}
use Rattle.std.proofs.lemmas.Bool.{cases_Bool}
use Rattle.std.proofs.lemmas.Option.{none-some, same_Some}
use Rattle.ft_model.specs.declared.call.Call.{Call}
use Rattle.ft_model.specs.declared.call.Call.TheVariants as call
use Rattle.ft_model.specs.declared.cursor.Cursor.{Cursor}
use Rattle.ft_model.specs.declared.script.ScriptParts.{ScriptParts}
use Rattle.ft_model.specs.Histories.{calls_of}
use Rattle.ft_model.specs.Worlds.{container_of, cursor_at}
use Rattle.ft_bank.specs.declared.bank.Bank.{Bank}
use Rattle.ft_bank.specs.declared.pass.Pass.{Pass}
use Rattle.ft_bank.specs.declared.sections.OpenSection.{OpenSection}
use Rattle.ft_bank.specs.declared.sections.Taking.{Taking}
use Rattle.ft_bank.specs.PassSections.{Stack, nothing_taken, stack_of, taken_in}
use Rattle.ft_section.specs.declared.answers.Got.TheVariants as got
use Rattle.ft_section.specs.declared.answers.Objects.{Objects}
use Rattle.ft_section.specs.Floors.{got_by}
use Rattle.ft_section.specs.Locking.{with_own as keeping}
use Rattle.ft_section.specs.LockTakings.{IsOwnFor, lower_of, upper_of}
use Rattle.ft_engine.specs.declared.caller.Flight.{Flight}
use Rattle.ft_engine.specs.declared.caller.Flight.TheVariants as flight
use Rattle.ft_engine.specs.Contentions.{may_look}
use Rattle.ft_engine.specs.Flights.{IsFlightAnswered, IsIn, AllowsCall, is_begin, objects_of}
use Rattle.ft_table_calls.specs.TriesUnderLocks.{objects_by}
use Rattle.ft_engine.specs.Stacks.{Closes, Opens, StackAfter}
use Rattle.ft_turns.specs.Orders.{Locking, Machine, ThreadState, answered_machine, answered_thread, cursor_containers, lower_first, next_call, sections_after, take_locks, thread_at, with_locking}
use Rattle.ft_turns.proofs.MachineSteps.{wanted}
use Rattle.ft_turns.proofs.LocksOnce.{IsOwned}
use Rattle.ft_turn_laws.specs.Placings.{pair_of}
use Rattle.ft_turn_laws.specs.MatchingStacks.{IsAsStack}
use Rattle.ft_turn_laws.proofs.AskedOfTries.{asks, asks_none, in_order, objects_pair}
use Rattle.ft_turn_laws.proofs.TurnMoments.{IsCounted, Stands, first_other, owner_after}
use Rattle.ft_turn_laws.proofs.StepsOfTries.{AreTwoOf, HasAll, answers_step, begins_stack, finds_same}
use Rattle.ft_turn_laws.proofs.StackSteps.{answers, ends}
use Rattle.ft_turn_laws.proofs.Taking.{Finds}

-- ---- what is answered

-- who has the locks has found nobody
pub have_none : (first : Option (ℕ × ℕ)) → got.Have ≡ got_by first → first ≡ None
have_none None is = refl
have_none (Some found) is = absurd cc

pub not_yet_some : (first : Option (ℕ × ℕ)) (o owner : ℕ) → got.NotYet o owner ≡ got_by first → first ≡ Some (o, owner)
not_yet_some None o owner is = absurd cc
not_yet_some (Some found) o owner is = let a : o ≡ found.0 = cc in let b : owner ≡ found.1 = cc in ap (λ x. Some (x, found.1)) (sym a) ∙ ap (λ y. Some (o, y)) (sym b)

-- ---- the locks that the call has itself

-- of a call that has no answer yet
pub own_for : (b : Bank) (p : Pass) (hands : List (Option Cursor)) (f : Flight) (called : Call) (objects : Objects) → IsIn b p hands f → (IsFlightAnswered f → ⊥) → AllowsCall f called → objects_of hands called ≡ Some objects → IsOwnFor (lower_of objects) (upper_of objects) (stack_of p).own
own_for b p hands flight.Idle called objects is unanswered next at = inl is.own
own_for b p hands (flight.Tried first) called objects is unanswered next at =
    let same : is.0 ≡ objects = same_Some is.0 objects (sym is.1 ∙ (ap (objects_of hands) next ∙ at)) in
    elim is.2 [
      | inl ready ↦ inl ready.own
      | inr waiting ↦ subst (λ (os : Objects). IsOwnFor (lower_of os) (upper_of os) (stack_of p).own) same waiting.own
    ]
own_for b p hands (flight.Answered first said stamp) called objects is unanswered next at = absurd (unanswered tt)
own_for b p hands (flight.Refused first) called objects is unanswered next at = absurd next

-- of a call that names no container
pub own_none : (b : Bank) (p : Pass) (hands : List (Option Cursor)) (f : Flight) (called : Call) → IsIn b p hands f → (IsFlightAnswered f → ⊥) → AllowsCall f called → objects_of hands called ≡ None → (o : ℕ) → taken_in o (stack_of p).own ≡ 0
own_none b p hands flight.Idle called is unanswered next none o = ap (taken_in o) is.own
own_none b p hands (flight.Tried first) called is unanswered next none o = absurd (none-some is.0 (sym none ∙ (ap (objects_of hands) (sym next) ∙ is.1)))
own_none b p hands (flight.Answered first said stamp) called is unanswered next none o = absurd (unanswered tt)
own_none b p hands (flight.Refused first) called is unanswered next none o = absurd next

-- ---- the answer

module _ (script : ScriptParts) (machine : Machine) (thread : ℕ) (hands : List (Option Cursor)) (called : Call) (owners owners_after : ℕ → Option ℕ) (has has_after : ℕ → Bool) (s t : Stack)
    (inv : IsOwned script machine) (stands : Stands script machine thread owners has s)
    (counted : IsCounted has_after t) (are : (o : ℕ) → o < length script.containers → owners_after o ≡ owner_after thread owners has has_after o)
    (next : next_call script thread (thread_at machine thread) ≡ Some called)
    (walks : (number : ℕ) (walker : Cursor) → cursor_at hands number ≡ Some walker → cursor_containers (take (length (thread_at machine thread).marks) (calls_of script thread)) number ≡ container_of walker ∷ [])
    (made : (number : ℕ) → called ≡ call.Next number → objects_of hands called ≡ None → ⊥)
    (there : (objects : Objects) → objects_of hands called ≡ Some objects → upper_of objects < length script.containers)
    (free : (objects : Objects) → objects_of hands called ≡ Some objects → may_look called ≡ false → first_other owners has (lower_of objects) (upper_of objects) ≡ None) where
  abbrev state : ThreadState
  state = thread_at machine thread

  abbrev before : List Call
  before = take (length state.marks) (calls_of script thread)

  abbrev locked : List ℕ → Locking
  locked containers = take_locks thread machine.holders containers

  two_of : (objects : Objects) → objects_of hands called ≡ Some objects → AreTwoOf script (lower_of objects) (upper_of objects)
  two_of objects is = record { order = in_order objects; low = there objects is }

  nobody : wanted script machine thread called ≡ [] → (locked (wanted script machine thread called)).found ≡ None
  nobody none = ap (λ os. (locked os).found) none

  -- the machine finds nobody either
  pub found_none : (locked (wanted script machine thread called)).found ≡ None
  found_none =
      elim (objects_of hands called) as (λ o. objects_of hands called ≡ o → (locked (wanted script machine thread called)).found ≡ None) [
        | None ↦ λ none. nobody (ap lower_first (asks_none before hands called (inr none) made))
        | Some objects ↦ λ is. elim (cases_Bool (may_look called)) [
          | inl looks ↦ nobody (ap lower_first (asks_none before hands called (inl looks) made))
          | inr locks ↦
              let asked : wanted script machine thread called ≡ pair_of (lower_of objects) (upper_of objects) = asks before hands called objects walks is locks in
              let f : Finds (lower_of objects) (has (lower_of objects)) (first_other owners has (lower_of objects) (upper_of objects)) (locked (pair_of (lower_of objects) (upper_of objects))) =
              finds_same script machine thread called owners owners_after has has_after s t inv stands counted are (lower_of objects) (upper_of objects) (two_of objects is) in
              ap (λ os. (locked os).found) asked ∙ (f.found ∙ ap (option_map (λ x. x.1)) (free objects is locks))
        ]
      ] refl

  abbrev Now : Type 0
  Now = Stands script (answered_machine machine thread state called (locked (wanted script machine thread called))) thread owners_after has_after t

  -- the stack says so of the thread
  by_stack : state.fixed ≡ false → IsAsStack (answered_thread (with_locking state (locked (wanted script machine thread called))) called) t → Now
  by_stack unfixed same = answers_step script machine thread called owners owners_after has has_after s t inv stands counted are (wanted script machine thread called) (record { next = next; state = unfixed; asks = refl }) found_none same

  plain_now : state.fixed ≡ false → sections_after called (state.own ++ (locked (wanted script machine thread called)).taken) state.sections ≡ state.sections → t ≡ keeping s nothing_taken → Now
  plain_now unfixed stays is = by_stack unfixed (answers state s t (locked (wanted script machine thread called)) called stays stands.stack is)

  end_now : state.fixed ≡ false → called ≡ call.End → Closes s t → ((o : ℕ) → taken_in o s.own ≡ 0) → Now
  end_now unfixed ends_it closes none =
      by_stack unfixed
      (subst (λ c. IsAsStack (answered_thread (with_locking state (locked (wanted script machine thread called))) c) t) (sym ends_it)
      (ends state s t (locked (wanted script machine thread called)) closes.0 closes.1 stands.stack closes.2 closes.3 none))

  begin_now : (first : ℕ) (second : Option ℕ) → state.fixed ≡ false → called ≡ call.Begin first second → Opens (objects_by first second) s t
      → ((objects : Objects) → objects_of hands called ≡ Some objects → IsOwnFor (lower_of objects) (upper_of objects) s.own)
      → ((outer : List OpenSection) (top : OpenSection) → t.sections ≡ outer ++ top ∷ [] → HasAll has_after top.locks.lower top.locks.upper) → Now
  begin_now first second unfixed begins_it opens own_is top =
      let objects = objects_by first second in
      let own : Taking = opens.0 in
      let noted = opens.1 in
      let at : objects_of hands called ≡ Some objects = ap (objects_of hands) begins_it in
      let locks : may_look called ≡ false = ap may_look begins_it in
      let lower : own.lower ≡ lower_of objects = noted.lower in
      let upper : own.upper ≡ upper_of objects = noted.upper in
      let same : pair_of own.lower own.upper ≡ pair_of (lower_of objects) (upper_of objects) = ap (λ o. pair_of o own.upper) lower ∙ ap (pair_of (lower_of objects)) upper in
      let asked : wanted script machine thread called ≡ pair_of own.lower own.upper = asks before hands called objects walks at locks ∙ sym same in
      let begun : next_call script thread state ≡ Some (call.Begin first second) = next ∙ ap Some begins_it in
      let two : AreTwoOf script own.lower own.upper = subst (λ o. AreTwoOf script o own.upper) (sym lower) (subst (AreTwoOf script (lower_of objects)) (sym upper) (two_of objects at)) in
      let none : first_other owners has own.lower own.upper ≡ None =
      ap (λ o. first_other owners has o own.upper) lower ∙ (ap (first_other owners has (lower_of objects)) upper ∙ free objects at locks) in
      let mine : IsOwnFor own.lower own.upper s.own = subst (λ o. IsOwnFor o own.upper s.own) (sym lower) (subst (λ o. IsOwnFor (lower_of objects) o s.own) (sym upper) (own_is objects at)) in
      let stack = begins_stack script machine thread first second owners owners_after has has_after s t own inv stands counted are
      (record { next = begun; state = unfixed; asks = sym asked ∙ ap (wanted script machine thread) begins_it }) two none
      (objects_pair first second ∙ sym same) mine opens.2 (top s.sections (record { locks = own; marks = 0 }) (ap (λ (u : Stack). u.sections) opens.2)) in
      by_stack unfixed
      (subst (λ c. IsAsStack (answered_thread (with_locking state (locked (wanted script machine thread called))) c) t) (sym begins_it)
      (subst (λ os. IsAsStack (answered_thread (with_locking state (locked os)) (call.Begin first second)) t) (sym asked) stack))

  -- the call has its answer, and the stack is as the answer leaves it
  pub answer_now : state.fixed ≡ false → StackAfter called s t
      → ((objects : Objects) → objects_of hands called ≡ Some objects → IsOwnFor (lower_of objects) (upper_of objects) s.own)
      → (objects_of hands called ≡ None → (o : ℕ) → taken_in o s.own ≡ 0)
      → (is_begin called ≡ true → (outer : List OpenSection) (top : OpenSection) → t.sections ≡ outer ++ top ∷ [] → HasAll has_after top.locks.lower top.locks.upper) → Now
  answer_now unfixed after own_is none top =
      let own = state.own ++ (locked (wanted script machine thread called)).taken in
      let stays : (c : Call) → called ≡ c → sections_after c own state.sections ≡ state.sections → sections_after called own state.sections ≡ state.sections = λ c is same. ap (λ (x : Call). sections_after x own state.sections) is ∙ same in
      elim called as (λ c. called ≡ c → StackAfter c s t → Now) [
        | call.Dict o c ↦ λ is left. plain_now unfixed (stays (call.Dict o c) is refl) left
        | call.List o c ↦ λ is left. plain_now unfixed (stays (call.List o c) is refl) left
        | call.Set o c ↦ λ is left. plain_now unfixed (stays (call.Set o c) is refl) left
        | call.Next number ↦ λ is left. plain_now unfixed (stays (call.Next number) is refl) left
        | call.Begin first second ↦ λ is left. begin_now first second unfixed is left own_is (top (ap is_begin is))
        | call.End ↦ λ is left. end_now unfixed is left (none (ap (objects_of hands) is))
        | call.Quiesce ↦ λ is left. plain_now unfixed (stays call.Quiesce is refl) left
        | call.Await other index ↦ λ is left. plain_now unfixed (stays (call.Await other index) is refl) left
        | call.Deque o c ↦ λ is left. plain_now unfixed (stays (call.Deque o c) is refl) left
        | call.Dump ↦ λ is left. plain_now unfixed (stays call.Dump is refl) left
      ] refl after
