-- A mark names another thread, which has a call on a container that the marked call needs.
use Rattle.std.proofs.Common.{◌≡◌, ◌≢◌, ℕ, zero, suc, ◌+◌, ◌<◌, ◌≤◌, Bool, true, false, List, [], ◌∷◌, ◌++◌, length, take, drop, map, Option, None, Some, refl, sym, ap, subst, ◌∙◌, arith, inl, inr}
use Rattle.std.specs.Prelude.{fold, slice_get, slice_index_or, ◌⊎◌, ◌==◌, is_some, if◌then◌else◌}
use Rattle.std.specs.List.{list_any, AllByRecursion}
use Rattle.std.proofs.lemmas.Bool.{cases_eq, or_left, or_right, ne_eqb}
use Rattle.std.proofs.lemmas.Option.{none-some, same_Some, slice_get_within, get_or_from_slice_get}
use Rattle.std.proofs.lemmas.List.{get_or_push, length_push, take-append-drop}
use Rattle.std.proofs.lemmas.List.Folds.{list_any-append, list_any_at}
use Rattle.std.proofs.lemmas.List.Sums.{fold_push}
use Rattle.ft_model.specs.declared.call.Call.{Call}
use Rattle.ft_model.specs.declared.call.Call.TheVariants as call
use Rattle.ft_model.specs.declared.script.ScriptParts.{ScriptParts}
use Rattle.ft_model.specs.Calls.{containers_of, locks_of}
use Rattle.ft_model.specs.Histories.{calls_of, names, has_call_on}
use Rattle.ft_history.proofs.HistoryPlaces.{take_next}
use Rattle.ft_turns.specs.Orders.{makes, cursor_containers, locks_taken, OpenSection, ThreadState, Machine, fresh_thread, start_machine, holder_of, take_locks, let_go, thread_at, without_locks, waiting_machine, sections_after, lets_go, answered_machine, innermost_containers, with_taken, finished_machine}
use Rattle.ft_turns.proofs.LockLemmas.{occ, occ-append, occ-nil, occ-cons, occ_named, occ-lower_first, let_go_less, take_less, take_found}
use Rattle.ft_turns.proofs.MachineSteps.{IsTry, IsKeptBySteps, there}
use Rattle.ft_turns.proofs.LocksOnce.{by_thread, flat, owned_steps, IsOwned, start_thread, start_holder}

-- ---- marks

-- the mark of a call that has finished, or so far of the next one
abbrev pub mark_at : ThreadState → ℕ → Option ℕ
mark_at state index = slice_index_or (state.marks ++ state.mark ∷ []) index None

pub push_none : (marks : List (Option ℕ)) (index : ℕ) → slice_index_or (marks ++ None ∷ []) index None ≡ slice_index_or marks index None
push_none [] zero = refl
push_none [] (suc index) = refl
push_none (mark ∷ marks) zero = refl
push_none (mark ∷ marks) (suc index) = push_none marks index

-- the last of the marks, and those before it
pub mark_cases : (marks : List (Option ℕ)) (mark : Option ℕ) (index : ℕ) → ((index ≡ length marks) × (slice_index_or (marks ++ mark ∷ []) index None ≡ mark)) ⊎ ((other : Option ℕ) → slice_index_or (marks ++ other ∷ []) index None ≡ slice_index_or (marks ++ mark ∷ []) index None)
mark_cases [] mark zero = inl (refl, refl)
mark_cases [] mark (suc index) = inr (λ other. refl)
mark_cases (first ∷ marks) mark zero = inr (λ other. refl)
mark_cases (first ∷ marks) mark (suc index) =
    elim (mark_cases marks mark index) [
      | inl last ↦ inl (ap suc last.0, last.1)
      | inr before ↦ inr before
    ]

-- ---- a thread's own calls

-- the containers of the open sections after these calls of a thread, innermost first
abbrev pub stack_after : Call → List (List ℕ) → List (List ℕ)
stack_after (call.Begin first second) stack = containers_of (call.Begin first second) ∷ stack
stack_after call.End stack = drop 1 stack
stack_after other stack = stack

abbrev pub own_stack : List Call → List (List ℕ)
own_stack calls = fold (λ stack called. stack_after called stack) [] calls

abbrev pub first_of_stack : List (List ℕ) → List ℕ
first_of_stack [] = []
first_of_stack (containers ∷ stack) = containers

-- the containers that a call is about, after these calls of its thread
abbrev pub own_containers : List Call → Call → List ℕ
own_containers before (call.Next number) = cursor_containers before number
own_containers before other = containers_of other

-- those that it needs at its place among its thread's calls
abbrev pub own_needs : List Call → ℕ → Call → List ℕ
own_needs calls index called = own_containers (take index calls) called ++ first_of_stack (own_stack (take (index + 1) calls))

pub occ_true : (p : ℕ → Bool) (which : ℕ) (xs : List ℕ) → p which ≡ true → 1 ≤ occ which xs → list_any p xs ≡ true
occ_true p which [] holds there = absurd (omega (arith, occ-nil which))
occ_true p which (x ∷ xs) holds there =
    elim (cases_eq x which) [
      | inl same ↦ or_left (p x) (list_any p xs) (ap p same ∙ holds)
      | inr differs ↦ or_right (p x) (list_any p xs) (occ_true p which xs holds (let e : occ which (x ∷ xs) ≡ 0 + occ which xs = rw (occ-cons which x xs, ne_eqb x which differs) refl in omega arith))
    ]

some_or_none : (which count : ℕ) (containers : List ℕ) → 1 ≤ occ which (if count == 0 then [] else containers) → 1 ≤ occ which containers
some_or_none which count containers h =
    elim (count == 0) as (λ b. 1 ≤ occ which (if b then [] else containers) → 1 ≤ occ which containers) [
      | true ↦ λ none. absurd (omega (arith, occ-nil which))
      | false ↦ λ some. some
    ] h

-- what a call takes is what it is about
taken_about : (which : ℕ) (before : List Call) (called : Call) → 1 ≤ occ which (locks_taken before called) → 1 ≤ occ which (own_containers before called)
taken_about which before (call.Next number) h = h
taken_about which before (call.Dict container dict_call) h = some_or_none which (locks_of (call.Dict container dict_call)) (containers_of (call.Dict container dict_call)) h
taken_about which before (call.List container list_call) h = some_or_none which (locks_of (call.List container list_call)) (containers_of (call.List container list_call)) h
taken_about which before (call.Set container set_call) h = some_or_none which (locks_of (call.Set container set_call)) (containers_of (call.Set container set_call)) h
taken_about which before (call.Deque container deque_call) h = some_or_none which (locks_of (call.Deque container deque_call)) (containers_of (call.Deque container deque_call)) h
taken_about which before (call.Begin first second) h = some_or_none which (locks_of (call.Begin first second)) (containers_of (call.Begin first second)) h
taken_about which before call.End h = h
taken_about which before call.Quiesce h = h
taken_about which before (call.Await other index) h = h
taken_about which before call.Dump h = h

-- the containers that a thread's calls are about are named by its calls
cursor_named : (which number : ℕ) (containers : List ℕ) (calls : List Call) → 1 ≤ occ which (fold (λ so_far called. if makes number called then containers_of called else so_far) containers calls) → (1 ≤ occ which containers) ⊎ (list_any (names which) calls ≡ true)
cursor_named which number containers [] there = inl there
cursor_named which number containers (called ∷ calls) there =
    elim (makes number called) as (λ b. 1 ≤ occ which (fold (λ so_far c. if makes number c then containers_of c else so_far) (if b then containers_of called else containers) calls) → (1 ≤ occ which containers) ⊎ (list_any (names which) (called ∷ calls) ≡ true)) [
      | true ↦ λ h. elim (cursor_named which number (containers_of called) calls h) [
        | inl made ↦ inr (or_left (names which called) (list_any (names which) calls) (occ_named which (containers_of called) made))
        | inr later ↦ inr (or_right (names which called) (list_any (names which) calls) later)
      ]
      | false ↦ λ h. elim (cursor_named which number containers calls h) [
        | inl before ↦ inl before
        | inr later ↦ inr (or_right (names which called) (list_any (names which) calls) later)
      ]
    ] there

front_named : (which index : ℕ) (calls : List Call) → list_any (names which) (take index calls) ≡ true → list_any (names which) calls ≡ true
front_named which index calls h = ap (list_any (names which)) (sym (take-append-drop index calls)) ∙ list_any-append (names which) (take index calls) (drop index calls) ∙ or_left (list_any (names which) (take index calls)) (list_any (names which) (drop index calls)) h

named_at : (which index : ℕ) (calls : List Call) (called : Call) → slice_get calls index ≡ Some called → 1 ≤ occ which (containers_of called) → list_any (names which) calls ≡ true
named_at which index calls called at there = list_any_at (names which) calls index called (slice_get_within calls index called at) (ap (names which) (get_or_from_slice_get calls index called called at) ∙ occ_named which (containers_of called) there)

about_named : (which index : ℕ) (calls : List Call) (called : Call) → slice_get calls index ≡ Some called → 1 ≤ occ which (own_containers (take index calls) called) → list_any (names which) calls ≡ true
about_named which index calls (call.Next number) at there =
    elim (cursor_named which number [] (take index calls) there) [
      | inl none ↦ absurd (omega (arith, occ-nil which))
      | inr named ↦ front_named which index calls named
    ]
about_named which index calls (call.Dict container dict_call) at there = named_at which index calls (call.Dict container dict_call) at there
about_named which index calls (call.List container list_call) at there = named_at which index calls (call.List container list_call) at there
about_named which index calls (call.Set container set_call) at there = named_at which index calls (call.Set container set_call) at there
about_named which index calls (call.Deque container deque_call) at there = named_at which index calls (call.Deque container deque_call) at there
about_named which index calls (call.Begin first second) at there = named_at which index calls (call.Begin first second) at there
about_named which index calls call.End at there = named_at which index calls call.End at there
about_named which index calls call.Quiesce at there = named_at which index calls call.Quiesce at there
about_named which index calls (call.Await other place) at there = named_at which index calls (call.Await other place) at there
about_named which index calls call.Dump at there = named_at which index calls call.Dump at there

-- ---- the invariant

-- how many calls of the thread have their answer fixed
abbrev pub count_fixed : ThreadState → ℕ
count_fixed state = length state.marks + (if state.fixed then 1 else 0)

abbrev pub containers_in : List OpenSection → List (List ℕ)
containers_in sections = map (λ section. section.containers) sections

-- a thread that has a lock has a call on the container, and so has the thread that a mark names, which is another one
pub record IsBacked (script : ScriptParts) (machine : Machine) : Type 0 where
  pub holders : (which who : ℕ) → holder_of machine.holders which ≡ Some who → has_call_on script who which ≡ true
  pub sections : (thread : ℕ) → AllByRecursion (λ containers. (which : ℕ) → 1 ≤ occ which containers → has_call_on script thread which ≡ true) (containers_in (thread_at machine thread).sections)
  pub nested : (thread : ℕ) → containers_in (thread_at machine thread).sections ≡ own_stack (take (count_fixed (thread_at machine thread)) (calls_of script thread))
  pub marks : (thread index who : ℕ) (called : Call) → mark_at (thread_at machine thread) index ≡ Some who → slice_get (calls_of script thread) index ≡ Some called → (who ≢ thread) × (list_any (has_call_on script who) (own_needs (calls_of script thread) index called) ≡ true)

without_containers : (sections : List OpenSection) → containers_in (map without_locks sections) ≡ containers_in sections
without_containers [] = refl
without_containers (section ∷ sections) = ap (λ (stack : List (List ℕ)). section.containers ∷ stack) (without_containers sections)

taken_containers : (taken : List ℕ) (sections : List OpenSection) → containers_in (with_taken taken sections) ≡ containers_in sections
taken_containers taken [] = refl
taken_containers taken (section ∷ sections) = refl

after_containers : (called : Call) (own : List ℕ) (sections : List OpenSection) → containers_in (sections_after called own sections) ≡ stack_after called (containers_in sections)
after_containers (call.Begin first second) own sections = refl
after_containers call.End own [] = refl
after_containers call.End own (section ∷ sections) = refl
after_containers (call.Dict container dict_call) own sections = refl
after_containers (call.List container list_call) own sections = refl
after_containers (call.Set container set_call) own sections = refl
after_containers (call.Deque container deque_call) own sections = refl
after_containers (call.Next cursor) own sections = refl
after_containers call.Quiesce own sections = refl
after_containers (call.Await other index) own sections = refl
after_containers call.Dump own sections = refl

innermost_first : (sections : List OpenSection) → innermost_containers sections ≡ first_of_stack (containers_in sections)
innermost_first [] = refl
innermost_first (section ∷ sections) = refl

stack_named : (P : List ℕ → Type 0) (called : Call) (stack : List (List ℕ)) → P (containers_of called) → AllByRecursion P stack → AllByRecursion P (stack_after called stack)
stack_named P (call.Begin first second) stack here rest = (here, rest)
stack_named P call.End [] here rest = tt
stack_named P call.End (containers ∷ stack) here rest = rest.1
stack_named P (call.Dict container dict_call) stack here rest = rest
stack_named P (call.List container list_call) stack here rest = rest
stack_named P (call.Set container set_call) stack here rest = rest
stack_named P (call.Deque container deque_call) stack here rest = rest
stack_named P (call.Next cursor) stack here rest = rest
stack_named P call.Quiesce stack here rest = rest
stack_named P (call.Await other index) stack here rest = rest
stack_named P call.Dump stack here rest = rest

first_named : (P : List ℕ → Type 0) (stack : List (List ℕ)) → P [] → AllByRecursion P stack → P (first_of_stack stack)
first_named P [] none all = none
first_named P (containers ∷ stack) none all = all.0

pub stack_push : (calls : List Call) (index : ℕ) (called : Call) → slice_get calls index ≡ Some called → own_stack (take (index + 1) calls) ≡ stack_after called (own_stack (take index calls))
stack_push calls index called at = ap own_stack (take_next calls index called at) ∙ fold_push (λ stack c. stack_after c stack) [] (take index calls) called

nothing : (index : ℕ) → mark_at fresh_thread index ≡ None
nothing zero = refl
nothing (suc index) = refl

module _ (script : ScriptParts) where
  -- the thread has a call on each lock that it tries for, and the call needs it
  try_backed : (machine : Machine) (thread : ℕ) (called : Call) (fixed : Bool) (containers : List ℕ) → IsTry script machine thread called fixed containers → IsBacked script machine → (which : ℕ) → 1 ≤ occ which containers
      → (has_call_on script thread which ≡ true) × (1 ≤ occ which (own_needs (calls_of script thread) (length (thread_at machine thread).marks) called))
  try_backed machine thread called false containers try inv which there =
      let state = thread_at machine thread in
      let calls = calls_of script thread in
      let before = take (length state.marks) calls in
      let asked : 1 ≤ occ which (locks_taken before called) = omega (arith, ap (occ which) try.asks, occ-lower_first which (locks_taken before called)) in
      let about : 1 ≤ occ which (own_containers before called) = taken_about which before called asked in
      (about_named which (length state.marks) calls called try.next about, omega (arith, occ-append which (own_containers before called) (first_of_stack (own_stack (take (length state.marks + 1) calls)))))
  try_backed machine thread called true containers try inv which there =
      let state = thread_at machine thread in
      let calls = calls_of script thread in
      let asked : 1 ≤ occ which (innermost_containers state.sections) = omega (arith, ap (occ which) try.asks, occ-lower_first which (innermost_containers state.sections)) in
      let first : innermost_containers state.sections ≡ first_of_stack (containers_in state.sections) = innermost_first state.sections in
      let here : 1 ≤ occ which (first_of_stack (containers_in state.sections)) = omega (arith, ap (occ which) first) in
      let stack : containers_in state.sections ≡ own_stack (take (length state.marks + 1) calls) = inv.nested thread ∙ ap (λ b. own_stack (take (length state.marks + (if b then 1 else 0)) calls)) try.state in (
        first_named (λ containers. (o : ℕ) → 1 ≤ occ o containers → has_call_on script thread o ≡ true) (containers_in state.sections) (λ o none. absurd (omega (arith, occ-nil o))) (inv.sections thread) which here,
        omega (arith, ap (λ s. occ which (first_of_stack s)) stack, occ-append which (own_containers (take (length state.marks) calls) called) (first_of_stack (own_stack (take (length state.marks + 1) calls)))),
      )

  taken_backed : (machine : Machine) (thread : ℕ) (called : Call) (fixed : Bool) (containers gone : List ℕ) → IsTry script machine thread called fixed containers → IsBacked script machine → (which who : ℕ) → holder_of (let_go (take_locks thread machine.holders containers).holders gone) which ≡ Some who → has_call_on script who which ≡ true
  taken_backed machine thread called fixed containers gone try inv which who has =
      elim (take_less thread machine.holders containers which who (let_go_less (take_locks thread machine.holders containers).holders gone which who has)) [
        | inl before ↦ inv.holders which who before
        | inr mine ↦ subst (λ t. has_call_on script t which ≡ true) (sym mine.0) (try_backed machine thread called fixed containers try inv which mine.1).0
      ]

  backed_waits : (machine : Machine) (thread : ℕ) (called : Call) (fixed : Bool) (containers : List ℕ) (found : ℕ) → IsTry script machine thread called fixed containers → (take_locks thread machine.holders containers).found ≡ Some found → (IsOwned script machine) × (IsBacked script machine) → IsBacked script (waiting_machine machine thread (thread_at machine thread) (take_locks thread machine.holders containers) found)
  backed_waits machine thread called fixed containers found try finds both =
      let inv : IsBacked script machine = both.1 in
      let state = thread_at machine thread in
      let locking = take_locks thread machine.holders containers in
      let mark : Option ℕ = if is_some state.mark then state.mark else Some found in
      let after : ThreadState = record state { sections = map without_locks state.sections; own = state.own ++ locking.taken; mark = if is_some state.mark then state.mark else Some found } in
      let low : thread < length machine.threads = omega (arith, there script thread state called try.next, both.0.threads) in
      let finds_other : (found ≢ thread) × ((which : ℕ) × (1 ≤ occ which containers) × (holder_of machine.holders which ≡ Some found)) = take_found thread machine.holders containers found finds in
      let found_backed : (found ≢ thread) × (list_any (has_call_on script found) (own_needs (calls_of script thread) (length state.marks) called) ≡ true) =
      (finds_other.0, occ_true (has_call_on script found) finds_other.1.0 (own_needs (calls_of script thread) (length state.marks) called) (inv.holders finds_other.1.0 found finds_other.1.2) (try_backed machine thread called fixed containers try inv finds_other.1.0 finds_other.1.1).1) in
      record {
        holders = taken_backed machine thread called fixed containers (flat state.sections) try inv;
        sections = by_thread (λ u s. AllByRecursion (λ os. (which : ℕ) → 1 ≤ occ which os → has_call_on script u which ≡ true) (containers_in s.sections)) machine.threads thread after low
            (subst (AllByRecursion (λ os. (which : ℕ) → 1 ≤ occ which os → has_call_on script thread which ≡ true)) (sym (without_containers state.sections)) (inv.sections thread)) (λ u differs. inv.sections u);
        nested = by_thread (λ u s. containers_in s.sections ≡ own_stack (take (count_fixed s) (calls_of script u))) machine.threads thread after low (without_containers state.sections ∙ inv.nested thread) (λ u differs. inv.nested u);
        marks = by_thread (λ u s. (index who : ℕ) (c : Call) → mark_at s index ≡ Some who → slice_get (calls_of script u) index ≡ Some c → (who ≢ u) × (list_any (has_call_on script who) (own_needs (calls_of script u) index c) ≡ true)) machine.threads thread after low
            (λ index who c marked at. elim (mark_cases state.marks mark index) [
              | inl last ↦
                  elim state.mark as (λ m. state.mark ≡ m → (if is_some m then m else Some found) ≡ Some who → (who ≢ thread) × (list_any (has_call_on script who) (own_needs (calls_of script thread) index c) ≡ true)) [
                    | None ↦ λ unmarked new.
                        let here : slice_get (calls_of script thread) (length state.marks) ≡ Some c = ap (slice_get (calls_of script thread)) (sym last.0) ∙ at in
                        let found_is : found ≡ who = same_Some found who new in
                        let called_is : called ≡ c = same_Some called c (sym try.next ∙ here) in
                        subst (λ w. (w ≢ thread) × (list_any (has_call_on script w) (own_needs (calls_of script thread) index c) ≡ true)) found_is
                        (subst (λ i. (found ≢ thread) × (list_any (has_call_on script found) (own_needs (calls_of script thread) i c) ≡ true)) (sym last.0)
                        (subst (λ (d : Call). (found ≢ thread) × (list_any (has_call_on script found) (own_needs (calls_of script thread) (length state.marks) d) ≡ true)) called_is found_backed))
                    | Some first ↦ λ was old.
                        inv.marks thread index who c (get_or_push state.marks state.mark None index (sym last.0) ∙ was ∙ old) at
                  ] refl (sym last.1 ∙ marked)
              | inr before ↦ inv.marks thread index who c (before state.mark ∙ marked) at
            ])
            (λ u differs. inv.marks u);
      }

  backed_answers : (machine : Machine) (thread : ℕ) (called : Call) (containers : List ℕ) → IsTry script machine thread called false containers → (take_locks thread machine.holders containers).found ≡ None → (IsOwned script machine) × (IsBacked script machine) → IsBacked script (answered_machine machine thread (thread_at machine thread) called (take_locks thread machine.holders containers))
  backed_answers machine thread called containers try finds both =
      let inv : IsBacked script machine = both.1 in
      let state = thread_at machine thread in
      let locking = take_locks thread machine.holders containers in
      let own = state.own ++ locking.taken in
      let calls = calls_of script thread in
      let after : ThreadState = record state { fixed = true; sections = sections_after called own state.sections; own = [] } in
      let low : thread < length machine.threads = omega (arith, there script thread state called try.next, both.0.threads) in
      let stack : containers_in state.sections ≡ own_stack (take (length state.marks) calls) = inv.nested thread ∙ ap (λ b. own_stack (take (length state.marks + (if b then 1 else 0)) calls)) try.state ∙ ap (λ n. own_stack (take n calls)) (let e : length state.marks + 0 ≡ length state.marks = omega arith in e) in
      record {
        holders = taken_backed machine thread called false containers (lets_go called own state.sections) try inv;
        sections = by_thread (λ u s. AllByRecursion (λ os. (which : ℕ) → 1 ≤ occ which os → has_call_on script u which ≡ true) (containers_in s.sections)) machine.threads thread after low
            (subst (AllByRecursion (λ os. (which : ℕ) → 1 ≤ occ which os → has_call_on script thread which ≡ true)) (sym (after_containers called own state.sections))
            (stack_named (λ os. (which : ℕ) → 1 ≤ occ which os → has_call_on script thread which ≡ true) called (containers_in state.sections) (λ which named. named_at which (length state.marks) calls called try.next named) (inv.sections thread))) (λ u differs. inv.sections u);
        nested = by_thread (λ u s. containers_in s.sections ≡ own_stack (take (count_fixed s) (calls_of script u))) machine.threads thread after low
            (after_containers called own state.sections ∙ ap (stack_after called) stack ∙ sym (stack_push calls (length state.marks) called try.next)) (λ u differs. inv.nested u);
        marks = by_thread (λ u s. (index who : ℕ) (c : Call) → mark_at s index ≡ Some who → slice_get (calls_of script u) index ≡ Some c → (who ≢ u) × (list_any (has_call_on script who) (own_needs (calls_of script u) index c) ≡ true)) machine.threads thread after low
            (inv.marks thread) (λ u differs. inv.marks u);
      }

  backed_finishes : (machine : Machine) (thread : ℕ) (called : Call) (containers : List ℕ) → IsTry script machine thread called true containers → (take_locks thread machine.holders containers).found ≡ None → (IsOwned script machine) × (IsBacked script machine) → IsBacked script (finished_machine machine thread (thread_at machine thread) (take_locks thread machine.holders containers))
  backed_finishes machine thread called containers try finds both =
      let inv : IsBacked script machine = both.1 in
      let state = thread_at machine thread in
      let locking = take_locks thread machine.holders containers in
      let own = state.own ++ locking.taken in
      let calls = calls_of script thread in
      let after : ThreadState = record { marks = state.marks ++ state.mark ∷ []; fixed = false; sections = with_taken own state.sections; own = []; mark = None } in
      let low : thread < length machine.threads = omega (arith, there script thread state called try.next, both.0.threads) in
      let counted : length state.marks + 1 ≡ length (state.marks ++ state.mark ∷ []) + 0 = omega (arith, length_push state.marks state.mark) in
      record {
        holders = taken_backed machine thread called true containers [] try inv;
        sections = by_thread (λ u s. AllByRecursion (λ os. (which : ℕ) → 1 ≤ occ which os → has_call_on script u which ≡ true) (containers_in s.sections)) machine.threads thread after low
            (subst (AllByRecursion (λ os. (which : ℕ) → 1 ≤ occ which os → has_call_on script thread which ≡ true)) (sym (taken_containers own state.sections)) (inv.sections thread)) (λ u differs. inv.sections u);
        nested = by_thread (λ u s. containers_in s.sections ≡ own_stack (take (count_fixed s) (calls_of script u))) machine.threads thread after low
            (taken_containers own state.sections ∙ inv.nested thread ∙ ap (λ b. own_stack (take (length state.marks + (if b then 1 else 0)) calls)) try.state ∙ ap (λ n. own_stack (take n calls)) counted) (λ u differs. inv.nested u);
        marks = by_thread (λ u s. (index who : ℕ) (c : Call) → mark_at s index ≡ Some who → slice_get (calls_of script u) index ≡ Some c → (who ≢ u) × (list_any (has_call_on script who) (own_needs (calls_of script u) index c) ≡ true)) machine.threads thread after low
            (λ index who c marked at. inv.marks thread index who c (sym (push_none (state.marks ++ state.mark ∷ []) index) ∙ marked) at) (λ u differs. inv.marks u);
      }

  pub backed_start : IsBacked script (start_machine script)
  backed_start =
      record {
        holders = λ which who has. absurd (none-some who (sym (start_holder script which) ∙ has));
        sections = λ thread. subst (λ (s : ThreadState). AllByRecursion (λ os. (which : ℕ) → 1 ≤ occ which os → has_call_on script thread which ≡ true) (containers_in s.sections)) (sym (start_thread script thread)) tt;
        nested = λ thread. subst (λ (s : ThreadState). containers_in s.sections ≡ own_stack (take (count_fixed s) (calls_of script thread))) (sym (start_thread script thread)) refl;
        marks = λ thread index who called marked at. absurd (none-some who (sym (nothing index) ∙ ap (λ (s : ThreadState). mark_at s index) (sym (start_thread script thread)) ∙ marked));
      }

  pub backed_steps : IsKeptBySteps script (λ machine. (IsOwned script machine) × (IsBacked script machine))
  backed_steps =
      record {
        waits = λ machine thread called fixed containers found try finds both. ((owned_steps script).waits machine thread called fixed containers found try finds both.0, backed_waits machine thread called fixed containers found try finds both);
        answers = λ machine thread called containers try finds both. ((owned_steps script).answers machine thread called containers try finds both.0, backed_answers machine thread called containers try finds both);
        finishes = λ machine thread called containers try finds both. ((owned_steps script).finishes machine thread called containers try finds both.0, backed_finishes machine thread called containers try finds both);
      }
