-- Each lock that somebody has stands once among what that thread's next call or one of its sections took, and no other does.
use Rattle.std.proofs.Common.{◌≡◌, ◌≢◌, ℕ, ◌+◌, ◌<◌, ◌≤◌, Bool, true, false, List, [], ◌∷◌, ◌++◌, length, map, get_or, Option, None, Some, refl, sym, ap, subst, ◌∙◌, arith, inl, inr}
use Rattle.std.specs.Prelude.{slice_set, slice_index_or, ◌⊎◌, is_some, if◌then◌else◌}
use Rattle.std.specs.List.{flat_map}
use Rattle.std.proofs.lemmas.Bool.{cases_eq, cases_lt, true≢false}
use Rattle.std.proofs.lemmas.Option.{none-some, same_Some, slice_get_cases}
use Rattle.std.proofs.lemmas.List.{get_or-set_same, get_or-set_other, length-set, length-map, get_or-map, get_or_past}
use Rattle.ft_model.specs.declared.call.Call.{Call}
use Rattle.ft_model.specs.declared.call.Call.TheVariants as call
use Rattle.ft_model.specs.declared.script.Declaration.{Declaration}
use Rattle.ft_model.specs.declared.script.ScriptParts.{ScriptParts}
use Rattle.ft_model.specs.declared.script.Thread.{Thread}
use Rattle.ft_turns.specs.Orders.{OpenSection, ThreadState, Machine, Locking, fresh_thread, start_machine, holder_of, take_locks, let_go, thread_at, next_call, without_locks, waiting_machine, sections_after, lets_go, answered_machine, innermost_containers, with_taken, finished_machine, lower_first}
use Rattle.ft_turns.proofs.LockLemmas.{occ, occ-append, occ-nil, bit_of, held, bit_none, bit_same, bit_other, bit_most, bit_one, let_go_at, let_go-length, TookAt, WentAt, take_at, take_length}
use Rattle.ft_turns.proofs.MachineSteps.{wanted, wanted_again, IsTry, IsKeptBySteps, there}

-- ---- one thread's state is changed

-- what holds of each thread, where one has a new state
pub by_thread : (Q : ℕ → ThreadState → Type 0) (threads : List ThreadState) (thread : ℕ) (state : ThreadState) → thread < length threads → Q thread state → ((other : ℕ) → other ≢ thread → Q other (slice_index_or threads other fresh_thread)) → (other : ℕ) → Q other (slice_index_or (slice_set threads thread state) other fresh_thread)
by_thread Q threads thread state low mine others other =
    elim (cases_eq other thread) [
      | inl same ↦ subst (λ u. Q u (get_or (slice_set threads thread state) u fresh_thread)) (sym same) (subst (Q thread) (sym (get_or-set_same threads thread state fresh_thread low)) mine)
      | inr differs ↦ subst (Q other) (sym (get_or-set_other threads thread other state fresh_thread differs)) (others other differs)
    ]

abbrev none_held : Option ℕ
none_held = None

-- ---- what a thread has taken

abbrev pub flat : List OpenSection → List ℕ
flat sections = flat_map (λ section. section.taken) sections

abbrev pub owned : ThreadState → List ℕ
owned state = state.own ++ flat state.sections

pub occ-flat : (which : ℕ) (section : OpenSection) (sections : List OpenSection) → occ which (flat (section ∷ sections)) ≡ occ which section.taken + occ which (flat sections)
occ-flat which section sections = occ-append which section.taken (flat sections)

pub occ-without : (which : ℕ) (sections : List OpenSection) → occ which (flat (map without_locks sections)) ≡ 0
occ-without which [] = occ-nil which
occ-without which (section ∷ sections) = occ-without which sections

-- ---- who has a lock after it

took_others : (thread : ℕ) (holders : List (Option ℕ)) (which : ℕ) (locking : Locking) (other : ℕ) → other ≢ thread → TookAt thread holders which locking → bit_of other (holder_of locking.holders which) ≡ bit_of other (holder_of holders which)
took_others thread holders which locking other differs (inl kept) = ap (bit_of other) kept.1
took_others thread holders which locking other differs (inr took) = ap (bit_of other) took.2 ∙ bit_other other thread (λ e. differs (sym e)) ∙ sym (bit_none other) ∙ ap (bit_of other) (sym took.1)

took_mine : (thread : ℕ) (holders : List (Option ℕ)) (which : ℕ) (locking : Locking) → TookAt thread holders which locking → bit_of thread (holder_of locking.holders which) ≡ bit_of thread (holder_of holders which) + occ which locking.taken
took_mine thread holders which locking (inl kept) = let e : bit_of thread (holder_of locking.holders which) ≡ bit_of thread (holder_of holders which) = ap (bit_of thread) kept.1 in omega (arith, kept.0)
took_mine thread holders which locking (inr took) =
    let has : bit_of thread (holder_of locking.holders which) ≡ 1 = ap (bit_of thread) took.2 ∙ bit_same thread in
    let had : bit_of thread (holder_of holders which) ≡ 0 = ap (bit_of thread) took.1 ∙ bit_none thread in
    omega (arith, took.0)

went : (holders : List (Option ℕ)) (containers : List ℕ) (which : ℕ) (left : List (Option ℕ)) (who : ℕ) → WentAt holders containers which left → ((occ which containers ≡ 0) × (held left who which ≡ held holders who which)) ⊎ ((1 ≤ occ which containers) × (held left who which ≡ 0))
went holders containers which left who (inl kept) = inl (kept.0, ap (bit_of who) kept.1)
went holders containers which left who (inr gone) = inr (gone.0, ap (bit_of who) gone.1 ∙ bit_none who)

-- a thread takes locks, and lets some of its own go
module _ (thread : ℕ) (holders : List (Option ℕ)) (asked : List ℕ) (which : ℕ) (low : which < length holders) where
  abbrev locking : Locking
  locking = take_locks thread holders asked

  pub taken_mine : held locking.holders thread which ≡ held holders thread which + occ which locking.taken
  taken_mine = took_mine thread holders which (take_locks thread holders asked) (take_at thread holders asked which low)

  pub taken_others : (other : ℕ) → other ≢ thread → held locking.holders other which ≡ held holders other which
  taken_others other differs = took_others thread holders which (take_locks thread holders asked) other differs (take_at thread holders asked which low)

  module _ (mine gone left : List ℕ) (owns : occ which mine ≡ held holders thread which) (parts : occ which gone + occ which left ≡ occ which mine + occ which (take_locks thread holders asked).taken) where
    pub freed_mine : occ which left ≡ held (let_go locking.holders gone) thread which
    freed_mine =
        let most : held (take_locks thread holders asked).holders thread which ≤ 1 = bit_most thread (holder_of (take_locks thread holders asked).holders which) in
        let has : held (take_locks thread holders asked).holders thread which ≡ held holders thread which + occ which (take_locks thread holders asked).taken = taken_mine in
        elim (went (take_locks thread holders asked).holders gone which (let_go (take_locks thread holders asked).holders gone) thread (let_go_at (take_locks thread holders asked).holders gone which (omega (arith, take_length thread holders asked)))) [
          | inl kept ↦ omega (arith, kept.0, kept.1)
          | inr away ↦ omega (arith, away.0, away.1)
        ]

    pub freed_others : (other : ℕ) → other ≢ thread → held (let_go locking.holders gone) other which ≡ held holders other which
    freed_others other differs =
        let one : held (take_locks thread holders asked).holders other which + held (take_locks thread holders asked).holders thread which ≤ 1 = bit_one other thread (holder_of (take_locks thread holders asked).holders which) differs in
        let has : held (take_locks thread holders asked).holders thread which ≡ held holders thread which + occ which (take_locks thread holders asked).taken = taken_mine in
        let same : held (take_locks thread holders asked).holders other which ≡ held holders other which = taken_others other differs in
        elim (went (take_locks thread holders asked).holders gone which (let_go (take_locks thread holders asked).holders gone) other (let_go_at (take_locks thread holders asked).holders gone which (omega (arith, take_length thread holders asked)))) [
          | inl kept ↦ kept.1 ∙ same
          | inr away ↦ omega (arith, away.0, away.1)
        ]

-- ---- the invariant

pub record IsOwned (script : ScriptParts) (machine : Machine) : Type 0 where
  pub holders : length machine.holders ≡ length script.containers
  pub threads : length machine.threads ≡ length script.threads
  pub owned : (which thread : ℕ) → which < length script.containers → occ which (owned (thread_at machine thread)) ≡ held machine.holders thread which
  -- an `end` takes no lock: so its thread has taken none for it, and has not waited
  pub ended : (thread : ℕ) → (thread_at machine thread).fixed ≡ false → next_call script thread (thread_at machine thread) ≡ Some call.End → ((thread_at machine thread).own ≡ []) × ((thread_at machine thread).mark ≡ None)
  -- and a thread without sections takes none up again
  pub bare : (thread : ℕ) → (thread_at machine thread).fixed ≡ true → (thread_at machine thread).sections ≡ [] → (thread_at machine thread).own ≡ []

-- what the locks are that an answer lets go, and those that are left
answer_parts : (which : ℕ) (called : Call) (own : List ℕ) (sections : List OpenSection) → (called ≡ call.End → own ≡ []) → occ which (lets_go called own sections) + occ which (flat (sections_after called own sections)) ≡ occ which own + occ which (flat sections)
answer_parts which (call.Begin first second) own sections ended = omega (arith, occ-nil which, occ-append which own (flat sections))
answer_parts which call.End own [] ended = rw (ended refl) refl
answer_parts which call.End own (section ∷ sections) ended = rw (ended refl) (omega (arith, occ-nil which, occ-append which section.taken (flat sections)))
answer_parts which (call.Dict container dict_call) own sections ended = refl
answer_parts which (call.List container list_call) own sections ended = refl
answer_parts which (call.Set container set_call) own sections ended = refl
answer_parts which (call.Deque container deque_call) own sections ended = refl
answer_parts which (call.Next cursor) own sections ended = refl
answer_parts which call.Quiesce own sections ended = refl
answer_parts which (call.Await other index) own sections ended = refl
answer_parts which call.Dump own sections ended = refl

finish_parts : (which : ℕ) (own : List ℕ) (sections : List OpenSection) → (sections ≡ [] → own ≡ []) → occ which (flat (with_taken own sections)) ≡ occ which own + occ which (flat sections)
finish_parts which own [] bare = rw (bare refl) (omega (arith, occ-nil which))
finish_parts which own (section ∷ sections) bare = omega (arith, occ-append which (section.taken ++ own) (flat sections), occ-append which section.taken own, occ-append which section.taken (flat sections))

both_nil : (xs ys : List ℕ) → xs ≡ [] → ys ≡ [] → xs ++ ys ≡ []
both_nil xs ys x y = rw (x, y) refl

map_nil : {X Y : Type 0} (f : X → Y) (xs : List X) → map f xs ≡ [] → xs ≡ []
map_nil f [] h = refl
map_nil f (x ∷ xs) h = absurd cc

-- an `end` asks for no lock, and neither does a thread without sections that takes none up again
end_asks_none : (script : ScriptParts) (machine : Machine) (thread : ℕ) (called : Call) (fixed : Bool) (containers : List ℕ) → IsTry script machine thread called fixed containers → fixed ≡ false → called ≡ call.End → containers ≡ []
end_asks_none script machine thread called fixed containers try unfixed ends = try.asks ∙ ap (λ b. if b then wanted_again machine thread else wanted script machine thread called) unfixed ∙ ap (wanted script machine thread) ends

bare_asks_none : (script : ScriptParts) (machine : Machine) (thread : ℕ) (called : Call) (fixed : Bool) (containers : List ℕ) → IsTry script machine thread called fixed containers → fixed ≡ true → (thread_at machine thread).sections ≡ [] → containers ≡ []
bare_asks_none script machine thread called fixed containers try is_fixed none = try.asks ∙ ap (λ b. if b then wanted_again machine thread else wanted script machine thread called) is_fixed ∙ ap (λ sections. lower_first (innermost_containers sections)) none

none_found : (thread : ℕ) (holders : List (Option ℕ)) (containers : List ℕ) (found : ℕ) → containers ≡ [] → (take_locks thread holders containers).found ≡ Some found → ⊥
none_found thread holders containers found none finds = none-some found (ap (λ os. (take_locks thread holders os).found) (sym none) ∙ finds)

none_taken : (thread : ℕ) (holders : List (Option ℕ)) (containers : List ℕ) → containers ≡ [] → (take_locks thread holders containers).taken ≡ []
none_taken thread holders containers none = ap (λ os. (take_locks thread holders os).taken) none

module _ (script : ScriptParts) where
  owned_waits : (machine : Machine) (thread : ℕ) (called : Call) (fixed : Bool) (containers : List ℕ) (found : ℕ) → IsTry script machine thread called fixed containers → (take_locks thread machine.holders containers).found ≡ Some found → IsOwned script machine → IsOwned script (waiting_machine machine thread (thread_at machine thread) (take_locks thread machine.holders containers) found)
  owned_waits machine thread called fixed containers found try finds inv =
      let state = thread_at machine thread in
      let locking = take_locks thread machine.holders containers in
      let after : ThreadState = record state { sections = map without_locks state.sections; own = state.own ++ locking.taken; mark = if is_some state.mark then state.mark else Some found } in
      let low : thread < length machine.threads = omega (arith, there script thread state called try.next, inv.threads) in
      let gone = flat state.sections in
      let parts : (which : ℕ) → occ which gone + occ which (owned after) ≡ occ which (owned state) + occ which locking.taken =
      λ which. omega (arith, occ-append which (state.own ++ locking.taken) (flat (map without_locks state.sections)), occ-append which state.own locking.taken, occ-append which state.own gone, occ-without which state.sections) in
      record {
        holders = let_go-length locking.holders gone ∙ take_length thread machine.holders containers ∙ inv.holders;
        threads = length-set machine.threads thread after ∙ inv.threads;
        owned = λ which other within.
            let low_container : which < length machine.holders = omega (arith, inv.holders) in
            by_thread (λ u s. occ which (owned s) ≡ held (let_go locking.holders gone) u which) machine.threads thread after low
            (freed_mine thread machine.holders containers which low_container (owned state) gone (owned after) (inv.owned which thread within) (parts which))
            (λ u differs. inv.owned which u within ∙ sym (freed_others thread machine.holders containers which low_container (owned state) gone (owned after) (inv.owned which thread within) (parts which) u differs)) other;
        ended = by_thread (λ u s. s.fixed ≡ false → next_call script u s ≡ Some call.End → (s.own ≡ []) × (s.mark ≡ None)) machine.threads thread after low (λ unfixed next. absurd (none_found thread machine.holders containers found (end_asks_none script machine thread called fixed containers try (sym try.state ∙ unfixed) (same_Some called call.End (sym try.next ∙ next))) finds)) (λ u differs. inv.ended u);
        bare = by_thread (λ u s. s.fixed ≡ true → s.sections ≡ [] → s.own ≡ []) machine.threads thread after low (λ is_fixed none. absurd (none_found thread machine.holders containers found (bare_asks_none script machine thread called fixed containers try (sym try.state ∙ is_fixed) (map_nil without_locks state.sections none)) finds)) (λ u differs. inv.bare u);
      }

  owned_answers : (machine : Machine) (thread : ℕ) (called : Call) (containers : List ℕ) → IsTry script machine thread called false containers → (take_locks thread machine.holders containers).found ≡ None → IsOwned script machine → IsOwned script (answered_machine machine thread (thread_at machine thread) called (take_locks thread machine.holders containers))
  owned_answers machine thread called containers try finds inv =
      let state = thread_at machine thread in
      let locking = take_locks thread machine.holders containers in
      let own = state.own ++ locking.taken in
      let after : ThreadState = record state { fixed = true; sections = sections_after called own state.sections; own = [] } in
      let low : thread < length machine.threads = omega (arith, there script thread state called try.next, inv.threads) in
      let gone = lets_go called own state.sections in
      let end_owns_none : called ≡ call.End → own ≡ [] = λ ends. both_nil state.own locking.taken (inv.ended thread try.state (try.next ∙ ap Some ends)).0 (none_taken thread machine.holders containers (end_asks_none script machine thread called false containers try refl ends)) in
      let parts : (which : ℕ) → occ which gone + occ which (owned after) ≡ occ which (owned state) + occ which locking.taken =
      λ which. omega (arith, answer_parts which called own state.sections end_owns_none, occ-append which state.own locking.taken, occ-append which state.own (flat state.sections)) in
      record {
        holders = let_go-length locking.holders gone ∙ take_length thread machine.holders containers ∙ inv.holders;
        threads = length-set machine.threads thread after ∙ inv.threads;
        owned = λ which other within.
            let low_container : which < length machine.holders = omega (arith, inv.holders) in
            by_thread (λ u s. occ which (owned s) ≡ held (let_go locking.holders gone) u which) machine.threads thread after low
            (freed_mine thread machine.holders containers which low_container (owned state) gone (owned after) (inv.owned which thread within) (parts which))
            (λ u differs. inv.owned which u within ∙ sym (freed_others thread machine.holders containers which low_container (owned state) gone (owned after) (inv.owned which thread within) (parts which) u differs)) other;
        ended = by_thread (λ u s. s.fixed ≡ false → next_call script u s ≡ Some call.End → (s.own ≡ []) × (s.mark ≡ None)) machine.threads thread after low (λ unfixed next. absurd (true≢false unfixed)) (λ u differs. inv.ended u);
        bare = by_thread (λ u s. s.fixed ≡ true → s.sections ≡ [] → s.own ≡ []) machine.threads thread after low (λ is_fixed none. refl) (λ u differs. inv.bare u);
      }

  owned_finishes : (machine : Machine) (thread : ℕ) (called : Call) (containers : List ℕ) → IsTry script machine thread called true containers → (take_locks thread machine.holders containers).found ≡ None → IsOwned script machine → IsOwned script (finished_machine machine thread (thread_at machine thread) (take_locks thread machine.holders containers))
  owned_finishes machine thread called containers try finds inv =
      let state = thread_at machine thread in
      let locking = take_locks thread machine.holders containers in
      let own = state.own ++ locking.taken in
      let after : ThreadState = record { marks = state.marks ++ state.mark ∷ []; fixed = false; sections = with_taken own state.sections; own = []; mark = None } in
      let low : thread < length machine.threads = omega (arith, there script thread state called try.next, inv.threads) in
      let bare_owns_none : state.sections ≡ [] → own ≡ [] = λ none. both_nil state.own locking.taken (inv.bare thread try.state none) (none_taken thread machine.holders containers (bare_asks_none script machine thread called true containers try refl none)) in
      let parts : (which : ℕ) → occ which [] + occ which (owned after) ≡ occ which (owned state) + occ which locking.taken =
      λ which. omega (arith, occ-nil which, finish_parts which own state.sections bare_owns_none, occ-append which state.own locking.taken, occ-append which state.own (flat state.sections)) in
      record {
        holders = take_length thread machine.holders containers ∙ inv.holders;
        threads = length-set machine.threads thread after ∙ inv.threads;
        owned = λ which other within.
            let low_container : which < length machine.holders = omega (arith, inv.holders) in
            by_thread (λ u s. occ which (owned s) ≡ held locking.holders u which) machine.threads thread after low
            (freed_mine thread machine.holders containers which low_container (owned state) [] (owned after) (inv.owned which thread within) (parts which))
            (λ u differs. inv.owned which u within ∙ sym (freed_others thread machine.holders containers which low_container (owned state) [] (owned after) (inv.owned which thread within) (parts which) u differs)) other;
        ended = by_thread (λ u s. s.fixed ≡ false → next_call script u s ≡ Some call.End → (s.own ≡ []) × (s.mark ≡ None)) machine.threads thread after low (λ unfixed next. (refl, refl)) (λ u differs. inv.ended u);
        bare = by_thread (λ u s. s.fixed ≡ true → s.sections ≡ [] → s.own ≡ []) machine.threads thread after low (λ is_fixed none. refl) (λ u differs. inv.bare u);
      }

  pub owned_steps : IsKeptBySteps script (IsOwned script)
  owned_steps = record { waits = owned_waits; answers = owned_answers; finishes = owned_finishes }

  -- at the start each thread is fresh, and nobody has a lock
  pub start_thread : (thread : ℕ) → thread_at (start_machine script) thread ≡ fresh_thread
  start_thread thread =
      elim (cases_lt thread (length script.threads)) [
        | inl low ↦ elim (slice_get_cases script.threads thread).1 [
          | inl found ↦ get_or-map (λ (t : Thread). fresh_thread) script.threads thread found.0 fresh_thread low
          | inr past ↦ get_or_past (map (λ (t : Thread). fresh_thread) script.threads) thread fresh_thread (omega (arith, past.0, length-map script.threads (λ (t : Thread). fresh_thread)))
        ]
        | inr high ↦ get_or_past (map (λ (t : Thread). fresh_thread) script.threads) thread fresh_thread (omega (arith, length-map script.threads (λ (t : Thread). fresh_thread)))
      ]

  pub start_holder : (which : ℕ) → holder_of (start_machine script).holders which ≡ None
  start_holder which =
      elim (slice_get_cases script.containers which).1 [
        | inl found ↦ get_or-map (λ (c : Declaration). none_held) script.containers which found.0 None found.1
        | inr past ↦ get_or_past (map (λ (c : Declaration). none_held) script.containers) which None (omega (arith, past.0, length-map script.containers (λ (c : Declaration). none_held)))
      ]

  pub owned_start : IsOwned script (start_machine script)
  owned_start =
      record {
        holders = length-map script.containers (λ (c : Declaration). none_held);
        threads = length-map script.threads (λ (t : Thread). fresh_thread);
        owned = λ which thread within. ap (λ (s : ThreadState). occ which (owned s)) (start_thread thread) ∙ occ-nil which ∙ sym (bit_none thread) ∙ ap (bit_of thread) (sym (start_holder which));
        ended = λ thread unfixed next. (ap (λ (s : ThreadState). s.own) (start_thread thread), ap (λ (s : ThreadState). s.mark) (start_thread thread));
        bare = λ thread is_fixed none. ap (λ (s : ThreadState). s.own) (start_thread thread);
      }
