-- The three steps of the machine beside what a pass does: a call waits, its answer is fixed, or it finishes.
use Rattle.std.proofs.Common.{◌≡◌, ◌≢◌, ℕ, ◌+◌, ◌<◌, ◌≤◌, Bool, true, false, List, [], ◌∷◌, ◌++◌, length, reverse, cond, Option, None, Some, refl, sym, ap, subst, ◌∙◌, arith, inl, inr}
use Rattle.std.specs.Prelude.{◌⊎◌, ◌==◌, ◌||◌, slice_set, slice_index_or, if◌then◌else◌}
use Rattle.std.specs.Option.{option_map}
use Rattle.std.proofs.lemmas.Bool.{eqb-true, ne_eqb}
use Rattle.std.proofs.lemmas.List.{get_or-set_same, get_or-set_other, reverse-reverse}
use Rattle.ft_model.specs.declared.call.Call.{Call}
use Rattle.ft_model.specs.declared.call.Call.TheVariants as call
use Rattle.ft_model.specs.declared.script.ScriptParts.{ScriptParts}
use Rattle.ft_model.specs.Calls.{containers_of}
use Rattle.ft_bank.specs.declared.sections.OpenSection.{OpenSection}
use Rattle.ft_bank.specs.declared.sections.Taking.{Taking}
use Rattle.ft_bank.specs.PassSections.{Stack, noted_in, nothing_taken, taken_in}
use Rattle.ft_section.specs.Locking.{TakenUp, at_one, waiting}
use Rattle.ft_section.specs.Locking.{with_own as keeping}
use Rattle.ft_section.specs.LockTakings.{IsOwnFor}
use Rattle.ft_turns.specs.Orders.{Locking, Machine, OpenSection as TurnSection, ThreadState, answered_machine, answered_thread, finished_machine, finished_thread, fresh_thread, holder_of, innermost_containers, lower_first, next_call, take_locks, thread_at, waiting_machine, waiting_thread, with_locking, with_taken}
use Rattle.ft_turns.proofs.LockLemmas.{bit_of, bit_same, by_lock, held, occ, occ-cons, occ-nil, occ_here, take_all}
use Rattle.ft_turns.proofs.MachineSteps.{IsTry, there}
use Rattle.ft_turns.proofs.LocksOnce.{IsOwned, flat, occ-flat, owned, owned_steps}
use Rattle.ft_turn_laws.specs.Placings.{pair_of, times}
use Rattle.ft_turn_laws.specs.MatchingStacks.{AreAsSections, IsAsSection, IsAsStack}
use Rattle.ft_turn_laws.proofs.MachineSections.{noted-append, noted-reverse, reverse_push, same_locks}
use Rattle.ft_turn_laws.proofs.StackSteps.{begins, finishes, same_taken, taken_out, times-append, waits}
use Rattle.ft_turn_laws.proofs.Taking.{Finds, IsHeld, finds, times_occ}
use Rattle.ft_turn_laws.proofs.TurnMoments.{IsCounted, Stands, first_other, held_by, is_mine, locks_after, other_of, owner_after}

-- ---- the locks that are asked for

occ_other : (o x : ℕ) (xs : List ℕ) → x ≢ o → occ o (x ∷ xs) ≡ occ o xs
occ_other o x xs differs = let e : occ o (x ∷ xs) ≡ 0 + occ o xs = occ-cons o x xs ∙ ap (λ b. cond b 1 0 + occ o xs) (ne_eqb x o differs) in omega arith

-- no other lock is taken
pub taken_asked : (thread : ℕ) (holders : List (Option ℕ)) (containers : List ℕ) (o : ℕ) → occ o (take_locks thread holders containers).taken ≤ occ o containers
taken_asked thread holders [] o = omega arith
taken_asked thread holders (x ∷ containers) o =
    by_lock thread holders x containers (λ r. occ o r.taken ≤ occ o (x ∷ containers))
    (λ free. (let rest = taken_asked thread (slice_set holders x (Some thread)) containers o in omega (arith, occ-cons o x containers, occ-cons o x (take_locks thread (slice_set holders x (Some thread)) containers).taken)))
    (λ own. (let rest = taken_asked thread holders containers o in omega (arith, occ-cons o x containers)))
    (λ who differs is. omega (arith, occ-nil o))

pub pair_has : (lower upper o : ℕ) → (o ≡ lower) ⊎ (o ≡ upper) → 1 ≤ occ o (pair_of lower upper)
pair_has lower upper o is =
    elim (lower == upper) as (λ b. (lower == upper) ≡ b → 1 ≤ occ o (if b then lower ∷ [] else lower ∷ upper ∷ [])) [
      | true ↦ λ same.
          let e : o ≡ lower = elim is [ inl lower_is ↦ lower_is | inr upper_is ↦ upper_is ∙ sym (eqb-true lower upper same) ] in
          subst (λ x. 1 ≤ occ x (lower ∷ [])) (sym e) (occ_here lower [])
      | false ↦ λ differ. elim is [
        | inl lower_is ↦ subst (λ x. 1 ≤ occ x (lower ∷ upper ∷ [])) (sym lower_is) (occ_here lower (upper ∷ []))
        | inr upper_is ↦ subst (λ x. 1 ≤ occ x (lower ∷ upper ∷ [])) (sym upper_is) (omega (arith, occ-cons upper lower (upper ∷ []), occ_here upper []))
      ]
    ] refl

pub pair_lacks : (lower upper o : ℕ) → o ≢ lower → o ≢ upper → occ o (pair_of lower upper) ≡ 0
pair_lacks lower upper o above below =
    elim (lower == upper) as (λ b. occ o (if b then lower ∷ [] else lower ∷ upper ∷ []) ≡ 0) [
      | true ↦ occ_other o lower [] (λ e. above (sym e)) ∙ occ-nil o
      | false ↦ occ_other o lower (upper ∷ []) (λ e. above (sym e)) ∙ (occ_other o upper [] (λ e. below (sym e)) ∙ occ-nil o)
    ]

-- the call has taken none of another container
pub own_out : (lower upper o : ℕ) (own : Taking) → IsOwnFor lower upper own → o ≢ lower → o ≢ upper → taken_in o own ≡ 0
own_out lower upper o own (inl none) above below = ap (taken_in o) none
own_out lower upper o own (inr is) above below = taken_out o own (λ e. above (e ∙ is.0)) (λ e. below (e ∙ is.1))

-- ---- the steps

-- two containers of the script, the lower one first
pub record AreTwoOf (script : ScriptParts) (lower upper : ℕ) : Type 0 where
  pub order : lower ≤ upper
  pub low : upper < length script.containers

module _ (script : ScriptParts) (machine : Machine) (thread : ℕ) (called : Call) (owners owners_after : ℕ → Option ℕ) (has has_after : ℕ → Bool) (s t : Stack)
    (inv : IsOwned script machine) (stands : Stands script machine thread owners has s)
    (counted : IsCounted has_after t) (are : (o : ℕ) → o < length script.containers → owners_after o ≡ owner_after thread owners has has_after o) where
  abbrev state : ThreadState
  state = thread_at machine thread

  abbrev locking : List ℕ → Locking
  locking containers = take_locks thread machine.holders containers

  here : (o : ℕ) → o < length script.containers → IsHeld thread (holder_of machine.holders o) (other_of owners has o) (has o)
  here o low = subst (λ h. IsHeld thread h (other_of owners has o) (has o)) (sym (stands.locks o low)) (held_by thread (owners o) (has o) (is_mine script machine thread owners has s inv stands o low))

  -- whom the machine finds is whom the pass finds
  pub finds_same : (lower upper : ℕ) → AreTwoOf script lower upper → Finds lower (has lower) (first_other owners has lower upper) (locking (pair_of lower upper))
  finds_same lower upper two =
      let order = two.order in
      let low = two.low in
      finds thread machine.holders lower upper (other_of owners has) has order (here lower (omega arith)) (here upper low)

  pub changed : (after : ThreadState) → next_call script thread state ≡ Some called
      → (slice_index_or (slice_set machine.threads thread after) thread fresh_thread ≡ after)
      × ((other : ℕ) → other ≢ thread → slice_index_or (slice_set machine.threads thread after) other fresh_thread ≡ thread_at machine other)
  changed after next =
      let low : thread < length machine.threads = omega (arith, there script thread state called next, inv.threads) in
      (get_or-set_same machine.threads thread after fresh_thread low, λ other differs. get_or-set_other machine.threads thread other after fresh_thread differs)

  -- a call waits
  pub waits_step : (fixed : Bool) (containers : List ℕ) (lower upper c q : ℕ) → IsTry script machine thread called fixed containers → containers ≡ pair_of lower upper → AreTwoOf script lower upper
      → first_other owners has lower upper ≡ Some (c, q) → t ≡ waiting (keeping s t.own) q
      → ((r : ℕ) → taken_in r t.own ≡ taken_in r s.own + (if (c == lower) || has lower then 0 else at_one lower r))
      → Stands script (waiting_machine machine thread state (locking containers) q) thread owners_after has_after t
  waits_step fixed containers lower upper c q try asks two first is kept =
      let locked : Locking = locking containers in
      let f : Finds lower (has lower) (first_other owners has lower upper) locked = subst (λ os. Finds lower (has lower) (first_other owners has lower upper) (locking os)) (sym asks) (finds_same lower upper two) in
      let found : locked.found ≡ Some q = f.found ∙ ap (option_map (λ x. x.1)) first in
      let after : ThreadState = waiting_thread (with_locking state locked) q in
      let now = changed after try.next in
      locks_after script machine (waiting_machine machine thread state locked q) thread owners owners_after has has_after s t inv
      ((owned_steps script).waits machine thread called fixed containers q try found inv) now.1 stands
      (subst (λ (u : ThreadState). IsAsStack u t) (sym now.0) (waits state s t locked lower c q (has lower) stands.stack is kept (f.taken c q first)))
      counted are

  -- a call is answered, which leaves this of the stack
  pub answers_step : (containers : List ℕ) → IsTry script machine thread called false containers → (locking containers).found ≡ None
      → IsAsStack (answered_thread (with_locking state (locking containers)) called) t
      → Stands script (answered_machine machine thread state called (locking containers)) thread owners_after has_after t
  answers_step containers try found same =
      let locked : Locking = locking containers in
      let after : ThreadState = answered_thread (with_locking state locked) called in
      let now = changed after try.next in
      locks_after script machine (answered_machine machine thread state called locked) thread owners owners_after has has_after s t inv
      ((owned_steps script).answers machine thread called containers try found inv) now.1 stands
      (subst (λ (u : ThreadState). IsAsStack u t) (sym now.0) same)
      counted are

  -- it finishes
  finishes_with : (containers : List ℕ) → IsTry script machine thread called true containers → (locking containers).found ≡ None
      → IsAsStack (finished_thread (with_locking state (locking containers))) t
      → Stands script (finished_machine machine thread state (locking containers)) thread owners_after has_after t
  finishes_with containers try found same =
      let locked : Locking = locking containers in
      let after : ThreadState = finished_thread (with_locking state locked) in
      let now = changed after try.next in
      locks_after script machine (finished_machine machine thread state locked) thread owners owners_after has has_after s t inv
      ((owned_steps script).finishes machine thread called containers try found inv) now.1 stands
      (subst (λ (u : ThreadState). IsAsStack u t) (sym now.0) same)
      counted are

  -- what was taken for other containers is nothing
  none_taken : (lower upper : ℕ) → IsOwnFor lower upper s.own → (o : ℕ) → o ≢ lower → o ≢ upper → times o (state.own ++ (locking (pair_of lower upper)).taken) ≡ 0
  none_taken lower upper own o above below =
      let taken = (locking (pair_of lower upper)).taken in
      let out : taken_in o s.own ≡ 0 = own_out lower upper o s.own own above below in
      let most : occ o taken ≤ occ o (pair_of lower upper) = taken_asked thread machine.holders (pair_of lower upper) o in
      let none : occ o (pair_of lower upper) ≡ 0 = pair_lacks lower upper o above below in
      omega (arith, times-append o state.own taken, times_occ o taken, stands.stack.own o)

  -- a `begin` and a call that finishes have the locks of these containers in the machine
  has_all : (lower upper : ℕ) → AreTwoOf script lower upper → (locking (pair_of lower upper)).found ≡ None → (o : ℕ) → (o ≡ lower) ⊎ (o ≡ upper)
      → (o < length script.containers) × (held (locking (pair_of lower upper)).holders thread o ≡ 1)
  has_all lower upper two found o is =
      let low : o < length script.containers = (let order = two.order in let below = two.low in elim is [ inl e ↦ omega arith | inr e ↦ omega arith ]) in
      (low, ap (bit_of thread) (take_all thread machine.holders (pair_of lower upper) o (omega (arith, inv.holders)) found (pair_has lower upper o is)) ∙ bit_same thread)

abbrev bit : Bool → ℕ
bit b = cond b 1 0

-- the locks of a section that is innermost, where the rest of the stack notes these
abbrev pub HasAll : (ℕ → Bool) → ℕ → ℕ → Type 0
HasAll has lower upper = (has lower ≡ true) × (has upper ≡ true)

has_one : (has : ℕ → Bool) (lower upper o : ℕ) → HasAll has lower upper → (o ≡ lower) ⊎ (o ≡ upper) → bit (has o) ≡ 1
has_one has lower upper o all (inl is) = ap (λ x. bit (has x)) is ∙ ap bit all.0
has_one has lower upper o all (inr is) = ap (λ x. bit (has x)) is ∙ ap bit all.1

-- a section begins: the stack says so of the thread
pub begins_stack : (script : ScriptParts) (machine : Machine) (thread first : ℕ) (second : Option ℕ) (owners owners_after : ℕ → Option ℕ) (has has_after : ℕ → Bool) (s t : Stack) (own : Taking)
    → IsOwned script machine → Stands script machine thread owners has s → IsCounted has_after t
    → ((o : ℕ) → o < length script.containers → owners_after o ≡ owner_after thread owners has has_after o)
    → IsTry script machine thread (call.Begin first second) false (pair_of own.lower own.upper) → AreTwoOf script own.lower own.upper
    → first_other owners has own.lower own.upper ≡ None
    → lower_first (containers_of (call.Begin first second)) ≡ pair_of own.lower own.upper
    → IsOwnFor own.lower own.upper s.own
    → t ≡ record s { sections = s.sections ++ record { locks = own; marks = 0 } ∷ []; own = nothing_taken }
    → HasAll has_after own.lower own.upper
    → IsAsStack (answered_thread (with_locking (thread_at machine thread) (take_locks thread machine.holders (pair_of own.lower own.upper))) (call.Begin first second)) t
begins_stack script machine thread first second owners owners_after has has_after s t own inv stands counted are try two free containers own_is is all =
    let called = call.Begin first second in
    let asked = pair_of own.lower own.upper in
    let st : ThreadState = thread_at machine thread in
    let locked : Locking = take_locks thread machine.holders asked in
    let f : Finds own.lower (has own.lower) (first_other owners has own.lower own.upper) locked = finds_same script machine thread called owners owners_after has has_after s t inv stands counted are own.lower own.upper two in
    let found : locked.found ≡ None = f.found ∙ ap (option_map (λ x. x.1)) free in
    let inv_after : IsOwned script (answered_machine machine thread st called locked) = (owned_steps script).answers machine thread called asked try found inv in
    let now = changed script machine thread called owners owners_after has has_after s t inv stands counted are (answered_thread (with_locking st locked) called) try.next in
    let taken = st.own ++ locked.taken in
    let section : TurnSection = record { containers = containers_of called; taken = taken } in
    let took : (o : ℕ) → times o taken ≡ taken_in o own = same_taken taken own (λ o. noted_in o s.sections)
    (λ o one.
    let holds = has_all script machine thread called owners owners_after has has_after s t inv stands counted are own.lower own.upper two found o one in
    let low : o < length script.containers = holds.0 in
    let mine : occ o (flat (section ∷ st.sections)) ≡ 1 = sym (ap (λ (u : ThreadState). occ o (owned u)) now.0) ∙ (inv_after.owned o thread low ∙ holds.1) in
    let theirs : noted_in o (s.sections ++ record { locks = own; marks = 0 } ∷ []) + taken_in o nothing_taken ≡ 1 =
    sym (ap (λ (u : Stack). noted_in o u.sections + taken_in o u.own) is) ∙ (counted o ∙ has_one has_after own.lower own.upper o all one) in
    let same : occ o (flat st.sections) ≡ noted_in o s.sections = same_locks o st.sections (reverse s.sections) stands.stack.sections ∙ noted-reverse o s.sections in (
      omega (arith, occ-flat o section st.sections, times_occ o taken),
      omega (arith, noted-append o s.sections (record { locks = own; marks = 0 } ∷ [])),
    ))
    (none_taken script machine thread called owners owners_after has has_after s t inv stands counted are own.lower own.upper own_is) in
    begins st s t locked own first second stands.stack is containers took

pub none_pushed : {X : Type 0} (xs : List X) (x : X) → xs ++ x ∷ [] ≡ [] → ⊥
none_pushed [] x none = cc
none_pushed (y ∷ ys) x none = cc

-- lists that are the same have the same last element
same_ends : {X : Type 0} (xs ys : List X) (x y : X) → xs ++ x ∷ [] ≡ ys ++ y ∷ [] → (xs ≡ ys) × (x ≡ y)
same_ends xs ys x y same =
    let turned : x ∷ reverse xs ≡ y ∷ reverse ys = sym (reverse_push xs x) ∙ (ap reverse same ∙ reverse_push ys y) in
    (sym (reverse-reverse xs) ∙ (ap reverse (let e : reverse xs ≡ reverse ys = cc in e) ∙ reverse-reverse ys), cc)

-- what is known of the innermost section where it is taken up again
pub record IsTopOf (script : ScriptParts) (owners : ℕ → Option ℕ) (has has_after : ℕ → Bool) (s : Stack) (top : Taking) : Type 0 where
  pub two : AreTwoOf script top.lower top.upper
  pub free : first_other owners has top.lower top.upper ≡ None
  pub own : IsOwnFor top.lower top.upper s.own
  pub all : HasAll has_after top.lower top.upper

-- the sections of the thread are of the stack
cut_same : (sections : List TurnSection) (kept outer : List OpenSection) (top : OpenSection) (section : TurnSection) (rest : List TurnSection)
    → AreAsSections sections (reverse kept) → kept ≡ outer ++ top ∷ [] → sections ≡ section ∷ rest → IsAsSection section top × AreAsSections rest (reverse outer)
cut_same sections kept outer top section rest same cut is =
    subst (λ ss. AreAsSections ss (top ∷ reverse outer)) is (subst (AreAsSections sections) (ap reverse cut ∙ reverse_push outer top) same)

pub asks_top : (sections : List TurnSection) (kept : List OpenSection) (top : OpenSection) → AreAsSections sections (top ∷ kept) → lower_first (innermost_containers sections) ≡ pair_of top.locks.lower top.locks.upper
asks_top [] kept top same = absurd same
asks_top (section ∷ sections) kept top same = same.0.containers

asks_none : (sections : List TurnSection) (kept : List OpenSection) → kept ≡ [] → AreAsSections sections kept → lower_first (innermost_containers sections) ≡ []
asks_none [] kept none same = refl
asks_none (section ∷ sections) [] none same = absurd same
asks_none (section ∷ sections) (k ∷ kept) none same = absurd cc

-- the call finishes where no section is open
pub finishes_bare : (script : ScriptParts) (machine : Machine) (thread : ℕ) (called : Call) (owners owners_after : ℕ → Option ℕ) (has has_after : ℕ → Bool) (s t : Stack)
    → IsOwned script machine → Stands script machine thread owners has s → IsCounted has_after t
    → ((o : ℕ) → o < length script.containers → owners_after o ≡ owner_after thread owners has has_after o)
    → (containers : List ℕ) → IsTry script machine thread called true containers → containers ≡ lower_first (innermost_containers (thread_at machine thread).sections)
    → s.sections ≡ [] → TakenUp s t
    → (take_locks thread machine.holders containers).found ≡ None × Stands script (finished_machine machine thread (thread_at machine thread) (take_locks thread machine.holders containers)) thread owners_after has_after t
finishes_bare script machine thread called owners owners_after has has_after s t inv stands counted are containers try asks bare up =
    let st : ThreadState = thread_at machine thread in
    let locked : Locking = take_locks thread machine.holders containers in
    let none : containers ≡ [] = asks ∙ asks_none st.sections (reverse s.sections) (ap reverse bare) stands.stack.sections in
    let found : locked.found ≡ None = ap (λ os. (take_locks thread machine.holders os).found) none in (
      found,
      finishes_with script machine thread called owners owners_after has has_after s t inv stands counted are containers try found
          (finishes st s t locked stands.stack up (λ outer top after cut _ _ section rest _ o. absurd (none_pushed outer top (sym cut ∙ bare)))),
    )

-- it finishes, and takes its innermost section up again
pub finishes_inside : (script : ScriptParts) (machine : Machine) (thread : ℕ) (called : Call) (owners owners_after : ℕ → Option ℕ) (has has_after : ℕ → Bool) (s t : Stack)
    → IsOwned script machine → Stands script machine thread owners has s → IsCounted has_after t
    → ((o : ℕ) → o < length script.containers → owners_after o ≡ owner_after thread owners has has_after o)
    → (containers : List ℕ) → IsTry script machine thread called true containers → containers ≡ lower_first (innermost_containers (thread_at machine thread).sections)
    → (outer : List OpenSection) (top : OpenSection) → s.sections ≡ outer ++ top ∷ [] → IsTopOf script owners has has_after s top.locks → TakenUp s t
    → (take_locks thread machine.holders containers).found ≡ None × Stands script (finished_machine machine thread (thread_at machine thread) (take_locks thread machine.holders containers)) thread owners_after has_after t
finishes_inside script machine thread called owners owners_after has has_after s t inv stands counted are containers try asks outer top cut known up =
    let st : ThreadState = thread_at machine thread in
    let locked : Locking = take_locks thread machine.holders containers in
    let lower = top.locks.lower in
    let upper = top.locks.upper in
    let sections : AreAsSections st.sections (top ∷ reverse outer) = subst (AreAsSections st.sections) (ap reverse cut ∙ reverse_push outer top) stands.stack.sections in
    let pair : containers ≡ pair_of lower upper = asks ∙ asks_top st.sections (reverse outer) top sections in
    let f : Finds lower (has lower) (first_other owners has lower upper) locked =
    subst (λ os. Finds lower (has lower) (first_other owners has lower upper) (take_locks thread machine.holders os)) (sym pair) (finds_same script machine thread called owners owners_after has has_after s t inv stands counted are lower upper known.two) in
    let found : locked.found ≡ None = f.found ∙ ap (option_map (λ x. x.1)) known.free in
    let found_pair : (take_locks thread machine.holders (pair_of lower upper)).found ≡ None = ap (λ os. (take_locks thread machine.holders os).found) (sym pair) ∙ found in
    let after : ThreadState = finished_thread (with_locking st locked) in
    let inv_after : IsOwned script (finished_machine machine thread st locked) = (owned_steps script).finishes machine thread called containers try found inv in
    let now = changed script machine thread called owners owners_after has has_after s t inv stands counted are after try.next in
    let own = st.own ++ locked.taken in
    let taken : (kept : OpenSection) (section : TurnSection) (rest : List TurnSection) → t.sections ≡ outer ++ kept ∷ [] → kept.locks.lower ≡ lower → kept.locks.upper ≡ upper → st.sections ≡ section ∷ rest
    → (o : ℕ) → times o (section.taken ++ own) ≡ taken_in o kept.locks =
    λ kept section rest cut_after same_lower same_upper is.
    let parts = cut_same st.sections s.sections outer top section rest stands.stack.sections cut is in
    same_taken (section.taken ++ own) kept.locks (λ o. noted_in o outer)
    (λ o one.
    let one_of : (o ≡ lower) ⊎ (o ≡ upper) = elim one [ inl e ↦ inl (e ∙ same_lower) | inr e ↦ inr (e ∙ same_upper) ] in
    let holds = has_all script machine thread called owners owners_after has has_after s t inv stands counted are lower upper known.two found_pair o one_of in
    let low : o < length script.containers = holds.0 in
    let holds_it : held locked.holders thread o ≡ 1 = ap (λ os. held (take_locks thread machine.holders os).holders thread o) pair ∙ holds.1 in
    let mine : occ o (flat (with_taken own st.sections)) ≡ 1 = sym (ap (λ (u : ThreadState). occ o (owned u)) now.0) ∙ (inv_after.owned o thread low ∙ holds_it) in
    let cons : occ o (flat (record section { taken = section.taken ++ own } ∷ rest)) ≡ 1 = ap (λ ss. occ o (flat (with_taken own ss))) (sym is) ∙ mine in
    let theirs : noted_in o (outer ++ kept ∷ []) + taken_in o nothing_taken ≡ 1 =
    ap (λ ss. noted_in o ss + taken_in o nothing_taken) (sym cut_after) ∙ (ap (λ k. noted_in o t.sections + taken_in o k) (sym up.own) ∙ (counted o ∙ has_one has_after lower upper o known.all one_of)) in
    let same : occ o (flat rest) ≡ noted_in o outer = same_locks o rest (reverse outer) parts.1 ∙ noted-reverse o outer in (
      omega (arith, occ-flat o (record section { taken = section.taken ++ own }) rest, times_occ o (section.taken ++ own)),
      omega (arith, noted-append o outer (kept ∷ [])),
    ))
    (λ o above below.
    let not_lower : o ≢ lower = (λ e. above (e ∙ sym same_lower)) in
    let not_upper : o ≢ upper = (λ e. below (e ∙ sym same_upper)) in
    let none : times o (st.own ++ (take_locks thread machine.holders (pair_of lower upper)).taken) ≡ 0 = none_taken script machine thread called owners owners_after has has_after s t inv stands counted are lower upper known.own o not_lower not_upper in
    let none_here : times o own ≡ 0 = ap (λ os. times o (st.own ++ (take_locks thread machine.holders os).taken)) pair ∙ none in
    let out : taken_in o top.locks ≡ 0 = taken_out o top.locks not_lower not_upper in
    omega (arith, times-append o section.taken own, parts.0.taken o)) in (
      found,
      finishes_with script machine thread called owners owners_after has has_after s t inv stands counted are containers try found
          (finishes st s t locked stands.stack up
          (λ outer_too top_too kept cut_too cut_after at section rest is.
          let same = same_ends outer outer_too top top_too (sym cut ∙ cut_too) in
          taken kept section rest (subst (λ os. t.sections ≡ os ++ kept ∷ []) (sym same.0) cut_after) (at.0 ∙ ap (λ (k : OpenSection). k.locks.lower) (sym same.1)) (at.1 ∙ ap (λ (k : OpenSection). k.locks.upper) (sym same.1)) is)),
    )
