-- Who was found with locks, and which locks a pass has had, as its calls are tried, answered and ended.
use Rattle.std.proofs.Common.{◌≡◌, ◌≢◌, ◌<◌, ◌+◌, ◌-◌, ℕ, Bool, true, false, List, [], ◌∷◌, ◌++◌, map, reverse, length, drop, take, refl, sym, ap, ◌∙◌, subst, arith, ◌⊎◌, inl, inr, ⊎_elim}
use Rattle.std.specs.Prelude.{Option, Some, None, IfSome, ◌==◌, ◌||◌, nat_lt, fold, option_map, slice_get, if◌then◌else◌}
use Rattle.std.specs.List.{list_any}
use Rattle.std.specs.Option.{option_map_or}
use Rattle.std.proofs.lemmas.Bool.{eq-eqb, eqb-true}
use Rattle.std.proofs.lemmas.List.{map-append, reverse-append, take-append-le, take_at}
use Rattle.std.proofs.lemmas.List.Folds.{list_any-append}
use Rattle.std.proofs.lemmas.List.Sums.{fold-append}
use Rattle.std.proofs.lemmas.Option.{slice_get_within}
use Rattle.ft_model.specs.declared.call.Call.{Call}
use Rattle.ft_model.specs.declared.call.Call.TheVariants as call
use Rattle.ft_model.specs.declared.cursor.Cursor.{Cursor}
use Rattle.ft_model.specs.declared.entry.Entry.{Entry as NamedEntry}
use Rattle.ft_model.specs.declared.reply.Reply.{Reply}
use Rattle.ft_model.specs.Calls.{cursor_of_dict, cursor_of_list, cursor_of_set, one_or_two, other_dict, other_list, other_set, other_deque, cursor_of_deque}
use Rattle.ft_model.specs.Histories.{names}
use Rattle.ft_model.specs.Numbers.{after_begins, begins_of, begun_containers}
use Rattle.ft_model.specs.Worlds.{container_of, cursor_at}
use Rattle.ft_history.proofs.HistoryPlaces.{slice_get_push}
use Rattle.ft_trace.specs.declared.Act.{Act}
use Rattle.ft_trace.specs.declared.Owner.{Owner}
use Rattle.ft_trace.specs.declared.View.{View}
use Rattle.ft_trace.specs.Hands.{cursor_in}
use Rattle.ft_trace.specs.Owners.{AreOwners, FindsMore, LocksOnly, SameOwners, found_owners, had_locks, is_owner_in}
use Rattle.ft_trace.proofs.Owning.{same_finds_more, same_locks_only}
use Rattle.ft_bank.specs.declared.sections.OpenSection.{OpenSection}
use Rattle.ft_bank.specs.declared.sections.Taking.{Taking}
use Rattle.ft_bank.specs.PassSections.{Stack, nothing_taken, suspended}
use Rattle.ft_section.specs.declared.answers.Objects.{Objects}
use Rattle.ft_section.specs.declared.answers.Stamp.{Stamp}
use Rattle.ft_section.specs.Locking.{TakenUp, first_mark, marks_more, noting, waiting, with_own}
use Rattle.ft_section.specs.LockTakings.{IsOf}
use Rattle.ft_bank_history.specs.Marks.{AreMarksFound, IsFoundFor, IsNamedIn, inner_after, needed_after, over_after, used_after, walked_after, walked_by}
use Rattle.ft_bank_history.proofs.RightMarks.{if_some, or_more}
use Rattle.ft_engine.specs.declared.caller.Flight.{Flight}
use Rattle.ft_engine.specs.declared.caller.Flight.TheVariants as flight
use Rattle.ft_engine.specs.Answering.{HasWalked, IsLockedFor}
use Rattle.ft_engine.specs.Flights.{IsFlightAnswered, AllowsCall}
use Rattle.ft_table_calls.specs.TriesUnderLocks.{objects_by}
use Rattle.ft_engine.specs.Keeping.{named_entry}
use Rattle.ft_engine.specs.Owning.{AreBegunBy, AreOwnedBy, FlightNames, IsFlightFound, begun_after, begin_calls, begun_due, locked_in, walked_due}
use Rattle.ft_engine.specs.Stacks.{StackAfter}
use Rattle.ft_engine.proofs.WaitCounts.{last_of}

or_split : (a b : Bool) → (a || b) ≡ true → (a ≡ true) ⊎ (b ≡ true)
or_split true b e = inl refl
or_split false b e = inr e

or_here : (a b : Bool) → a ≡ true → (a || b) ≡ true
or_here true b e = refl
or_here false b e = absurd (let x : false ≡ true = e in cc)

-- ---- open sections

abbrev pair_of : OpenSection → ℕ × ℕ
pair_of section = (section.locks.lower, section.locks.upper)

push_pair : (xs : List OpenSection) (x : OpenSection) → reverse (map pair_of (xs ++ x ∷ [])) ≡ pair_of x ∷ reverse (map pair_of xs)
push_pair xs x = ap reverse (map-append pair_of xs (x ∷ [])) ∙ reverse-append (map pair_of xs) (pair_of x ∷ [])

suspended_pairs : (k : ℕ) (xs : List OpenSection) → map pair_of (map (suspended k) xs) ≡ map pair_of xs
suspended_pairs k [] = refl
suspended_pairs k (x ∷ xs) = ap (λ l. pair_of x ∷ l) (suspended_pairs k xs)

pub locked_waiting : (s : Stack) (own : Taking) (q : ℕ) → locked_in (waiting (with_own s own) q) ≡ locked_in s
locked_waiting s own q = ap reverse (suspended_pairs (marks_more s.mark) s.sections)

pub locked_up : (s t : Stack) → TakenUp s t → locked_in t ≡ locked_in s
locked_up s t up =
    ⊎_elim
    (λ (none : s.sections ≡ []). ap (λ (xs : List OpenSection). reverse (map pair_of xs)) (up.none none ∙ sym none))
    (λ (r : (outer : List OpenSection) × (top : OpenSection) × (s.sections ≡ outer ++ top ∷ [])).
    let u = up.top r.0 r.1 r.2 in
    ap (λ (xs : List OpenSection). reverse (map pair_of xs)) u.2
    ∙ (push_pair r.0 (noting u.0 u.1 r.1) ∙ (sym (push_pair r.0 r.1) ∙ sym (ap (λ (xs : List OpenSection). reverse (map pair_of xs)) r.2))))
    (last_of s.sections)

begun_drop : (pairs : List (ℕ × ℕ)) (calls : List Call) → AreBegunBy pairs calls → AreBegunBy (drop 1 pairs) (drop 1 calls)
begun_drop [] [] are = are
begun_drop [] (c ∷ calls) are = absurd are
begun_drop (p ∷ pairs) [] are = absurd are
begun_drop (p ∷ pairs) (c ∷ calls) are = are.1

-- ---- the containers of a call

either_of : (b : Bool) (o x y : ℕ) → (o ≡ (if b then y else x)) ⊎ (o ≡ (if b then x else y)) → (o ≡ x) ⊎ (o ≡ y)
either_of true o x y (inl e) = inr e
either_of true o x y (inr e) = inl e
either_of false o x y (inl e) = inl e
either_of false o x y (inr e) = inr e

two_named : (o a b : ℕ) → (o ≡ a) ⊎ (o ≡ b) → list_any (λ x. x == o) (one_or_two a (Some b)) ≡ true
two_named o a b of = by (a == b) refl
  where
    each : (o ≡ a) ⊎ (o ≡ b) → ((a == o) || ((b == o) || false)) ≡ true
    each (inl e) = or_here (a == o) ((b == o) || false) (eq-eqb a o (sym e))
    each (inr e) = or_more (a == o) ((b == o) || false) (or_here (b == o) false (eq-eqb b o (sym e)))

    one : a ≡ b → (o ≡ a) ⊎ (o ≡ b) → ((a == o) || false) ≡ true
    one same (inl e) = or_here (a == o) false (eq-eqb a o (sym e))
    one same (inr e) = or_here (a == o) false (eq-eqb a o (same ∙ sym e))

    by : (z : Bool) → (a == b) ≡ z → list_any (λ x. x == o) (if z then a ∷ [] else a ∷ b ∷ []) ≡ true
    by true e = one (eqb-true a b e) of
    by false e = each of

-- a container that a call locks it names
objects_named : (o a : ℕ) (other : Option ℕ) → IsOf o (objects_by a other) → list_any (λ x. x == o) (one_or_two a other) ≡ true
objects_named o a None (inl e) = or_here (a == o) false (eq-eqb a o (sym e))
objects_named o a None (inr e) = or_here (a == o) false (eq-eqb a o (sym e))
objects_named o a (Some b) of = two_named o a b (either_of (nat_lt b a) o a b of)

one_is : (a o : ℕ) → ((a == o) || false) ≡ true → a ≡ o
one_is a o e = ⊎_elim (λ (z : (a == o) ≡ true). eqb-true a o z) (λ (z : false ≡ true). absurd (cc)) (or_split (a == o) false e)

pub stack_begun : (called : Call) (s t : Stack) (calls : List Call) → StackAfter called s t → AreBegunBy (locked_in s) calls → AreBegunBy (locked_in t) (begun_after called calls)
stack_begun (call.Begin a b) s t calls opens are =
    let here : OpenSection = record { locks = opens.0; marks = 0 } in
    let is : locked_in t ≡ pair_of here ∷ locked_in s = ap locked_in opens.2 ∙ push_pair s.sections here in
    let named : (o : ℕ) → (o ≡ opens.0.lower) ⊎ (o ≡ opens.0.upper) → names o (call.Begin a b) ≡ true = λ o of.
    objects_named o a b (⊎_elim (λ (e : o ≡ opens.0.lower). inl (e ∙ opens.1.lower)) (λ (e : o ≡ opens.0.upper). inr (e ∙ opens.1.upper)) of) in
    subst (λ (pairs : List (ℕ × ℕ)). AreBegunBy pairs (call.Begin a b ∷ calls)) (sym is) (named, are)
stack_begun call.End s t calls closes are =
    let is : locked_in s ≡ pair_of closes.1 ∷ reverse (map pair_of closes.0) = ap (λ (xs : List OpenSection). reverse (map pair_of xs)) closes.2 ∙ push_pair closes.0 closes.1 in
    subst (λ (pairs : List (ℕ × ℕ)). AreBegunBy pairs (drop 1 calls)) (sym (ap locked_in closes.3))
    (begun_drop (pair_of closes.1 ∷ reverse (map pair_of closes.0)) calls (subst (λ (pairs : List (ℕ × ℕ)). AreBegunBy pairs calls) is are))
stack_begun (call.Dict o c) s t calls is are = subst (λ (x : Stack). AreBegunBy (locked_in x) calls) (sym is) are
stack_begun (call.List o c) s t calls is are = subst (λ (x : Stack). AreBegunBy (locked_in x) calls) (sym is) are
stack_begun (call.Set o c) s t calls is are = subst (λ (x : Stack). AreBegunBy (locked_in x) calls) (sym is) are
stack_begun (call.Deque o c) s t calls is are = subst (λ (x : Stack). AreBegunBy (locked_in x) calls) (sym is) are
stack_begun (call.Next n) s t calls is are = subst (λ (x : Stack). AreBegunBy (locked_in x) calls) (sym is) are
stack_begun call.Quiesce s t calls is are = subst (λ (x : Stack). AreBegunBy (locked_in x) calls) (sym is) are
stack_begun (call.Await thread index) s t calls is are = subst (λ (x : Stack). AreBegunBy (locked_in x) calls) (sym is) are
stack_begun call.Dump s t calls is are = subst (λ (x : Stack). AreBegunBy (locked_in x) calls) (sym is) are

-- ---- entries that began sections

begun_one : (e : NamedEntry) (c : Call) → e.call ≡ c → (begins : List NamedEntry) → map (λ b. b.call) (after_begins e c begins) ≡ begun_after c (map (λ b. b.call) begins)
begun_one e (call.Begin a b) is begins = ap (λ (x : Call). x ∷ map (λ (z : NamedEntry). z.call) begins) is
begun_one e call.End is [] = refl
begun_one e call.End is (b ∷ begins) = refl
begun_one e (call.Dict o c) is begins = refl
begun_one e (call.List o c) is begins = refl
begun_one e (call.Set o c) is begins = refl
begun_one e (call.Deque o c) is begins = refl
begun_one e (call.Next n) is begins = refl
begun_one e call.Quiesce is begins = refl
begun_one e (call.Await thread index) is begins = refl
begun_one e call.Dump is begins = refl

begun_push : (mine : List NamedEntry) (e : NamedEntry) → begin_calls (mine ++ e ∷ []) ≡ begun_after e.call (begin_calls mine)
begun_push mine e =
    ap (map (λ (b : NamedEntry). b.call)) (fold-append (λ begins entry. after_begins entry entry.call begins) [] mine (e ∷ []))
    ∙ begun_one e e.call refl (begins_of mine)

module _ (o : ℕ) where
  after_named : (c : Call) (calls : List Call) → list_any (names o) (begun_after c calls) ≡ true → (names o c ≡ true) ⊎ (list_any (names o) calls ≡ true)
  after_named (call.Begin a b) calls e = or_split (names o (call.Begin a b)) (list_any (names o) calls) e
  after_named call.End [] e = inr e
  after_named call.End (x ∷ calls) e = inr (or_more (names o x) (list_any (names o) calls) e)
  after_named (call.Dict p c) calls e = inr e
  after_named (call.List p c) calls e = inr e
  after_named (call.Set p c) calls e = inr e
  after_named (call.Deque p c) calls e = inr e
  after_named (call.Next n) calls e = inr e
  after_named call.Quiesce calls e = inr e
  after_named (call.Await thread index) calls e = inr e
  after_named call.Dump calls e = inr e

  begun_from : (begins mine : List NamedEntry) → list_any (names o) (map (λ b. b.call) (fold (λ begins entry. after_begins entry entry.call begins) begins mine)) ≡ true → (list_any (names o) (map (λ b. b.call) begins) ≡ true) ⊎ IsNamedIn o mine
  begun_from begins [] e = inl e
  begun_from begins (x ∷ mine) e =
      ⊎_elim
      (λ (z : list_any (names o) (map (λ b. b.call) (after_begins x x.call begins)) ≡ true).
      ⊎_elim (λ (here : names o x.call ≡ true). inr (or_here (names o x.call) (list_any (λ y. names o y.call) mine) here)) (λ (there : list_any (names o) (map (λ b. b.call) begins) ≡ true). inl there)
      (after_named x.call (map (λ b. b.call) begins) (sym (ap (list_any (names o)) (begun_one x x.call refl begins)) ∙ z)))
      (λ (z : IsNamedIn o mine). inr (or_more (names o x.call) (list_any (λ y. names o y.call) mine) z))
      (begun_from (after_begins x x.call begins) mine e)

  -- whatever the `begin` of an open section names
  begun_named : (mine : List NamedEntry) → list_any (names o) (begin_calls mine) ≡ true → IsNamedIn o mine
  begun_named mine e = ⊎_elim (λ (z : false ≡ true). absurd (cc)) (λ (z : IsNamedIn o mine). z) (begun_from [] mine e)

  inner_one : (pair : ℕ × ℕ) (pairs : List (ℕ × ℕ)) (begins : List NamedEntry) → AreBegunBy (pair ∷ pairs) (map (λ b. b.call) begins) → (o ≡ pair.0) ⊎ (o ≡ pair.1) → (list_any (λ x. x == o) (begun_containers begins) ≡ true) × (list_any (names o) (map (λ b. b.call) begins) ≡ true)
  inner_one pair pairs [] are is = absurd are
  inner_one pair pairs (b ∷ begins) are is = (are.0 o is, or_here (names o b.call) (list_any (names o) (map (λ b. b.call) begins)) (are.0 o is))

  inner_next : (pair : ℕ × ℕ) (pairs : List (ℕ × ℕ)) (begins : List NamedEntry) → AreBegunBy (pair ∷ pairs) (drop 1 (map (λ b. b.call) begins)) → (o ≡ pair.0) ⊎ (o ≡ pair.1) → (list_any (λ x. x == o) (begun_containers (drop 1 begins)) ≡ true) × (list_any (names o) (map (λ b. b.call) begins) ≡ true)
  inner_next pair pairs [] are is = absurd are
  inner_next pair pairs (b ∷ begins) are is = let r = inner_one pair pairs begins are is in (r.0, or_more (names o b.call) (list_any (names o) (map (λ b. b.call) begins)) r.1)

  -- a container of the section that is innermost after a call
  abbrev IsInner : List NamedEntry → Call → Type 0
  IsInner mine called = (list_any (λ x. x == o) (inner_after called (begins_of mine)) ≡ true) × (IsNamedIn o mine ⊎ (names o called ≡ true))

  by_begun : (mine : List NamedEntry) (called : Call) (xs : List ℕ) → (list_any (λ x. x == o) xs ≡ true) × (list_any (names o) (begin_calls mine) ≡ true) → (list_any (λ x. x == o) xs ≡ true) × (IsNamedIn o mine ⊎ (names o called ≡ true))
  by_begun mine called xs r = (r.0, inl (begun_named mine r.1))

  pub top_inner : (mine : List NamedEntry) (called : Call) (pair : ℕ × ℕ) (pairs : List (ℕ × ℕ)) → AreBegunBy (pair ∷ pairs) (begun_after called (begin_calls mine)) → (o ≡ pair.0) ⊎ (o ≡ pair.1) → IsInner mine called
  top_inner mine (call.Begin a b) pair pairs are is = (are.0 o is, inr (are.0 o is))
  top_inner mine call.End pair pairs are is = by_begun mine call.End _ (inner_next pair pairs (begins_of mine) are is)
  top_inner mine (call.Dict p c) pair pairs are is = by_begun mine (call.Dict p c) _ (inner_one pair pairs (begins_of mine) are is)
  top_inner mine (call.List p c) pair pairs are is = by_begun mine (call.List p c) _ (inner_one pair pairs (begins_of mine) are is)
  top_inner mine (call.Set p c) pair pairs are is = by_begun mine (call.Set p c) _ (inner_one pair pairs (begins_of mine) are is)
  top_inner mine (call.Deque p c) pair pairs are is = by_begun mine (call.Deque p c) _ (inner_one pair pairs (begins_of mine) are is)
  top_inner mine (call.Next n) pair pairs are is = by_begun mine (call.Next n) _ (inner_one pair pairs (begins_of mine) are is)
  top_inner mine call.Quiesce pair pairs are is = by_begun mine call.Quiesce _ (inner_one pair pairs (begins_of mine) are is)
  top_inner mine (call.Await thread index) pair pairs are is = by_begun mine (call.Await thread index) _ (inner_one pair pairs (begins_of mine) are is)
  top_inner mine call.Dump pair pairs are is = by_begun mine call.Dump _ (inner_one pair pairs (begins_of mine) are is)

  -- ---- cursors

  over_named : (n p : ℕ) (made : Option ℕ) (over : Option ℕ) → over_after n p made over ≡ Some o → (over ≡ Some o) ⊎ (p ≡ o)
  over_named n p None over e = inl e
  over_named n p (Some m) over e = by (m == n) e
    where
      by : (b : Bool) → (if b then Some p else over) ≡ Some o → (over ≡ Some o) ⊎ (p ≡ o)
      by true e = inr (let x : Some p ≡ Some o = e in cc)
      by false e = inl e

  first_named : (p : ℕ) (other : Option ℕ) → p ≡ o → list_any (λ x. x == o) (one_or_two p other) ≡ true
  first_named p None e = or_here (p == o) false (eq-eqb p o e)
  first_named p (Some b) e = two_named o p b (inl (sym e))

  walked_one : (n : ℕ) (called : Call) (over : Option ℕ) → walked_after n called over ≡ Some o → (over ≡ Some o) ⊎ (names o called ≡ true)
  walked_one n (call.Dict p c) over e = ⊎_elim (λ z. inl z) (λ z. inr (first_named p (other_dict c) z)) (over_named n p (cursor_of_dict c) over e)
  walked_one n (call.List p c) over e = ⊎_elim (λ z. inl z) (λ z. inr (first_named p (other_list c) z)) (over_named n p (cursor_of_list c) over e)
  walked_one n (call.Set p c) over e = ⊎_elim (λ z. inl z) (λ z. inr (first_named p (other_set c) z)) (over_named n p (cursor_of_set c) over e)
  walked_one n (call.Deque p c) over e = ⊎_elim (λ z. inl z) (λ z. inr (first_named p (other_deque c) z)) (over_named n p (cursor_of_deque c) over e)
  walked_one n (call.Next m) over e = inl e
  walked_one n (call.Begin a b) over e = inl e
  walked_one n call.End over e = inl e
  walked_one n call.Quiesce over e = inl e
  walked_one n (call.Await thread index) over e = inl e
  walked_one n call.Dump over e = inl e

  walked_from : (n : ℕ) (over : Option ℕ) (mine : List NamedEntry) → fold (λ before entry. walked_after n entry.call before) over mine ≡ Some o → (over ≡ Some o) ⊎ IsNamedIn o mine
  walked_from n over [] e = inl e
  walked_from n over (x ∷ mine) e =
      ⊎_elim
      (λ (z : walked_after n x.call over ≡ Some o). ⊎_elim (λ was. inl was) (λ here. inr (or_here (names o x.call) (list_any (λ y. names o y.call) mine) here)) (walked_one n x.call over z))
      (λ (z : IsNamedIn o mine). inr (or_more (names o x.call) (list_any (λ y. names o y.call) mine) z))
      (walked_from n (walked_after n x.call over) mine e)

  -- the container of a cursor is named by the `iter` that made it
  walked_named : (n : ℕ) (mine : List NamedEntry) → walked_by n mine ≡ Some o → IsNamedIn o mine
  walked_named n mine e = ⊎_elim (λ (z : None ≡ Some o). absurd (cc)) (λ (z : IsNamedIn o mine). z) (walked_from n None mine e)

  -- ---- a container whose lock a call takes

  abbrev IsUsed : List NamedEntry → Call → Type 0
  IsUsed mine called = (list_any (λ x. x == o) (used_after mine called) ≡ true) × (IsNamedIn o mine ⊎ (names o called ≡ true))

  named_used : (mine : List NamedEntry) (called : Call) (a : ℕ) (other : Option ℕ) (objects : Objects) → Some (objects_by a other) ≡ Some objects → IsOf o objects → list_any (λ x. x == o) (one_or_two a other) ≡ true
  named_used mine called a other objects is of = objects_named o a other (subst (IsOf o) (let e : objects ≡ objects_by a other = cc in e) of)

  pub used : (hands : List (Option Cursor)) (mine : List NamedEntry) (called : Call) → ((n : ℕ) (walker : Cursor) → cursor_at hands n ≡ Some walker → walked_by n mine ≡ Some (container_of walker)) → IsLockedFor hands called o → IsUsed mine called
  used hands mine (call.Dict a c) walk (objects, is, of) = let x = named_used mine (call.Dict a c) a (other_dict c) objects is of in (x, inr x)
  used hands mine (call.List a c) walk (objects, is, of) = let x = named_used mine (call.List a c) a (other_list c) objects is of in (x, inr x)
  used hands mine (call.Set a c) walk (objects, is, of) = let x = named_used mine (call.Set a c) a (other_set c) objects is of in (x, inr x)
  used hands mine (call.Deque a c) walk (objects, is, of) = let x = named_used mine (call.Deque a c) a (other_deque c) objects is of in (x, inr x)
  used hands mine (call.Begin a b) walk (objects, is, of) = let x = named_used mine (call.Begin a b) a b objects is of in (x, inr x)
  used hands mine (call.Next n) walk (objects, is, of) = by (cursor_at hands n) refl
    where
      by : (found : Option Cursor) → cursor_at hands n ≡ found → IsUsed mine (call.Next n)
      by None at = absurd (let e : None ≡ Some objects = sym (ap (option_map (λ (w : Cursor). objects_by (container_of w) None)) at) ∙ is in cc)
      by (Some walker) at =
          let e : Some (objects_by (container_of walker) None) ≡ Some objects = sym (ap (option_map (λ (w : Cursor). objects_by (container_of w) None)) at) ∙ is in
          let here : list_any (λ x. x == o) (container_of walker ∷ []) ≡ true = named_used mine (call.Next n) (container_of walker) None objects e of in
          let goes = walk n walker at in
          let same : container_of walker ≡ o = one_is (container_of walker) o here in (
            ap (λ (found : Option ℕ). list_any (λ x. x == o) (option_map_or (λ p. p ∷ []) found [])) goes ∙ here,
            inl (walked_named n mine (goes ∙ ap (λ (p : ℕ). Some p) same)),
          )
  used hands mine call.End walk (objects, is, of) = absurd (let e : None ≡ Some objects = is in cc)
  used hands mine call.Quiesce walk (objects, is, of) = absurd (let e : None ≡ Some objects = is in cc)
  used hands mine (call.Await thread index) walk (objects, is, of) = absurd (let e : None ≡ Some objects = is in cc)
  used hands mine call.Dump walk (objects, is, of) = absurd (let e : None ≡ Some objects = is in cc)

-- ---- what stays found

found_more : (found more : List Owner) (mine : List NamedEntry) (called : Call) (other : ℕ) → AreOwners found more → IsFoundFor found mine called other → IsFoundFor more mine called other
found_more found more mine called other all x = (x.0, x.1, all x.0 (other + 1) x.2)

mark_more : (thread : ℕ) (found more : List Owner) (mine : List NamedEntry) (called : Call) (mark : Option ℕ) → AreOwners found more → IfSome mark (λ other. (other ≢ thread) × IsFoundFor found mine called other) → IfSome mark (λ other. (other ≢ thread) × IsFoundFor more mine called other)
mark_more thread found more mine called mark all is =
    if_some (λ other. (other ≢ thread) × IsFoundFor found mine called other) (λ other. (other ≢ thread) × IsFoundFor more mine called other) mark (λ other x. (x.0, found_more found more mine called other all x.1)) is

pub flight_more : (thread : ℕ) (found more : List Owner) (mine : List NamedEntry) (f : Flight) (mark : Option ℕ) → AreOwners found more → IsFlightFound thread found mine f mark → IsFlightFound thread more mine f mark
flight_more thread found more mine flight.Idle mark all is = tt
flight_more thread found more mine (flight.Tried called) mark all is = mark_more thread found more mine called mark all is
flight_more thread found more mine (flight.Answered called said stamp) mark all is = mark_more thread found more mine called mark all is
flight_more thread found more mine (flight.Refused called) mark all is = tt

pub marks_more_found : (found more : List Owner) (mine : List NamedEntry) → AreOwners found more → AreMarksFound found mine → AreMarksFound more mine
marks_more_found found more mine all marks place entry at = mark_more entry.thread found more (take place mine) entry.call entry.waited all (marks place entry at)

-- ---- one step of a pass, whatever it was

pub step_owned : (v w : View) (P : ℕ → Type 0) (s t : Stack) (f g : Flight) (mine : List NamedEntry) → w.number ≡ v.number → w.lists ≡ v.lists → LocksOnly P v w → FindsMore v w → AreOwnedBy v s f mine
    → IsFlightFound (v.number - 1) (found_owners w.log) mine g t.mark
    → ((o : ℕ) → FlightNames o f → IsNamedIn o mine ⊎ FlightNames o g)
    → ((o : ℕ) → P o → IsNamedIn o mine ⊎ FlightNames o g)
    → ((n : ℕ) → option_map container_of (cursor_in n w.log) ≡ walked_due g n (walked_by n mine))
    → AreBegunBy (locked_in t) (begun_due g (begin_calls mine))
    → AreOwnedBy w t g mine
step_owned v w P s t f g mine number lists only finds old waits before now walked begun = record {
  marked = marks_more_found (found_owners v.log) (found_owners w.log) mine finds old.marked;
  waits = subst (λ (n : ℕ). IsFlightFound (n - 1) (found_owners w.log) mine g t.mark) (sym number) waits;
  named = λ o has.
      ⊎_elim
      (λ (had : is_owner_in o w.number (had_locks v.number v.log) ≡ true).
      ⊎_elim (λ (in_mine : IsNamedIn o mine). inl in_mine) (λ (flies : FlightNames o f). before o flies)
      (old.named o (subst (λ (n : ℕ). is_owner_in o n (had_locks v.number v.log) ≡ true) number had)))
      (λ (new : (w.number ≡ w.number) × P o). now o new.1)
      (only o w.number has);
  within = λ o q has.
      let count : length w.lists ≡ length v.lists = ap length lists in
      ⊎_elim
      (λ (had : is_owner_in o q (had_locks v.number v.log) ≡ true). let r = old.within o q had in let a = r.0 in let b = r.1 in (omega (arith, a, number), omega (arith, b, number, count)))
      (λ (new : (q ≡ w.number) × P o). let e = new.0 in (omega (arith, e), omega (arith, e)))
      (only o q has);
  walked = walked;
  begun = begun;
}

-- ---- the call in flight

due_begun : (f : Flight) (calls : List Call) → (IsFlightAnswered f → ⊥) → begun_due f calls ≡ calls
due_begun flight.Idle calls no_answer = refl
due_begun (flight.Tried called) calls no_answer = refl
due_begun (flight.Answered called said stamp) calls no_answer = absurd (no_answer tt)
due_begun (flight.Refused called) calls no_answer = refl

due_walked : (f : Flight) (n : ℕ) (over : Option ℕ) → (IsFlightAnswered f → ⊥) → walked_due f n over ≡ over
due_walked flight.Idle n over no_answer = refl
due_walked (flight.Tried called) n over no_answer = refl
due_walked (flight.Answered called said stamp) n over no_answer = absurd (no_answer tt)
due_walked (flight.Refused called) n over no_answer = refl

module _ (f : Flight) (called : Call) (unanswered : IsFlightAnswered f → ⊥) (next : AllowsCall f called) where
  pub flight_named : (o : ℕ) → FlightNames o f → names o called ≡ true
  flight_named o is = by f unanswered next is
    where
      by : (g : Flight) → (IsFlightAnswered g → ⊥) → AllowsCall g called → FlightNames o g → names o called ≡ true
      by flight.Idle no_answer same is = absurd is
      by (flight.Tried tried) no_answer same is = subst (λ (c : Call). names o c ≡ true) same is
      by (flight.Answered c said stamp) no_answer same is = absurd (no_answer tt)
      by (flight.Refused c) no_answer same is = absurd same

  module _ (thread : ℕ) (found : List Owner) (mine : List NamedEntry) where
    abbrev IsMark : Option ℕ → Type 0
    IsMark mark = IfSome mark (λ other. (other ≢ thread) × IsFoundFor found mine called other)

    -- the mark that there is already
    pub mark_stays : (mark : Option ℕ) → (f ≡ flight.Idle → mark ≡ None) → IsFlightFound thread found mine f mark → IsMark mark
    mark_stays mark free is = by f mark unanswered next free is
      where
        by : (g : Flight) (m : Option ℕ) → (IsFlightAnswered g → ⊥) → AllowsCall g called → (g ≡ flight.Idle → m ≡ None) → IsFlightFound thread found mine g m → IsMark m
        by flight.Idle None no_answer same free is = tt
        by flight.Idle (Some first) no_answer same free is = absurd (let e : Some first ≡ None = free refl in cc)
        by (flight.Tried tried) m no_answer same free is = subst (λ (c : Call). IfSome m (λ other. (other ≢ thread) × IsFoundFor found mine c other)) same is
        by (flight.Answered c said stamp) m no_answer same free is = absurd (no_answer tt)
        by (flight.Refused c) m no_answer same free is = absurd same

-- the first that was found
pub mark_now : (thread : ℕ) (found : List Owner) (mine : List NamedEntry) (called : Call) (mark : Option ℕ) (owner : ℕ) → IfSome mark (λ other. (other ≢ thread) × IsFoundFor found mine called other) → (owner ≢ thread) × IsFoundFor found mine called owner → IfSome (Some (first_mark mark owner)) (λ other. (other ≢ thread) × IsFoundFor found mine called other)
mark_now thread found mine called None owner was now = now
mark_now thread found mine called (Some first) owner was now = was

other_thread : (number owner : ℕ) → 0 < number → owner + 1 ≢ number → owner ≢ number - 1
other_thread number owner some apart e = apart (omega (arith, some, e))

-- ---- a call without an answer

module _ (v w : View) (s t : Stack) (f : Flight) (mine : List NamedEntry) (called : Call) (hands : List (Option Cursor)) (number : w.number ≡ v.number) (lists : w.lists ≡ v.lists) (only : LocksOnly (IsLockedFor hands called) v w) (finds : FindsMore v w) (old : AreOwnedBy v s f mine) (unanswered : IsFlightAnswered f → ⊥) (next : AllowsCall f called) (free : f ≡ flight.Idle → s.mark ≡ None)
    (at_hand : (n : ℕ) (walker : Cursor) → cursor_at hands n ≡ Some walker → cursor_in n v.log ≡ Some walker) where
  walks : (n : ℕ) (walker : Cursor) → cursor_at hands n ≡ Some walker → walked_by n mine ≡ Some (container_of walker)
  walks n walker at = sym (old.walked n ∙ due_walked f n (walked_by n mine) unanswered) ∙ ap (option_map container_of) (at_hand n walker at)

  walked_same : ((n : ℕ) → cursor_in n w.log ≡ cursor_in n v.log) → (n : ℕ) → option_map container_of (cursor_in n w.log) ≡ walked_by n mine
  walked_same cursors n = ap (option_map container_of) (cursors n) ∙ (old.walked n ∙ due_walked f n (walked_by n mine) unanswered)

  before_named : (o : ℕ) → FlightNames o f → IsNamedIn o mine ⊎ (names o called ≡ true)
  before_named o flies = inr (flight_named f called unanswered next o flies)

  now_named : (o : ℕ) → IsLockedFor hands called o → IsNamedIn o mine ⊎ (names o called ≡ true)
  now_named o is = (used o hands mine called walks is).1

  begun_same : locked_in t ≡ locked_in s → AreBegunBy (locked_in t) (begin_calls mine)
  begun_same same = subst (λ (x : List (ℕ × ℕ) × List Call). AreBegunBy x.0 x.1) (λ i. (sym same i, due_begun f (begin_calls mine) unanswered i)) old.begun

  was_marked : IfSome s.mark (λ other. (other ≢ v.number - 1) × IsFoundFor (found_owners w.log) mine called other)
  was_marked =
      mark_more (v.number - 1) (found_owners v.log) (found_owners w.log) mine called s.mark finds
      (mark_stays f called unanswered next (v.number - 1) (found_owners v.log) mine s.mark free old.waits)

  -- it waits
  pub waits_owned : (o owner : ℕ) (own : Taking) → ((n : ℕ) → cursor_in n w.log ≡ cursor_in n v.log) → 0 < v.number → owner + 1 ≢ v.number → is_owner_in o (owner + 1) (found_owners w.log) ≡ true → IsLockedFor hands called o → t ≡ waiting (with_own s own) owner → AreOwnedBy w t (flight.Tried called) mine
  waits_owned o owner own cursors some apart found needs stack =
      let u = used o hands mine called walks needs in
      let here : list_any (λ x. x == o) (needed_after mine called) ≡ true = list_any-append (λ x. x == o) (used_after mine called) (inner_after called (begins_of mine)) ∙ or_here (list_any (λ x. x == o) (used_after mine called)) (list_any (λ x. x == o) (inner_after called (begins_of mine))) u.0 in
      step_owned v w (IsLockedFor hands called) s t f (flight.Tried called) mine number lists only finds old
      (subst (λ (x : Stack). IsFlightFound (v.number - 1) (found_owners w.log) mine (flight.Tried called) x.mark) (sym stack)
      (mark_now (v.number - 1) (found_owners w.log) mine called s.mark owner was_marked (other_thread v.number owner some apart, (o, here, found))))
      before_named now_named (walked_same cursors) (begun_same (ap locked_in stack ∙ locked_waiting s own owner))

  -- it is tried again
  pub again_owned : ((n : ℕ) → cursor_in n w.log ≡ cursor_in n v.log) → t ≡ with_own s nothing_taken → AreOwnedBy w t (flight.Tried called) mine
  again_owned cursors stack =
      step_owned v w (IsLockedFor hands called) s t f (flight.Tried called) mine number lists only finds old
      (subst (λ (x : Stack). IsFlightFound (v.number - 1) (found_owners w.log) mine (flight.Tried called) x.mark) (sym stack) was_marked)
      before_named now_named (walked_same cursors) (begun_same (ap locked_in stack))

  -- it was refused
  pub refused_owned : ((n : ℕ) → cursor_in n w.log ≡ cursor_in n v.log) → t ≡ with_own s nothing_taken → AreOwnedBy w t (flight.Refused called) mine
  refused_owned cursors stack =
      step_owned v w (IsLockedFor hands called) s t f (flight.Refused called) mine number lists only finds old tt before_named now_named (walked_same cursors) (begun_same (ap locked_in stack))

  -- it has its answer
  pub answered_owned : (said : Reply) (stamp : Stamp) → HasWalked called v w → StackAfter called s t → t.mark ≡ s.mark → AreOwnedBy w t (flight.Answered called said stamp) mine
  answered_owned said stamp moved stack mark =
      step_owned v w (IsLockedFor hands called) s t f (flight.Answered called said stamp) mine number lists only finds old
      (subst (λ (m : Option ℕ). IfSome m (λ other. (other ≢ v.number - 1) × IsFoundFor (found_owners w.log) mine called other)) (sym mark) was_marked)
      before_named now_named
      (λ n. moved n ∙ ap (walked_after n called) (old.walked n ∙ due_walked f n (walked_by n mine) unanswered))
      (stack_begun called s t (begin_calls mine) stack (subst (AreBegunBy (locked_in s)) (due_begun f (begin_calls mine) unanswered) old.begun))

-- ---- the innermost section is taken up again

abbrev IsTop : OpenSection → ℕ → Type 0
IsTop top o = (o ≡ top.locks.lower) ⊎ (o ≡ top.locks.upper)

module _ (v w : View) (s : Stack) (called : Call) (said : Reply) (stamp : Stamp) (mine : List NamedEntry) (number : w.number ≡ v.number) (lists : w.lists ≡ v.lists) (finds : FindsMore v w) (cursors : (n : ℕ) → cursor_in n w.log ≡ cursor_in n v.log) (old : AreOwnedBy v s (flight.Answered called said stamp) mine) where
  top_of : (outer : List OpenSection) (top : OpenSection) → s.sections ≡ outer ++ top ∷ [] → (o : ℕ) → IsTop top o → (list_any (λ x. x == o) (inner_after called (begins_of mine)) ≡ true) × (IsNamedIn o mine ⊎ (names o called ≡ true))
  top_of outer top cut o is =
      top_inner o mine called (pair_of top) (reverse (map pair_of outer))
      (subst (λ (pairs : List (ℕ × ℕ)). AreBegunBy pairs (begun_after called (begin_calls mine))) (ap (λ (xs : List OpenSection). reverse (map pair_of xs)) cut ∙ push_pair outer top) old.begun) is

  was_kept : (mark : Option ℕ) → mark ≡ s.mark → IfSome mark (λ other. (other ≢ v.number - 1) × IsFoundFor (found_owners w.log) mine called other)
  was_kept mark same =
      mark_more (v.number - 1) (found_owners v.log) (found_owners w.log) mine called mark finds
      (subst (λ (m : Option ℕ). IfSome m (λ other. (other ≢ v.number - 1) × IsFoundFor (found_owners v.log) mine called other)) (sym same) old.waits)

  still : (P : ℕ → Type 0) (t : Stack) → LocksOnly P v w → ((o : ℕ) → P o → IsNamedIn o mine ⊎ (names o called ≡ true)) → IfSome t.mark (λ other. (other ≢ v.number - 1) × IsFoundFor (found_owners w.log) mine called other) → locked_in t ≡ locked_in s → AreOwnedBy w t (flight.Answered called said stamp) mine
  still P t only now marked same =
      step_owned v w P s t (flight.Answered called said stamp) (flight.Answered called said stamp) mine number lists only finds old marked (λ o flies. inr flies) now
      (λ n. ap (option_map container_of) (cursors n) ∙ old.walked n)
      (subst (λ (pairs : List (ℕ × ℕ)). AreBegunBy pairs (begun_after called (begin_calls mine))) (sym same) old.begun)

  -- it has to wait for its locks
  pub waits_on_owned : (t : Stack) (own : Taking) (outer : List OpenSection) (top : OpenSection) (o owner : ℕ) → s.sections ≡ outer ++ top ∷ [] → LocksOnly (IsTop top) v w → IsTop top o → 0 < v.number → owner + 1 ≢ v.number → is_owner_in o (owner + 1) (found_owners w.log) ≡ true → t ≡ waiting (with_own s own) owner → AreOwnedBy w t (flight.Answered called said stamp) mine
  waits_on_owned t own outer top o owner cut only needs some apart found stack =
      let u = top_of outer top cut o needs in
      let here : list_any (λ x. x == o) (needed_after mine called) ≡ true = list_any-append (λ x. x == o) (used_after mine called) (inner_after called (begins_of mine)) ∙ or_more (list_any (λ x. x == o) (used_after mine called)) (list_any (λ x. x == o) (inner_after called (begins_of mine))) u.0 in
      still (IsTop top) t only (λ p is. (top_of outer top cut p is).1)
      (subst (λ (x : Stack). IfSome x.mark (λ other. (other ≢ v.number - 1) × IsFoundFor (found_owners w.log) mine called other)) (sym stack)
      (mark_now (v.number - 1) (found_owners w.log) mine called s.mark owner (was_kept s.mark refl) (other_thread v.number owner some apart, (o, here, found))))
      (ap locked_in stack ∙ locked_waiting s own owner)

  -- the locks that it took are those of the section
  pub up_owned : (P : ℕ → Type 0) → LocksOnly P v w → ((outer : List OpenSection) (top : OpenSection) → s.sections ≡ outer ++ top ∷ [] → (o : ℕ) → P o → IsTop top o) → (s.sections ≡ [] → (o : ℕ) → P o → ⊥) → AreOwnedBy w s (flight.Answered called said stamp) mine
  up_owned P only top none =
      still P s only
      (λ o is.
      ⊎_elim (λ (nil : s.sections ≡ []). absurd (none nil o is))
      (λ (r : (outer : List OpenSection) × (t : OpenSection) × (s.sections ≡ outer ++ t ∷ [])). (top_of r.0 r.1 r.2 o (top r.0 r.1 r.2 o is)).1) (last_of s.sections))
      (was_kept s.mark refl) refl

-- the call has ended
named_push : (o : ℕ) (mine : List NamedEntry) (e : NamedEntry) → IsNamedIn o mine ⊎ (names o e.call ≡ true) → IsNamedIn o (mine ++ e ∷ [])
named_push o mine e is =
    list_any-append (λ x. names o x.call) mine (e ∷ [])
    ∙ ⊎_elim (λ (there : IsNamedIn o mine). or_here (list_any (λ x. names o x.call) mine) (names o e.call || false) there)
    (λ (here : names o e.call ≡ true). or_more (list_any (λ x. names o x.call) mine) (names o e.call || false) (or_here (names o e.call) false here)) is

module _ (w : View) (s t : Stack) (thread : ℕ) (called : Call) (said : Reply) (stamp : Stamp) (mine : List NamedEntry) (same : thread ≡ w.number - 1) (old : AreOwnedBy w s (flight.Answered called said stamp) mine) (up : TakenUp s t) where
  abbrev e : NamedEntry
  e = named_entry thread mine called said stamp s.mark

  marked_all : AreMarksFound (found_owners w.log) (mine ++ e ∷ [])
  marked_all place entry at =
      ⊎_elim
      (λ (there : slice_get mine place ≡ Some entry).
      let low = slice_get_within mine place entry there in
      subst (λ (es : List NamedEntry). IfSome entry.waited (λ other. (other ≢ entry.thread) × IsFoundFor (found_owners w.log) es entry.call other)) (sym (take-append-le place mine (e ∷ []) (omega (arith, low))))
      (old.marked place entry there))
      (λ (end : (place ≡ length mine) × (e ≡ entry)).
      subst (λ (x : NamedEntry). IfSome x.waited (λ other. (other ≢ x.thread) × IsFoundFor (found_owners w.log) (take place (mine ++ e ∷ [])) x.call other)) end.1
      (subst (λ (es : List NamedEntry). IfSome s.mark (λ other. (other ≢ thread) × IsFoundFor (found_owners w.log) es called other)) (sym (take_at mine (e ∷ []) place (sym end.0)))
      (subst (λ (n : ℕ). IfSome s.mark (λ other. (other ≢ n) × IsFoundFor (found_owners w.log) mine called other)) (sym same) old.waits)))
      (slice_get_push mine e place entry at)

  pub done_owned : AreOwnedBy w t flight.Idle (mine ++ e ∷ [])
  done_owned = record {
    marked = marked_all;
    waits = tt;
    named = λ o has. inl (named_push o mine e (old.named o has));
    within = old.within;
    walked = λ n. old.walked n ∙ sym (fold-append (λ before entry. walked_after n entry.call before) None mine (e ∷ []));
    begun = subst (λ (x : List (ℕ × ℕ) × List Call). AreBegunBy x.0 x.1) (λ i. (sym (locked_up s t up) i, sym (begun_push mine e) i)) old.begun;
  }

-- ---- nothing of a call

-- the pass did what leaves its owners and its cursors
pub calm_owned : (v w : View) (s : Stack) (f : Flight) (mine : List NamedEntry) → w.number ≡ v.number → w.lists ≡ v.lists → SameOwners v w → ((n : ℕ) → cursor_in n w.log ≡ cursor_in n v.log) → AreOwnedBy v s f mine → AreOwnedBy w s f mine
calm_owned v w s f mine number lists same cursors old =
    let finds = same_finds_more v w same in
    step_owned v w (λ o. ⊥) s s f f mine number lists (same_locks_only (λ o. ⊥) v w same) finds old (flight_more (v.number - 1) (found_owners v.log) (found_owners w.log) mine f s.mark finds old.waits) (λ o flies. inr flies) (λ o no. absurd no)
    (λ n. ap (option_map container_of) (cursors n) ∙ old.walked n) old.begun

-- a caller that has made no call
pub start_owned : (v : View) (s : Stack) → v.log ≡ [] → s.sections ≡ [] → AreOwnedBy v s flight.Idle []
start_owned v s log none = record {
  marked = λ place entry at. absurd (let e : None ≡ Some entry = at in cc);
  waits = tt;
  named = λ o has. absurd (no_owner o v.number has);
  within = λ o q has. absurd (no_owner o q has);
  walked = λ n. ap (λ (l : List Act). option_map container_of (cursor_in n l)) log;
  begun = subst (λ (pairs : List (ℕ × ℕ)). AreBegunBy pairs []) (sym (ap (λ (xs : List OpenSection). reverse (map pair_of xs)) none)) tt;
}
  where
    no_owner : (o q : ℕ) → is_owner_in o q (had_locks v.number v.log) ≡ true → ⊥
    no_owner o q has = absurd (let e : false ≡ true = sym (ap (λ (l : List Act). is_owner_in o q (had_locks v.number l)) log) ∙ has in cc)

-- a caller that gives up with no section open, and a call in flight that names nothing that its entries don't name
pub abandoned_owned : (v w : View) (s t : Stack) (f : Flight) (mine : List NamedEntry) → w.number ≡ v.number → w.lists ≡ v.lists → SameOwners v w → ((n : ℕ) → cursor_in n w.log ≡ cursor_in n v.log) → (IsFlightAnswered f → ⊥) → ((o : ℕ) → FlightNames o f → IsNamedIn o mine) → s.sections ≡ [] → t.sections ≡ [] → AreOwnedBy v s f mine → AreOwnedBy w t flight.Idle mine
abandoned_owned v w s t f mine number lists same cursors unanswered names none gone old =
    step_owned v w (λ o. ⊥) s t f flight.Idle mine number lists (same_locks_only (λ o. ⊥) v w same) (same_finds_more v w same) old tt (λ o flies. inl (names o flies)) (λ o no. absurd no)
    (λ n. ap (option_map container_of) (cursors n) ∙ (old.walked n ∙ due_walked f n (walked_by n mine) unanswered))
    (subst (λ (x : List (ℕ × ℕ) × List Call). AreBegunBy x.0 x.1) (λ i. ((ap pairs_in none ∙ sym (ap pairs_in gone)) i, due_begun f (begin_calls mine) unanswered i)) old.begun)
  where
    pairs_in : List OpenSection → List (ℕ × ℕ)
    pairs_in xs = reverse (map pair_of xs)
