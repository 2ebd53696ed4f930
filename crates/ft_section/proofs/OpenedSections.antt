-- A section is opened: its entry is made, and what its call took is the section's.
use Rattle.std.proofs.Common.{◌≡◌, ◌<◌, ◌≤◌, ◌⊎◌, ◌==◌, ◌||◌, ◌&&◌, ℕ, Bool, true, false, cond, List, [], ◌∷◌, ◌++◌, inl, inr, ⊎_elim, refl, sym, ap, ◌∙◌, subst, arith}
use Rattle.std.specs.Prelude.{All, if◌then◌else◌, nat_lt}
use Rattle.std.proofs.lemmas.Bool.{eqb-true, eq-eqb, ltb-true, ltb-false}
use Rattle.std.proofs.lemmas.List.{same_from_push}
use Rattle.std.proofs.lemmas.List.Elements.{All-push}
use Rattle.ft_bank.specs.declared.bank.Bank.{Bank}
use Rattle.ft_bank.specs.declared.pass.Pass.{Pass}
use Rattle.ft_bank.specs.declared.sections.OpenSection.{OpenSection}
use Rattle.ft_bank.specs.Passes.{shape_of, view}
use Rattle.ft_bank.specs.PassSections.{stack_of, noted_in, nothing_taken}
use Rattle.ft_bank.proofs.DoneBoxes.{done_as}
use Rattle.ft_model.specs.declared.reply.Reply.TheVariants as reply
use Rattle.ft_model.specs.Calls.{containers_of}
use Rattle.ft_section.specs.declared.answers.Objects.{Objects}
use Rattle.ft_section.specs.declared.answers.Objects.TheVariants.{One, Two}
use Rattle.ft_section.specs.Ready.{InCall, HasMarks, AreBegun, IsBegun, IsMaking}
use Rattle.ft_section.specs.Sectioning.{AreNoted, begin_of, answered_view}
use Rattle.ft_section.specs.LockTakings.{IsLockTaking, AreIn, HasLocks, HasBoth, lower_of, upper_of}
use Rattle.ft_section.proofs.InCalls.{counted_has}
use Rattle.ft_section.proofs.Resumes.{noted_push}
use Rattle.ft_trace.specs.declared.Act.{Act}
use Rattle.ft_trace.specs.declared.Act.TheVariants.{ReadCounter}
use Rattle.ft_trace.specs.declared.Shape.{Shape}
use Rattle.ft_trace.specs.declared.View.{View}
use Rattle.ft_trace.specs.Addresses.{container_count}
use Rattle.ft_trace.specs.Acts.{has_lock}
use Rattle.ft_trace.specs.BegunSections.{Begun, begun, is_among, since_load, all_since_load}

twice : (b : Bool) → cond b true false ≡ (b || b)
twice true = refl
twice false = refl

either_one : (a b : Bool) → cond a true (cond b true false) ≡ (a || b)
either_one true b = refl
either_one false true = refl
either_one false false = refl

either_other : (a b : Bool) → cond a true (cond b true false) ≡ (b || a)
either_other true true = refl
either_other true false = refl
either_other false true = refl
either_other false false = refl

among_same : (lt : Bool) (a o : ℕ) → cond (a == o) true false ≡ (((if lt then a else a) == o) || ((if lt then a else a) == o))
among_same true a o = twice (a == o)
among_same false a o = twice (a == o)

among_two : (lt : Bool) (a b o : ℕ) → cond (a == o) true (cond (b == o) true false) ≡ (((if lt then b else a) == o) || ((if lt then a else b) == o))
among_two true a b o = either_other (a == o) (b == o)
among_two false a b o = either_one (a == o) (b == o)

among_if : (same lt : Bool) (a b o : ℕ) → (same ≡ true → a ≡ b) → is_among o (if same then a ∷ [] else a ∷ b ∷ []) ≡ (((if lt then b else a) == o) || ((if lt then a else b) == o))
among_if true lt a b o e =
    subst (λ (x : ℕ). cond (a == o) true false ≡ (((if lt then x else a) == o) || ((if lt then a else x) == o))) (e refl) (among_same lt a o)
among_if false lt a b o e = among_two lt a b o

-- the containers of the `begin`, the lower one first
among : (objects : Objects) (o : ℕ) → is_among o (containers_of (begin_of objects)) ≡ ((lower_of objects == o) || (upper_of objects == o))
among (One a) o = twice (a == o)
among (Two a b) o = among_if (a == b) (nat_lt b a) a b o (eqb-true a b)

or_true : (a b : Bool) → (a || b) ≡ true → (a ≡ true) ⊎ (b ≡ true)
or_true true b e = inl refl
or_true false b e = inr e

cond_later : (a b : Bool) → b ≡ true → cond a true b ≡ true
cond_later true b e = refl
cond_later false b e = e

and_true : (a b : Bool) → a ≡ true → b ≡ true → (a && b) ≡ true
and_true a b e f = ap (λ (x : Bool). x && b) e ∙ f

-- locks that the pass has are held since the load that comes next
all_since : (os : List ℕ) (n : ℕ) (l : List Act) → ((o : ℕ) → is_among o os ≡ true → has_lock o l ≡ true) → all_since_load os n (ReadCounter n ∷ l) ≡ true
all_since [] n l has = refl
all_since (o ∷ os) n l has =
    let here : has_lock o l ≡ true = has o (ap (λ (b : Bool). cond b true (is_among o os)) (eq-eqb o o refl)) in
    let since : since_load o n (ReadCounter n ∷ l) ≡ true = ap (λ (b : Bool). cond b (has_lock o l) (since_load o n l)) (eq-eqb n n refl) ∙ here in
    and_true (since_load o n (ReadCounter n ∷ l)) (all_since_load os n (ReadCounter n ∷ l)) since (all_since os n l (λ p e. has p (cond_later (o == p) (is_among p os) e)))

-- the section that is begun last, by its call
begun_here : (objects : Objects) (n : ℕ) (v : View) → begun (answered_view (begin_of objects) reply.Entered n v).log ≡ record { containers = containers_of (begin_of objects); stamp = n; held = all_since_load (containers_of (begin_of objects)) n (ReadCounter n ∷ v.log) } ∷ begun v.log
begun_here (One a) n v = refl
begun_here (Two a b) n v = refl

-- what holds when a section is open
pub entered : (b : Bank) (p : Pass) (objects : Objects) (n : ℕ) → IsMaking b p → AreIn (shape_of b) objects → HasLocks (view p) objects → AreNoted objects (stack_of p).own → lower_of objects ≤ upper_of objects → InCall (answered_view (begin_of objects) reply.Entered n (view p)) (record (stack_of p) { sections = (stack_of p).sections ++ record { locks = (stack_of p).own; marks = 0 } ∷ []; own = nothing_taken })
entered b p objects n m low has noted order =
    let v = view p in
    let s = stack_of p in
    let i = m.inside.1 in
    let here : OpenSection = record { locks = s.own; marks = 0 } in
    let lower : has_lock s.own.lower v.log ≡ true = subst (λ (o : ℕ). has_lock o v.log ≡ true) (sym noted.lower) has.0 in
    let upper : has_lock s.own.upper v.log ≡ true = subst (λ (o : ℕ). has_lock o v.log ≡ true) (sym noted.upper) has.1 in
    let counted : (o : ℕ) → has_lock o v.log ≡ true → noted_in o (s.sections ++ here ∷ []) ≡ 1 = λ o h.
    let a = i.locks o in let e = noted_push o s.sections here in let c = counted_has o v h in omega (arith, a, e, c) in
    let all : all_since_load (containers_of (begin_of objects)) n (ReadCounter n ∷ v.log) ≡ true = all_since (containers_of (begin_of objects)) n v.log
    (λ o e. ⊎_elim (λ (x : (lower_of objects == o) ≡ true). subst (λ (z : ℕ). has_lock z v.log ≡ true) (eqb-true (lower_of objects) o x) has.0)
    (λ (x : (upper_of objects == o) ≡ true). subst (λ (z : ℕ). has_lock z v.log ≡ true) (eqb-true (upper_of objects) o x) has.1)
    (or_true (lower_of objects == o) (upper_of objects == o) (sym (among objects o) ∙ e))) in
    let this : Begun = record { containers = containers_of (begin_of objects); stamp = n; held = all_since_load (containers_of (begin_of objects)) n (ReadCounter n ∷ v.log) } in
    let is_begun : IsBegun (s.sections ++ here ∷ []) here this = record {
      containers = λ o. among objects o ∙ (ap (λ (z : ℕ). (z == o) || (upper_of objects == o)) (sym noted.lower) ∙ ap (λ (z : ℕ). (s.own.lower == o) || (z == o)) (sym noted.upper));
      kept = λ _. (all, counted s.own.lower lower, counted s.own.upper upper);
    } in
    record {
      still = record {
        even = i.still.even;
        hands = i.still.hands;
        used = i.still.used;
        owes = i.still.owes;
        flight = i.still.flight;
        boxes = done_as v (answered_view (begin_of objects) reply.Entered n v) (λ c. refl) (record { state = λ c. refl; local = λ c. refl; taken = λ c. refl; places = λ c. refl; uses = λ c. refl; raised = λ c. refl }) i.still.boxes;
        stands = i.still.stands;
      };
      locks = λ o. let a = i.locks o in let e = noted_push o s.sections here in omega (arith, a, e);
      low = i.low;
      sections = All-push (λ x. IsLockTaking v.shape x.locks) s.sections here i.sections (record {
        order = omega (arith, order, noted.lower, noted.upper);
        low = subst (λ (k : Shape). s.own.upper < container_count k) (sym m.inside.0.1) (subst (λ (z : ℕ). z < container_count (shape_of b)) (sym noted.upper) low.1);
        once = noted.once;
      });
      begun = subst (λ (x : List Begun). AreBegun (s.sections ++ here ∷ []) x) (sym (begun_here objects n v)) (inr (s.sections, here, refl, is_begun, i.begun));
      marked = λ q e outer top cut.
          let same = same_from_push s.sections outer here top cut in
          (subst (All HasMarks) same.0 (m.waited q e).0, inr (subst (λ (x : OpenSection). HasBoth v x.locks) same.1 (lower, upper)));
    }

order_if : (lt : Bool) (a b : ℕ) → (lt ≡ true → b < a) → (lt ≡ false → a ≤ b) → (if lt then b else a) ≤ (if lt then a else b)
order_if true a b less more = let l = less refl in omega (arith, l)
order_if false a b less more = more refl

-- the lower one comes first
pub in_order : (objects : Objects) → lower_of objects ≤ upper_of objects
in_order (One a) = omega arith
in_order (Two a b) = order_if (nat_lt b a) a b (ltb-true b a) (ltb-false b a)
