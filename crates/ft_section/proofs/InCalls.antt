-- What holds in a call stays while locks are taken and let go.
use Rattle.std.proofs.Common.{◌≡◌, ◌≢◌, ◌<◌, ◌+◌, ◌⊎◌, ℕ, Bool, true, false, List, inl, inr, ⊎_elim, refl, sym, ap, ◌∙◌, subst, arith}
use Rattle.std.specs.Prelude.{if◌then◌else◌, All}
use mathlib.Core.Logic.{dite}
use native.Mathlib.Decide.{ℕ_discrete}
use Rattle.ft_bank.specs.declared.bank.Bank.{Bank}
use Rattle.ft_bank.specs.declared.pass.Pass.{Pass}
use Rattle.ft_bank.specs.declared.sections.Taking.{Taking}
use Rattle.ft_bank.specs.Passes.{view, KeepsAll}
use Rattle.ft_bank.specs.PassSections.{Stack, stack_of, taken_in, nothing_taken}
use Rattle.ft_section.specs.Ready.{InCall, IsInCall, HasMarks, lock_count, AreBegun}
use Rattle.ft_section.specs.Locking.{OnlyLocked, TookLocks, KeepsStack, with_own}
use Rattle.ft_section.specs.LockTakings.{IsLockTaking, IsOwnFor, HasBoth}
use Rattle.ft_bank.proofs.DoneBoxes.{done_as}
use Rattle.ft_trace.specs.declared.Shape.{Shape}
use Rattle.ft_trace.specs.declared.View.{View}
use Rattle.ft_trace.specs.Addresses.{container_count}
use Rattle.ft_trace.specs.Acts.{has_lock}
use Rattle.ft_trace.specs.Holds.{held_unboxed, known_state}
use Rattle.ft_trace.specs.BegunSections.{Begun}
use Rattle.ft_trace.specs.Pictures.{ContainerWords, Represents}

abbrev pub one_if : Bool → ℕ
one_if b = if b then 1 else 0

pub counted : (b : Bool) → one_if b ≢ 0 → b ≡ true
counted true some_one = refl
counted false some_one = absurd (some_one refl)

-- a lock is counted exactly where the pass has it
pub has_counted : (o : ℕ) (v : View) → lock_count o v ≢ 0 → has_lock o v.log ≡ true
has_counted o v = counted (has_lock o v.log)

pub counted_has : (o : ℕ) (v : View) → has_lock o v.log ≡ true → lock_count o v ≡ 1
counted_has o v has = ap one_if has

-- what stands of a lock that the pass had stands where it knows the same
pub still_stands : (v w : View) → OnlyLocked v w → (o : ℕ) → o < container_count v.shape → has_lock o v.log ≡ true → has_lock o w.log ≡ true → Represents v.shape.texts (held_unboxed o v) (known_state o v) → Represents w.shape.texts (held_unboxed o w) (known_state o w)
still_stands v w l o low had has stands =
    let k = l.knows o low had has in
    subst (λ (s : Shape). Represents s.texts (held_unboxed o w) (known_state o w)) (sym l.shape)
    (subst (λ (x : ContainerWords). Represents v.shape.texts x (known_state o w)) (sym k.2)
    (subst (Represents v.shape.texts (held_unboxed o v)) (sym k.1) stands))

-- the pass has taken locks, which the call in flight notes as its own
pub took_in_call : (v w : View) (s : Stack) (amount : ℕ → ℕ) (own : Taking) → InCall v s → TookLocks amount v w → ((o : ℕ) → taken_in o own ≡ taken_in o s.own + amount o) → InCall w (with_own s own)
took_in_call v w s amount own i t is =
    let had : (o : ℕ) → has_lock o w.log ≡ true → amount o ≡ 0 → has_lock o v.log ≡ true = λ o has none. has_counted o v (λ zero_v. let c = t.count o in let h = counted_has o w has in omega (arith, c, h, none, zero_v)) in
    record {
      still = record {
        even = λ o. t.locked.writes o ∙ i.still.even o;
        hands = λ n. subst (λ (m : ℕ). (m ≡ 0) ⊎ (m ≡ 4)) (sym (t.locked.hands n)) (i.still.hands n);
        used = t.locked.used ∙ i.still.used;
        owes = t.locked.owes ∙ i.still.owes;
        flight = t.locked.flight ∙ i.still.flight;
        boxes = done_as v w t.locked.references t.locked.made i.still.boxes;
        stands = λ o low has. dite (ℕ_discrete (amount o) 0)
            (λ none. let h = had o has none in still_stands v w t.locked o (i.low o h) h has (i.still.stands o (i.low o h) h))
            (λ some_one. t.stands o some_one);
      };
      locks = λ o. let a = i.locks o in let b = is o in let c = t.count o in omega (arith, a, b, c);
      low = λ o has. subst (λ (k : Shape). o < container_count k) (sym t.locked.shape) (dite (ℕ_discrete (amount o) 0) (λ none. i.low o (had o has none)) (λ some_one. t.low o some_one));
      sections = subst (λ (k : Shape). All (λ section. IsLockTaking k section.locks) s.sections) (sym t.locked.shape) i.sections;
      begun = subst (λ (b : List Begun). AreBegun s.sections b) (sym t.begun) i.begun;
      marked = λ q e outer top split. let m = i.marked q e outer top split in (m.0, ⊎_elim (λ (x : HasMarks top). inl x) (λ (x : HasBoth v top.locks). inr (t.keeps top.locks.lower x.0, t.keeps top.locks.upper x.1)) m.1);
    }

-- the same of a pass, whose locks of its call are put after that
pub took_pass : (b : Bank) (p q r : Pass) (amount : ℕ → ℕ) (own : Taking) → IsInCall b p → KeepsStack p q → TookLocks amount (view p) (view q) → ((o : ℕ) → taken_in o own ≡ taken_in o (stack_of p).own + amount o) → KeepsAll q r → stack_of r ≡ with_own (stack_of q) own → IsInCall b r
took_pass b p q r amount own i k t is same put =
    let j = took_in_call (view p) (view q) (stack_of p) amount own i.1 t is in
    let stack : stack_of r ≡ with_own (stack_of p) own = put ∙ ap (λ (s : Stack). with_own s own) k.1 in
    ((same.0 ∙ (k.0 ∙ i.0.0), ap (λ (v : View). v.shape) same.1 ∙ (t.locked.shape ∙ i.0.1)), subst (InCall (view r)) (sym stack) (subst (λ (v : View). InCall v (with_own (stack_of p) own)) (sym same.1) j))

-- and of one that took none
pub tried_pass : (b : Bank) (p q : Pass) → IsInCall b p → KeepsStack p q → TookLocks (λ o. 0) (view p) (view q) → IsInCall b q
tried_pass b p q i k t =
    took_pass b p q q (λ o. 0) (stack_of p).own i k t (λ o. omega arith) (refl, refl) (k.1 ∙ sym (ap (λ (s : Stack). with_own s (stack_of p).own) k.1))

-- a call that begins, or is tried again, names its containers before it takes their locks
abbrev pub named : ℕ → ℕ → Taking → Taking
named lower upper own =
    record { lower = lower; upper = upper; took_lower = own.took_lower; took_upper = own.took_upper }

pub named_same : (lower upper : ℕ) (own : Taking) → IsOwnFor lower upper own → (o : ℕ) → taken_in o (named lower upper own) ≡ taken_in o own
named_same lower upper own is o =
    ⊎_elim (λ (e : own ≡ nothing_taken). ap (λ (t : Taking). taken_in o (named lower upper t)) e ∙ sym (ap (taken_in o) e))
    (λ (e : (own.lower ≡ lower) × (own.upper ≡ upper) × (own.took_upper ≡ false)).
    ap (λ (x : ℕ). taken_in o (named x upper own)) (sym e.0) ∙ ap (λ (x : ℕ). taken_in o (named own.lower x own)) (sym e.1)) is

pub own_pass : (b : Bank) (p q : Pass) (lower upper : ℕ) → IsInCall b p → IsOwnFor lower upper (stack_of p).own → KeepsAll p q → stack_of q ≡ with_own (stack_of p) (named lower upper (stack_of p).own) → IsInCall b q
own_pass b p q lower upper i own same put =
    let s = stack_of p in
    let j : InCall (view p) (with_own s (named lower upper s.own)) = record {
      still = i.1.still;
      locks = λ o. let a = i.1.locks o in let e = named_same lower upper s.own own o in omega (arith, a, e);
      low = i.1.low;
      sections = i.1.sections;
      begun = i.1.begun;
      marked = i.1.marked;
    } in
    ((same.0 ∙ i.0.0, ap (λ (v : View). v.shape) same.1 ∙ i.0.1), subst (InCall (view q)) (sym put) (subst (λ (v : View). InCall v (with_own s (named lower upper s.own))) (sym same.1) j))
