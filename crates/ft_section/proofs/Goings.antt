-- What holds in a call stays where locks are let go that nothing notes any more.
use Rattle.std.proofs.Common.{◌≡◌, ◌≢◌, ◌<◌, ◌≤◌, ◌+◌, ◌⊎◌, ℕ, Bool, true, false, List, ◌∷◌, ◌++◌, inl, inr, ⊎_elim, refl, sym, ap, ◌∙◌, subst, arith, append_assoc, le_trans}
use Rattle.std.specs.Prelude.{All, Option, Some, None}
use Rattle.ft_bank.specs.declared.bank.Bank.{Bank}
use Rattle.ft_bank.specs.declared.pass.Pass.{Pass}
use Rattle.ft_bank.specs.Passes.{view, KeepsAll}
use Rattle.ft_bank.specs.PassSections.{Stack, stack_of, taken_in, noted_in, nothing_taken}
use Rattle.ft_section.specs.declared.answers.Objects.{Objects}
use Rattle.ft_section.specs.Ready.{IsStill, IsWaiting, InCall, IsInCall, HasMarks, AreMarked, AreSuspended, AreBegun, IsReady, MayTry, NotesTop, lock_count}
use Rattle.ft_section.specs.Locking.{OnlyLocked, LetGo, MayLetGo, FoundOwner, with_own}
use Rattle.ft_section.specs.LockTakings.{IsLockTaking}
use Rattle.ft_bank.proofs.DoneBoxes.{done_as}
use Rattle.ft_section.proofs.InCalls.{one_if, has_counted, counted_has, still_stands}
use Rattle.ft_section.proofs.Waits.{marked_split}
use Rattle.ft_trace.specs.declared.Act.{Act}
use Rattle.ft_trace.specs.declared.Act.TheVariants.{Lock}
use Rattle.ft_trace.specs.declared.Shape.{Shape}
use Rattle.ft_trace.specs.declared.View.{View}
use Rattle.ft_trace.specs.Addresses.{container_count}
use Rattle.ft_trace.specs.Acts.{has_lock, is_writing, shown, seen_writes}
use Rattle.ft_bank.proofs.Seen.{seen_rises}
use Rattle.std.specs.Prelude.{max}
use Rattle.std.proofs.Math.Nat.{le-max_left, le-max_right, max-le}
use Rattle.ft_trace.specs.BegunSections.{begun}

one_least : (b : Bool) → one_if b ≤ 1
one_least true = omega arith
one_least false = omega arith

-- a lock is counted at most once
pub count_least : (o : ℕ) (v : View) → lock_count o v ≤ 1
count_least o v = one_least (has_lock o v.log)

-- where this was noted before, t is kept after
pub went_from : (v w : View) (t : Stack) (amount before : ℕ → ℕ) → IsStill v → ((o : ℕ) → before o ≡ lock_count o v) → ((o : ℕ) → has_lock o v.log ≡ true → o < container_count v.shape) → LetGo amount v w → ((o : ℕ) → noted_in o t.sections + taken_in o t.own + amount o ≡ before o) → All (λ x. IsLockTaking v.shape x.locks) t.sections → AreBegun t.sections (begun v.log) → ((o : ℕ) → amount o ≢ 0 → noted_in o t.sections ≡ 0) → ((q : ℕ) → t.mark ≡ Some q → AreMarked w t.sections) → InCall w t
went_from v w t amount before still locks low go left takings begun' struck marked =
    let had : (o : ℕ) → has_lock o w.log ≡ true → has_lock o v.log ≡ true = λ o has. has_counted o v (λ zero_v. let c = go.count o in let h = counted_has o w has in omega (arith, c, h, zero_v)) in
    record {
      still = record {
        even = λ o. go.locked.writes o ∙ still.even o;
        hands = λ n. subst (λ (x : ℕ). (x ≡ 0) ⊎ (x ≡ 4)) (sym (go.locked.hands n)) (still.hands n);
        used = go.locked.used ∙ still.used;
        owes = go.locked.owes ∙ still.owes;
        flight = go.locked.flight ∙ still.flight;
        boxes = done_as v w go.locked.references go.locked.made still.boxes;
        stands = λ o _ has. let h = had o has in still_stands v w go.locked o (low o h) h has (still.stands o (low o h) h);
      };
      locks = λ o. let a = locks o in let c = go.count o in let l = left o in omega (arith, a, c, l);
      low = λ o has. subst (λ (k : Shape). o < container_count k) (sym go.locked.shape) (low o (had o has));
      sections = subst (λ (k : Shape). All (λ x. IsLockTaking k x.locks) t.sections) (sym go.locked.shape) takings;
      begun = go.begun t.sections begun' struck;
      marked = marked;
    }

-- s was kept before, t is kept after
pub went : (v w : View) (s t : Stack) (amount : ℕ → ℕ) → InCall v s → LetGo amount v w → ((o : ℕ) → noted_in o t.sections + taken_in o t.own + amount o ≡ noted_in o s.sections + taken_in o s.own) → All (λ x. IsLockTaking v.shape x.locks) t.sections → AreBegun t.sections (begun v.log) → ((o : ℕ) → amount o ≢ 0 → noted_in o t.sections ≡ 0) → ((q : ℕ) → t.mark ≡ Some q → AreMarked w t.sections) → InCall w t
went v w s t amount i go left takings begun' struck marked =
    went_from v w t amount (λ o. noted_in o s.sections + taken_in o s.own) i.still i.locks i.low go left takings begun' struck marked

-- what a call took itself is noted by no section
pub own_unnoted : (v : View) (s : Stack) → InCall v s → (o : ℕ) → taken_in o s.own ≢ 0 → noted_in o s.sections ≡ 0
own_unnoted v s i o some_one = let a = i.locks o in let l = count_least o v in omega (arith, a, l, some_one)

-- the call lets go what it took itself
pub own_went : (v w : View) (s : Stack) → InCall v s → ((q : ℕ) → s.mark ≡ Some q → All HasMarks s.sections) → LetGo (λ o. taken_in o s.own) v w → InCall w (with_own s nothing_taken)
own_went v w s i was go =
    went v w s (with_own s nothing_taken) (λ o. taken_in o s.own) i go (λ o. omega arith) i.sections i.begun (own_unnoted v s i)
    (λ q e outer top split. let parts = marked_split s.sections outer top split (was q e) in (parts.0, inl parts.1))

-- it may
pub own_may : (b : Bank) (p q : Pass) → IsInCall b p → KeepsAll p q → stack_of q ≡ with_own (stack_of p) nothing_taken → MayLetGo (λ o. taken_in o (stack_of p).own) b q
own_may b p q i same put =
    record {
      pass = (same.0 ∙ i.0.0, ap (λ (v : View). v.shape) same.1 ∙ i.0.1);
      even = λ o. ap (λ (v : View). is_writing o v.log) same.1 ∙ i.1.still.even o;
      low = λ o some_one. subst (λ (k : Shape). o < container_count k) i.0.1 (i.1.low o (has_counted o (view p) (λ none. some_one (let a = i.1.locks o in omega (arith, a, none)))));
      count = λ o. let a = i.1.locks o in let e = ap (λ (v : View). lock_count o v) same.1 in omega (arith, a, e);
      struck = λ o some_one. ap (λ (s : Stack). noted_in o s.sections) put ∙ own_unnoted (view p) (stack_of p) i.1 o some_one;
    }

none_or_some : (m : Option ℕ) → (m ≡ None) ⊎ ((q : ℕ) × (m ≡ Some q))
none_or_some None = inl refl
none_or_some (Some q) = inr (q, refl)

-- a pass with no lock of its own that was in a call may begin the next one, or try this one again
pub may_try : (b : Bank) (p : Pass) (objects : Objects) → IsInCall b p → (stack_of p).own ≡ nothing_taken → ((stack_of p).mark ≡ None → NotesTop (stack_of p).sections) → ((q : ℕ) → (stack_of p).mark ≡ Some q → AreSuspended (stack_of p).sections) → MayTry b p objects
may_try b p objects i own free waited =
    let counted : (o : ℕ) → noted_in o (stack_of p).sections ≡ 1 → has_lock o (view p).log ≡ true = λ o one. has_counted o (view p) (λ none. let a = i.1.locks o in absurd (omega (arith, a, one, none))) in
    ⊎_elim
    (λ (none : (stack_of p).mark ≡ None). inl (record {
      inside = i;
      own = own;
      mark = none;
      top = λ outer top split. let n = free none outer top split in (counted top.locks.lower n.0, counted top.locks.upper n.1);
    }))
    (λ (some_one : (q : ℕ) × ((stack_of p).mark ≡ Some q)). inr (record {
      inside = i;
      owner = some_one.0;
      mark = some_one.1;
      suspended = waited some_one.0 some_one.1;
      own = inl own;
    })) (none_or_some (stack_of p).mark)

-- the open sections note the locks of the innermost one, where the call has taken none yet
pub notes_top : (b : Bank) (p : Pass) → IsReady b p → NotesTop (stack_of p).sections
notes_top b p r outer top split =
    let t = r.top outer top split in
    let noted : (o : ℕ) → has_lock o (view p).log ≡ true → noted_in o (stack_of p).sections ≡ 1 = λ o has. let a = r.inside.1.locks o in let n = ap (taken_in o) r.own in let h = counted_has o (view p) has in omega (arith, a, n, h) in
    (noted top.locks.lower t.0, noted top.locks.upper t.1)

-- what was found in an earlier part of a call was found in the call
pub found_then : (u v w : View) (o q : ℕ) → FoundOwner o q u v → OnlyLocked v w → FoundOwner o q u w
found_then u v w o q f l =
    record {
      newer = l.newer ++ f.newer;
      snap = f.snap;
      older = f.older;
      is = l.grew ∙ (ap (λ (x : List Act). l.newer ++ x) f.is ∙ sym (append_assoc l.newer f.newer (Lock o (q + 1) f.snap ∷ (f.older ++ u.log))));
      other = f.other;
    }

pub may_inside : (b : Bank) (p : Pass) (objects : Objects) → MayTry b p objects → IsInCall b p
may_inside b p objects may = ⊎_elim (λ (r : IsReady b p). r.inside) (λ (w : IsWaiting b p objects). w.inside) may

-- a pass has seen no fewer writes than before
pub only_sees : (v w : View) → OnlyLocked v w → seen_writes v ≤ seen_writes w
only_sees v w only =
    max-le (subst (λ (n : ℕ). v.learnt ≤ max n (shown w.log)) (sym only.learnt) (le-max_left v.learnt (shown w.log)))
    (subst (λ (l : List Act). shown v.log ≤ max w.learnt (shown l)) (sym only.grew) (le_trans (seen_rises only.newer v.log) (le-max_right w.learnt (shown (only.newer ++ v.log)))))
