-- A call has to wait: all sections let their locks go.
use Rattle.std.proofs.Common.{◌≡◌, ◌<◌, ◌≤◌, ◌+◌, ◌-◌, ◌^◌, ◌⊎◌, ℕ, List, [], ◌∷◌, ◌++◌, map, inl, inr, ⊎_elim, refl, sym, ap, ◌∙◌, subst, arith, true}
use Rattle.std.specs.Prelude.{All, Option, Some, None, min}
use Rattle.std.proofs.lemmas.List.Elements.{All-map, All-pop, All-weaker}
use Rattle.std.proofs.lemmas.List.{map-append}
use Rattle.ft_bank.specs.declared.bank.Bank.{Bank}
use Rattle.ft_bank.specs.declared.pass.Pass.{Pass}
use Rattle.ft_bank.specs.declared.sections.OpenSection.{OpenSection}
use Rattle.ft_bank.specs.Passes.{view}
use Rattle.ft_bank.specs.PassSections.{Stack, stack_of, noted_in, suspended}
use Rattle.ft_section.specs.Ready.{InCall, IsInCall, HasMarks, AreSuspended, AreBegun, IsBegun, lock_count}
use Rattle.ft_section.specs.Locking.{LetGo, MayLetGo, waiting, marks_more}
use Rattle.ft_section.specs.LockTakings.{IsLockTaking}
use Rattle.ft_bank.proofs.DoneBoxes.{done_as}
use Rattle.ft_section.proofs.InCalls.{has_counted, counted_has, still_stands}
use Rattle.ft_trace.specs.declared.Shape.{Shape}
use Rattle.ft_trace.specs.declared.View.{View}
use Rattle.ft_trace.specs.Addresses.{container_count}
use Rattle.ft_trace.specs.Acts.{has_lock, is_writing}
use Rattle.ft_trace.specs.BegunSections.{Begun, begun}

suspended_none : (m o : ℕ) (xs : List OpenSection) → noted_in o (map (suspended m) xs) ≡ 0
suspended_none m o [] = refl
suspended_none m o (x ∷ xs) = let e = suspended_none m o xs in omega (arith, e)

least_one : (n : ℕ) → 1 ≤ min (n + 1) (2 ^ 32 - 1)
least_one n = omega arith

least_same : (n : ℕ) → 1 ≤ n → 1 ≤ min (n + 0) (2 ^ 32 - 1)
least_same n one = omega (arith, one)

-- each section counts a mark, the one that the call has already or the one that it gets now
marked_all : (xs : List OpenSection) (mark : Option ℕ) → ((q : ℕ) → mark ≡ Some q → All HasMarks xs) → All HasMarks (map (suspended (marks_more mark)) xs)
marked_all xs None was = All-map HasMarks (suspended 1) xs (λ k d within. least_one _)
marked_all xs (Some q) was =
    All-map HasMarks (suspended 0) xs (All-weaker HasMarks (λ s. HasMarks (suspended 0 s)) (λ s one. least_same s.marks one) xs (was q refl))

-- of sections that all count a mark the innermost does, and those round it do
pub marked_split : (xs outer : List OpenSection) (top : OpenSection) → xs ≡ outer ++ top ∷ [] → All HasMarks xs → All HasMarks outer × HasMarks top
marked_split xs outer top split all = All-pop HasMarks xs outer (Some top) split all

-- sections that count a mark are begun as they were, whatever they let go
begun_marked : (m : ℕ) (bs : List Begun) (xs : List OpenSection) → All HasMarks (map (suspended m) xs) → AreBegun xs bs → AreBegun (map (suspended m) xs) bs
begun_marked m [] xs all a = ap (map (suspended m)) a
begun_marked m (b ∷ bs) xs all a =
    ⊎_elim (λ (nil : xs ≡ []). inl (ap (map (suspended m)) nil))
    (λ (x : (outer : List OpenSection) × (s : OpenSection) × (xs ≡ outer ++ s ∷ []) × IsBegun xs s b × AreBegun outer bs).
    let cut : map (suspended m) xs ≡ map (suspended m) x.0 ++ suspended m x.1 ∷ [] = ap (map (suspended m)) x.2 ∙ map-append (suspended m) x.0 (x.1 ∷ []) in
    let parts = marked_split (map (suspended m) xs) (map (suspended m) x.0) (suspended m x.1) cut all in
    inr (map (suspended m) x.0, suspended m x.1, cut, record { containers = x.3.containers; kept = λ none. absurd (let one = parts.1 in omega (arith, none, one)) }, begun_marked m bs x.0 parts.0 x.4)) a

-- the sections may let their locks go, once none notes any
pub may_sweep : (b : Bank) (p q : Pass) (m : ℕ) → IsInCall b p → q.seat.table_id ≡ p.seat.table_id → view q ≡ view p → (stack_of q).sections ≡ map (suspended m) (stack_of p).sections → MayLetGo (λ o. noted_in o (stack_of p).sections) b q
may_sweep b p q m i table same put =
    record {
      pass = (table ∙ i.0.0, ap (λ (v : View). v.shape) same ∙ i.0.1);
      even = λ o. ap (λ (v : View). is_writing o v.log) same ∙ i.1.still.even o;
      low = λ o some_one. subst (λ (k : Shape). o < container_count k) i.0.1 (i.1.low o (has_counted o (view p) (λ none. some_one (let a = i.1.locks o in omega (arith, a, none)))));
      count = λ o. let a = i.1.locks o in let e = ap (λ (v : View). lock_count o v) same in omega (arith, a, e);
      struck = λ o some_one. ap (noted_in o) put ∙ suspended_none m o (stack_of p).sections;
    }

-- what holds in a call holds while it waits
pub waits : (v w : View) (s : Stack) (q : ℕ) → InCall v s → ((p : ℕ) → s.mark ≡ Some p → All HasMarks s.sections) → LetGo (λ o. noted_in o s.sections) v w → InCall w (waiting s q) × AreSuspended (waiting s q).sections
waits v w s q i was go =
    let m = marks_more s.mark in
    let none : (o : ℕ) → noted_in o (map (suspended m) s.sections) ≡ 0 = λ o. suspended_none m o s.sections in
    let all = marked_all s.sections s.mark was in
    let had : (o : ℕ) → has_lock o w.log ≡ true → has_lock o v.log ≡ true = λ o has. has_counted o v (λ zero_v. let c = go.count o in let h = counted_has o w has in omega (arith, c, h, zero_v)) in (
      record {
        still = record {
          even = λ o. go.locked.writes o ∙ i.still.even o;
          hands = λ n. subst (λ (x : ℕ). (x ≡ 0) ⊎ (x ≡ 4)) (sym (go.locked.hands n)) (i.still.hands n);
          used = go.locked.used ∙ i.still.used;
          owes = go.locked.owes ∙ i.still.owes;
          flight = go.locked.flight ∙ i.still.flight;
          boxes = done_as v w go.locked.references go.locked.made i.still.boxes;
          stands = λ o low has. let h = had o has in still_stands v w go.locked o (i.low o h) h has (i.still.stands o (i.low o h) h);
        };
        locks = λ o. let a = i.locks o in let c = go.count o in let z = none o in omega (arith, a, c, z);
        low = λ o has. subst (λ (k : Shape). o < container_count k) (sym go.locked.shape) (i.low o (had o has));
        sections = All-map (λ x. IsLockTaking w.shape x.locks) (suspended m) s.sections (All-weaker (λ x. IsLockTaking v.shape x.locks) (λ x. IsLockTaking w.shape (suspended m x).locks) (λ x is. record { order = is.order; low = subst (λ (k : Shape). x.locks.upper < container_count k) (sym go.locked.shape) is.low; once = λ e. refl }) s.sections i.sections);
        begun = go.begun (map (suspended m) s.sections) (begun_marked m (begun v.log) s.sections all i.begun) (λ o some_one. none o);
        marked = λ p e outer top split. let parts = marked_split (map (suspended m) s.sections) outer top split all in (parts.0, inl parts.1);
      },
      (all, none),
    )
