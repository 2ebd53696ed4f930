-- The innermost section takes its locks again.
use Rattle.std.proofs.Common.{◌≡◌, ◌≢◌, ◌<◌, ◌≤◌, ◌+◌, ◌==◌, ◌&&◌, ◌||◌, ℕ, Bool, true, false, List, [], ◌∷◌, ◌++◌, map, length, inr, ⊎_elim, refl, sym, ap, ◌∙◌, subst, arith}
use Rattle.std.specs.Prelude.{Some, None, is_some}
use Rattle.std.proofs.lemmas.Bool.{false≢true}
use Rattle.std.proofs.lemmas.List.{same_from_push, map-append}
use Rattle.std.proofs.lemmas.List.Elements.{All-pop, All-push}
use Rattle.ft_bank.specs.declared.bank.Bank.{Bank}
use Rattle.ft_bank.specs.declared.pass.Pass.{Pass}
use Rattle.ft_bank.specs.declared.sections.OpenSection.{OpenSection}
use Rattle.ft_bank.specs.declared.sections.Taking.{Taking}
use Rattle.ft_bank.specs.Passes.{view}
use Rattle.ft_bank.specs.PassSections.{Stack, stack_of, taken_in, noted_in, nothing_taken, suspended}
use Rattle.ft_section.specs.Ready.{InCall, IsInCall, AreBegun, IsBegun, IsReady, lock_count}
use Rattle.ft_section.specs.Locking.{TakenUp, noting}
use Rattle.ft_section.specs.LockTakings.{IsLockTaking, HasBoth}
use Rattle.ft_section.proofs.InCalls.{one_if}
use Rattle.ft_section.proofs.Notes.{noted-append}
use Rattle.ft_section.proofs.Goings.{count_least}
use Rattle.ft_trace.specs.declared.View.{View}
use Rattle.ft_trace.specs.Addresses.{container_count}
use Rattle.ft_trace.specs.Acts.{has_lock}
use Rattle.ft_trace.specs.BegunSections.{Begun, begun}

length_push : (xs : List OpenSection) (x : OpenSection) → length (xs ++ x ∷ []) ≢ 0
length_push [] x e = absurd (omega (arith, e))
length_push (y ∷ xs) x e = absurd (omega (arith, e))

pub push_some : (xs : List OpenSection) (x : OpenSection) → xs ++ x ∷ [] ≡ [] → ⊥
push_some xs x e = length_push xs x (ap length e)

pub noted_push : (o : ℕ) (xs : List OpenSection) (x : OpenSection) → noted_in o (xs ++ x ∷ []) ≡ noted_in o xs + taken_in o x.locks
noted_push o xs x = let e = noted-append o xs (x ∷ []) in omega (arith, e)

-- the innermost section's containers are the bank's
pub top_taking : (v : View) (s : Stack) (outer : List OpenSection) (top : OpenSection) → InCall v s → s.sections ≡ outer ++ top ∷ [] → IsLockTaking v.shape top.locks
top_taking v s outer top i split = (All-pop (λ x. IsLockTaking v.shape x.locks) s.sections outer (Some top) split i.sections).1

-- what the section and the call have taken is apart
pub top_apart : (v : View) (s : Stack) (outer : List OpenSection) (top : OpenSection) → InCall v s → s.sections ≡ outer ++ top ∷ [] → (o : ℕ) → taken_in o top.locks + taken_in o s.own ≤ 1
top_apart v s outer top i split o =
    let a = i.locks o in
    let l = count_least o v in
    let e = ap (noted_in o) split ∙ noted_push o outer top in
    omega (arith, a, l, e)

or_one : (a b x : Bool) → (a ≡ true → b ≡ true → x ≡ true → ⊥) → one_if ((a || b) && x) ≡ one_if (a && x) + one_if (b && x)
or_one true true true apart = absurd (apart refl refl refl)
or_one true true false apart = refl
or_one true false x apart = omega arith
or_one false b x apart = omega arith

-- the same sections but for the locks that the innermost one has noted
begun_again : (outer : List OpenSection) (top again : OpenSection) (bs : List Begun) → again.locks.lower ≡ top.locks.lower → again.locks.upper ≡ top.locks.upper → again.marks ≡ top.marks → ((o : ℕ) → noted_in o (outer ++ top ∷ []) ≡ 1 → noted_in o (outer ++ again ∷ []) ≡ 1) → AreBegun (outer ++ top ∷ []) bs → AreBegun (outer ++ again ∷ []) bs
begun_again outer top again [] lower upper marks more a = absurd (push_some outer top a)
begun_again outer top again (b ∷ bs) lower upper marks more a =
    ⊎_elim (λ (nil : outer ++ top ∷ [] ≡ []). absurd (push_some outer top nil))
    (λ (x : (o : List OpenSection) × (s : OpenSection) × (outer ++ top ∷ [] ≡ o ++ s ∷ []) × IsBegun (outer ++ top ∷ []) s b × AreBegun o bs).
    let same = same_from_push outer x.0 top x.1 x.2 in
    let was : IsBegun (outer ++ top ∷ []) top b = subst (λ (s : OpenSection). IsBegun (outer ++ top ∷ []) s b) (sym same.1) x.3 in
    let below : AreBegun outer bs = subst (λ (o : List OpenSection). AreBegun o bs) (sym same.0) x.4 in
    inr (
      outer,
      again,
      refl,
      record {
        containers = λ o. was.containers o ∙ (ap (λ (z : ℕ). (z == o) || (top.locks.upper == o)) (sym lower) ∙ ap (λ (z : ℕ). (again.locks.lower == o) || (z == o)) (sym upper));
        kept = λ none. let k = was.kept (sym marks ∙ none) in
            (k.0, ap (λ (z : ℕ). noted_in z (outer ++ again ∷ [])) lower ∙ more top.locks.lower k.1, ap (λ (z : ℕ). noted_in z (outer ++ again ∷ [])) upper ∙ more top.locks.upper k.2);
      },
      below,
    )) a

pub none_some : (a : ℕ) → None ≡ Some a → ⊥
none_some a e = false≢true (ap is_some e)

-- the call has finished: what it took again is the innermost section's
pub resumed : (b : Bank) (q r : Pass) (outer : List OpenSection) (top again : OpenSection) → IsInCall b q → (stack_of q).sections ≡ outer ++ top ∷ [] → ((o : ℕ) → taken_in o again.locks ≡ taken_in o top.locks + taken_in o (stack_of q).own) → again.locks.lower ≡ top.locks.lower → again.locks.upper ≡ top.locks.upper → again.marks ≡ top.marks → (again.locks.lower ≡ again.locks.upper → again.locks.took_upper ≡ false) → HasBoth (view q) top.locks → r.seat.table_id ≡ q.seat.table_id → view r ≡ view q → stack_of r ≡ record { sections = outer ++ again ∷ []; own = nothing_taken; mark = None } → IsReady b r
resumed b q r outer top again i split taken lower upper marks once has table same put =
    let v = view q in
    let t : Stack = record { sections = outer ++ again ∷ []; own = nothing_taken; mark = None } in
    let counted : (o : ℕ) → noted_in o (outer ++ again ∷ []) ≡ lock_count o v = λ o.
    let a = i.1.locks o in let e = ap (noted_in o) split ∙ noted_push o outer top in let f = noted_push o outer again in let k = taken o in omega (arith, a, e, f, k) in
    let more : (o : ℕ) → noted_in o (outer ++ top ∷ []) ≡ 1 → noted_in o (outer ++ again ∷ []) ≡ 1 = λ o one.
    let e = noted_push o outer top in let f = noted_push o outer again in let k = taken o in let c = counted o in let l = count_least o v in omega (arith, one, e, f, k, c, l) in
    let takings = All-pop (λ x. IsLockTaking v.shape x.locks) (stack_of q).sections outer (Some top) split i.1.sections in
    let inside : InCall v t = record {
      still = i.1.still;
      locks = λ o. let c = counted o in omega (arith, c);
      low = i.1.low;
      sections = All-push (λ x. IsLockTaking v.shape x.locks) outer again takings.0 (record {
        order = let o = takings.1.order in omega (arith, o, lower, upper);
        low = let l = takings.1.low in subst (λ (z : ℕ). z < container_count v.shape) (sym upper) l;
        once = once;
      });
      begun = begun_again outer top again (begun v.log) lower upper marks more (subst (λ (xs : List OpenSection). AreBegun xs (begun v.log)) split i.1.begun);
      marked = λ a e. absurd (none_some a e);
    } in
    let stack = ap (λ (x : Stack). x.sections) put in
    record {
      inside = ((table ∙ i.0.0, ap (λ (x : View). x.shape) same ∙ i.0.1), subst (InCall (view r)) (sym put) (subst (λ (x : View). InCall x t) (sym same) inside));
      own = ap (λ (x : Stack). x.own) put;
      mark = ap (λ (x : Stack). x.mark) put;
      top = λ o s cut.
          let e = same_from_push outer o again s (sym stack ∙ cut) in
          let here : HasBoth v again.locks = (ap (λ (z : ℕ). has_lock z v.log) lower ∙ has.0, ap (λ (z : ℕ). has_lock z v.log) upper ∙ has.1) in
          subst (λ (x : View). HasBoth x s.locks) (sym same) (subst (λ (x : OpenSection). HasBoth v x.locks) e.1 here);
    }

-- after a wait the same sections are to be taken up again
pub wait_split : (m : ℕ) (xs outer outer' : List OpenSection) (top top' : OpenSection) → xs ≡ outer ++ top ∷ [] → map (suspended m) xs ≡ outer' ++ top' ∷ [] → suspended m top ≡ top'
wait_split m xs outer outer' top top' split cut =
    (same_from_push (map (suspended m) outer) outer' (suspended m top) top' (sym (map-append (suspended m) outer (top ∷ [])) ∙ (sym (ap (map (suspended m)) split) ∙ cut))).1

pub wait_some : (m : ℕ) (xs outer : List OpenSection) (top : OpenSection) → xs ≡ outer ++ top ∷ [] → map (suspended m) xs ≡ [] → ⊥
wait_some m xs outer top split none =
    push_some (map (suspended m) outer) (suspended m top) (sym (map-append (suspended m) outer (top ∷ [])) ∙ (sym (ap (map (suspended m)) split) ∙ none))

-- the innermost section is taken up again
pub taken_up : (s t : Stack) (outer : List OpenSection) (top : OpenSection) (locks : Taking) → s.sections ≡ outer ++ top ∷ [] → locks ≡ record top.locks { took_lower = locks.took_lower; took_upper = locks.took_upper } → t ≡ record { sections = outer ++ record { locks = locks; marks = top.marks } ∷ []; own = nothing_taken; mark = None } → TakenUp s t
taken_up s t outer top locks split rest put =
    record {
      none = λ nil. absurd (push_some outer top (sym split ∙ nil));
      top = λ o x cut.
          let same = same_from_push outer o top x (sym split ∙ cut) in
          let here = ap (λ (x : Stack). x.sections) put ∙ ap (λ (l : Taking). outer ++ record { locks = l; marks = top.marks } ∷ []) rest in (
            locks.took_lower,
            locks.took_upper,
            here
                ∙ (ap (λ (xs : List OpenSection). xs ++ noting locks.took_lower locks.took_upper top ∷ []) same.0
                ∙ ap (λ (y : OpenSection). o ++ noting locks.took_lower locks.took_upper y ∷ []) same.1),
          );
      own = ap (λ (x : Stack). x.own) put;
      mark = ap (λ (x : Stack). x.mark) put;
    }

-- no section is open
pub none_up : (s t : Stack) → s.sections ≡ [] → s.own ≡ nothing_taken → t ≡ record s { mark = None } → TakenUp s t
none_up s t none own put =
    record {
      none = λ _. ap (λ (x : Stack). x.sections) put ∙ none;
      top = λ outer top split. absurd (push_some outer top (sym split ∙ none));
      own = ap (λ (x : Stack). x.own) put ∙ own;
      mark = ap (λ (x : Stack). x.mark) put;
    }
