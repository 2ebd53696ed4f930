-- A pass gives up all its locks and sections.
use Rattle.std.proofs.Common.{◌≡◌, ◌<◌, ◌+◌, ℕ, Bool, true, false, List, [], ◌∷◌, ◌++◌, length, inl, refl, sym, ap, ◌∙◌, subst, arith, length-append}
use Rattle.std.specs.Prelude.{Option, Some, None, is_some}
use Rattle.std.proofs.lemmas.Bool.{false≢true}
use Rattle.std.proofs.lemmas.List.Elements.{All-nil}
use Rattle.ft_bank.specs.declared.bank.Bank.{Bank}
use Rattle.ft_bank.specs.declared.pass.Pass.{Pass}
use Rattle.ft_bank.specs.declared.sections.OpenSection.{OpenSection}
use Rattle.ft_bank.specs.Passes.{view}
use Rattle.ft_bank.specs.PassSections.{Stack, stack_of, taken_in, noted_in, no_sections}
use Rattle.ft_section.specs.Ready.{InCall, IsInCall, IsReady, AreBegun, lock_count}
use Rattle.ft_section.specs.Locking.{LetGo, MayLetGo}
use Rattle.ft_section.specs.LockTakings.{IsLockTaking}
use Rattle.ft_section.proofs.Goings.{went}
use Rattle.ft_section.proofs.InCalls.{one_if, has_counted}
use Rattle.ft_section.proofs.Resumes.{push_some, none_some}
use Rattle.ft_trace.specs.declared.Shape.{Shape}
use Rattle.ft_trace.specs.declared.View.{View}
use Rattle.ft_trace.specs.Addresses.{container_count}
use Rattle.ft_trace.specs.Acts.{has_lock, is_writing}
use Rattle.ft_trace.specs.BegunSections.{Begun, begun}

-- all locks that are noted
abbrev pub all_noted : Stack → ℕ → ℕ
all_noted s o = noted_in o s.sections + taken_in o s.own

-- once nothing notes them they may be let go
pub may_drop : (b : Bank) (p q : Pass) → IsInCall b p → q.seat.table_id ≡ p.seat.table_id → view q ≡ view p → stack_of q ≡ no_sections → MayLetGo (all_noted (stack_of p)) b q
may_drop b p q i table same put =
    record {
      pass = (table ∙ i.0.0, ap (λ (v : View). v.shape) same ∙ i.0.1);
      even = λ o. ap (λ (v : View). is_writing o v.log) same ∙ i.1.still.even o;
      low = λ o some_one. subst (λ (k : Shape). o < container_count k) i.0.1 (i.1.low o (has_counted o (view p) (λ none. some_one (let a = i.1.locks o in omega (arith, a, none)))));
      count = λ o. let a = i.1.locks o in let e = ap (λ (v : View). lock_count o v) same in omega (arith, a, e);
      struck = λ o some_one. ap (λ (s : Stack). noted_in o s.sections) put;
    }

none_begun : (bs : List Begun) → AreBegun [] bs
none_begun [] = refl
none_begun (b ∷ bs) = inl refl

not_counted : (b : Bool) → one_if b ≡ 0 → b ≡ false
not_counted true none = absurd (omega (arith, none))
not_counted false none = refl

-- then it has none
pub none_left : (v w : View) (s : Stack) → InCall v s → LetGo (all_noted s) v w → (o : ℕ) → has_lock o w.log ≡ false
none_left v w s i go o = not_counted (has_lock o w.log) (let a = i.locks o in let c = go.count o in omega (arith, a, c))

-- and it is ready for another call
pub dropped : (b : Bank) (p q : Pass) → IsInCall b p → q.seat.table_id ≡ p.seat.table_id → stack_of q ≡ no_sections → LetGo (all_noted (stack_of p)) (view p) (view q) → IsReady b q
dropped b p q i table put go =
    let inside : InCall (view q) no_sections = went (view p) (view q) (stack_of p) no_sections (all_noted (stack_of p)) i.1 go (λ o. omega arith)
    (All-nil (λ x. IsLockTaking (view p).shape x.locks)) (none_begun (begun (view p).log)) (λ o some_one. refl) (λ a e. absurd (none_some a e)) in
    record {
      inside = ((table ∙ i.0.0, go.locked.shape ∙ i.0.1), subst (InCall (view q)) (sym put) inside);
      own = ap (λ (x : Stack). x.own) put;
      mark = ap (λ (x : Stack). x.mark) put;
      top = λ outer top split. absurd (push_some outer top (sym split ∙ ap (λ (x : Stack). x.sections) put));
    }

-- a section that is closed makes them fewer
pub fewer : (popped : Option OpenSection) (xs ys : List OpenSection) → is_some popped ≡ true → ((s : OpenSection) → popped ≡ Some s → xs ≡ ys ++ s ∷ []) → length ys < length xs
fewer None xs ys e is = absurd (false≢true e)
fewer (Some s) xs ys e is = let l = ap length (is s refl) ∙ length-append ys (s ∷ []) in omega (arith, l)
