-- A pass stays in the midst of its call, whatever the call does with the words of its containers.
use Rattle.std.proofs.Common.{◌≡◌, ◌<◌, ℕ, List, inl, inr, ⊎_elim, sym, ap, ◌∙◌, subst, arith}
use Rattle.std.specs.Prelude.{All}
use Rattle.ft_bank.specs.declared.bank.Bank.{Bank}
use Rattle.ft_bank.specs.declared.pass.Pass.{Pass}
use Rattle.ft_bank.specs.Passes.{view, IsPassOf}
use Rattle.ft_bank.specs.PassSections.{Stack, stack_of}
use Rattle.ft_section.specs.Ready.{IsStill, InCall, HasMarks, AreBegun, AreSuspended, NotesTop, IsMaking}
use Rattle.ft_section.specs.LockTakings.{IsLockTaking, HasBoth}
use Rattle.ft_section.proofs.InCalls.{one_if}
use Rattle.ft_trace.specs.declared.Shape.{Shape}
use Rattle.ft_trace.specs.declared.View.{View}
use Rattle.ft_trace.specs.Addresses.{container_count}
use Rattle.ft_trace.specs.Acts.{has_lock}
use Rattle.ft_trace.specs.BegunSections.{Begun, begun}

-- the pass has the same locks and sections, and is still again
pub in_call_stays : (v w : View) (s : Stack) → InCall v s → w.shape ≡ v.shape → ((o : ℕ) → has_lock o w.log ≡ has_lock o v.log) → begun w.log ≡ begun v.log → IsStill w → InCall w s
in_call_stays v w s i shape locks sections still =
    record {
      still = still;
      locks = λ o. let a = i.locks o in let e = ap one_if (locks o) in omega (arith, a, e);
      low = λ o has. subst (λ (k : Shape). o < container_count k) (sym shape) (i.low o (sym (locks o) ∙ has));
      sections = subst (λ (k : Shape). All (λ x. IsLockTaking k x.locks) s.sections) (sym shape) i.sections;
      begun = subst (λ (b : List Begun). AreBegun s.sections b) (sym sections) i.begun;
      marked = λ q e outer top split.
          let m = i.marked q e outer top split in
          (m.0, ⊎_elim (λ (x : HasMarks top). inl x) (λ (x : HasBoth v top.locks). inr (locks top.locks.lower ∙ x.0, locks top.locks.upper ∙ x.1)) m.1);
    }

pub making_stays : (b : Bank) (p q : Pass) → IsMaking b p → IsPassOf b q → stack_of q ≡ stack_of p → (view q).shape ≡ (view p).shape → ((o : ℕ) → has_lock o (view q).log ≡ has_lock o (view p).log) → begun (view q).log ≡ begun (view p).log → IsStill (view q) → IsMaking b q
making_stays b p q m pass stack shape locks sections still =
    record {
      inside = (pass, subst (InCall (view q)) (sym stack) (in_call_stays (view p) (view q) (stack_of p) m.inside.1 shape locks sections still));
      free = λ none. subst (λ (s : Stack). NotesTop s.sections) (sym stack) (m.free (sym (ap (λ (s : Stack). s.mark) stack) ∙ none));
      waited = λ a e. subst (λ (s : Stack). AreSuspended s.sections) (sym stack) (m.waited a (sym (ap (λ (s : Stack). s.mark) stack) ∙ e));
    }
