use Rattle.std.proofs.Common.{inl, ◌≡◌, sym, ap, ◌∙◌, subst}
use Rattle.ft_bank.specs.declared.sections.Taking.{Taking}
use Rattle.ft_bank.specs.Passes.{view, IsPassOf}
use Rattle.ft_bank.specs.PassSections.{Stack, stack_of, taken_in, nothing_taken}
use Rattle.ft_section.specs.Locking.{LetGo, with_own}
use Rattle.ft_section.specs.Ready.{InCall, AreSuspended, NotesTop}
use Rattle.ft_section.specs.declared.answers.Objects.TheVariants.{One}
use Rattle.ft_section.proofs.Goings.{own_went, may_try, may_inside}
use Rattle.ft_trace.specs.declared.View.{View}
use Rattle.ft_trace.specs.Owners.{SameOwners}
use Rattle.ft_section.proofs.calls.let_go.Goals as goal

pub returns-clause-may : goal.returns-clause-may
returns-clause-may c objects =
    let b = c.args.bank.now in
    let p = c.args.pass.now in
    let r = c.let_taking_go.new.pass in
    let s = stack_of p in
    let m = c.requires in
    let stack : stack_of r ≡ with_own s nothing_taken = c.let_taking_go.ensures.stack.1 ∙ c.put_own.ensures.stack in
    let go = subst (λ (v : View). LetGo (λ o. taken_in o s.own) v (view r)) c.put_own.ensures.view.1
    (subst (λ (t : Taking). LetGo (λ o. taken_in o t) (view c.put_own.new.self) (view r)) c.own-own.ensures c.let_taking_go.ensures.go) in
    let inside : InCall (view r) (with_own s nothing_taken) = own_went (view p) (view r) s m.inside.1 (λ q e. (m.waited q e).0) go in
    let pass : IsPassOf b r = (c.let_taking_go.ensures.stack.0 ∙ (c.put_own.ensures.view.0 ∙ m.inside.0.0), go.locked.shape ∙ m.inside.0.1) in
    let mark = ap (λ (x : Stack). x.mark) stack in
    let sections = ap (λ (x : Stack). x.sections) stack in
    may_try b r objects (pass, subst (InCall (view r)) (sym stack) inside) (ap (λ (x : Stack). x.own) stack)
    (λ none. subst NotesTop (sym sections) (m.free (sym mark ∙ none)))
    (λ q e. subst AreSuspended (sym sections) (m.waited q (sym mark ∙ e)))

pub returns-clause-resume : goal.returns-clause-resume
returns-clause-resume c =
    let none = ap (λ (x : Stack). x.own) (c.let_taking_go.ensures.stack.1 ∙ c.put_own.ensures.stack) in
    record { inside = may_inside c.args.bank.now c.let_taking_go.new.pass (One 0) (returns-clause-may c (One 0)); own = λ outer top split. inl none; none = λ nil. none }

pub returns-clause-owners : goal.returns-clause-owners
returns-clause-owners c = subst (λ (v : View). SameOwners v (view c.let_taking_go.new.pass)) c.put_own.ensures.view.1 c.let_taking_go.ensures.go.owners
