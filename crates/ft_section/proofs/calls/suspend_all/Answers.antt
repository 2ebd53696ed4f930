use Rattle.std.proofs.Common.{◌≡◌, ℕ, List, map, sym, ap, ◌∙◌, subst}
use Rattle.std.specs.Prelude.{Option, Some}
use Rattle.ft_bank.specs.declared.sections.OpenSection.{OpenSection}
use Rattle.ft_bank.specs.Passes.{view}
use Rattle.ft_bank.specs.PassSections.{Stack, stack_of, noted_in, suspended}
use Rattle.ft_section.specs.Locking.{LetGo, MayLetGo, waiting, marks_more, first_mark}
use Rattle.ft_section.specs.Ready.{InCall, AreSuspended}
use Rattle.ft_section.proofs.Waits.{may_sweep, waits}
use Rattle.ft_trace.specs.declared.View.{View}
use Rattle.ft_trace.specs.Owners.{SameOwners}
use Rattle.ft_section.proofs.calls.suspend_all.Goals as goal

pub let_all_go-requires : goal.let_all_go-requires
let_all_go-requires c =
    let p = c.args.pass.now in
    let s = stack_of p in
    let q = c.put_mark.new.self in
    let more = c.more_marks.ensures ∙ ap marks_more c.mark-mark.ensures in
    let sections : c.suspend.new.self ≡ map (suspended (marks_more s.mark)) s.sections =
    c.suspend.ensures ∙ (ap (λ (m : ℕ). map (suspended m) c.copied-after.result) more ∙ ap (map (suspended (marks_more s.mark))) (c.copied-after.ensures ∙ c.sections-2.ensures)) in
    let put = ap (λ (x : Stack). x.sections) (c.put_mark.ensures.stack ∙ ap (λ (x : Stack). record x { mark = Some c.first_owner.result }) c.put_sections.ensures.stack) ∙ sections in
    let slice = c.as_slice.ensures.«open» ∙ (c.copied-before.ensures ∙ c.sections.ensures) in
    subst (λ (xs : List OpenSection). MayLetGo (λ o. noted_in o xs) c.args.bank.now q) (sym slice)
    (may_sweep c.args.bank.now p q (marks_more s.mark) c.requires.inside (c.put_mark.ensures.view.0 ∙ c.put_sections.ensures.view.0) (c.put_mark.ensures.view.1 ∙ c.put_sections.ensures.view.1) put)

pub returns-clause-stack : goal.returns-clause-stack
returns-clause-stack c =
    let p = c.args.pass.now in
    let s = stack_of p in
    let more = c.more_marks.ensures ∙ ap marks_more c.mark-mark.ensures in
    let sections : c.suspend.new.self ≡ map (suspended (marks_more s.mark)) s.sections =
    c.suspend.ensures ∙ (ap (λ (m : ℕ). map (suspended m) c.copied-after.result) more ∙ ap (map (suspended (marks_more s.mark))) (c.copied-after.ensures ∙ c.sections-2.ensures)) in
    let first : c.first_owner.result ≡ first_mark s.mark c.args.owner = c.first_owner.ensures ∙ ap (λ (m : Option ℕ). first_mark m c.args.owner) c.mark-mark.ensures in
    c.let_all_go.ensures.stack.1 ∙ (c.put_mark.ensures.stack ∙ (ap (λ (x : Stack). record x { mark = Some c.first_owner.result }) c.put_sections.ensures.stack
    ∙ (ap (λ (xs : List OpenSection). record { sections = xs; own = s.own; mark = Some c.first_owner.result }) sections
    ∙ ap (λ (q : ℕ). record { sections = map (suspended (marks_more s.mark)) s.sections; own = s.own; mark = Some q }) first)))

-- what holds of the pass in the end
waits_here : (c : goal.After-let_all_go) → InCall (view c.let_all_go.new.pass) (waiting (stack_of c.args.pass.now) c.args.owner) × AreSuspended (waiting (stack_of c.args.pass.now) c.args.owner).sections
waits_here c =
    let p = c.args.pass.now in
    let s = stack_of p in
    let w = view c.let_all_go.new.pass in
    let slice = c.as_slice.ensures.«open» ∙ (c.copied-before.ensures ∙ c.sections.ensures) in
    let same = c.put_mark.ensures.view.1 ∙ c.put_sections.ensures.view.1 in
    let go = subst (λ (v : View). LetGo (λ o. noted_in o s.sections) v w) same (subst (λ (xs : List OpenSection). LetGo (λ o. noted_in o xs) (view c.put_mark.new.self) w) slice c.let_all_go.ensures.go) in
    waits (view p) w s c.args.owner c.requires.inside.1 c.requires.marked go

pub returns-clause-inside : goal.returns-clause-inside
returns-clause-inside c =
    let p = c.args.pass.now in
    let table = c.let_all_go.ensures.stack.0 ∙ (c.put_mark.ensures.view.0 ∙ (c.put_sections.ensures.view.0 ∙ c.requires.inside.0.0)) in
    let shape = c.let_all_go.ensures.go.locked.shape ∙ (ap (λ (v : View). v.shape) (c.put_mark.ensures.view.1 ∙ c.put_sections.ensures.view.1) ∙ c.requires.inside.0.1) in
    ((table, shape), subst (InCall (view c.let_all_go.new.pass)) (sym (returns-clause-stack c)) (waits_here c).0)

pub returns-clause-suspended : goal.returns-clause-suspended
returns-clause-suspended c = subst (λ (x : Stack). AreSuspended x.sections) (sym (returns-clause-stack c)) (waits_here c).1

pub returns-clause-owners : goal.returns-clause-owners
returns-clause-owners c =
    subst (λ (v : View). SameOwners v (view c.let_all_go.new.pass)) (c.put_mark.ensures.view.1 ∙ c.put_sections.ensures.view.1) c.let_all_go.ensures.go.owners
