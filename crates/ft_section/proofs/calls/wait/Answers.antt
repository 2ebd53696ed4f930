use Rattle.std.proofs.Common.{◌≡◌, ℕ, List, [], map, refl, sym, ap, ◌∙◌, subst, arith}
use Rattle.std.proofs.lemmas.List.{nil_from_length}
use Rattle.std.specs.Prelude.{Option, Some}
use Rattle.ft_bank.specs.declared.sections.OpenSection.{OpenSection}
use Rattle.ft_bank.specs.Passes.{view}
use Rattle.ft_bank.specs.PassSections.{Stack, stack_of, suspended}
use Rattle.ft_section.specs.Locking.{OnlyLocked, marks_more, first_mark}
use Rattle.ft_section.specs.Ready.{InCall, AreSuspended}
use Rattle.ft_section.proofs.Releases.{only_same}
use Rattle.ft_section.proofs.Resumes.{push_some}
use Rattle.ft_trace.specs.declared.View.{View}
use Rattle.ft_trace.specs.Owners.{SameOwners}
use Rattle.ft_trace.proofs.Owning.{same_owners}
use Rattle.ft_section.proofs.calls.wait.Goals as goal

pub returns-then-depth-eq0-clause-locked : goal.returns-then-depth-eq0-clause-locked
returns-then-depth-eq0-clause-locked c =
    subst (OnlyLocked (view c.args.pass.now)) (sym c.put_mark.ensures.view.1) (only_same (view c.args.pass.now))

pub returns-then-depth-eq0-clause-owners : goal.returns-then-depth-eq0-clause-owners
returns-then-depth-eq0-clause-owners c = subst (SameOwners (view c.args.pass.now)) (sym c.put_mark.ensures.view.1) (same_owners (view c.args.pass.now))

pub returns-then-depth-eq0-clause-stack : goal.returns-then-depth-eq0-clause-stack
returns-then-depth-eq0-clause-stack c =
    let s = stack_of c.args.pass.now in
    let depth = c.depth-depth.ensures.depth in
    let none : s.sections ≡ [] = sym c.sections.ensures ∙ nil_from_length c.sections.result.now (omega (arith, depth)) in
    let first : c.first_owner.result ≡ first_mark s.mark c.args.owner = c.first_owner.ensures ∙ ap (λ (m : Option ℕ). first_mark m c.args.owner) c.mark-mark.ensures in
    c.put_mark.ensures.stack ∙ (ap (λ (q : ℕ). record s { mark = Some q }) first
    ∙ ap (λ (xs : List OpenSection). record { sections = xs; own = s.own; mark = Some (first_mark s.mark c.args.owner) })
    (none ∙ sym (ap (map (suspended (marks_more s.mark))) none)))

pub returns-then-depth-eq0-clause-inside : goal.returns-then-depth-eq0-clause-inside
returns-then-depth-eq0-clause-inside c =
    let p = c.args.pass.now in
    let q = c.put_mark.new.self in
    let s = stack_of p in
    let i = c.requires.inside.1 in
    let depth = c.depth-depth.ensures.depth in
    let none : s.sections ≡ [] = sym c.sections.ensures ∙ nil_from_length c.sections.result.now (omega (arith, depth)) in
    let put : Stack = record s { mark = Some c.first_owner.result } in
    let made : InCall (view p) put = record {
      still = i.still;
      locks = i.locks;
      low = i.low;
      sections = i.sections;
      begun = i.begun;
      marked = λ r e outer top cut. absurd (push_some outer top (sym cut ∙ none));
    } in
    let same = c.put_mark.ensures.view.1 in (
      (c.put_mark.ensures.view.0 ∙ c.requires.inside.0.0, ap (λ (v : View). v.shape) same ∙ c.requires.inside.0.1),
      subst (InCall (view q)) (sym c.put_mark.ensures.stack) (subst (λ (v : View). InCall v put) (sym same) made),
    )

pub returns-then-depth-eq0-clause-suspended : goal.returns-then-depth-eq0-clause-suspended
returns-then-depth-eq0-clause-suspended c =
    let depth = c.depth-depth.ensures.depth in
    let none : (stack_of c.args.pass.now).sections ≡ [] = sym c.sections.ensures ∙ nil_from_length c.sections.result.now (omega (arith, depth)) in
    subst AreSuspended (sym (ap (λ (x : Stack). x.sections) c.put_mark.ensures.stack ∙ none)) ((λ k d low. omega (arith, low)), λ o. refl)
