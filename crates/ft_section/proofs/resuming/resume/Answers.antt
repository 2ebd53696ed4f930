use Rattle.std.proofs.Common.{length, sym, ap, ◌∙◌, subst, arith}
use Rattle.std.proofs.lemmas.List.{nil_from_length}
use Rattle.ft_bank.specs.Passes.{view}
use Rattle.ft_bank.specs.PassSections.{stack_of}
use Rattle.ft_section.specs.Locking.{OnlyLocked}
use Rattle.ft_section.proofs.Releases.{only_same}
use Rattle.ft_section.proofs.Resumes.{push_some, none_up}
use Rattle.ft_trace.specs.Owners.{SameOwners}
use Rattle.ft_trace.proofs.Owning.{same_owners}
use Rattle.ft_section.proofs.resuming.resume.Goals as goal

pub returns-then-depth-eq0-clause-locked : goal.returns-then-depth-eq0-clause-locked
returns-then-depth-eq0-clause-locked c =
    subst (OnlyLocked (view c.args.pass.now)) (sym c.put_mark.ensures.view.1) (only_same (view c.args.pass.now))

pub returns-then-depth-eq0-clause-stack : goal.returns-then-depth-eq0-clause-stack
returns-then-depth-eq0-clause-stack c =
    let depth = c.depth-depth.ensures.depth in
    let none = sym c.sections.ensures ∙ nil_from_length c.sections.result.now (omega (arith, depth)) in
    none_up (stack_of c.args.pass.now) (stack_of c.put_mark.new.self) none (c.requires.none none) c.put_mark.ensures.stack

pub returns-then-depth-eq0-clause-only : goal.returns-then-depth-eq0-clause-only
returns-then-depth-eq0-clause-only c outer top cut =
    let depth = c.depth-depth.ensures.depth in
    let none = sym c.sections.ensures ∙ nil_from_length c.sections.result.now (omega (arith, depth)) in
    absurd (push_some outer top (sym cut ∙ none))

pub returns-then-depth-eq0-clause-owners : goal.returns-then-depth-eq0-clause-owners
returns-then-depth-eq0-clause-owners c nil = subst (SameOwners (view c.args.pass.now)) (sym c.put_mark.ensures.view.1) (same_owners (view c.args.pass.now))

pub returns-clause-owners : goal.returns-clause-owners
returns-clause-owners c nil =
    let depth = c.depth-depth.ensures.depth in
    let none = ap length (c.sections.ensures ∙ nil) in
    absurd (let some = c.if-depth-eq0 in omega (arith, depth, none, some))
