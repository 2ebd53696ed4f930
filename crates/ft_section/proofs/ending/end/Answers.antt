use Rattle.std.proofs.Common.{◌≡◌, ℕ, false, List, [], inl, sym, ap, ◌∙◌, subst}
use Rattle.ft_bank.specs.declared.sections.OpenSection.{OpenSection}
use Rattle.ft_bank.specs.Passes.{view, IsPassOf}
use Rattle.ft_bank.specs.PassSections.{Stack, stack_of, taken_in}
use Rattle.std.proofs.lemmas.List.{same_from_push}
use Rattle.ft_section.specs.AnswerFacts.{stamp_of}
use Rattle.ft_section.specs.Locking.{LetGo}
use Rattle.ft_section.specs.Ready.{InCall, AreBegun}
use Rattle.ft_section.specs.Sectioning.{ended_by}
use Rattle.ft_section.proofs.Ends.{end_may, ended, kept_held}
use Rattle.ft_trace.specs.declared.View.{View}
use Rattle.ft_trace.specs.BegunSections.{Begun}
use Rattle.ft_trace.proofs.KeptSections.{kept_sections_are_untouched}
use Rattle.ft_trace.specs.Owners.{SameOwners}
use Rattle.ft_section.proofs.ending.end.Goals as goal

pub make_entry-number-requires-clause-said : goal.make_entry-number-requires-clause-said
make_entry-number-requires-clause-said c =
    let split = sym (c.copied-sections.ensures ∙ c.sections.ensures) ∙ c.pop.ensures.some c.in-Some.section c.in-Some.is in
    c.end_reply.ensures.said (view c.args.pass.now) (λ none b bs is.
    kept_held (stack_of c.args.pass.now).sections c.pop.new.self c.in-Some.section b bs split
    (subst (λ (x : List Begun). AreBegun (stack_of c.args.pass.now).sections x) is c.requires.ready.inside.1.begun) none)

pub let_taking_go-requires : goal.let_taking_go-requires
let_taking_go-requires c =
    let split = sym (c.copied-sections.ensures ∙ c.sections.ensures) ∙ c.pop.ensures.some c.in-Some.section c.in-Some.is in
    end_may c.args.bank.now c.args.pass.now c.put_sections.new.self c.pop.new.self c.in-Some.section c.end_reply.result c.make_entry-number.result c.requires.ready split
    (c.put_sections.ensures.view.0 ∙ c.make_entry-number.ensures.stack.0) (c.put_sections.ensures.view.1 ∙ c.make_entry-number.ensures.view) (ap (λ (s : Stack). s.sections) c.put_sections.ensures.stack)

pub returns-clause-section : goal.returns-clause-section
returns-clause-section c outer top cut =
    let split = sym (c.copied-sections.ensures ∙ c.sections.ensures) ∙ c.pop.ensures.some c.in-Some.section c.in-Some.is in
    let same = same_from_push c.pop.new.self outer c.in-Some.section top (sym split ∙ cut) in
    let marks = ap (λ (s : OpenSection). s.marks) same.1 in
    let stamp = c.end_answer.ensures.stamp in
    let answer : c.end_answer.result ≡ ended_by top.marks (stamp_of c.end_answer.result) =
    c.end_answer.ensures.answer ∙ (ap (λ (m : ℕ). ended_by m (record { number = c.make_entry-number.result; wrote = false })) marks ∙ ap (ended_by top.marks) (sym stamp)) in
    let stack = c.let_taking_go.ensures.stack.1 ∙ (c.put_sections.ensures.stack ∙ (ap (λ (s : Stack). record s { sections = c.pop.new.self }) c.make_entry-number.ensures.stack.1
    ∙ ap (λ (o : List OpenSection). record (stack_of c.args.pass.now) { sections = o }) same.0)) in
    (answer, stack)

pub returns-clause-kept : goal.returns-clause-kept
returns-clause-kept c b bs is none =
    let split = sym (c.copied-sections.ensures ∙ c.sections.ensures) ∙ c.pop.ensures.some c.in-Some.section c.in-Some.is in
    let held = kept_held (stack_of c.args.pass.now).sections c.pop.new.self c.in-Some.section b bs split
    (subst (λ (x : List Begun). AreBegun (stack_of c.args.pass.now).sections x) is c.requires.ready.inside.1.begun) (sym c.end_answer.ensures.marks ∙ none) in
    (held, λ es id knows. kept_sections_are_untouched (view c.args.pass.now).shape es knows.0 id (view c.args.pass.now) knows.1 [] b bs is held)

pub returns-clause-resume : goal.returns-clause-resume
returns-clause-resume c =
    let b = c.args.bank.now in
    let p = c.args.pass.now in
    let r = c.let_taking_go.new.pass in
    let s = stack_of p in
    let split = sym (c.copied-sections.ensures ∙ c.sections.ensures) ∙ c.pop.ensures.some c.in-Some.section c.in-Some.is in
    let stack = c.let_taking_go.ensures.stack.1 ∙ (c.put_sections.ensures.stack ∙ ap (λ (x : Stack). record x { sections = c.pop.new.self }) c.make_entry-number.ensures.stack.1) in
    let go = subst (λ (v : View). LetGo (λ o. taken_in o c.in-Some.section.locks) v (view r)) (c.put_sections.ensures.view.1 ∙ c.make_entry-number.ensures.view) c.let_taking_go.ensures.go in
    let inside : InCall (view r) (record s { sections = c.pop.new.self }) = ended b p (view r) c.pop.new.self c.in-Some.section c.end_reply.result c.make_entry-number.result c.requires.ready split go in
    let pass : IsPassOf b r = (c.let_taking_go.ensures.stack.0 ∙ (c.put_sections.ensures.view.0 ∙ (c.make_entry-number.ensures.stack.0 ∙ c.requires.ready.inside.0.0)), go.locked.shape ∙ c.requires.ready.inside.0.1) in
    let own = ap (λ (x : Stack). x.own) stack ∙ c.requires.ready.own in
    record {
      inside = (pass, subst (InCall (view r)) (sym stack) inside);
      own = λ outer top cut. inl own;
      none = λ nil. own;
    }

pub returns-clause-owners : goal.returns-clause-owners
returns-clause-owners c =
    let go = subst (λ (v : View). SameOwners v (view c.let_taking_go.new.pass)) (c.put_sections.ensures.view.1 ∙ c.make_entry-number.ensures.view) c.let_taking_go.ensures.go.owners in
    record { had = go.had; found = go.found }
