use Rattle.std.proofs.Common.{refl, sym, ◌∙◌}
use Rattle.std.proofs.lemmas.Bool.{false≢true}
use Rattle.ft_section.proofs.Notes.{noted_here, noted_later, noted_none}
use Rattle.ft_section.proofs.locks.is_noted.Goals as goal

pub returns-then-is_taken : goal.returns-then-is_taken
returns-then-is_taken c =
    let i = c.loop-section.section-index in
    let here = noted_here c.args.o c.args.sections.now i _ c.loop-section-test.true (c.if-is_taken.ensures.0 refl) in
    ((λ _ none. here (c.loop-section.invariant ∙ none)), (λ _. refl))

pub loop-section-preserved : goal.loop-section-preserved
loop-section-preserved c =
    noted_later c.args.o c.args.sections.now c.loop-section.section-index _ c.loop-section-test.true (λ here. false≢true (c.if-is_taken.ensures.1 here)) ∙ c.loop-section.invariant

pub returns : goal.returns
returns c =
    let none = noted_none c.args.o c.args.sections.now c.loop-section.section-index c.loop-section-test.false in
    ((λ e. absurd (false≢true e)), (λ some_one. absurd (some_one (sym c.loop-section.invariant ∙ none))))
