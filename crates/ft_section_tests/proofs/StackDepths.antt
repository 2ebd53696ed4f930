-- How many sections are open after a section is taken up again and after one is ended.
use Rattle.std.proofs.Common.{◌≡◌, ◌⊎◌, inl, inr, ⊎_elim, ℕ, suc, ◌+◌, ◌<◌, List, [], ◌∷◌, ◌++◌, length, refl, sym, ap, ◌∙◌, arith, length-append}
use Rattle.std.proofs.lemmas.List.{length-map}
use Rattle.ft_bank.specs.declared.sections.OpenSection.{OpenSection}
use Rattle.ft_bank.specs.PassSections.{Stack, suspended}
use Rattle.ft_section.specs.declared.answers.Resumed.{Resumed}
use Rattle.ft_section.specs.declared.answers.Resumed.TheVariants as resumed
use Rattle.ft_section.specs.AnswerFacts.{IfBack, IfStillWaits}
use Rattle.ft_section.specs.Locking.{TakenUp, marks_more, noting, waiting, with_own}

-- a list is empty or has a last element
pub last_of : {A : Type 0} (l : List A) → (l ≡ []) ⊎ ((outer : List A) × (top : A) × (l ≡ outer ++ top ∷ []))
last_of [] = inl refl
last_of (x ∷ xs) =
    ⊎_elim
    (λ none. inr ([], x, ap (λ l. x ∷ l) none))
    (λ some. inr (x ∷ some.0, some.1, ap (λ l. x ∷ l) some.2))
    (last_of xs)

one_more : (outer : List OpenSection) (top : OpenSection) → length (outer ++ top ∷ []) ≡ length outer + 1
one_more outer top = length-append outer (top ∷ [])

taken_up : (s t : Stack) → TakenUp s t → length t.sections ≡ length s.sections
taken_up s t up =
    ⊎_elim
    (λ none. ap length (up.none none) ∙ sym (ap length none))
    (λ some.
    let after = up.top some.0 some.1 some.2 in
    ap length after.2 ∙ (one_more some.0 (noting after.0 after.1 some.1) ∙ sym (ap length some.2 ∙ one_more some.0 some.1)))
    (last_of s.sections)

pub taken_up_as_deep : (r : Resumed) (s t : Stack) → IfBack r (λ mark. TakenUp s t) → IfStillWaits r (λ o q. t ≡ waiting (with_own s t.own) q) → length t.sections ≡ length s.sections
taken_up_as_deep (resumed.Back mark) s t up still = taken_up s t up
taken_up_as_deep (resumed.NotYet o q) s t up still =
    ap (λ (z : Stack). length z.sections) still ∙ length-map s.sections (suspended (marks_more s.mark))

pub ended_less_deep : (s t : Stack) → 0 < length s.sections
    → ((outer : List OpenSection) (top : OpenSection) → s.sections ≡ outer ++ top ∷ [] → t ≡ record s { sections = outer })
    → length t.sections + 1 ≡ length s.sections
ended_less_deep s t some ends =
    ⊎_elim
    (λ none. let e = ap length none in absurd (omega (arith, e, some)))
    (λ last.
    let a : length t.sections ≡ length last.0 = ap (λ (z : Stack). length z.sections) (ends last.0 last.1 last.2) in
    let b : length s.sections ≡ length last.0 + 1 = ap length last.2 ∙ one_more last.0 last.1 in
    omega (arith, a, b))
    (last_of s.sections)
