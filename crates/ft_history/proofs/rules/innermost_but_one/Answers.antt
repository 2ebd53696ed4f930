use Rattle.std.proofs.Common.{◌≡◌, ◌+◌, ◌-◌, ◌≤◌, List, [], ◌∷◌, ◌++◌, map, reverse, length, take, drop, get_or, sym, ap, ◌∙◌, arith}
use Rattle.std.proofs.lemmas.List.{take_more, take_all, reverse-append, map-append}
use Rattle.ft_history.specs.declared.progress.OpenSection.{OpenSection}
use Rattle.ft_history.specs.Internal.States.{begun_of, all_begun, inner_begun}
use Rattle.ft_history.proofs.rules.innermost_but_one.Goals as goal

-- the last section stands first
all_begun-push : (sections : List OpenSection) (section : OpenSection) → all_begun (sections ++ section ∷ []) ≡ begun_of section ∷ all_begun sections
all_begun-push sections section = ap reverse (map-append begun_of sections (section ∷ [])) ∙ reverse-append (map begun_of sections) (begun_of section ∷ [])

without_last : (sections : List OpenSection) → 1 ≤ length sections → drop 1 (all_begun sections) ≡ all_begun (take (length sections - 1) sections)
without_last [] some = absurd (omega arith)
without_last (first ∷ rest) some =
    let sections : List OpenSection = first ∷ rest in
    let n = length sections - 1 in
    let split : sections ≡ take n sections ++ get_or sections n first ∷ [] = sym (take_all (n + 1) sections (omega arith)) ∙ take_more sections n first (omega arith) in
    ap (λ (ss : List OpenSection). drop 1 (all_begun ss)) split ∙ ap (drop 1) (all_begun-push (take n sections) (get_or sections n first))

pub returns-in-len1-up : goal.returns-in-len1-up
returns-in-len1-up c = c.innermost-in-len1-up.ensures ∙ ap inner_begun (sym (without_last c.args.sections.now (omega arith)))
