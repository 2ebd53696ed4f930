use Rattle.std.proofs.Common.{◌≡◌, ◌<◌, ◌+◌, ◌++◌, ℕ, List, length, get_or, set, map, take, drop, arith, ap, ◌∙◌}
use Rattle.std.proofs.lemmas.List.{get_or_default}
use Rattle.std.proofs.lemmas.List.Edits.{map_over_more}
use Rattle.ft_bank.specs.PassSections.{suspended}
use Rattle.ft_bank.proofs.sections.suspend_each.Goals as goal

-- the same at whatever default the element is read
read_more : {X : Type 0} (f : X → X) (xs ys : List X) (i : ℕ) (d : X) → i < length xs → i < length ys → ys ≡ map f (take i xs) ++ drop i xs → set ys i (f (get_or ys i d)) ≡ map f (take (i + 1) xs) ++ drop (i + 1) xs
read_more f xs ys i d in_xs in_ys is =
    map_over_more f xs ys i (get_or ys i d) in_xs is (get_or_default ys i d (get_or ys i d) in_ys)

pub loop-section-preserved : goal.loop-section-preserved
loop-section-preserved c =
    let i = c.loop-section.section-index in
    let ys = c.loop-section.sections in
    ap (set ys i) c.suspended.ensures ∙ read_more (suspended c.args.marks) c.args.sections.now ys i _ (omega arith) (omega arith) c.loop-section.invariant
