use Rattle.std.proofs.Common.{Some, ap, ◌∙◌}
use Rattle.ft_layout.specs.declared.slot.Slot.TheVariants.{Live}
use Rattle.ft_iter.proofs.pairs.live_pair.Goals as goal

pub returns-in-Some : goal.returns-in-Some
returns-in-Some c pair =
    let says = c.entry_of.ensures.says (Live pair) in
    let is = c.pair_of.ensures pair in
    let slot = c.in-Some.is in
    (λ live. is.0 (let same = says.0 live in cc), λ same. says.1 (slot ∙ ap Some (is.1 same)))

pub returns-in-None : goal.returns-in-None
returns-in-None c pair =
    let none = c.in-None.is in
    (λ live. absurd (let same = (c.entry_of.ensures.says (Live pair)).0 live in cc), λ never. absurd cc)
