use Rattle.std.proofs.Common.{◌≡◌, Some, sym, ap, ◌∙◌}
use Rattle.std.proofs.lemmas.Option.{none-some}
use Rattle.ft_layout.specs.declared.slot.Stored.TheVariants.{Plain}
use Rattle.ft_layout.proofs.stored.value_of.Goals as goal

pub returns-in-Some : goal.returns-in-Some
returns-in-Some c value = (
  (λ stored.
      let here : Some c.in-Some.stored ≡ Some (Plain value) = sym c.in-Some.is ∙ (c.stored_of.ensures (Plain value)).0 stored in
      let same : c.in-Some.stored ≡ Plain value = cc in
      (c.plain_of.ensures value).0 same),
  (λ found.
      let same = (c.plain_of.ensures value).1 found in
      (c.stored_of.ensures (Plain value)).1 (c.in-Some.is ∙ ap Some same)),
)

pub returns-in-None : goal.returns-in-None
returns-in-None c value = (
  (λ stored. absurd (none-some (Plain value) (sym c.in-None.is ∙ (c.stored_of.ensures (Plain value)).0 stored))),
  (λ found. absurd (none-some value found)),
)
