use Rattle.std.proofs.Common.{◌≡◌, Some, None, sym, ap, ◌∙◌}
use Rattle.std.proofs.lemmas.Option.{none-some}
use Rattle.ft_layout.specs.declared.slot.Stored.TheVariants.{Empty, Plain}
use Rattle.ft_list.proofs.gets.found_of.Goals as goal

pub returns-in-Some-clause-value : goal.returns-in-Some-clause-value
returns-in-Some-clause-value c value = (
  (λ stored.
      let here : Some c.in-Some.stored ≡ Some (Plain value) = sym c.in-Some.is ∙ (c.item_of.ensures.says (Plain value)).0 stored in
      let same : c.in-Some.stored ≡ Plain value = cc in
      (c.found_in.ensures.value value).0 same),
  (λ found. (c.item_of.ensures.says (Plain value)).1 (c.in-Some.is ∙ ap Some ((c.found_in.ensures.value value).1 found))),
)

pub returns-in-Some-clause-none : goal.returns-in-Some-clause-none
returns-in-Some-clause-none c = (
  (λ stored.
      let here : Some c.in-Some.stored ≡ Some Empty = sym c.in-Some.is ∙ (c.item_of.ensures.says Empty).0 stored in
      let same : c.in-Some.stored ≡ Empty = cc in
      c.found_in.ensures.none.0 same),
  (λ found. (c.item_of.ensures.says Empty).1 (c.in-Some.is ∙ ap Some (c.found_in.ensures.none.1 found))),
)

pub returns-in-None-clause-value : goal.returns-in-None-clause-value
returns-in-None-clause-value c value = (
  (λ stored. absurd (none-some (Plain value) (sym c.in-None.is ∙ (c.item_of.ensures.says (Plain value)).0 stored))),
  (λ found. absurd (none-some (Some value) found)),
)

pub returns-in-None-clause-none : goal.returns-in-None-clause-none
returns-in-None-clause-none c = (
  (λ stored. absurd (none-some Empty (sym c.in-None.is ∙ (c.item_of.ensures.says Empty).0 stored))),
  (λ found. absurd (none-some None found)),
)
