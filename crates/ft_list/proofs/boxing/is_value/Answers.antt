use Rattle.std.proofs.Common.{◌≡◌, sym, ap, ◌∙◌}
use Rattle.ft_layout.specs.declared.slot.Stored.TheVariants.{Plain}
use Rattle.ft_model.specs.declared.data.Value.{Value}
use Rattle.ft_model.specs.Keys.{is_value}
use Rattle.ft_model.proofs.PlacedPairs.{same_values}
use Rattle.ft_model.proofs.ValueLemmas.{is_value-true, is_value-refl}
use Rattle.ft_list.proofs.boxing.is_value.Goals as goal

pub returns-in-Plain : goal.returns-in-Plain
returns-in-Plain c =
    let eq = c.eq.ensures ∙ same_values c.in-Plain.found c.args.value in (
      (λ yes. c.in-Plain.is ∙ ap Plain (is_value-true c.in-Plain.found c.args.value (sym eq ∙ yes))),
      (λ same.
          let one : Plain c.in-Plain.found ≡ Plain c.args.value = sym c.in-Plain.is ∙ same in
          let is : c.in-Plain.found ≡ c.args.value = cc in
          eq ∙ (ap (λ (z : Value). is_value z c.args.value) is ∙ is_value-refl c.args.value)),
    )
