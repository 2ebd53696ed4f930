use Rattle.std.proofs.Common.{◌≡◌, List, ℕ, Some, None, sym, ap, ◌∙◌}
use Rattle.ft_texts.specs.Numbered.{text_place}
use Rattle.ft_texts.proofs.TextLemmas.{text_placed}
use Rattle.ft_texts.proofs.texts.Texts.number.Goals as goal

pub returns-clause-number : goal.returns-clause-number
returns-clause-number c =
    let absent : text_place c.args.self.now c.args.text.now ≡ None = sym c.place_of.ensures ∙ c.in_default.is in
    ap (λ (texts : List (List ℕ)). text_place texts c.args.text.now) c.in_ok-add.ensures.ok
    ∙ text_placed c.args.self.now c.args.text.now absent ∙ ap Some (sym c.len-next.ensures)
