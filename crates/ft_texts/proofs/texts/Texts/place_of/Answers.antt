use Rattle.std.proofs.Common.{ℕ, Vec, Global, sym, ◌∙◌}
use Rattle.ft_texts.proofs.TextLemmas.{place_found}
use Rattle.ft_texts.proofs.texts.Texts.place_of.Goals as goal

pub returns-in_err-place : goal.returns-in_err-place
returns-in_err-place c =
    c.from_residual.ensures ∙ sym c.in_err-place.was ∙ place_found (λ (v : Vec ℕ Global). v.items) c.args.text.now c.get_index_of.result c.self.inside.texts.keys c.args.self.now c.get_index_of.ensures.index c.self.view_is

pub returns : goal.returns
returns c =
    sym c.in_ok-place.was ∙ place_found (λ (v : Vec ℕ Global). v.items) c.args.text.now c.get_index_of.result c.self.inside.texts.keys c.args.self.now c.get_index_of.ensures.index c.self.view_is
