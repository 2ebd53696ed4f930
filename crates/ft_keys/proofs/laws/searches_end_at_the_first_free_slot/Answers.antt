use Rattle.std.proofs.Common.{◌≢◌, ◌++◌, ap, ◌∙◌}
use Rattle.std.proofs.lemmas.List.Elements.{All-weaker}
use Rattle.ft_layout.specs.Tables.{index_word}
use Rattle.ft_keys.specs.Searches.{Passes}
use Rattle.ft_keys.proofs.laws.searches_end_at_the_first_free_slot.Goals as goal

pub returns : goal.returns
returns c mask words key first left slot ends =
    (ends.0, ends.1, ends.2 ∙ ap (λ l. ends.0 ++ l) ends.3, All-weaker (Passes mask words key) (λ other. index_word words other ≢ 0) (λ other passes. passes.was_used) ends.0 ends.4, ends.5)
