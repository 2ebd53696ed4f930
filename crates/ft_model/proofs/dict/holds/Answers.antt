use Rattle.std.proofs.Common.{◌≡◌, ap, ◌∙◌}
use Rattle.ft_model.specs.Keys.{is_value}
use Rattle.ft_model.specs.Contents.{DictContent, has_pair}
use Rattle.ft_model.proofs.PlacedPairs.{same_values, has_pair-found, has_pair-missing}
use Rattle.ft_model.proofs.dict.holds.Goals as goal

pub returns-in-Some : goal.returns-in-Some
returns-in-Some c =
    let is : c.eq.result ≡ is_value c.in-Some.pair.value c.args.wanted.now.value = c.eq.ensures ∙ same_values c.in-Some.pair.value c.args.wanted.now.value in
    is ∙ has_pair-found c.dict.inside.pairs c.args.wanted.now c.in-Some.pair c.dict.invariant.distinct c.in-Some.ensures.member ∙ ap (λ (d : DictContent). has_pair d.pairs c.args.wanted.now) c.dict.view_is

pub returns-in-None : goal.returns-in-None
returns-in-None c = has_pair-missing c.dict.inside.pairs c.args.wanted.now c.dict.invariant.distinct c.in-None.ensures.member ∙ ap (λ (d : DictContent). has_pair d.pairs c.args.wanted.now) c.dict.view_is
