use Rattle.ft_layout.proofs.WordLaws.{gone_from_key, key_from_gone}
use Rattle.ft_layout.proofs.key.gone_key_of.Goals as goal

pub returns-in-3 : goal.returns-in-3
returns-in-3 c =
    λ k. (
      λ is. (c.key_of.ensures k).0 (key_from_gone c.args.kind 1 c.args.payload k c.in-3.is is),
      λ e. gone_from_key c.args.kind 1 c.args.payload k c.in-3.is ((c.key_of.ensures k).1 e),
    )

pub returns-in-4 : goal.returns-in-4
returns-in-4 c =
    λ k. (
      λ is. (c.key_of-in-4.ensures k).0 (key_from_gone c.args.kind 2 c.args.payload k c.in-4.is is),
      λ e. gone_from_key c.args.kind 2 c.args.payload k c.in-4.is ((c.key_of-in-4.ensures k).1 e),
    )
