use Rattle.std.proofs.Common.{◌∙◌, arith}
use Rattle.ft_script.proofs.ShortNumbers.{short_natural}
use Rattle.ft_script.proofs.replies.natural_in.Goals as goal

pub returns-in-len1-up : goal.returns-in-len1-up
returns-in-len1-up c = c.short_value.ensures.value ∙ short_natural c.args.token.now (omega arith) c.if-token-le18.true
