use Rattle.std.proofs.Common.{sym, ◌∙◌}
use Rattle.ft_history.proofs.Equality.{reply_exact, reply_alike}
use Rattle.ft_history.proofs.equal.same_reply.Goals as goal

pub returns : goal.returns
returns c = (λ yes. reply_exact _ _ (sym c.eq.ensures ∙ yes), λ same. c.eq.ensures ∙ reply_alike _ _ same)
