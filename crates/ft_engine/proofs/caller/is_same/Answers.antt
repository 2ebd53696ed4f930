use Rattle.std.proofs.Common.{sym, ◌∙◌}
use Rattle.ft_history.proofs.Equality.{call_alike, call_exact}
use Rattle.ft_engine.proofs.caller.is_same.Goals as goal

pub returns : goal.returns
returns c = (λ yes. call_exact _ _ (sym c.eq.ensures ∙ yes), λ same. c.eq.ensures ∙ call_alike _ _ same)
