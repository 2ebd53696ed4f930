use Rattle.ft_facade.specs.Sessions.{IsSession}
use Rattle.ft_embedding.proofs.main.Given as goal

abbrev pub invariant-loop-key : goal.invariant-loop-key
invariant-loop-key g l = IsSession l.session
