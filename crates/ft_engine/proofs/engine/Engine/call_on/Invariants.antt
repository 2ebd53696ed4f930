use Rattle.ft_engine.specs.declared.caller.Caller.{Caller}
use Rattle.ft_engine.specs.Attempts.{MayAttempt}
use Rattle.ft_engine.specs.Callers.{IsCallerOf}
use Rattle.ft_engine.specs.Calling.{IsBetween}
use Rattle.ft_engine.proofs.engine.Engine.call_on.Given as goal

abbrev pub invariant-loop : goal.invariant-loop
invariant-loop g l =
    IsCallerOf l.self l.caller × MayAttempt l.self l.caller l.call
    × ((first : Caller) → IsBetween l.self l.call first l.fn.caller → IsBetween l.self l.call first l.caller)
