-- The list that is kept of a caller that has made no call.
use Rattle.std.proofs.Common.{ℕ, List, [], sym, subst}
use Rattle.ft_trace.specs.declared.Entry.{Entry}
use Rattle.ft_bank.specs.Passes.{view}
use Rattle.ft_bank.specs.PassSections.{stack_of}
use Rattle.ft_engine.specs.declared.caller.Caller.{Caller}
use Rattle.ft_engine.specs.declared.caller.Flight.{Flight}
use Rattle.ft_engine.specs.declared.engine.Engine.{Engine}
use Rattle.ft_engine.specs.Callers.{IsFreshCaller, thread_of}
use Rattle.ft_engine.specs.Keeping.{AreThreadEntries, WasAnswered}
use Rattle.ft_engine.specs.Owning.{AreOwnedBy}
use Rattle.ft_engine.proofs.Keeping.{kept_start}
use Rattle.ft_engine.proofs.KnownOwners.{start_owned}

-- a caller of a new engine has made no call
pub new_kept : (e : Engine) (room i : ℕ) (c : Caller) → IsFreshCaller e room i c → WasAnswered c []
new_kept e room i c is = (
  subst (λ (x : List Entry × Flight). AreThreadEntries (thread_of c) x.0 (stack_of c.pass) x.1 []) (λ d. (sym is.entries d, sym is.flight d)) (kept_start (thread_of c) (stack_of c.pass) is.sections),
  subst (λ (f : Flight). AreOwnedBy (view c.pass) (stack_of c.pass) f []) (sym is.flight) (start_owned (view c.pass) (stack_of c.pass) is.log is.sections),
)
