-- That callers were online while they made their calls.
use Rattle.std.specs.Prelude.{◌≡◌, suc}
use Rattle.ft_trace.specs.declared.Presence.TheVariants as presence
use Rattle.ft_trace.specs.Acts.{presence_of, told_in}
use Rattle.ft_bank.specs.Closings.{AreToldOnline, HasBeenOnline}
use Rattle.ft_bank.specs.Passes.{view}
use Rattle.ft_engine.specs.declared.caller.Caller.{Caller}
use Rattle.ft_engine.specs.Callers.{pass_of, taken_of, thread_of}

-- the caller has been online from before its first call on (PEP 703, QSBR)
abbrev pub IsStillOnline : Caller → Type 0
IsStillOnline c = presence_of (view (pass_of c)).log ≡ presence.Online

-- The caller is offline, and was online from before its first call until after its last; so was each caller that it took
-- in, as that one told it.
pub record WereOnline (c : Caller) : Type 0 where
  pub own : HasBeenOnline (presence_of (view (pass_of c)).log)
  pub taken : AreToldOnline (told_in (view (pass_of c)).log) (suc (thread_of c)) (taken_of c)
