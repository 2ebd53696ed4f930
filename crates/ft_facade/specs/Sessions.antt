-- What is kept true of a session between two of its calls, and what new ones are.
use Rattle.std.specs.Prelude.{◌≡◌, ℕ, suc, ◌<◌, Bool, true, false, List, [], ◌∷◌, length, slice_index_or}
use Rattle.std.specs.Arc.{arc_value}
use Rattle.ft_trace.specs.declared.Shape.{Shape}
use Rattle.ft_trace.specs.Acts.{announces}
use Rattle.ft_bank.specs.Passes.{shape_of, view}
use Rattle.ft_engine.specs.declared.caller.Caller.{Caller}
use Rattle.ft_engine.specs.declared.engine.Engine.{Engine}
use Rattle.ft_engine.specs.Callers.{IsCallerOf, IsFreshCaller, IsIdle, bank_of, pass_of, taken_of, thread_of}
use Rattle.ft_facade.specs.declared.session.Session.{Session}

-- the engine whose calls the session makes
abbrev pub engine_of : Session → Engine
engine_of s = arc_value s.engine

-- the caller of the engine that makes them
abbrev pub caller_of : Session → Caller
caller_of s = s.caller

-- whether it may make calls
abbrev pub is_online : Session → Bool
is_online s = s.is_online

-- the caller is one of the engine's, and online
abbrev pub IsOnlineCaller : Engine → Caller → Type 0
IsOnlineCaller e c = IsCallerOf e c × (0 < announces (view (pass_of c)).log)

-- The caller of the session is one of its engine's; it is online where the session says so, and in no call where not.
pub record IsSession (s : Session) : Type 0 where
  pub caller : IsCallerOf (arc_value s.engine) s.caller
  pub online : s.is_online ≡ true → 0 < announces (view (pass_of s.caller)).log
  pub idle : s.is_online ≡ false → IsIdle s.caller

-- the session with this caller
abbrev pub with_caller : Session → Caller → Session
with_caller s c = record s { caller = c }

-- it makes the calls of the same thread, has taken in the same callers, and the same one comes after it
pub record StaysInPlace (c d : Caller) : Type 0 where
  pub thread : thread_of d ≡ thread_of c
  pub next : (view (pass_of d)).next ≡ (view (pass_of c)).next
  pub parts : (view (pass_of d)).parts ≡ (view (pass_of c)).parts
  pub taken : taken_of d ≡ taken_of c

-- it is offline, and its caller is caller i of a new engine with room for that many cursors
pub record IsFreshSession (e : Engine) (room i : ℕ) (s : Session) : Type 0 where
  pub engine : arc_value s.engine ≡ e
  pub caller : IsFreshCaller e room i s.caller
  pub offline : s.is_online ≡ false

-- they are the sessions of a new engine in the order of their threads, from thread i on
abbrev pub AreFreshSessions : Engine → ℕ → ℕ → List Session → Type 0
AreFreshSessions e room i [] = Unit {0}
AreFreshSessions e room i (s ∷ sessions) = IsFreshSession e room i s × AreFreshSessions e room (suc i) sessions

-- they are the sessions of one new engine of this shape
abbrev pub AreOpened : Shape → ℕ → List Session → Type 0
AreOpened shape room sessions = (e : Engine) × (shape_of (bank_of e) ≡ shape) × AreFreshSessions e room 0 sessions

-- each of them is a session
abbrev pub AreSessions : List Session → Type 0
AreSessions sessions = (i : ℕ) (s : Session) → i < length sessions → IsSession (slice_index_or sessions i s)
