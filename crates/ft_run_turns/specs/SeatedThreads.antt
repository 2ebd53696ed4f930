-- Threads before the first turn of a script.
use Rattle.std.specs.Prelude.{◌≡◌, ℕ, ◌<◌, List, [], length, Option, Some, slice_get}
use Rattle.ft_model.specs.declared.script.ScriptParts.{ScriptParts}
use Rattle.ft_model.specs.Histories.{calls_of}
use Rattle.ft_trace.specs.declared.Presence.TheVariants as presence
use Rattle.ft_trace.specs.Acts.{announces, presence_of}
use Rattle.ft_engine.specs.Resting.{rests_in}
use Rattle.ft_run_turns.specs.declared.seats.Seat.{Seat}

-- The thread has made no call. Where it has one to make, it is online, and has been since before its first call.
-- (PEP 703, QSBR)
pub record IsOnlineAtStart (script : ScriptParts) (thread : ℕ) (s : Seat) : Type 0 where
  pub none : s.entries.items ≡ []
  pub online : 0 < length (calls_of script thread)
      → (0 < announces (rests_in s.caller).log) × (presence_of (rests_in s.caller).log ≡ presence.Online)

-- so is each thread
abbrev pub AreOnlineAtStart : ScriptParts → List (Option Seat) → Type 0
AreOnlineAtStart script seats =
    (thread : ℕ) → thread < length seats
    → (s : Seat) × (slice_get seats thread ≡ Some (Some s)) × IsOnlineAtStart script thread s
