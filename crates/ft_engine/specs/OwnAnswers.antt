-- That what a call was answered is of the very call: of the tries since it began.
use Rattle.std.specs.Prelude.{◌≡◌, ◌<◌, ◌≤◌, false, true}
use Rattle.ft_model.specs.declared.call.Call.{Call}
use Rattle.ft_trace.specs.declared.View.{View}
use Rattle.ft_trace.specs.Acts.{seen_writes}
use Rattle.ft_bank.specs.Passes.{view}
use Rattle.ft_section.specs.declared.answers.Stamp.{Stamp}
use Rattle.ft_engine.specs.declared.attempts.Tried.{Tried}
use Rattle.ft_engine.specs.declared.attempts.Tried.TheVariants as tried
use Rattle.ft_engine.specs.declared.caller.Caller.{Caller}
use Rattle.ft_engine.specs.declared.caller.Flight.{Flight}
use Rattle.ft_engine.specs.declared.caller.Flight.TheVariants as flight
use Rattle.ft_engine.specs.Answering.{HasCollectedFor, HasLoaded}
use Rattle.ft_engine.specs.Flights.{IsFlightAnswered}

-- The call was answered at this stamp after the first of these moments and before the second. The stamp is at least all
-- writes that the pass had seen. It is what the counter had when the pass loaded it last before the answer, in between;
-- or it is the number of the call's own write, which the pass has then seen. A `quiesce` has collected. (profile;
-- PEP 703, QSBR)
pub record IsOwnAnswer (called : Call) (stamp : Stamp) (v w : View) : Type 0 where
  pub least : seen_writes v ≤ stamp.number
  pub loaded : stamp.wrote ≡ false → HasLoaded called stamp.number v w
  pub wrote : stamp.wrote ≡ true → stamp.number < seen_writes w
  pub collected : HasCollectedFor called v w

-- so was the call in flight, where it has its answer
abbrev pub HasOwnAnswerIn : Flight → View → View → Type 0
HasOwnAnswerIn flight.Idle v w = Unit {0}
HasOwnAnswerIn (flight.Tried called) v w = Unit {0}
HasOwnAnswerIn (flight.Answered called said stamp) v w = IsOwnAnswer called stamp v w
HasOwnAnswerIn (flight.Refused called) v w = Unit {0}

-- so was the call that the try ended, or the one in flight
abbrev pub HasOwnAnswerBy : Call → Tried → Flight → View → View → Type 0
HasOwnAnswerBy called (tried.Done said stamp mark) f v w = IsOwnAnswer called stamp v w
HasOwnAnswerBy called (tried.NotYet o owner) f v w = HasOwnAnswerIn f v w
HasOwnAnswerBy called (tried.Moved first second) f v w = Unit {0}
HasOwnAnswerBy called tried.NoMemory f v w = Unit {0}

-- Of a call that had no answer before, the answer is of the tries since then. (One that had it keeps it.)
abbrev pub HasOwnAnswer : Call → Tried → Caller → Caller → Type 0
HasOwnAnswer called t c d =
    (IsFlightAnswered c.flight → ⊥) → HasOwnAnswerBy called t d.flight (view c.pass) (view d.pass)
