-- Calls in flight: which containers they lock, and how far a pass has come with them.
use Rattle.std.specs.Prelude.{◌≡◌, Bool, true, false, List, Option, Some, None, option_map}
use Rattle.ft_model.specs.declared.call.Call.{Call}
use Rattle.ft_model.specs.declared.call.Call.TheVariants as call
use Rattle.ft_model.specs.declared.cursor.Cursor.{Cursor}
use Rattle.ft_model.specs.Calls.{other_dict, other_list, other_set, other_deque}
use Rattle.ft_model.specs.Worlds.{container_of, cursor_at}
use Rattle.ft_bank.specs.declared.bank.Bank.{Bank}
use Rattle.ft_bank.specs.declared.pass.Pass.{Pass}
use Rattle.ft_section.specs.declared.answers.Objects.{Objects}
use Rattle.ft_section.specs.declared.answers.Objects.TheVariants.{One}
use Rattle.ft_section.specs.Ready.{HasTop, IsInCall, IsReady, MayTry, MayResume}
use Rattle.ft_table_calls.specs.TriesUnderLocks.{objects_by}
use Rattle.ft_engine.specs.declared.caller.Flight.{Flight}
use Rattle.ft_engine.specs.declared.caller.Flight.TheVariants as flight

-- the containers whose locks a call of a thread with these cursors takes, if it takes any (C API, critical sections)
abbrev pub objects_of : List (Option Cursor) → Call → Option Objects
objects_of hands (call.Dict o dc) = Some (objects_by o (other_dict dc))
objects_of hands (call.List o lc) = Some (objects_by o (other_list lc))
objects_of hands (call.Set o sc) = Some (objects_by o (other_set sc))
objects_of hands (call.Deque o qc) = Some (objects_by o (other_deque qc))
objects_of hands (call.Next number) = option_map (λ walker. One (container_of walker)) (cursor_at hands number)
objects_of hands (call.Begin first second) = Some (objects_by first second)
objects_of hands call.End = None
objects_of hands call.Quiesce = None
objects_of hands (call.Await thread index) = None
objects_of hands call.Dump = None

-- whether the call begins a section
abbrev pub is_begin : Call → Bool
is_begin (call.Begin first second) = true
is_begin (call.Dict o dc) = false
is_begin (call.List o lc) = false
is_begin (call.Set o sc) = false
is_begin (call.Deque o qc) = false
is_begin (call.Next number) = false
is_begin call.End = false
is_begin call.Quiesce = false
is_begin (call.Await thread index) = false
is_begin call.Dump = false

-- How far the pass has come. Between two calls it is ready for the next one. A call without an answer may be tried
-- again, on the locks of its containers. One with an answer has the innermost section to take up again, of which a
-- `begin` still has the locks. (C API, critical sections)
abbrev pub IsIn : Bank → Pass → List (Option Cursor) → Flight → Type 0
IsIn b p hands flight.Idle = IsReady b p
IsIn b p hands (flight.Tried called) =
    (objects : Objects) × (objects_of hands called ≡ Some objects) × MayTry b p objects
IsIn b p hands (flight.Answered called said stamp) = MayResume b p × (is_begin called ≡ true → HasTop p)
IsIn b p hands (flight.Refused called) = IsInCall b p

-- the call in flight has its answer
abbrev pub IsFlightAnswered : Flight → Type 0
IsFlightAnswered flight.Idle = ⊥
IsFlightAnswered (flight.Tried called) = ⊥
IsFlightAnswered (flight.Answered called said stamp) = Unit {0}
IsFlightAnswered (flight.Refused called) = ⊥

-- no call is in flight, or this one, and it wasn't refused
abbrev pub AllowsCall : Flight → Call → Type 0
AllowsCall flight.Idle called = Unit {0}
AllowsCall (flight.Tried tried) called = tried ≡ called
AllowsCall (flight.Answered answered said stamp) called = answered ≡ called
AllowsCall (flight.Refused refused) called = ⊥
