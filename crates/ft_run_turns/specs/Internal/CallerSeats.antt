-- Threads of a script between two turns: their callers rest, and the floor is on its way.
use Rattle.std.specs.Prelude.{◌≡◌, ℕ, suc, ◌+◌, ◌<◌, ◌≤◌, Bool, true, false, List, [], ◌∷◌, ◌++◌, length, map, take, Option, None, Some, IfSome, slice_get, slice_index_or, slice_set, Vec}
use Rattle.std.specs.List.{sum_by}
use Rattle.std.specs.declared.alloc.Global.{Global}
use Rattle.ft_model.specs.declared.call.Call.{Call}
use Rattle.ft_model.specs.declared.call.Call.TheVariants as call
use Rattle.ft_model.specs.declared.entry.Entry.{Entry}
use Rattle.ft_model.specs.declared.reply.Reply.TheVariants as reply
use Rattle.ft_model.specs.declared.script.ScriptParts.{ScriptParts}
use Rattle.ft_model.specs.Histories.{calls_of}
use Rattle.ft_model.specs.Limits.{most_cursors}
use Rattle.ft_trace.specs.Boxes.{HasMergedBoxes}
use Rattle.ft_trace.specs.declared.Presence.TheVariants as presence
use Rattle.ft_trace.specs.Acts.{announces, presence_of}
use Rattle.ft_bank.specs.declared.note.Note.{Note}
use Rattle.ft_bank.specs.declared.tokens.Tokens.{Tokens}
use Rattle.ft_bank.specs.Floors.{AreTokensOf, IsRestingOf, carried, stack_at_rest}
use Rattle.ft_bank.specs.Notes.{IsNoteOf, TellsOf}
use Rattle.ft_bank.specs.Passes.{shape_of, view}
use Rattle.ft_bank.specs.PassSections.{no_sections, stack_of}
use Rattle.ft_engine.specs.declared.attempts.Tried.{Tried}
use Rattle.ft_engine.specs.declared.attempts.Tried.TheVariants as tried
use Rattle.ft_engine.specs.declared.caller.Caller.{Caller}
use Rattle.ft_engine.specs.declared.engine.Engine.{Engine}
use Rattle.ft_engine.specs.declared.resting.RestingCaller.{RestingCaller}
use Rattle.ft_engine.specs.Attempts.{entries_with_answer}
use Rattle.ft_engine.specs.Callers.{IsCallerOf, IsIdle, bank_of, flight_of, hands_of, pass_of, thread_of}
use Rattle.ft_engine.specs.Flights.{AllowsCall}
use Rattle.ft_engine.specs.Keeping.{WasAnswered}
use Rattle.ft_engine.specs.Resting.{HandsOn, HasFloor, RestsAs}
use Rattle.ft_section.specs.declared.answers.Stamp.{Stamp}
use Rattle.ft_turns.specs.Ends.{after_turns}
use Rattle.ft_turns.specs.Orders.{Awaited, awaited_by, is_awaiting}
use Rattle.ft_turn_laws.specs.Beginnings.{NoneOwns}
use Rattle.ft_turn_laws.specs.Ordered.{nobody}
use Rattle.ft_turn_laws.specs.Standing.{Standing, standing_of}
use Rattle.ft_turn_laws.specs.Turns.{AreInStep, IsLearnOf, IsTurnOf}
use Rattle.ft_run_threads.specs.Workers.{IsMember}
use Rattle.ft_run_turns.specs.declared.awaiting.AwaitState.{AwaitState}
use Rattle.ft_run_turns.specs.declared.awaiting.AwaitState.TheVariants as awaited
use Rattle.ft_run_turns.specs.declared.seats.Seat.{Seat}
use Rattle.ft_bank.specs.Closings.{HasBeenOnline}
use Rattle.ft_engine.specs.Presences.{IsStillOnline}

-- ---- seats

-- how a thread stands whose caller rests
abbrev pub standing_in : Seat → Standing
standing_in s = record { flight = s.caller.flight; stack = stack_at_rest s.caller.pass; entries = s.entries.items }

abbrev pub standing_at : Option Seat → Standing
standing_at None = nobody
standing_at (Some s) = standing_in s

abbrev pub standings_of : List (Option Seat) → List Standing
standings_of seats = map standing_at seats

abbrev pub seat_entries : Option Seat → List Entry
seat_entries None = []
seat_entries (Some s) = s.entries.items

-- how many calls have ended
abbrev pub entries_made : List (Option Seat) → ℕ
entries_made seats = sum_by (λ seat. length (seat_entries seat)) seats

-- The caller of this thread was answered these entries, of the thread's first calls. The call that it is in is the next
-- one. It has been online since before the first turn as long as it has calls left; then it merges its boxes and goes
-- offline.
pub record IsBetweenTurns (e : Engine) (script : ScriptParts) (i : ℕ) (c : Caller) (mine : List Entry) : Type 0 where
  pub member : IsMember e i c
  pub cursors : length (hands_of c) ≡ most_cursors
  pub kept : WasAnswered c mine
  pub made : map (λ entry. entry.call) mine ≡ take (length mine) (calls_of script i)
  pub next : (called : Call) → slice_get (calls_of script i) (length mine) ≡ Some called
      → AllowsCall (flight_of c) called
  -- it is in no call where the next one is an `await`
  pub idle : (named index : ℕ) → slice_get (calls_of script i) (length mine) ≡ Some (call.Await named index) → IsIdle c
  pub online : length mine < length (calls_of script i) → (0 < announces (view (pass_of c)).log) × IsStillOnline c
  pub done : length (calls_of script i) ≤ length mine → IsIdle c × (announces (view (pass_of c)).log ≡ 0)
      × HasBeenOnline (presence_of (view (pass_of c)).log) × HasMergedBoxes (view (pass_of c)).log

-- it rests
pub record IsSeatOf (e : Engine) (script : ScriptParts) (i : ℕ) (s : Seat) : Type 0 where
  pub resting : IsRestingOf (bank_of e) s.caller.pass
  pub caller : Caller
  pub is : IsCallerOf e caller
  pub rests : RestsAs caller s.caller
  pub between : IsBetweenTurns e script i caller s.entries.items

-- the seats of the threads in their order
abbrev pub AreSeats : Engine → ScriptParts → List (Option Seat) → Type 0
AreSeats e script seats =
    (thread : ℕ) → thread < length seats
    → (s : Seat) × (slice_get seats thread ≡ Some (Some s)) × IsSeatOf e script thread s

-- each thread has made all its calls
abbrev pub SeatsHaveMadeAll : ScriptParts → List (Option Seat) → Type 0
SeatsHaveMadeAll script seats =
    (thread : ℕ) (s : Seat) → slice_get seats thread ≡ Some (Some s)
    → length (calls_of script thread) ≤ length s.entries.items

-- ---- the floor

-- all tokens of the bank
abbrev pub IsHeld : Engine → Tokens → Type 0
IsHeld e t = AreTokensOf (bank_of e) t × ((carried t).tokens ≡ (shape_of (bank_of e)).passes)

-- the caller had the floor, and has handed it on with its tokens
pub record IsGiver (e : Engine) (c : Caller) (t : Tokens) : Type 0 where
  pub caller : IsCallerOf e c
  pub floor : HasFloor c
  pub hands : HandsOn c t

-- after these turns the threads are in step with the machine, as the last of them knows it that had the floor
abbrev pub HaveTurned : Engine → ScriptParts → List ℕ → List (Option Seat) → Tokens → Type 0
HaveTurned e script turns seats t =
    0 < length script.threads
    → (c : Caller) × IsGiver e c t × AreInStep script turns (view (pass_of c)) (standings_of seats)

-- ---- one turn

abbrev pub ends_call : Tried → Bool
ends_call (tried.Done said stamp mark) = true
ends_call (tried.NotYet o owner) = false
ends_call (tried.Moved first second) = false
ends_call tried.NoMemory = false

-- a caller with the floor has tried the call once, and its entry is added where it has ended
pub record HasTried (e : Engine) (called : Call) (c : Caller) (mine : List Entry) (d : Caller) (after : List Entry)
    (went : Bool) : Type 0 where
  pub answer : Tried
  pub turn : IsTurnOf e called answer c d
  pub entries : after ≡ entries_with_answer (thread_of c) called answer mine
  pub ended : went ≡ ends_call answer

-- Where the threads were in step, they are after one more turn of this one, of whose caller these are the entries, and
-- which awaits no call that has not finished.
abbrev pub StaysInStep : ScriptParts → ℕ → Caller → List Entry → Caller → List Entry → Type 0
StaysInStep script thread c mine d after =
    (turns : List ℕ) (standings : List Standing) → is_awaiting script (after_turns script turns) thread ≡ false
    → slice_get standings thread ≡ Some (standing_of c mine) → AreInStep script turns (view (pass_of c)) standings
    → AreInStep script (turns ++ thread ∷ []) (view (pass_of d)) (slice_set standings thread (standing_of d after))

-- the same from the tokens before the turn to those after it
abbrev pub TokensStayInStep : Engine → ScriptParts → ℕ → Seat → Tokens → Seat → Tokens → Type 0
TokensStayInStep e script thread s t r u =
    (turns : List ℕ) (standings : List Standing) (c : Caller)
    → is_awaiting script (after_turns script turns) thread ≡ false → IsGiver e c t
    → slice_get standings thread ≡ Some (standing_in s) → AreInStep script turns (view (pass_of c)) standings
    → (d : Caller) × IsGiver e d u
    × AreInStep script (turns ++ thread ∷ []) (view (pass_of d)) (slice_set standings thread (standing_in r))

-- ---- awaits

-- how many calls of a thread have ended, and the call that it makes next, where it has one left
abbrev pub made_in : List (Option Seat) → ℕ → ℕ
made_in seats thread = length (seat_entries (slice_index_or seats thread None))

abbrev pub next_in : ScriptParts → List (Option Seat) → ℕ → Option Call
next_in script seats thread = slice_get (calls_of script thread) (made_in seats thread)

-- the next call is no `await`, or there is none
abbrev pub AwaitsNone : Option Call → Type 0
AwaitsNone next = IfSome next (λ called. awaited_by called ≡ None)

-- the next call is an `await`, and the note tells of the call that it names; or it is none, and there is no note
abbrev pub IsNoteOfAwaited : Engine → Option Call → Option Note → Type 0
IsNoteOfAwaited e next None = AwaitsNone next
IsNoteOfAwaited e next (Some note) =
    (one : Awaited) × (next ≡ Some (call.Await one.thread one.index)) × IsNoteOf (bank_of e) note
    × TellsOf note one.thread one.index

-- what a thread awaits: a call that has finished, of which there is a note; or one that has not; or nothing
abbrev pub IsAwaitState : Engine → ScriptParts → List (Option Seat) → ℕ → AwaitState → Type 0
IsAwaitState e script seats thread awaited.Nothing = AwaitsNone (next_in script seats thread)
IsAwaitState e script seats thread (awaited.Finished note) =
    (one : Awaited) × (next_in script seats thread ≡ Some (call.Await one.thread one.index))
    × IsNoteOf (bank_of e) note × TellsOf note one.thread one.index × (one.index ≤ made_in seats one.thread)
IsAwaitState e script seats thread awaited.Unfinished =
    (one : Awaited) × (next_in script seats thread ≡ Some (call.Await one.thread one.index))
    × (made_in seats one.thread < one.index)

-- a caller with the floor was answered the `await` that comes next, and its entry is added
pub record HasLearned (e : Engine) (called : Call) (c : Caller) (mine : List Entry) (d : Caller) (after : List Entry)
    : Type 0 where
  pub stamp : Stamp
  pub learn : IsLearnOf e called stamp c d
  pub entries : after ≡ entries_with_answer (thread_of c) called (tried.Done reply.Done stamp None) mine

-- ---- the start

-- the caller of this thread has made no call, and was never online
pub record IsNewCaller (e : Engine) (i : ℕ) (c : Caller) : Type 0 where
  pub member : IsMember e i c
  pub idle : IsIdle c
  pub cursors : length (hands_of c) ≡ most_cursors
  pub kept : WasAnswered c []
  pub sections : stack_of (pass_of c) ≡ no_sections
  pub offline : announces (view (pass_of c)).log ≡ 0
  pub never : presence_of (view (pass_of c)).log ≡ presence.Before
  pub merged : HasMergedBoxes (view (pass_of c)).log

-- it rests
pub record IsNewRest (e : Engine) (i : ℕ) (r : RestingCaller) : Type 0 where
  pub resting : IsRestingOf (bank_of e) r.pass
  pub caller : Caller
  pub rests : RestsAs caller r
  pub new : IsNewCaller e i caller

abbrev pub AreNewFrom : Engine → ℕ → List RestingCaller → Type 0
AreNewFrom e i [] = Unit {0}
AreNewFrom e i (r ∷ others) = IsNewRest e i r × AreNewFrom e (suc i) others

-- a thread before its first turn
abbrev pub IsNewSeat : Engine → ScriptParts → ℕ → Option Seat → Type 0
IsNewSeat e script i None = ⊥
IsNewSeat e script i (Some s) = IsSeatOf e script i s × (standing_in s ≡ nobody)

abbrev pub AreNewSeats : Engine → ScriptParts → ℕ → List (Option Seat) → Type 0
AreNewSeats e script i [] = Unit {0}
AreNewSeats e script i (seat ∷ seats) = IsNewSeat e script i seat × AreNewSeats e script (suc i) seats

-- none of the first that many threads has a lock, as the last of them knows it that had the floor
abbrev pub NobodyOwns : Engine → ℕ → Tokens → Type 0
NobodyOwns e count t = (c : Caller) × IsGiver e c t × NoneOwns (view (pass_of c)) count

-- the caller stands between two turns and owns no lock, where it has had the floor
pub record HasCome (e : Engine) (script : ScriptParts) (i : ℕ) (c d : Caller) : Type 0 where
  pub between : IsBetweenTurns e script i d []
  pub idle : IsIdle d
  pub sections : stack_of (pass_of d) ≡ no_sections
  pub floor : HasFloor d
  pub none : NoneOwns (view (pass_of c)) i → NoneOwns (view (pass_of d)) i

abbrev pub HasSat : Engine → ℕ → Caller → Tokens → Type 0
HasSat e i c t = NoneOwns (view (pass_of c)) i → NobodyOwns e (i + 1) t

-- ---- the end

-- the thread has made all its calls
abbrev pub IsEndSeat : Engine → ScriptParts → ℕ → Option Seat → Type 0
IsEndSeat e script i None = ⊥
IsEndSeat e script i (Some s) = IsSeatOf e script i s × (length (calls_of script i) ≤ length s.entries.items)

abbrev pub AreEndSeats : Engine → ScriptParts → ℕ → List (Option Seat) → Type 0
AreEndSeats e script i [] = Unit {0}
AreEndSeats e script i (seat ∷ seats) = IsEndSeat e script i seat × AreEndSeats e script (suc i) seats

abbrev pub vec_lists : List (Vec Entry Global) → List (List Entry)
vec_lists lists = map (λ list. list.items) lists
