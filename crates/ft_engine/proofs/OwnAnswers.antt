-- That the answer of a call is of the very call, over all its tries.
use Rattle.std.proofs.Common.{List, sym, subst, arith, le_trans}
use Rattle.std.specs.Prelude.{Option}
use Rattle.ft_model.specs.declared.call.Call.{Call}
use Rattle.ft_model.specs.declared.call.Call.TheVariants as call
use Rattle.ft_model.specs.declared.cursor.Cursor.{Cursor}
use Rattle.ft_model.specs.declared.reply.Reply.{Reply}
use Rattle.ft_trace.specs.declared.View.{View}
use Rattle.ft_bank.specs.declared.bank.Bank.{Bank}
use Rattle.ft_bank.specs.declared.pass.Pass.{Pass}
use Rattle.ft_bank.specs.Passes.{view}
use Rattle.ft_section.specs.declared.answers.Stamp.{Stamp}
use Rattle.ft_engine.specs.declared.attempts.Tried.{Tried}
use Rattle.ft_engine.specs.declared.attempts.Tried.TheVariants as tried
use Rattle.ft_engine.specs.declared.caller.Flight.{Flight}
use Rattle.ft_engine.specs.declared.caller.Flight.TheVariants as flight
use Rattle.ft_engine.specs.Answering.{HasAnswer, HasCollectedFor, HasQuiesced, StaysPass}
use Rattle.ft_engine.specs.Attempts.{ComesAgain, flight_after}
use Rattle.ft_engine.specs.Flights.{AllowsCall, IsFlightAnswered}
use Rattle.ft_engine.specs.Halves.{HasNoAnswer, IsInHalves, IsTakenUp, WaitsAnswered, WaitsUnanswered}
use Rattle.ft_engine.specs.OwnAnswers.{HasOwnAnswerBy, HasOwnAnswerIn, IsOwnAnswer}
use Rattle.ft_engine.proofs.SectionCalls.{loaded_in, same_nothing, stays_then}

-- ---- longer times

quiesced_before : (u v w : View) → StaysPass u v → HasQuiesced v w → HasQuiesced u w
quiesced_before u v w stays x = record { start = x.start; earlier = stays_then u v x.start stays x.earlier; merged = x.merged; boxed = x.boxed; merges = x.merges; idle = x.idle; number = x.number; after = x.after; freed = x.freed; collected = x.collected; later = x.later }

quiesced_after : (u v w : View) → HasQuiesced u v → StaysPass v w → HasQuiesced u w
quiesced_after u v w x stays = record { start = x.start; earlier = x.earlier; merged = x.merged; boxed = x.boxed; merges = x.merges; idle = x.idle; number = x.number; after = x.after; freed = x.freed; collected = x.collected; later = stays_then x.after v w x.later stays }

pub for_before : (called : Call) (u v w : View) → StaysPass u v → HasCollectedFor called v w → HasCollectedFor called u w
for_before call.Quiesce u v w on x = quiesced_before u v w on x
for_before (call.Dict o c) u v w on x = tt
for_before (call.List o c) u v w on x = tt
for_before (call.Set o c) u v w on x = tt
for_before (call.Deque o c) u v w on x = tt
for_before (call.Next number) u v w on x = tt
for_before (call.Begin first second) u v w on x = tt
for_before call.End u v w on x = tt
for_before (call.Await thread index) u v w on x = tt
for_before call.Dump u v w on x = tt

for_after : (called : Call) (u v w : View) → HasCollectedFor called u v → StaysPass v w → HasCollectedFor called u w
for_after call.Quiesce u v w x on = quiesced_after u v w x on
for_after (call.Dict o c) u v w x on = tt
for_after (call.List o c) u v w x on = tt
for_after (call.Set o c) u v w x on = tt
for_after (call.Deque o c) u v w x on = tt
for_after (call.Next number) u v w x on = tt
for_after (call.Begin first second) u v w x on = tt
for_after call.End u v w x on = tt
for_after (call.Await thread index) u v w x on = tt
for_after call.Dump u v w x on = tt

own_before : (called : Call) (stamp : Stamp) (u v w : View) → StaysPass u v → IsOwnAnswer called stamp v w → IsOwnAnswer called stamp u w
own_before called stamp u v w stays own = record {
  least = le_trans stays.seen own.least;
  loaded = λ read. loaded_in called stamp.number u v w w stays (own.loaded read) (same_nothing w).pass;
  wrote = own.wrote;
  collected = for_before called u v w stays own.collected;
}

own_after : (called : Call) (stamp : Stamp) (u v w : View) → IsOwnAnswer called stamp u v → StaysPass v w → IsOwnAnswer called stamp u w
own_after called stamp u v w own stays = record {
  least = own.least;
  loaded = λ read. loaded_in called stamp.number u u v w (same_nothing u).pass (own.loaded read) stays;
  wrote = λ made. let first = own.wrote made in let more = stays.seen in omega (arith, first, more);
  collected = for_after called u v w own.collected stays;
}

in_before : (f : Flight) (u v w : View) → StaysPass u v → HasOwnAnswerIn f v w → HasOwnAnswerIn f u w
in_before flight.Idle u v w stays own = tt
in_before (flight.Tried called) u v w stays own = tt
in_before (flight.Answered called said stamp) u v w stays own = own_before called stamp u v w stays own
in_before (flight.Refused called) u v w stays own = tt

by_before : (called : Call) (t : Tried) (f : Flight) (u v w : View) → StaysPass u v → HasOwnAnswerBy called t f v w → HasOwnAnswerBy called t f u w
by_before called (tried.Done said stamp mark) f u v w stays own = own_before called stamp u v w stays own
by_before called (tried.NotYet o owner) f u v w stays own = in_before f u v w stays own
by_before called (tried.Moved first second) f u v w stays own = tt
by_before called tried.NoMemory f u v w stays own = tt

-- ---- one try

-- the call has its answer
pub answer_own : (b : Bank) (called : Call) (said : Reply) (stamp : Stamp) (p q : Pass) → HasAnswer b called said stamp p q → IsOwnAnswer called stamp (view p) (view q)
answer_own b called said stamp p q a = record { least = a.entry.seen; loaded = a.entry.loaded; wrote = a.entry.shows; collected = a.collected }

-- it keeps it while its section is taken up
pub taken_own : (called : Call) (said : Reply) (stamp : Stamp) (t : Tried) (after : Flight) (u : View) (p q : Pass) → IsOwnAnswer called stamp u (view p) → StaysPass (view p) (view q) → IsTakenUp said stamp p q t → WaitsAnswered called said stamp t after → HasOwnAnswerBy called t after u (view q)
taken_own called said stamp (tried.Done reply at mark) after u p q own stays taken waits = subst (λ (z : Stamp). IsOwnAnswer called z u (view q)) (sym taken.1) (own_after called stamp u (view p) (view q) own stays)
taken_own called said stamp (tried.NotYet o owner) after u p q own stays taken waits = subst (λ (f : Flight). HasOwnAnswerIn f u (view q)) (sym waits) (own_after called stamp u (view p) (view q) own stays)
taken_own called said stamp (tried.Moved first second) after u p q own stays taken waits = absurd taken
taken_own called said stamp tried.NoMemory after u p q own stays taken waits = absurd taken

-- one without an answer has none yet
pub unanswered_own : (b : Bank) (hands : List (Option Cursor)) (called : Call) (t : Tried) (after : Flight) (v w : View) (p q : Pass) → HasNoAnswer b hands called p q t → WaitsUnanswered called t after → HasOwnAnswerBy called t after v w
unanswered_own b hands called (tried.Done said stamp mark) after v w p q none waits = absurd none
unanswered_own b hands called (tried.NotYet o owner) after v w p q none waits = subst (λ (f : Flight). HasOwnAnswerIn f v w) (sym waits) tt
unanswered_own b hands called (tried.Moved first second) after v w p q none waits = tt
unanswered_own b hands called tried.NoMemory after v w p q none waits = tt

-- ---- all tries

pub none_in : (f : Flight) (v w : View) → (IsFlightAnswered f → ⊥) → HasOwnAnswerIn f v w
none_in flight.Idle v w free = tt
none_in (flight.Tried called) v w free = tt
none_in (flight.Answered called said stamp) v w free = absurd (free tt)
none_in (flight.Refused called) v w free = tt

-- after one more try, of a call that had no answer when the first began
pub step_own : (f : Flight) (b : Bank) (hands : List (Option Cursor)) (called : Call) (t : Tried) (after : Flight) (u : View) (p q : Pass) → AllowsCall f called → StaysPass u (view p) → StaysPass (view p) (view q) → HasOwnAnswerIn f u (view p) → ((IsFlightAnswered f → ⊥) → HasOwnAnswerBy called t after (view p) (view q)) → IsInHalves f b hands called p q t after → HasOwnAnswerBy called t after u (view q)
step_own flight.Idle b hands called t after u p q next before stays own fresh halves = by_before called t after u (view p) (view q) before (fresh (λ none. none))
step_own (flight.Tried tries) b hands called t after u p q next before stays own fresh halves = by_before called t after u (view p) (view q) before (fresh (λ none. none))
step_own (flight.Answered first said stamp) b hands called t after u p q next before stays own fresh halves = taken_own called said stamp t after u p q (subst (λ (c : Call). IsOwnAnswer c stamp u (view p)) next own) stays halves.0 halves.1
step_own (flight.Refused first) b hands called t after u p q next before stays own fresh halves = absurd halves

pub again_own : (called : Call) (t : Tried) (after : Flight) (v w : View) → ComesAgain t → flight_after called t after → HasOwnAnswerBy called t after v w → HasOwnAnswerIn after v w
again_own called (tried.NotYet o owner) after v w again is own = own
again_own called (tried.Moved first second) after v w again is own = subst (λ (f : Flight). HasOwnAnswerIn f v w) (sym is) tt
again_own called (tried.Done said stamp mark) after v w again is own = absurd again
again_own called tried.NoMemory after v w again is own = absurd again
