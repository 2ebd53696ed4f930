-- Callers that rest while another one has the floor, and what they have once they are woken.
use Rattle.std.specs.Prelude.{◌≡◌, ◌≢◌, ℕ, ◌≤◌, true, List, []}
use Rattle.ft_model.specs.declared.entry.Entry.{Entry as NamedEntry}
use Rattle.ft_trace.specs.declared.View.{View}
use Rattle.ft_trace.specs.Acts.{announces, floor_words, seen_writes, sender, presence_of}
use Rattle.ft_trace.specs.Boxes.{HasMergedBoxes}
use Rattle.ft_trace.specs.Floors.{at_floor}
use Rattle.ft_bank.specs.declared.tokens.Tokens.{Tokens}
use Rattle.ft_bank.specs.Floors.{IsRestingOf, carried, rests, stack_at_rest}
use Rattle.ft_bank.specs.Passes.{view}
use Rattle.ft_bank.specs.PassSections.{stack_of}
use Rattle.ft_engine.specs.declared.caller.Caller.{Caller}
use Rattle.ft_engine.specs.declared.caller.Flight.TheVariants as flight
use Rattle.ft_engine.specs.declared.engine.Engine.{Engine}
use Rattle.ft_engine.specs.declared.resting.RestingCaller.{RestingCaller}
use Rattle.ft_engine.specs.Callers.{IsCallerOf}
use Rattle.ft_engine.specs.Keeping.{WasAnswered}
use Rattle.ft_engine.specs.Visits.{SameCallerWork}

-- ---- the floor

-- how many of the bank's tokens, of which each pass has one at first, the caller has
abbrev pub token_count : Caller → ℕ
token_count c = (view c.pass).tokens

-- the caller has all tokens since it took the floor, so no other can take a step
abbrev pub HasFloor : Caller → Type 0
HasFloor c = (view c.pass).has_floor ≡ true

-- the words of the bank, as a caller with the floor knows them
abbrev pub words_known : Caller → List ℕ
words_known c = floor_words (view c.pass).shape (view c.pass).number (view c.pass).log

-- the words of the bank when the caller took the floor
abbrev pub words_then : Caller → List ℕ
words_then c = at_floor (view c.pass).log

-- the caller has the floor where it had it, and since the same moment
pub record KeepsFloor (c d : Caller) : Type 0 where
  pub floor : (view d.pass).has_floor ≡ (view c.pass).has_floor
  pub since : words_then d ≡ words_then c

-- ---- callers that rest

-- what a caller that rests knows
abbrev pub rests_in : RestingCaller → View
rests_in r = rests r.pass

-- The caller has given its tokens away, and keeps all else: its open sections, cursors and entries, the call that is in
-- flight, and the locks.
pub record RestsAs (c : Caller) (r : RestingCaller) : Type 0 where
  pub pass : rests r.pass ≡ sender (view c.pass).tokens (view c.pass)
  pub sections : stack_at_rest r.pass ≡ stack_of c.pass
  pub cursors : r.cursors.items ≡ c.cursors.items
  pub calls : r.calls ≡ c.calls
  pub made : r.made ≡ c.made
  pub flight : r.flight ≡ c.flight

-- it was a caller of the engine
abbrev pub IsRestingCallerOf : Engine → RestingCaller → Type 0
IsRestingCallerOf e r = IsRestingOf e.bank r.pass × ((c : Caller) × IsCallerOf e c × RestsAs c r)

-- What a caller hands on with its tokens: all that it has, the writes that it has seen, and the words of the bank where
-- it has the floor.
pub record HandsOn (c : Caller) (t : Tokens) : Type 0 where
  pub tokens : (carried t).tokens ≡ token_count c
  pub seen : (carried t).learnt ≡ seen_writes (view c.pass)
  pub words : HasFloor c → (carried t).floor ≡ words_known c

-- What a caller has that has done nothing but hand tokens on or take some: the same sections, cursors and entries, the
-- same call in flight, and it is online as before, and has been.
pub record IsAsBefore (c d : Caller) : Type 0 where
  pub same : SameCallerWork c d
  pub announced : announces (view d.pass).log ≡ announces (view c.pass).log
  pub presence : presence_of (view d.pass).log ≡ presence_of (view c.pass).log
  pub kept : (mine : List NamedEntry) → WasAnswered c mine → WasAnswered d mine

-- What a caller has once it is woken by these tokens: the floor, the words that they brought, and what their giver had
-- seen.
pub record IsWoken (t : Tokens) (d : Caller) : Type 0 where
  pub floor : HasFloor d
  pub now : words_known d ≡ words_then d
  pub words : (carried t).floor ≢ [] → words_known d ≡ (carried t).floor
  pub seen : (carried t).learnt ≤ seen_writes (view d.pass)

-- a caller that rests has made its last call: it is in no call and in no section, was offline, and had merged its boxes
pub record IsRestDone (r : RestingCaller) : Type 0 where
  pub idle : r.flight ≡ flight.Idle
  pub sections : (stack_at_rest r.pass).sections ≡ []
  pub offline : announces (rests r.pass).log ≡ 0
  pub merged : HasMergedBoxes (rests r.pass).log
