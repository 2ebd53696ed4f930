-- What clauses see of an engine and of a caller.
use Rattle.std.specs.Prelude.{◌≡◌, ℕ, suc, ◌+◌, ◌-◌, ◌^◌, ◌<◌, ◌≤◌, List, [], ◌∷◌, length, replicate, Option, Some, None, true}
use Rattle.std.specs.List.{AllByRecursion}
use Rattle.ft_model.specs.declared.cursor.Cursor.{Cursor}
use Rattle.ft_model.specs.declared.script.Kind.{Kind}
use Rattle.ft_model.specs.Worlds.{container_of, cursor_at, cursor_kind}
use Rattle.ft_trace.specs.declared.Entry.{Entry}
use Rattle.ft_trace.specs.declared.Shape.{Shape}
use Rattle.ft_trace.specs.Addresses.{container_count}
use Rattle.ft_trace.specs.Hands.{cursor_in}
use Rattle.ft_trace.specs.ContainerStates.{kind_in}
use Rattle.ft_bank.specs.declared.bank.Bank.{Bank}
use Rattle.ft_bank.specs.declared.pass.Pass.{Pass}
use Rattle.ft_bank.specs.NewPasses.{next_of}
use Rattle.ft_bank.specs.Passes.{shape_of, view, IsPassOf}
use Rattle.ft_bank.specs.PassSections.{stack_of}
use Rattle.ft_engine.specs.declared.caller.Caller.{Caller}
use Rattle.ft_engine.specs.declared.caller.Flight.{Flight}
use Rattle.ft_engine.specs.declared.caller.Flight.TheVariants as flight
use Rattle.ft_engine.specs.declared.engine.Engine.{Engine}
use Rattle.ft_engine.specs.Flights.{IsIn}
use Rattle.ft_iter.specs.CursorCalls.{is_landed_cursor}

abbrev pub bank_of : Engine → Bank
bank_of e = e.bank

abbrev pub pass_of : Caller → Pass
pass_of c = c.pass

-- the thread that the caller is, from 0 on: the number of its pass
abbrev pub thread_of : Caller → ℕ
thread_of c = (view c.pass).number - 1

-- the call that the caller is in
abbrev pub flight_of : Caller → Flight
flight_of c = c.flight

-- it is in none
abbrev pub IsIdle : Caller → Type 0
IsIdle c = c.flight ≡ flight.Idle

-- its cursors by number, `None` where it made none (Python manual, Iterator Types: a cursor is its thread's)
abbrev pub hands_of : Caller → List (Option Cursor)
hands_of c = c.cursors.items

-- how many calls it may still make
abbrev pub left_of : Caller → ℕ
left_of c = c.calls - c.made

-- the entries of each caller that this one took in, in the order in which it did
abbrev pub taken_of : Caller → List (List Entry)
taken_of c = (view c.pass).lists

-- a container of the bank, of this kind
abbrev pub IsOfKindIn : Shape → Kind → ℕ → Type 0
IsOfKindIn k kind o = (o < container_count k) × (kind_in k.starts o ≡ kind)

-- each cursor that was made is one that the bank can move, and goes over a container of its kind
abbrev pub AreOver : Shape → List (Option Cursor) → Type 0
AreOver k hands =
    (number : ℕ) (walker : Cursor) → cursor_at hands number ≡ Some walker
    → IsOfKindIn k (cursor_kind walker) (container_of walker) × (is_landed_cursor walker ≡ true)

-- A caller of the engine: its pass is one of the bank's and has come as far as the call in flight. It counts the
-- entries of its pass, which may make as many as the shape says. Its cursors are those that its own entries leave.
-- (profile)
pub record IsCallerOf (e : Engine) (c : Caller) : Type 0 where
  pub pass : IsPassOf e.bank c.pass
  pub inside : IsIn e.bank c.pass c.cursors.items c.flight
  pub made : c.made ≡ length (view c.pass).entries
  pub calls : c.calls ≡ (shape_of e.bank).calls
  pub few : c.made ≤ c.calls
  pub word : c.calls < 2 ^ 32
  pub left : c.calls ≤ c.made + (view c.pass).left
  pub cursors : (number : ℕ) → number < length c.cursors.items
      → cursor_at c.cursors.items number ≡ cursor_in number (view c.pass).log
  pub over : AreOver (shape_of e.bank) c.cursors.items

-- caller i of a new engine, with room for that many cursors: it has made no call, and has none in flight
pub record IsFreshCaller (e : Engine) (room i : ℕ) (c : Caller) : Type 0 where
  pub caller : IsCallerOf e c
  pub thread : thread_of c ≡ i
  pub flight : c.flight ≡ flight.Idle
  pub hands : c.cursors.items ≡ replicate room None
  pub left : left_of c ≡ (shape_of e.bank).calls
  pub entries : (view c.pass).entries ≡ []
  pub log : (view c.pass).log ≡ []
  pub taken : taken_of c ≡ []
  pub sections : (stack_of c.pass).sections ≡ []
  pub next : (view c.pass).next ≡ next_of (shape_of e.bank) i
  pub parts : (view c.pass).parts ≡ 1
  pub tokens : (view c.pass).tokens ≡ 1

-- they are the callers of the engine in their order, from caller i on
abbrev pub AreFreshCallers : Engine → ℕ → ℕ → List Caller → Type 0
AreFreshCallers e room i [] = Unit {0}
AreFreshCallers e room i (c ∷ callers) = IsFreshCaller e room i c × AreFreshCallers e room (suc i) callers

-- a caller of the engine that is in no call
abbrev pub IsFreeCaller : Engine → Caller → Type 0
IsFreeCaller e c = IsCallerOf e c × IsIdle c

abbrev pub AreFreeCallers : Engine → List Caller → Type 0
AreFreeCallers e callers = AllByRecursion (IsFreeCaller e) callers
