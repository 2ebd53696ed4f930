-- What holds of every legal history, in plain words.
use Rattle.std.specs.Prelude.{◌≡◌, ◌≢◌, ℕ, ◌+◌, ◌-◌, ◌<◌, true, List, [], ◌∷◌, map, Contains, Some, Option, slice_get}
use Rattle.std.specs.List.{between}
use Rattle.ft_model.specs.declared.call.Call.{Call}
use Rattle.ft_model.specs.declared.call.Call.TheVariants as call
use Rattle.ft_model.specs.declared.entry.Entry.{Entry}
use Rattle.ft_model.specs.Calls.{containers_of}
use Rattle.ft_model.specs.Histories.{entries_of}

-- strictly between the two places no other thread's write names one of the containers (C API, critical sections)
abbrev pub IsUntouchedBetween : List Entry → ℕ → ℕ → ℕ → List ℕ → Type 0
IsUntouchedBetween entries thread begun ended containers =
    (place : ℕ) (entry : Entry) (container : ℕ) → begun < place → place < ended → slice_get entries place ≡ Some entry
    → entry.wrote ≡ true → entry.thread ≢ thread → Contains containers container
    → ¬ (Contains (containers_of entry.call) container)

-- these calls lead from a number of open sections to a number, and end none that was open before the first of these (C
-- API, critical sections)
abbrev pub LeadsTo : ℕ → ℕ → List Call → Type 0
LeadsTo from to [] = from ≡ to
LeadsTo from to (call.Begin first second ∷ calls) = LeadsTo (from + 1) to calls
LeadsTo from to (call.End ∷ calls) = (0 < from) × LeadsTo (from - 1) to calls
LeadsTo from to (call.Dict container dict_call ∷ calls) = LeadsTo from to calls
LeadsTo from to (call.List container list_call ∷ calls) = LeadsTo from to calls
LeadsTo from to (call.Set container set_call ∷ calls) = LeadsTo from to calls
LeadsTo from to (call.Deque container deque_call ∷ calls) = LeadsTo from to calls
LeadsTo from to (call.Next cursor ∷ calls) = LeadsTo from to calls
LeadsTo from to (call.Quiesce ∷ calls) = LeadsTo from to calls
LeadsTo from to (call.Await other index ∷ calls) = LeadsTo from to calls
LeadsTo from to (call.Dump ∷ calls) = LeadsTo from to calls

-- the calls of a thread from one place to another, which is left out
abbrev pub calls_in : List Entry → ℕ → ℕ → ℕ → List Call
calls_in entries thread start end = map (λ entry. entry.call) (entries_of thread (between start end entries))

-- the `end` at the later place is that of the `begin` at the earlier one: both are of one thread, whose calls strictly
-- between them end just the sections that they begin
pub record Matches (entries : List Entry) (begun ended : ℕ) (begin end : Entry) : Type 0 where
  pub before : begun < ended
  pub begin_at : slice_get entries begun ≡ Some begin
  pub end_at : slice_get entries ended ≡ Some end
  pub first : ℕ
  pub second : Option ℕ
  pub begins : begin.call ≡ call.Begin first second
  pub ends : end.call ≡ call.End
  pub thread : begin.thread ≡ end.thread
  pub inner : LeadsTo 0 0 (calls_in entries end.thread (begun + 1) ended)
