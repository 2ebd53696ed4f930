-- How the code's answers go with what the grammar says: an answer may also be that memory ran out. (profile)
use Rattle.std.specs.Prelude.{◌≡◌, ℕ, ◌+◌, ◌≤◌, length, Result, Ok, Err, if◌then◌else◌}
use Rattle.std.specs.Option.{is_some}
use Rattle.ft_model.specs.Limits.{most_threads}
use Rattle.ft_model.specs.declared.call.Call.{Call}
use Rattle.ft_script.specs.declared.draft.Draft.{Draft as DraftParts}
use Rattle.ft_script.specs.Drafts.{Draft}
use Rattle.ft_script.specs.declared.fault.Fault.{Fault}
use Rattle.ft_script.specs.declared.fault.Fault.TheVariants as fault
use Rattle.ft_script.specs.declared.fault.LineError.{LineError}
use Rattle.ft_script.specs.declared.fault.LineError.TheVariants as error
use Rattle.ft_script.specs.declared.fault.ScriptFault.{ScriptFault}
use Rattle.ft_script.specs.declared.fault.Which.TheVariants as which
use Rattle.ft_script.specs.Faults.{fault_at, no_memory}
use Rattle.ft_script.specs.ScriptLines.{limit_fault}

-- what a draft of the code says
abbrev pub draft_of : DraftParts → Draft
draft_of parts = record {
  awaits = parts.awaits;
  containers = parts.containers;
  tables = parts.tables;
  heap = parts.heap;
  threads = parts.threads;
  name = parts.name;
  cursors = parts.cursors;
  calls = parts.calls;
  depth = parts.depth;
  called = parts.called;
  strings = parts.strings;
  order = parts.order;
}

-- a refusal for out of memory, or the fault that reading gives
abbrev pub Fails : {Y : Type 0} → LineError → Result Y Fault → Type 0
Fails error.Memory read = Unit {0}
Fails (error.Fault found) read = read ≡ Err found

-- what was returned, seen by view, is what reading gives
abbrev pub Gives : {X Y : Type 0} → (X → Y) → Result X LineError → Result Y Fault → Type 0
Gives view (Ok x) read = read ≡ Ok (view x)
Gives view (Err e) read = Fails e read

-- and the draft after it is this
abbrev pub GivesWithDraft : {X : Type 0} → Result X LineError → Draft → Result (X × Draft) Fault → Type 0
GivesWithDraft (Ok x) new read = read ≡ Ok (x, new)
GivesWithDraft (Err e) new read = Fails e read

-- the draft after a line is this
abbrev pub LeavesDraft : {X : Type 0} → Result X LineError → Draft → Result Draft Fault → Type 0
LeavesDraft (Ok x) new read = read ≡ Ok new
LeavesDraft (Err e) new read = Fails e read

-- the same of a line whose reading takes no memory
abbrev pub LeavesAlways : {X : Type 0} → Result X Fault → Draft → Result Draft Fault → Type 0
LeavesAlways (Ok x) new read = read ≡ Ok new
LeavesAlways (Err e) new read = read ≡ Err e

-- a line's answer, with the line's number
abbrev pub reported : {X : Type 0} → Result X LineError → ℕ → Result X ScriptFault
reported (Ok x) line = Ok x
reported (Err error.Memory) line = Err no_memory
reported (Err (error.Fault found)) line = Err (fault_at line found)

-- past the limit of calls, a call that can be read is refused for the limit
abbrev pub limit_error : Result Call LineError → LineError
limit_error (Ok read) = error.Fault (fault.Limit which.Calls)
limit_error (Err error.Memory) = error.Memory
limit_error (Err (error.Fault found)) = error.Fault (limit_fault found)

-- there are no more threads than a script may have, the one whose calls stand here counted
abbrev pub HasFewThreads : Draft → Type 0
HasFewThreads draft = length draft.threads + (if is_some draft.name then 1 else 0) ≤ most_threads
