-- Workers: what they keep of the callers of an engine whose bank is made for a script, and of what these were answered.
use Rattle.std.specs.Prelude.{◌≡◌, ℕ, suc, ◌<◌, ◌≤◌, max, List, [], ◌∷◌, ◌++◌, IsTrue, length, map, take, slice_index_or, vec_capacity}
use Rattle.ft_hash.specs.Hashes.{text_hash}
use Rattle.ft_model.specs.declared.call.Call.{Call}
use Rattle.ft_model.specs.declared.call.Call.TheVariants as call
use Rattle.ft_model.specs.declared.entry.Entry.{Entry}
use Rattle.ft_model.specs.declared.script.ScriptParts.{ScriptParts}
use Rattle.ft_model.specs.declared.script.Thread.{Thread}
use Rattle.ft_model.specs.Histories.{calls_of}
use Rattle.ft_model.specs.Limits.{most_calls, most_cursors}
use Rattle.ft_model.specs.Scripts.{IsThread}
use Rattle.ft_model.specs.Worlds.{starts_of}
use Rattle.ft_trace.specs.declared.Shape.{Shape}
use Rattle.ft_trace.specs.declared.Presence.TheVariants as presence
use Rattle.ft_trace.specs.Acts.{announces, presence_of}
use Rattle.ft_bank.specs.NewPasses.{next_of}
use Rattle.ft_bank.specs.Passes.{shape_of, view}
use Rattle.ft_engine.specs.declared.caller.Caller.{Caller}
use Rattle.ft_engine.specs.declared.calling.Called.{Called}
use Rattle.ft_engine.specs.declared.calling.Called.TheVariants as called
use Rattle.ft_engine.specs.declared.engine.Engine.{Engine}
use Rattle.ft_engine.specs.Attempts.{MayAttempt}
use Rattle.ft_engine.specs.Callers.{IsCallerOf, IsIdle, bank_of, hands_of, left_of, pass_of, taken_of, thread_of}
use Rattle.ft_bank_history.specs.Marks.{HaveScriptCalls}
use Rattle.ft_engine.specs.DoneCallers.{WereAnswered, IsCallerDone}
use Rattle.ft_engine.specs.Keeping.{WasAnswered, named_entry}
use Rattle.ft_engine.specs.Presences.{IsStillOnline, WereOnline}
use Rattle.ft_engine.specs.Visits.{SameCallerWork}
use Rattle.ft_run_threads.specs.declared.workers.Worker.{Worker}
use Rattle.ft_bank.specs.Closings.{HasBeenOnline}

-- ---- the bank

-- The bank is made for the script: it has its containers, its strings, its tables and its heaps, a pass for each
-- thread, one at least, and for each pass as many calls as a script has at most. (profile)
pub record IsBankFor (script : ScriptParts) (k : Shape) : Type 0 where
  pub starts : k.starts ≡ starts_of script.containers
  pub texts : k.texts ≡ map text_hash script.strings
  pub tables : k.tables ≡ script.tables
  pub heap : k.heap ≡ script.heap
  pub passes : k.passes ≡ max (length script.threads) 1
  pub calls : k.calls ≡ most_calls

-- these are the calls of a thread of a script for which the bank is made
pub record AreCallsOn (k : Shape) (calls : List Call) : Type 0 where
  pub script : ScriptParts
  pub bank : IsBankFor script k
  pub own : Thread
  pub thread : IsThread script own
  pub are : own.calls ≡ calls
  pub few : length calls ≤ most_calls

-- ---- awaits

-- an `await` of a thread names a call of an earlier one, by its index from 1 (profile)
abbrev pub IsAwaitFrom : ℕ → Call → Type 0
IsAwaitFrom number (call.Await thread index) = (thread < number) × (1 ≤ index)
IsAwaitFrom number _ = Unit {0}

-- the call is no `await`
abbrev pub IsNoAwait : Call → Type 0
IsNoAwait (call.Await thread index) = ⊥
IsNoAwait _ = Unit {0}

-- The caller may await the thread's call of this index: it is in no call, is online and has a call left, and the thread
-- is an earlier one. (profile)
pub record MayAwait (c : Caller) (asked : Call) (thread index : ℕ) : Type 0 where
  pub await : asked ≡ call.Await thread index
  pub idle : IsIdle c
  pub online : 0 < announces (view (pass_of c)).log
  pub left : 0 < left_of c
  pub some : 1 ≤ index
  pub earlier : thread < thread_of c

-- the call may be made: it may be tried; or awaited, where it is an `await`
pub record MayMake (e : Engine) (c : Caller) (asked : Call) : Type 0 where
  pub tried : IsNoAwait asked → MayAttempt e c asked
  pub awaited : (thread index : ℕ) → asked ≡ call.Await thread index → MayAwait c asked thread index

-- the call has ended: the caller is in none, and was answered one entry more
abbrev pub HasEnded : Call → Called → Caller → Caller → Type 0
HasEnded asked (called.Done said stamp mark) c d =
    IsIdle d × ((mine : List Entry) → WasAnswered c mine
    → WasAnswered d (mine ++ named_entry (thread_of c) mine asked said stamp mark ∷ []))
HasEnded asked called.NoMemory c d = Unit {0}

-- The caller has made notes and nothing else: it is as it was, and is online as before.
pub record HasNoted (e : Engine) (c d : Caller) : Type 0 where
  pub caller : IsCallerOf e d
  pub same : SameCallerWork c d
  pub announced : announces (view (pass_of d)).log ≡ announces (view (pass_of c)).log
  pub presence : presence_of (view (pass_of d)).log ≡ presence_of (view (pass_of c)).log
  pub kept : (mine : List Entry) → WasAnswered c mine → WasAnswered d mine

-- ---- workers

-- the caller of this thread, which has taken in no other
pub record IsMember (e : Engine) (i : ℕ) (c : Caller) : Type 0 where
  pub caller : IsCallerOf e c
  pub thread : thread_of c ≡ i
  pub next : (view (pass_of c)).next ≡ next_of (shape_of (bank_of e)) i
  pub parts : (view (pass_of c)).parts ≡ 1
  pub taken : taken_of c ≡ []

-- The worker of this thread is between two calls. It has made the first ones of these calls, that many, and has the
-- entry of each, the oldest first; and it has rows for the entries of all of them.
pub record IsBetween (e : Engine) (i : ℕ) (calls : List Call) (count : ℕ) (w : Worker) : Type 0 where
  pub member : IsMember e i w.caller
  pub idle : IsIdle w.caller
  pub cursors : length (hands_of w.caller) ≡ most_cursors
  pub kept : WasAnswered w.caller w.entries.items
  pub made : map (λ entry. entry.call) w.entries.items ≡ take count calls
  pub rows : length calls ≤ vec_capacity w.entries

-- it has made none of its thread's calls, and was never online
abbrev pub IsAtStart : Engine → ScriptParts → ℕ → Worker → Type 0
IsAtStart e script i w =
    IsBetween e i (calls_of script i) 0 w × (presence_of (view (pass_of w.caller)).log ≡ presence.Before)

-- it is online besides, and has been since before its first call
abbrev pub IsOnline : Engine → ℕ → List Call → ℕ → Worker → Type 0
IsOnline e i calls count w =
    IsBetween e i calls count w × (0 < announces (view (pass_of w.caller)).log) × IsStillOnline w.caller

-- Where the worker is done, it has made just the calls of its thread, and has the entry of each; and it was online from
-- before the first of them until after the last.
pub record HasWorked (e : Engine) (script : ScriptParts) (i : ℕ) (w : Worker) : Type 0 where
  pub member : IsMember e i w.caller
  pub done : IsTrue w.done → IsCallerDone w.caller
  pub kept : IsTrue w.done → WasAnswered w.caller w.entries.items
  pub made : IsTrue w.done → map (λ entry. entry.call) w.entries.items ≡ calls_of script i
  pub online : IsTrue w.done → HasBeenOnline (presence_of (view (pass_of w.caller)).log)

-- ---- orders

-- each of them is the worker of its place
abbrev pub AreEach : (ℕ → Worker → Type 0) → List Worker → Type 0
AreEach P workers = (thread : ℕ) (w : Worker) → thread < length workers → P thread (slice_index_or workers thread w)

-- the same, from this thread on
abbrev pub AreFrom : (ℕ → Worker → Type 0) → ℕ → List Worker → Type 0
AreFrom P thread [] = Unit {0}
AreFrom P thread (w ∷ workers) = P thread w × AreFrom P (suc thread) workers

-- Caller 0 is done and has taken in the callers of the threads after it; these are the lists of all of them, and each
-- has just the calls of its thread, which was online while it made them.
pub record HasTakenIn (e : Engine) (script : ScriptParts) (c : Caller) (lists : List (List Entry)) : Type 0 where
  pub caller : IsCallerOf e c
  pub done : IsCallerDone c
  pub thread : thread_of c ≡ 0
  pub parts : (view (pass_of c)).parts ≡ length lists
  pub kept : WereAnswered c lists
  pub made : HaveScriptCalls script lists
  pub online : WereOnline c
