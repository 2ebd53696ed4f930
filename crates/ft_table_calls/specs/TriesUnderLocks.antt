-- What a try of a call under the locks of its containers answers, for calls of all kinds.
use Rattle.std.specs.Prelude.{◌≡◌, ℕ, Option, Some, None, Result, Ok, Err, false}
use Rattle.std.specs.declared.alloc.AllocError.{AllocError}
use Rattle.ft_model.specs.declared.call.Call.{Call}
use Rattle.ft_model.specs.declared.call.Call.TheVariants as call
use Rattle.ft_model.specs.declared.reply.Raise.TheVariants as raise
use Rattle.ft_model.specs.declared.reply.Reply.{Reply}
use Rattle.ft_model.specs.declared.reply.Reply.TheVariants as reply
use Rattle.ft_model.specs.Calls.{other_deque, other_dict, other_list, other_set}
use Rattle.ft_trace.specs.declared.View.{View}
use Rattle.ft_trace.specs.Owners.{SameOwners}
use Rattle.ft_bank.specs.Answered.{Answered}
use Rattle.ft_section.specs.declared.answers.Objects.{Objects}
use Rattle.ft_section.specs.declared.answers.Objects.TheVariants.{One, Two}
use Rattle.ft_section.specs.declared.answers.Stamp.{Stamp}
use Rattle.ft_section.specs.declared.answers.Step.{Step}
use Rattle.ft_section.specs.declared.answers.Step.TheVariants as step
use Rattle.ft_section.specs.Locking.{FoundOwner, LocksWithin, OnlyLocked}
use Rattle.ft_section.specs.LockTakings.{HasLocks, IsOf}
use Rattle.ft_search.specs.MadeCalls.{MadeAs}
use Rattle.ft_table_calls.specs.declared.adding.Added.{Added}
use Rattle.ft_table_calls.specs.declared.adding.Added.TheVariants as added
use Rattle.ft_table_calls.specs.declared.made.Made.{Made}
use Rattle.ft_table_calls.specs.declared.made.Made.TheVariants as made
use Rattle.ft_table_calls.specs.Adding.{KeepsCursors}

-- ---- the containers of a call

-- one container, or two
abbrev pub objects_by : ℕ → Option ℕ → Objects
objects_by first None = One first
objects_by first (Some second) = Two first second

-- the containers that a call on containers names, whose locks it takes; of another call nothing is said
abbrev pub objects_in : Call → Objects
objects_in (call.Dict o dc) = objects_by o (other_dict dc)
objects_in (call.List o lc) = objects_by o (other_list lc)
objects_in (call.Set o sc) = objects_by o (other_set sc)
objects_in (call.Deque o qc) = objects_by o (other_deque qc)
objects_in (call.Begin first second) = objects_by first second
objects_in other = One 0

-- ---- the try

-- The pass took the locks of these containers, did this while it had them, and let go of those that it took. (C API,
-- critical sections)
pub record UnderLocks (objects : Objects) (F : View → View → Type 0) (v w : View) : Type 0 where
  pub before : View
  pub took : OnlyLocked v before
  pub within : LocksWithin objects v before
  pub locks : HasLocks before objects
  pub after : View
  pub did : F before after
  pub gone : OnlyLocked after w
  pub owners : SameOwners after w

-- what the try of a call answers that came to this under its locks
abbrev pub step_of_made : Made → Step
step_of_made (made.Done said stamp) = step.Done said stamp
step_of_made (made.Moved a b) = step.Moved a b
step_of_made made.NoMemory = step.NoMemory

-- What the try of a call answers that comes to F under the locks of these containers: the pass had them from before the
-- first step of F to after its last, the load of the counter among these. Or a step found another pass with one of the
-- locks. (C API, critical sections)
abbrev pub IsTry : Objects → (Made → View → View → Type 0) → View → View → Step → Type 0
IsTry objects F v w (step.Done said stamp) = UnderLocks objects (F (made.Done said stamp)) v w
IsTry objects F v w (step.NotYet p q) = OnlyLocked v w × IsOf p objects × FoundOwner p q v w
IsTry objects F v w (step.Moved a b) = UnderLocks objects (F (made.Moved a b)) v w
IsTry objects F v w step.NoMemory = UnderLocks objects (F made.NoMemory) v w

-- ---- what calls come to under their locks

-- It was made, and leaves each container its table.
abbrev pub IsMade : Call → Made → View → View → Type 0
IsMade called (made.Done said stamp) v w = MadeAs called said stamp v w
IsMade called (made.Moved a b) v w = ⊥
IsMade called made.NoMemory v w = ⊥

-- It was answered at a load of the counter.
abbrev pub IsRead : Call → Made → View → View → Type 0
IsRead called (made.Done said stamp) v w = Answered called said stamp.number v w × (stamp.wrote ≡ false)
IsRead called (made.Moved a b) v w = ⊥
IsRead called made.NoMemory v w = ⊥

-- what a call comes to that came to this with its tables, and replies so where it is made
abbrev pub made_after : Added → Reply → Made
made_after (added.Made stamp) said = made.Done said stamp
made_after (added.NoTable class stamp) said = made.Done (reply.Raised (raise.Memory class)) stamp
made_after (added.Over stamp) said = made.Done (reply.Raised raise.Over) stamp
made_after (added.NoPlace stamp) said = made.Done (reply.Raised raise.Heap) stamp
made_after (added.Moved a b) said = made.Moved a b

-- It came to F, and replies so where it is made; the cursors stay.
abbrev pub ComesTo : (View → View → Added → Type 0) → Reply → Made → View → View → Type 0
ComesTo F said result v w = (what : Added) × (made_after what said ≡ result) × F v w what × KeepsCursors v w

-- what a call comes to that answers with a copy
abbrev pub made_of_copy : Result (Reply × Stamp) AllocError → Made
made_of_copy (Ok answer) = made.Done answer.0 answer.1
made_of_copy (Err e) = made.NoMemory
