-- What a call comes to once it is tried, as the pass has it then.
use Rattle.std.specs.Prelude.{◌≡◌, ◌≢◌, ℕ, Bool, suc, ◌<◌, ◌≤◌, true, false, List, ◌∷◌, ◌++◌, length, Option, Some, None, option_map, slice_index_or}
use Rattle.ft_model.specs.declared.call.Call.{Call}
use Rattle.ft_model.specs.declared.call.Call.TheVariants as call
use Rattle.ft_model.specs.declared.call.DictCall.TheVariants as dict
use Rattle.ft_model.specs.declared.call.ListCall.TheVariants as list
use Rattle.ft_model.specs.declared.call.SetCall.TheVariants as set
use Rattle.ft_model.specs.declared.cursor.Cursor.{Cursor}
use Rattle.ft_model.specs.declared.reply.Reply.{Reply}
use Rattle.ft_model.specs.Calls.{moved_cursor}
use Rattle.ft_model.specs.Histories.{IsCountedAs}
use Rattle.ft_model.specs.Worlds.{container_of, cursor_at}
use Rattle.ft_trace.specs.declared.Shape.{Shape}
use Rattle.ft_trace.specs.declared.Act.{Act}
use Rattle.ft_trace.specs.declared.Act.TheVariants.{Announce, Answer, AnswerCursor, WriteNumber}
use Rattle.ft_trace.specs.declared.View.{View}
use Rattle.ft_trace.specs.Acts.{announces, seen_writes, view_after}
use Rattle.ft_trace.specs.Floors.{at_floor}
use Rattle.ft_trace.specs.Owners.{FindsMore, LocksOnly}
use Rattle.ft_trace.specs.Hands.{cursor_in}
use Rattle.ft_bank.specs.declared.bank.Bank.{Bank}
use Rattle.ft_bank.specs.declared.pass.Pass.{Pass}
use Rattle.ft_bank.specs.declared.takings.Took.TheVariants as took
use Rattle.ft_bank.specs.LastLoads.{IsLastLoad}
use Rattle.ft_bank.specs.Logs.{HasGrown, StaysOnline}
use Rattle.ft_bank.specs.Passes.{shape_of, view, DidNothing}
use Rattle.ft_bank.specs.PassSections.{stack_of}
use Rattle.ft_bank.specs.Whole.{OnlyBoxed}
use Rattle.ft_boxes.specs.Merging.{LeavesNoIdleBox, MergesIdleBoxes}
use Rattle.ft_qsbr.specs.Collecting.{Collected}
use Rattle.ft_section.specs.declared.answers.Got.{Got}
use Rattle.ft_section.specs.declared.answers.Got.TheVariants as got
use Rattle.ft_section.specs.declared.answers.Look.{Look}
use Rattle.ft_section.specs.declared.answers.Look.TheVariants as look
use Rattle.ft_section.specs.declared.answers.Objects.{Objects}
use Rattle.ft_section.specs.declared.answers.Stamp.{Stamp}
use Rattle.ft_section.specs.declared.answers.Step.{Step}
use Rattle.ft_section.specs.declared.answers.Step.TheVariants as step
use Rattle.ft_section.specs.Floors.{KnewOwners}
use Rattle.ft_section.specs.Locking.{FoundOwner, KeepsLower, with_own, waiting}
use Rattle.ft_section.specs.Ready.{HasTop, IsReady, IsWaiting, MayTry, MayResume}
use Rattle.ft_section.specs.LockTakings.{IsOf, lower_of}
use Rattle.ft_section.specs.Trying.{HasLetGo}
use Rattle.ft_table_calls.specs.Adding.{TriedTaking}
use Rattle.ft_search.specs.KeyLooks.{AnsweredByLook}
use Rattle.ft_search.specs.LookSteps.{AreLookSteps, OnlyLooked}
use Rattle.ft_bank_history.specs.Marks.{walked_after}
use Rattle.ft_engine.specs.Callers.{AreOver}
use Rattle.ft_engine.specs.Contentions.{StopsCall, WasContended, may_look}
use Rattle.ft_engine.specs.Flights.{is_begin, objects_of}
use Rattle.ft_engine.specs.Asked.{FitsSections, IsCallIn}
use Rattle.ft_engine.specs.Keeping.{made_entry, section_marks, marks_after}
use Rattle.ft_engine.specs.Stacks.{StackAfter}

-- It is the same pass: it is online where it was, and went offline at no moment where it had been online since before
-- its first entry; it has taken in the same passes, has the floor where it had it, and no other since, has seen no fewer
-- writes, and its log has only grown. (profile)
pub record StaysPass (v w : View) : Type 0 where
  pub number : w.number ≡ v.number
  pub next : w.next ≡ v.next
  pub parts : w.parts ≡ v.parts
  pub shape : w.shape ≡ v.shape
  pub lists : w.lists ≡ v.lists
  pub online : 0 < announces v.log → 0 < announces w.log
  pub floor : w.has_floor ≡ v.has_floor
  pub since : at_floor w.log ≡ at_floor v.log
  pub seen : seen_writes v ≤ seen_writes w
  pub grown : HasGrown v w
  pub stays_online : StaysOnline v w

-- The same pass has made no entry, and has the same cursors. (profile)
pub record MakesNoEntry (v w : View) : Type 0 where
  pub pass : StaysPass v w
  pub entries : w.entries ≡ v.entries
  pub left : w.left ≡ v.left
  pub cursors : (number : ℕ) → cursor_in number w.log ≡ cursor_in number v.log

-- the action answers this call, and has this number
abbrev pub AnswersAt : Call → ℕ → Act → Type 0
AnswersAt called n (Answer asked said number) = (asked ≡ called) × (number ≡ n)
AnswersAt called n (AnswerCursor asked said stamp number had left) = (asked ≡ called) × (stamp ≡ n)
AnswersAt called n act = ⊥

-- After the first of these moments and before the second, the pass answered this call at this number. That is what the
-- counter had when the pass loaded it last before the answer; it loaded it after the first moment.
pub record HasLoaded (called : Call) (n : ℕ) (v w : View) : Type 0 where
  pub later : List Act
  pub answer : Act
  pub part : List Act
  pub own : w.log ≡ later ++ answer ∷ (part ++ v.log)
  pub answers : AnswersAt called n answer
  pub loaded : IsLastLoad n part

-- the pass has loaded the write number, and announced it
abbrev pub after_announcing : ℕ → View → View
after_announcing number v = view_after (Announce v.number number) (view_after (WriteNumber number) v)

-- After the first of these moments the pass merged its boxes whose counts added up to 0, and did nothing else: each that
-- it has in the default state then had references when it loaded the counts. (PEP 703, Biased Reference Counting) It
-- announced the write number, since it holds on to no table that it found before, and collected, before the second
-- moment: it found what each pass announces, and gave back just those of the tables that it kept retired whose goals all
-- of them are past, so that no pass online can still read them. Its log has what it did for that between what it had at
-- the two moments. (PEP 703, QSBR)
pub record HasQuiesced (v w : View) : Type 0 where
  pub start : View
  pub earlier : StaysPass v start
  pub merged : View
  pub boxed : OnlyBoxed start merged
  pub merges : MergesIdleBoxes start merged
  pub idle : LeavesNoIdleBox start merged
  pub number : ℕ
  pub after : View
  pub freed : ℕ
  pub collected : Collected (after_announcing number merged) after freed
  pub later : StaysPass after w

-- that is what a `quiesce` does
abbrev pub HasCollectedFor : Call → View → View → Type 0
HasCollectedFor call.Quiesce v w = HasQuiesced v w
HasCollectedFor called v w = Unit {0}

-- The same pass has made the one entry of this answer, at a stamp that is at least all writes that it had seen. That of
-- a call which is no write is what the pass loaded last before it answered; a write it has then seen. Its cursors stay,
-- but for the one that the call moves. (profile)
pub record MakesEntry (called : Call) (said : Reply) (stamp : Stamp) (v w : View) : Type 0 where
  pub pass : StaysPass v w
  pub entries : w.entries ≡ made_entry called said stamp ∷ v.entries
  pub left : v.left ≡ suc w.left
  pub seen : seen_writes v ≤ stamp.number
  pub loaded : stamp.wrote ≡ false → HasLoaded called stamp.number v w
  pub shows : stamp.wrote ≡ true → stamp.number < seen_writes w
  pub cursors : (number : ℕ) → moved_cursor called ≢ Some number
      → cursor_in number w.log ≡ cursor_in number v.log

-- an `end` says how many calls in the innermost of these sections waited
abbrev pub IsEndOf : Call → List ℕ → Reply → Type 0
IsEndOf call.End marks said = IsCountedAs (slice_index_or marks 0 0) said
IsEndOf (call.Begin first second) marks said = Unit {0}
IsEndOf (call.Dict o dc) marks said = Unit {0}
IsEndOf (call.List o lc) marks said = Unit {0}
IsEndOf (call.Set o sc) marks said = Unit {0}
IsEndOf (call.Deque o qc) marks said = Unit {0}
IsEndOf (call.Next number) marks said = Unit {0}
IsEndOf call.Quiesce marks said = Unit {0}
IsEndOf (call.Await thread index) marks said = Unit {0}
IsEndOf call.Dump marks said = Unit {0}

-- the cursors go over the containers that they went over, but for the one that an `iter` has made (Python manual,
-- Iterator Types)
abbrev pub HasWalked : Call → View → View → Type 0
HasWalked called v w =
    (number : ℕ) → option_map container_of (cursor_in number w.log)
    ≡ walked_after number called (option_map container_of (cursor_in number v.log))

-- The call has its answer: the pass has one entry more, and the innermost section to take up again, of which a `begin`
-- still has the locks. The sections are those that the call leaves open, with their counts. A `quiesce` has collected.
-- (C API, critical sections; PEP 703, QSBR)
pub record HasAnswer (b : Bank) (called : Call) (said : Reply) (stamp : Stamp) (p q : Pass) : Type 0 where
  pub entry : MakesEntry called said stamp (view p) (view q)
  pub resume : MayResume b q
  pub top : is_begin called ≡ true → HasTop q
  pub stack : StackAfter called (stack_of p) (stack_of q)
  pub marks : section_marks (stack_of q) ≡ marks_after called (section_marks (stack_of p))
  pub mark : (stack_of q).mark ≡ (stack_of p).mark
  pub ends : IsEndOf called (section_marks (stack_of p)) said
  pub walked : HasWalked called (view p) (view q)
  pub collected : HasCollectedFor called (view p) (view q)

-- The call waits: a step of it found another pass with the lock of one of its containers, and all open sections have
-- let their locks go. (C API, critical sections)
pub record HasToWait (b : Bank) (objects : Objects) (o owner : ℕ) (p q : Pass) : Type 0 where
  pub entry : MakesNoEntry (view p) (view q)
  pub waits : IsWaiting b q objects
  pub stack : stack_of q ≡ waiting (with_own (stack_of p) (stack_of q).own) owner
  pub kept : KeepsLower (lower_of objects) o p q
  pub found : IsOf o objects × FoundOwner o owner (view p) (view q)

-- the call has let go of its own locks, and has no answer
pub record HasNone (b : Bank) (p q : Pass) : Type 0 where
  pub entry : MakesNoEntry (view p) (view q)
  pub gone : HasLetGo b p q

-- The call tried to take a table of a class, and two steps of that found words changed: the count of the class, or
-- one of its free words; or the count wasn't 0, and each free word was. Before and after it adds nothing. The pass
-- hasn't the floor. (profile)
pub record FoundWordsChanged (first second : ℕ) (v w : View) : Type 0 where
  pub before : View
  pub earlier : MakesNoEntry v before
  pub class : ℕ
  pub after : View
  pub tried : TriedTaking before.shape class (took.Moved first second) before after
  pub later : MakesNoEntry after w
  pub floor : v.has_floor ≡ false

-- these are the cursors that the pass has by its own entries, and each goes over a container of its kind
pub record AreHandsOfPass (k : Shape) (v : View) (hands : List (Option Cursor)) : Type 0 where
  pub cursors : (number : ℕ) → number < length hands → cursor_at hands number ≡ cursor_in number v.log
  pub over : AreOver k hands

-- A call may be tried: the pass is ready for it, or has tried it before, and has a call left; what it names is there,
-- the sections allow it, and the pass is online.
pub record MayTryCall (b : Bank) (p : Pass) (hands : List (Option Cursor)) (called : Call) : Type 0 where
  pub tries : (objects : Objects) → objects_of hands called ≡ Some objects → MayTry b p objects
  pub ready : objects_of hands called ≡ None → IsReady b p
  pub names : IsCallIn (shape_of b) hands called
  pub sections : FitsSections (stack_of p) called
  pub left : 0 < (view p).left
  pub online : 0 < announces (view p).log

-- only a call that has its answer changes a cursor
abbrev pub LeavesHands : Step → List (Option Cursor) → List (Option Cursor) → Type 0
LeavesHands (step.Done said stamp) before after = length after ≡ length before
LeavesHands (step.NotYet o owner) before after = after ≡ before
LeavesHands (step.Moved first second) before after = after ≡ before
LeavesHands step.NoMemory before after = after ≡ before

-- A call that isn't looked first needs the locks of its containers: with the floor its try was answered what the lock
-- words known say. (C API, critical sections)
abbrev pub KnewLocks : Call → Objects → Pass → Got → Type 0
KnewLocks called objects p answer = may_look called ≡ false → KnewOwners objects (view p) answer

abbrev pub KnewNone : List (Option Cursor) → Call → Pass → Type 0
KnewNone hands called p =
    (objects : Objects) → objects_of hands called ≡ Some objects → KnewLocks called objects p got.Have

-- a container whose lock the call takes
abbrev pub IsLockedFor : List (Option Cursor) → Call → ℕ → Type 0
IsLockedFor hands called o = (objects : Objects) × (objects_of hands called ≡ Some objects) × IsOf o objects

-- Of locks the pass has taken only such as the call needs, and whom it has found with locks stands for good. (C API,
-- critical sections)
pub record HasLockedFor (hands : List (Option Cursor)) (called : Call) (v w : View) : Type 0 where
  pub only : LocksOnly (IsLockedFor hands called) v w
  pub found : FindsMore v w

-- whether a call answers with a copy of what the container has: no other call takes memory (profile)
abbrev pub copies : Call → Bool
copies (call.Dict o dict.Items) = true
copies (call.List o list.Items) = true
copies (call.List o (list.Slice first last)) = true
copies (call.Set o set.Items) = true
copies called = false

-- What one try of a call of a thread with these cursors comes to. Only a call that copies runs out of memory.
abbrev pub IsTryOfCall : Bank → List (Option Cursor) → Call → Pass → Pass → Step → Type 0
IsTryOfCall b hands called p q (step.Done said stamp) =
    HasAnswer b called said stamp p q × KnewNone hands called p × HasLockedFor hands called (view p) (view q)
IsTryOfCall b hands called p q (step.NotYet o owner) =
    (objects : Objects) × (objects_of hands called ≡ Some objects) × HasToWait b objects o owner p q
    × KnewLocks called objects p (got.NotYet o owner) × HasLockedFor hands called (view p) (view q)
IsTryOfCall b hands called p q (step.Moved first second) =
    (objects : Objects) × (objects_of hands called ≡ Some objects) × HasNone b p q
    × KnewLocks called objects p got.Have × HasLockedFor hands called (view p) (view q)
    × FoundWordsChanged first second (view p) (view q)
IsTryOfCall b hands called p q step.NoMemory =
    HasNone b p q × HasLockedFor hands called (view p) (view q) × (copies called ≡ true)

-- ---- looks

-- What a look at containers answers, in the words that all looks share. It gave a reply, at the counter that it loaded
-- last; or it has only taken steps of looks, loads and those that raise and drop the counts of boxes, and where it is
-- contended, among them those that stopped it; or there was no memory for the copy that it answers with.
abbrev pub IsLooked : Call → View → View → Look → Type 0
IsLooked called v w (look.Done said stamp) = AnsweredByLook called said stamp.number v w × (stamp.wrote ≡ false)
IsLooked called v w (look.Contended first second) =
    (part : List Act) × (w.log ≡ part ++ v.log) × OnlyLooked v w × StopsCall v.shape called first second part
    × AreLookSteps part
IsLooked called v w look.NoMemory = OnlyLooked v w × (copies called ≡ true)

-- it isn't contended
abbrev pub IsUncontended : Look → Type 0
IsUncontended (look.Done said stamp) = Unit {0}
IsUncontended (look.Contended first second) = ⊥
IsUncontended look.NoMemory = Unit {0}

-- the same of a call that is looked at, or of one that isn't
abbrev pub IsLookedIfAny : Call → Pass → Pass → Option Look → Type 0
IsLookedIfAny called p q (Some answer) = IsLooked called (view p) (view q) answer
IsLookedIfAny called p q None = DidNothing p q

-- the answer of a try that the look gives, if it gives one
abbrev pub settled : Option Look → Option Step
settled (Some (look.Done said stamp)) = Some (step.Done said stamp)
settled (Some (look.Contended first second)) = None
settled (Some look.NoMemory) = Some step.NoMemory
settled None = None

-- a call that may be made without a lock waits for one only where a look at it in this try was contended
abbrev pub HasLooked : Call → View → View → Step → Type 0
HasLooked called v w (step.NotYet o owner) = may_look called ≡ true → WasContended called v w
HasLooked called v w (step.Done said stamp) = Unit {0}
HasLooked called v w (step.Moved first second) = Unit {0}
HasLooked called v w step.NoMemory = Unit {0}
