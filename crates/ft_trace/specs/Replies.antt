-- Replies that a pass may give to calls that aren't writes: conditions that callers can meet.
use Rattle.std.specs.Prelude.{◌≡◌, ℕ, ◌<◌, false, List, ◌∷◌, ◌++◌, Some, None}
use Rattle.ft_model.specs.declared.call.Call.{Call}
use Rattle.ft_model.specs.declared.cursor.Cursor.{Cursor}
use Rattle.ft_model.specs.declared.reply.Reply.{Reply}
use Rattle.ft_model.specs.declared.reply.Reply.TheVariants as reply
use Rattle.ft_model.specs.declared.reply.Raise.TheVariants as raise
use Rattle.ft_model.specs.Answers.{is_write}
use Rattle.ft_model.specs.Calls.{moved_cursor}
use Rattle.ft_model.specs.Histories.{IsReplied}
use Rattle.ft_model.specs.TableUses.{CanLackMemory, stored_newest, takes_in, would_pass}
use Rattle.ft_trace.specs.declared.Act.{Act}
use Rattle.ft_trace.specs.declared.Act.TheVariants.{Answer, AnswerCursor, ReadCounter, ReadCount}
use Rattle.ft_trace.specs.declared.View.{View}
use Rattle.ft_trace.specs.Acts.{owes, view_after}
use Rattle.ft_trace.specs.ContainerStates.{reply_in}
use Rattle.ft_trace.specs.Causes.{AreOfOneCall, CanLackPlace, HasCause, HeapIsFull}
use Rattle.ft_trace.specs.Hands.{cursor_in, MovesCursor}
use Rattle.ft_trace.specs.Holds.{AgreesWith}
use Rattle.ft_trace.specs.Traces.{IsReachable, IsAwake}

-- what a pass knows that loaded the counter and gave a reply with that stamp
abbrev pub after_answer : View → Call → Reply → ℕ → View
after_answer v call said number = view_after (Answer call said number) (view_after (ReadCounter number) v)

-- A pass with a call left may load the counter and give a reply with that stamp to a call that asks no cursor, where it
-- is the plain containers' in each history that agrees with what the pass knows of the containers whose locks it has,
-- and has its cause there.
abbrev pub RepliesMayBeGiven : Type 0
RepliesMayBeGiven =
    (v : View) (call : Call) (said : Reply) → IsAwake v → IsReachable v → 0 < v.left → is_write call said ≡ false
    → moved_cursor call ≡ None
    → ((calls : List Call) (number : ℕ) → AgreesWith v (stored_newest v.shape.starts calls)
    → IsReplied call said (reply_in (stored_newest v.shape.starts calls) call)
    × HasCause (stored_newest v.shape.starts calls) (view_after (ReadCounter number) v) call said number)
    → (number : ℕ) × IsReachable (after_answer v call said number)

-- what a pass knows that loaded the counter and answered an `iter` or a `next` of its cursor under a number, with that
-- stamp
abbrev pub after_cursor : View → Call → Reply → ℕ → ℕ → Cursor → View
after_cursor v call said stamp number left =
    view_after (AnswerCursor call said stamp number (cursor_in number v.log) left) (view_after (ReadCounter stamp) v)

-- A pass with a call left may load the counter and answer an `iter` or a `next` with that stamp, where the plain
-- containers answer so in each history that agrees with what the pass knows of the containers whose locks it has.
abbrev pub CursorsMayBeMoved : Type 0
CursorsMayBeMoved =
    (v : View) (call : Call) (said : Reply) (number : ℕ) (left : Cursor) → IsAwake v → IsReachable v → 0 < v.left
    → moved_cursor call ≡ Some number
    → ((calls : List Call) → AgreesWith v (stored_newest v.shape.starts calls)
    → MovesCursor (stored_newest v.shape.starts calls).world call number (cursor_in number v.log) said left)
    → (stamp : ℕ) × IsReachable (after_cursor v call said stamp number left)

-- the reply that a call raises which found no memory of a class
abbrev pub lacks : ℕ → Reply
lacks class = reply.Raised (raise.Memory class)

-- A pass with a call left that found the count of a class 0 since its last entry, and owed no count then, may answer a
-- MemoryError of it to a call that would take a table of that class.
abbrev pub MemoryErrorsMayBeAnswered : Type 0
MemoryErrorsMayBeAnswered =
    (v : View) (call : Call) (class : ℕ) (newer rest : List Act) → IsAwake v → IsReachable v
    → 0 < v.left → v.log ≡ newer ++ ReadCount class 0 ∷ rest → AreOfOneCall newer → owes rest ≡ 0
    → ((calls : List Call) → AgreesWith v (stored_newest v.shape.starts calls)
    → CanLackMemory (stored_newest v.shape.starts calls).world call
    × (would_pass (stored_newest v.shape.starts calls).world call ≡ false)
    × (takes_in (stored_newest v.shape.starts calls) call ≡ Some class))
    → (number : ℕ) × IsReachable (after_answer v call (lacks class) number)

-- A pass with a call left that found its own heap full since its last entry may answer a MemoryError of a heap to a call
-- that would put a value in a box.
abbrev pub HeapErrorsMayBeAnswered : Type 0
HeapErrorsMayBeAnswered =
    (v : View) (call : Call) → IsAwake v → IsReachable v → 0 < v.left → HeapIsFull v.shape v.number v.log
    → ((calls : List Call) → AgreesWith v (stored_newest v.shape.starts calls)
    → CanLackPlace (stored_newest v.shape.starts calls).world call
    × (would_pass (stored_newest v.shape.starts calls).world call ≡ false))
    → (number : ℕ) × IsReachable (after_answer v call (reply.Raised raise.Heap) number)
