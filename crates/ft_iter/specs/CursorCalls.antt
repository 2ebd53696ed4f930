-- What `iter` and `next` answer under the lock of the container, and the cursors that they leave.
use Rattle.std.specs.Prelude.{◌≡◌, ◌≢◌, ℕ, Option, Some, None, false, Bool, true}
use Rattle.ft_model.specs.declared.call.Call.{Call}
use Rattle.ft_model.specs.declared.call.Call.TheVariants as call
use Rattle.ft_model.specs.declared.call.DictCall.TheVariants as dict
use Rattle.ft_model.specs.declared.call.ListCall.TheVariants as list
use Rattle.ft_model.specs.declared.call.SetCall.TheVariants as set
use Rattle.ft_model.specs.declared.content.Content.{Content}
use Rattle.ft_model.specs.declared.cursor.Cursor.{Cursor}
use Rattle.ft_model.specs.declared.cursor.Cursor.TheVariants as cursor
use Rattle.ft_model.specs.declared.cursor.CursorState.TheVariants as walk
use Rattle.ft_model.specs.declared.script.Kind.{Kind}
use Rattle.ft_model.specs.declared.script.Kind.TheVariants as kind
use Rattle.ft_model.specs.Cursors.{CursorStep, dict_next, list_next, set_next, deque_next, dict_back_next, list_back_next}
use Rattle.ft_model.specs.Worlds.{container_of, cursor_kind, dict_of, list_of, set_of, deque_of}
use Rattle.ft_trace.specs.declared.View.{View}
use Rattle.ft_trace.specs.Hands.{cursor_in}
use Rattle.ft_bank.specs.Answered.{AnsweredCursor}
use Rattle.ft_section.specs.declared.answers.Objects.TheVariants.{One}
use Rattle.ft_section.specs.declared.answers.Step.{Step}
use Rattle.ft_section.specs.declared.answers.Step.TheVariants as step
use Rattle.ft_table_calls.specs.declared.made.Made.{Made}
use Rattle.ft_table_calls.specs.declared.made.Made.TheVariants as made
use Rattle.ft_table_calls.specs.TriesUnderLocks.{IsTry}
use Rattle.ft_model.specs.declared.call.DequeCall.TheVariants as deque

-- one `next` of a cursor over a container with this content (Python manual, Iterator Types)
abbrev pub step_in : Content → Cursor → CursorStep
step_in c (cursor.Dict o walk size expected last) = dict_next (dict_of c).pairs o walk size expected last
step_in c (cursor.List o index ended) = list_next (list_of c) o index ended
step_in c (cursor.Set o walk size last) = set_next (set_of c).elements o walk size last
step_in c (cursor.Deque o moves index) = deque_next (deque_of c) o moves index
step_in c (cursor.DictBack o walk size last) = dict_back_next (dict_of c).pairs o walk size last
step_in c (cursor.ListBack o index) = list_back_next (list_of c) o index

-- whether the cursor is one that the bank can move so far: none of a deque and no reversed one (profile)
abbrev pub is_landed_cursor : Cursor → Bool
is_landed_cursor (cursor.Dict o walk size expected last) = true
is_landed_cursor (cursor.List o index ended) = true
is_landed_cursor (cursor.Set o walk size last) = true
is_landed_cursor (cursor.Deque o moves index) = false
is_landed_cursor (cursor.DictBack o walk size last) = false
is_landed_cursor (cursor.ListBack o index) = false

-- The pass has the cursors that it had under all other numbers. (Python manual, Iterator Types)
abbrev pub KeepsOtherCursors : ℕ → View → View → Type 0
KeepsOtherCursors number v w = (other : ℕ) → other ≢ number → cursor_in other w.log ≡ cursor_in other v.log

-- a cursor that the bank can move goes over this container of this kind
abbrev pub IsOver : Kind → ℕ → Cursor → Type 0
IsOver kind o walker = (container_of walker ≡ o) × (cursor_kind walker ≡ kind) × (is_landed_cursor walker ≡ true)

-- It was answered at a load of the counter, and the caller has the cursor that the pass has then under the number,
-- over the same container. (Python manual, Iterator Types)
abbrev pub IsCursorMove : Kind → ℕ → Call → ℕ → Option Cursor → Made → View → View → Type 0
IsCursorMove kind o called number left (made.Done said stamp) v w =
    (walker : Cursor) × (left ≡ Some walker) × IsOver kind o walker
    × AnsweredCursor called said stamp.number number walker v w
    × (stamp.wrote ≡ false)
IsCursorMove kind o called number left (made.Moved a b) v w = ⊥
IsCursorMove kind o called number left made.NoMemory v w = ⊥

-- The cursor that the caller has after a try is the one that its pass has under the number, where the call is done;
-- else it is the one that it had.
abbrev pub LeavesCursor : ℕ → Option Cursor → View → Step → Option Cursor → Type 0
LeavesCursor number had w (step.Done said stamp) left = cursor_in number w.log ≡ left
LeavesCursor number had w other left = left ≡ had

-- what the try of such a call answers, and the cursor that it leaves (C API, critical sections)
abbrev pub IsMoveOf : Kind → ℕ → Call → ℕ → Option Cursor → View → View → Step → Option Cursor → Type 0
IsMoveOf kind o called number had v w result left =
    IsTry (One o) (IsCursorMove kind o called number left) v w result × LeavesCursor number had w result left

-- the call `iter` on a container of a kind, and the cursor that it makes there, where there are this many pairs, items
-- or elements (Python manual, Iterator Types); a deque of a bank was never changed yet (profile)
abbrev pub iter_call : Kind → ℕ → ℕ → Call
iter_call kind.Dict o number = call.Dict o (dict.Iter number)
iter_call kind.List o number = call.List o (list.Iter number)
iter_call (kind.Deque bound) o number = call.Deque o (deque.Iter number)
iter_call kind.Set o number = call.Set o (set.Iter number)

abbrev pub iter_cursor : Kind → ℕ → ℕ → Cursor
iter_cursor kind.Dict o size = cursor.Dict o walk.Live size size None
iter_cursor kind.List o size = cursor.List o 0 false
iter_cursor (kind.Deque bound) o size = cursor.Deque o 0 0
iter_cursor kind.Set o size = cursor.Set o walk.Live size None
