-- The cursors that a pass has by its own log: a cursor is its thread's, so no other pass makes or moves it.
use Rattle.std.specs.Prelude.{◌≡◌, ℕ, ◌==◌, cond, List, [], ◌∷◌, Option, Some, None}
use Rattle.ft_model.specs.declared.call.Call.{Call}
use Rattle.ft_model.specs.declared.reply.Reply.{Reply}
use Rattle.ft_model.specs.declared.content.Content.{Content}
use Rattle.ft_model.specs.declared.cursor.Cursor.{Cursor}
use Rattle.ft_model.specs.Worlds.{cursor_at}
use Rattle.ft_model.specs.Answers.{answer, moves}
use Rattle.ft_trace.specs.declared.Act.{Act}
use Rattle.ft_trace.specs.declared.Act.TheVariants.{AnswerCursor}
use Rattle.ft_trace.specs.declared.Entry.{Entry}
use Rattle.ft_trace.specs.Acts.{entries_next}

-- the cursor under a number after one more action: the one that an `iter` or a `next` of it leaves
abbrev pub cursor_next : ℕ → Act → Option Cursor → Option Cursor
cursor_next number (AnswerCursor c r n moved had left) old = cond (moved == number) (Some left) old
cursor_next number act old = old

-- the cursor that the pass has under a number; None where it made none (Python manual, Iterator Types)
abbrev pub cursor_in : ℕ → List Act → Option Cursor
cursor_in number [] = None
cursor_in number (a ∷ l) = cursor_next number a (cursor_in number l)

-- To a thread that has this cursor under the number, whatever else it has, the plain containers with this world give
-- the reply, and leave the new cursor in its place and all else as it was. (Python manual, Iterator Types)
abbrev pub MovesCursor : List Content → Call → ℕ → Option Cursor → Reply → Cursor → Type 0
MovesCursor world called number had said left =
    (hands : List (Option Cursor)) → cursor_at hands number ≡ had
    → answer world hands called ≡ moves world hands number left said

-- the entries that a pass made itself, newest first
abbrev pub own_entries : List Act → List Entry
own_entries [] = []
own_entries (a ∷ l) = entries_next a (own_entries l)
