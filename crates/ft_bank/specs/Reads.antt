-- What the entry of a call that isn't a write asks of the pass that makes it.
use Rattle.std.specs.Prelude.{◌≡◌, ◌<◌, ℕ, false, Some, None}
use Rattle.ft_model.specs.declared.call.Call.{Call}
use Rattle.ft_model.specs.declared.reply.Reply.{Reply}
use Rattle.ft_model.specs.declared.cursor.Cursor.{Cursor}
use Rattle.ft_model.specs.Answers.{is_write}
use Rattle.ft_model.specs.Calls.{moved_cursor}
use Rattle.ft_model.specs.Histories.{IsReplied}
use Rattle.ft_model.specs.TableUses.{stored_newest}
use Rattle.ft_trace.specs.declared.View.{View}
use Rattle.ft_trace.specs.ContainerStates.{first_writes, reply_in}
use Rattle.ft_trace.specs.Causes.{Loaded, HasCause}
use Rattle.ft_trace.specs.Hands.{cursor_in, MovesCursor}
use Rattle.ft_trace.specs.Traces.{history, Sure}

-- In every trace in which a pass knows this, the call is replied so after as many writes: the reply is that of the
-- plain containers, or that of a section, or a MemoryError that has its cause in what the pass read. A load of the
-- counter since the last entry gave the number. The pass has a call left. The call is no `iter` or `next`.
pub record IsShown (v : View) (call : Call) (reply : Reply) (number : ℕ) : Type 0 where
  pub read : is_write call reply ≡ false
  pub left : 0 < v.left
  pub loaded : Loaded number v.log
  pub replied : Sure v (λ es. IsReplied call reply
      (reply_in (stored_newest v.shape.starts (first_writes number (history es))) call))
  pub cause : Sure v (λ es. HasCause (stored_newest v.shape.starts (first_writes number (history es))) v call reply
      number)
  pub no_cursor : Sure v (λ es. moved_cursor call ≡ None)

-- In every trace in which a pass knows this, the plain containers after as many writes answer an `iter` or a `next` so,
-- of the cursor that the pass has under this number, and leave the new one. A load of the counter since the last entry
-- gave how many writes. The pass has a call left. (Python manual, Iterator Types)
pub record IsCursorShown (v : View) (call : Call) (reply : Reply) (stamp number : ℕ) (cursor : Cursor) : Type 0 where
  pub moved : moved_cursor call ≡ Some number
  pub left : 0 < v.left
  pub loaded : Loaded stamp v.log
  pub moves : Sure v (λ es.
      MovesCursor (stored_newest v.shape.starts (first_writes stamp (history es))).world call number
      (cursor_in number v.log) reply cursor)
