-- What a call without locks leaves that gave a reply.
use Rattle.std.specs.Prelude.{◌≡◌, ℕ, ◌≤◌, List, ◌++◌}
use Rattle.ft_model.specs.declared.call.Call.{Call}
use Rattle.ft_model.specs.declared.reply.Reply.{Reply}
use Rattle.ft_model.specs.declared.cursor.Cursor.{Cursor}
use Rattle.ft_trace.specs.declared.Act.{Act}
use Rattle.ft_trace.specs.declared.Act.TheVariants.{Answer, AnswerCursor}
use Rattle.ft_trace.specs.declared.View.{View}
use Rattle.ft_trace.specs.Acts.{view_after, seen_writes}
use Rattle.ft_trace.specs.Hands.{cursor_in}
use Rattle.ft_bank.specs.LastLoads.{IsLastLoad}
use Rattle.ft_bank.specs.Whole.{OnlyLoaded}

-- The pass loaded words of the bank, and then gave this reply to the call, with the number that the counter had when it
-- loaded it last; it has done nothing else. The number is at least all writes that the pass had seen. (profile)
pub record Answered (called : Call) (said : Reply) (number : ℕ) (v w : View) : Type 0 where
  pub before : View
  pub loaded : OnlyLoaded v before
  pub part : List Act
  pub own : before.log ≡ part ++ v.log
  pub counted : IsLastLoad number part
  pub answered : w ≡ view_after (Answer called said number) before
  pub seen : seen_writes v ≤ number

-- The pass loaded words of the bank, and then gave this reply to an `iter` or a `next` of its cursor under this number.
-- The stamp is what the counter had when the pass loaded it last before that, and at least all writes that the pass had
-- seen; the call left the new cursor there. It has done nothing else. (Python manual, Iterator Types)
pub record AnsweredCursor
    (called : Call) (said : Reply) (stamp number : ℕ) (cursor : Cursor) (v w : View) : Type 0 where
  pub before : View
  pub loaded : OnlyLoaded v before
  pub part : List Act
  pub own : before.log ≡ part ++ v.log
  pub counted : IsLastLoad stamp part
  pub answered : w ≡ view_after (AnswerCursor called said stamp number (cursor_in number v.log) cursor) before
  pub seen : seen_writes v ≤ stamp
