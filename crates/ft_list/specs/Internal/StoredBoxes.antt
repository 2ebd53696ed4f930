-- The box that a call on a list stores.
use Rattle.std.specs.Prelude.{◌≡◌, ℕ}
use Rattle.ft_model.specs.declared.call.Call.{Call}
use Rattle.ft_model.specs.declared.reply.Reply.TheVariants as reply
use Rattle.ft_trace.specs.declared.Shape.{Shape}
use Rattle.ft_trace.specs.declared.View.{View}
use Rattle.ft_trace.specs.Boxes.{IsDoneWithBoxes}
use Rattle.ft_trace.specs.Holds.{held_words}
use Rattle.ft_trace.specs.Pictures.{root_in}
use Rattle.ft_bank.specs.Whole.{OnlyBoxed, Wrote}

-- The pass made the call, which is done, as one whole write that left the root of the list o; before that it may have
-- dropped a reference for a box. It is done with boxes. (profile)
pub record WroteHeld (k : Shape) (o : ℕ) (called : Call) (number : ℕ) (v w : View) : Type 0 where
  pub before : View
  pub boxed : OnlyBoxed v before
  pub wrote : Wrote called reply.Done number before w
  pub root : root_in (held_words o w) ≡ root_in (held_words o before)
  pub boxes : IsDoneWithBoxes k w.log
