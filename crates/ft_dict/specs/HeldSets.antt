-- Calls on a dict that put a value which stands in a box, for a pass that holds the box's one reference.
use Rattle.std.specs.Prelude.{ℕ, ◌+◌, nat_lt, false, Option, None, if◌then◌else◌}
use Rattle.ft_model.specs.declared.call.Call.{Call}
use Rattle.ft_model.specs.declared.data.Key.{Key}
use Rattle.ft_model.specs.declared.reply.Reply.{Reply}
use Rattle.ft_model.specs.Worlds.{length_of}
use Rattle.ft_layout.specs.declared.slot.Ref.{Ref}
use Rattle.ft_trace.specs.declared.Shape.{Shape}
use Rattle.ft_trace.specs.declared.View.{View}
use Rattle.ft_trace.specs.Boxes.{IsDoneWithBoxes}
use Rattle.ft_trace.specs.Holds.{known_state}
use Rattle.ft_bank.specs.Whole.{OnlyBoxed}
use Rattle.ft_table_calls.specs.declared.adding.Added.{Added}
use Rattle.ft_table_calls.specs.Adding.{KeepsCursors, WroteInPlace}
use Rattle.ft_new_keys.specs.HeldKeys.{IsPut, KeyInBox}
use Rattle.ft_new_keys.specs.KeyGrowth.{holds, key_takes, most_of}

-- The pass made the call as one whole write that left the root of the dict; before that it may have dropped a reference
-- for a box. The entry of the key names this box, if there is one. (profile)
pub record WroteThere (k : Shape) (o : ℕ) (key : Key) (called : Call) (said : Reply) (number : ℕ) (v w : View)
    : Type 0 where
  pub before : View
  pub boxed : OnlyBoxed v before
  pub box : Option Ref
  pub put : WroteInPlace (λ x y. KeyInBox k o key box y) called said number before w

-- What a call comes to under the lock that puts this key into the dict o, where the value stands in a box: by whether the
-- key is there, and where it isn't by the class of the table that the dict takes for one more key, and by whether it would
-- have more keys than the largest table holds. Before and after it the pass may have taken steps with boxes: the reference
-- for a box that no entry names was dropped. The pass has the cursors that it had, and is done with boxes.
pub record PutsHeld (k : Shape) (o : ℕ) (key : Key) (called : Call) (said : Reply) (v w : View) (what : Added)
    : Type 0 where
  pub before : View
  pub boxed : OnlyBoxed v before
  pub box : Option Ref
  pub after : View
  pub put : IsPut k o key box
      (if holds (known_state o v).content key then None
      else key_takes (known_state o v).content (known_state o v).table)
      (if holds (known_state o v).content key then false
      else nat_lt (most_of (known_state o v).content) (length_of (known_state o v).content + 1))
      called said before after what
  pub dropped : OnlyBoxed after w
  pub cursors : KeepsCursors v w
  pub boxes : IsDoneWithBoxes k w.log
