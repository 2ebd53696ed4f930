-- The smallest whole write: a list that has nothing is reversed, which changes no word of it but its version.
use Rattle.std.specs.Prelude.{◌≡◌, ◌≢◌, ℕ, ◌<◌, true, false}
use Rattle.ft_model.specs.declared.call.Call.TheVariants as call
use Rattle.ft_model.specs.declared.call.ListCall.TheVariants as list
use Rattle.ft_model.specs.declared.reply.Reply.TheVariants as reply
use Rattle.ft_model.specs.declared.script.Kind.TheVariants as kind
use Rattle.ft_trace.specs.declared.Shape.{Shape}
use Rattle.ft_trace.specs.declared.View.{View}
use Rattle.ft_trace.specs.Addresses.{container_count}
use Rattle.ft_trace.specs.Acts.{has_lock, is_writing, owes}
use Rattle.ft_trace.specs.Boxes.{place_use, use_taken, HasMergedBoxes}
use Rattle.ft_trace.specs.ContainerStates.{kind_in}
use Rattle.ft_trace.specs.Pictures.{root_in, Represents}
use Rattle.ft_trace.specs.Holds.{held_words, held_unboxed, known_state}
use Rattle.ft_bank.specs.SameBoxes.{times_raised}
use Rattle.ft_bank.specs.Whole.{OnlyLoaded, Wrote}

-- The pass may reverse the list l: it has its lock, and the list's words stand for what the pass knows of it; it writes
-- no list, owes no table, each box that it made was stored by a write, and it has a call left.
pub record MayReverse (k : Shape) (l : ℕ) (v : View) : Type 0 where
  pub container : l < container_count k
  pub kind : kind_in k.starts l ≡ kind.List
  pub locked : has_lock l v.log ≡ true
  pub even : (p : ℕ) → is_writing p v.log ≡ false
  pub stands : Represents k.texts (held_unboxed l v) (known_state l v)
  pub owes : owes v.log ≡ 0
  pub stored : (b : ℕ) → place_use b v.log ≢ use_taken
  pub left : 0 < v.left

-- The pass has loaded the root of l, which was 0, and then reversed the list in one whole write of this number. Where it
-- had merged all its boxes it has so still, and it has raised the count of none.
pub record Reversed (l number : ℕ) (v w : View) : Type 0 where
  pub loaded : View
  pub only : OnlyLoaded v loaded
  pub bare : root_in (held_words l loaded) ≡ 0
  pub wrote : Wrote (call.List l list.Reverse) reply.Done number loaded w
  pub still_bare : root_in (held_words l w) ≡ 0
  pub merged : HasMergedBoxes v.log → HasMergedBoxes w.log
  pub raised : (b : ℕ) → times_raised b w.log ≡ times_raised b loaded.log
