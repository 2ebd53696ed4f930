-- What containers are shown to have by the words of their bank, and whose words those are in the end.
use Rattle.std.specs.Prelude.{◌≡◌, ℕ, true, false, List, length, Some, slice_get}
use Rattle.ft_model.specs.declared.reply.Shown.{Shown}
use Rattle.ft_model.specs.Answers.{shown_of}
use Rattle.ft_model.specs.Worlds.{kind_of}
use Rattle.ft_trace.specs.declared.Shape.{Shape}
use Rattle.ft_trace.specs.declared.View.{View}
use Rattle.ft_trace.specs.Acts.{floor_words, is_writing}
use Rattle.ft_trace.specs.Addresses.{container_count}
use Rattle.ft_trace.specs.ContainerStates.{ContainerState, kind_in}
use Rattle.ft_trace.specs.Pictures.{ContainerWords, Represents}
use Rattle.ft_trace.specs.Unboxed.{unboxed_picture}

-- where these words stand for what the container o has, all its pairs, items or elements are shown, in order
abbrev pub IsShownAs : Shape → ℕ → Shown → ContainerWords → Type 0
IsShownAs k o shown x =
    (kept : ContainerState) → kind_of kept.content ≡ kind_in k.starts o → Represents k.texts x kept
    → shown ≡ shown_of kept.content

-- each container is shown so by what these words of the bank read through boxes, in the order of declaration
pub record AreShownBy (k : Shape) (words : List ℕ) (all : List Shown) : Type 0 where
  pub count : length all ≡ container_count k
  pub each : (o : ℕ) (shown : Shown) → slice_get all o ≡ Some shown → IsShownAs k o shown (unboxed_picture k o words)

-- and by the words that a pass knows which has the floor
abbrev pub AreShownTo : View → List Shown → Type 0
AreShownTo v all = AreShownBy v.shape (floor_words v.shape v.number v.log) all

-- the pass has taken in all others, has the floor, and is in the midst of no write
pub record IsLast (v : View) : Type 0 where
  pub all : v.parts ≡ v.shape.passes
  pub floor : v.has_floor ≡ true
  pub still : (o : ℕ) → is_writing o v.log ≡ false
