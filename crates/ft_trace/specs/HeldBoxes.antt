-- A box for which a pass has held a reference since an earlier moment.
use Rattle.std.specs.Prelude.{◌≡◌, ◌≢◌, ℕ, List, [], ◌∷◌, ◌++◌}
use mathlib.Core.Option.{some}
use lib.ListN.{get_elem?}
use Rattle.ft_trace.specs.declared.Shape.{Shape}
use Rattle.ft_trace.specs.declared.View.{View}
use Rattle.ft_trace.specs.declared.Act.{Act}
use Rattle.ft_trace.specs.Addresses.{box_word}
use Rattle.ft_trace.specs.Boxes.{references_held}
use Rattle.ft_trace.specs.Traces.{Event, run, word, Valid}
use Rattle.ft_layout.specs.Starts.{kind_word, payload_word}

-- since its log was `rest` the pass has held a reference for the box at each moment
abbrev pub HeldSince : Shape → ℕ → List Act → List Act → Type 0
HeldSince k b [] rest = references_held k b rest ≢ 0
HeldSince k b (a ∷ newer) rest = (references_held k b (a ∷ (newer ++ rest)) ≢ 0) × HeldSince k b newer rest

-- the moment at which its log was `rest`, and the value in the box, which is the same then and now
pub record SameValue (k : Shape) (b : ℕ) (es : List Event) (j : ℕ) (rest : List Act) : Type 0 where
  pub later : List Event
  pub older : List Event
  pub view : View
  pub split : later ++ older ≡ es
  pub valid : Valid k older
  pub there : get_elem? (run k older).views j ≡ some view
  pub log : view.log ≡ rest
  pub kind : word k es (box_word b kind_word) ≡ word k older (box_word b kind_word)
  pub payload : word k es (box_word b payload_word) ≡ word k older (box_word b payload_word)
