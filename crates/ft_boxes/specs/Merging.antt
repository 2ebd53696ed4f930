-- What merges of boxes leave. (PEP 703, "Biased Reference Counting")
use Rattle.std.specs.Prelude.{◌≡◌, ◌≢◌, ◌⊎◌, ℕ, ◌+◌, ◌*◌, ◌%◌, ◌^◌, List, ◌∷◌}
use Rattle.ft_layout.specs.Starts.{local_word, shared_word}
use Rattle.ft_trace.specs.declared.Act.{Act}
use Rattle.ft_trace.specs.declared.Act.TheVariants.{ReadBox}
use Rattle.ft_trace.specs.declared.View.{View}
use Rattle.ft_trace.specs.Boxes.{made_state, local_count, state_default, state_merged}
use Rattle.ft_trace.specs.BoxWords.{count_unit}
use Rattle.ft_bank.specs.Logs.{WasLog}

-- the call loaded the shared word of the box and then its local count, and both counts added up to this
pub record FoundCounts (b total : ℕ) (v w : View) : Type 0 where
  pub before : List Act
  pub shared : ℕ
  pub local : ℕ
  pub since : WasLog v.log before
  pub loads : WasLog (ReadBox b local_word local ∷ ReadBox b shared_word shared ∷ before) w.log
  pub adds : total ≡ (shared + count_unit * local) % 2 ^ 64

-- each box that the pass has in the default state had references when the call loaded its counts
abbrev pub LeavesNoIdleBox : View → View → Type 0
LeavesNoIdleBox v w =
    (b : ℕ) → made_state b w.log ≡ state_default → (total : ℕ) × (total ≢ 0) × FoundCounts b total v w

-- each box that the pass made is as it was, or is merged and had no references when the call loaded its counts
abbrev pub MergesIdleBoxes : View → View → Type 0
MergesIdleBoxes v w =
    (b : ℕ) → ((made_state b w.log ≡ made_state b v.log) × (local_count b w.log ≡ local_count b v.log))
    ⊎ ((made_state b w.log ≡ state_merged) × FoundCounts b 0 v w)

-- each box that the pass made is merged; one that was merged before or was none of its boxes is as it was
pub record MergesAll (v w : View) : Type 0 where
  pub all : (b : ℕ) → made_state b w.log ≢ state_default
  pub others : (b : ℕ) → made_state b v.log ≢ state_default → made_state b w.log ≡ made_state b v.log
