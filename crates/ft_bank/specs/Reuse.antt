-- What the steps of delayed reuse ask of the pass that makes them.
use Rattle.std.specs.Prelude.{◌≡◌, ◌⊎◌, ℕ, List, ◌∷◌, ◌++◌}
use Rattle.ft_trace.specs.declared.Act.{Act}
use Rattle.ft_trace.specs.declared.Act.TheVariants.{WriteNumber}

-- a load of the write number by the pass gave this
pub record HasLoaded (number : ℕ) (log : List Act) : Type 0 where
  pub newer : List Act
  pub rest : List Act
  pub is : log ≡ newer ++ WriteNumber number ∷ rest

-- a pass announces 0, which is offline, or what a load of the write number gave
abbrev pub MayAnnounce : ℕ → List Act → Type 0
MayAnnounce number log = (number ≡ 0) ⊎ HasLoaded number log
