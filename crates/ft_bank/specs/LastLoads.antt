-- The load of the counter that a pass made last, among some of its actions. They are told newest first.
use Rattle.std.specs.Prelude.{◌≡◌, ℕ, ◌%◌, Bool, true, false, List, [], ◌∷◌, ◌++◌}
use Rattle.ft_trace.specs.declared.Act.{Act}
use Rattle.ft_trace.specs.declared.Act.TheVariants.{ReadCounter, TakeFloor, Version}

-- whether one of these actions loads the counter
abbrev pub loads_counter : List Act → Bool
loads_counter [] = false
loads_counter (ReadCounter n ∷ l) = true
loads_counter (TakeFloor n s ∷ l) = true
loads_counter (act ∷ l) = loads_counter l

-- the newest load of the counter among these actions gave this number
pub record IsLastLoad (number : ℕ) (part : List Act) : Type 0 where
  pub newer : List Act
  pub rest : List Act
  pub is : part ≡ newer ++ ReadCounter number ∷ rest
  pub none : loads_counter newer ≡ false

-- The newest load of the counter among these actions gave this number, and it stands between two loads of the version
-- of the container o that gave the same even number.
pub record IsLastBetween (o number : ℕ) (part : List Act) : Type 0 where
  pub version : ℕ
  pub even : version % 2 ≡ 0
  pub newer : List Act
  pub mid : List Act
  pub older : List Act
  pub rest : List Act
  pub is : part ≡ newer ++ Version o version ∷ (mid ++ ReadCounter number ∷ (older ++ Version o version ∷ rest))
  pub none : loads_counter newer ≡ false
  pub none_between : loads_counter mid ≡ false
