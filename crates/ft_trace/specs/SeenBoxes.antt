-- How a pass has come to know the name of a box: it read the name in a value of a container, between two loads of a
-- version that found the same even number. What it read so was the container's at that moment. (profile)
use Rattle.std.specs.Prelude.{◌≡◌, ◌⊎◌, ℕ, suc, ◌%◌, ◌<◌, List, ◌∷◌, ◌++◌}
use Rattle.ft_trace.specs.declared.Act.{Act}
use Rattle.ft_trace.specs.declared.Act.TheVariants.{ReadRoot, ReadTable}
use Rattle.ft_trace.specs.declared.Shape.{Shape}
use Rattle.ft_trace.specs.Addresses.{class_of, container_count}
use Rattle.ft_trace.specs.Boxes.{value_at}
use Rattle.ft_trace.specs.ContainerStates.{kind_in}
use Rattle.ft_trace.specs.Kinds.{rows, version_at}
use Rattle.ft_trace.specs.LoggedLookUps.{IsReadAsBox, Online}
use Rattle.ft_trace.specs.LoggedReads.{Among, Between}

-- the value of an entry or item of a table of o was read among these to name the box
abbrev pub IsReadToName : Shape → ℕ → ℕ → ℕ → ℕ → List Act → Type 0
IsReadToName k o t p b mid =
    IsReadAsBox t (value_at (kind_in k.starts o) (class_of t) p) (suc (value_at (kind_in k.starts o) (class_of t) p)) b
    mid

-- between two loads of the version of that entry or item, after the root of o was read to name the table; the pass has
-- announced nothing in between
pub record SawInRow (k : Shape) (b : ℕ) (log : List Act) : Type 0 where
  pub o : ℕ
  pub t : ℕ
  pub p : ℕ
  pub container : o < container_count k
  pub row : p < rows (kind_in k.starts o) (class_of t)
  pub version : ℕ
  pub even : version % 2 ≡ 0
  pub newer : List Act
  pub mid : List Act
  pub walk : List Act
  pub rest : List Act
  pub is : log
      ≡ newer ++ ReadTable t (version_at (kind_in k.starts o) (class_of t) p) version ∷ (mid
      ++ ReadTable t (version_at (kind_in k.starts o) (class_of t) p) version ∷ (walk ++ ReadRoot o (suc t) ∷ rest))
  pub online : Online mid × Online walk
  pub names : IsReadToName k o t p b mid

-- between two loads of the version of o, between which its root was read too
pub record SawInContainer (k : Shape) (b : ℕ) (log : List Act) : Type 0 where
  pub o : ℕ
  pub t : ℕ
  pub p : ℕ
  pub container : o < container_count k
  pub row : p < rows (kind_in k.starts o) (class_of t)
  pub mid : List Act
  pub between : Between log o mid
  pub root : Among (ReadRoot o (suc t)) mid
  pub names : IsReadToName k o t p b mid

abbrev pub SawBox : Shape → ℕ → List Act → Type 0
SawBox k b log = SawInRow k b log ⊎ SawInContainer k b log
