-- What the passes of a test may do: try calls on the one list, store boxes in it, and count references.
use Rattle.std.specs.Prelude.{◌≡◌, ℕ, ◌<◌, [], ◌∷◌, true, false}
use Rattle.ft_model.specs.declared.script.Kind.TheVariants as kind
use Rattle.ft_model.specs.Worlds.{start_as}
use Rattle.ft_trace.specs.Acts.{announces, has_lock, is_writing}
use Rattle.ft_trace.specs.Boxes.{IsSettled}
use Rattle.ft_bank.specs.declared.bank.Bank.{Bank}
use Rattle.ft_bank.specs.declared.pass.Pass.{Pass}
use Rattle.ft_bank.specs.Passes.{shape_of, view, IsPassOf}
use Rattle.ft_bank.specs.SameBoxes.{HoldsFew}
use Rattle.ft_section.specs.declared.answers.Objects.{Objects}
use Rattle.ft_section.specs.Ready.{IsMaking, MayTry}

-- the bank has one list, and nothing else
abbrev pub HasOneList : Bank → Type 0
HasOneList b = (shape_of b).starts ≡ start_as kind.List ∷ []

-- the pass may try a call on any containers
abbrev pub MayTryAny : Bank → Pass → Type 0
MayTryAny b p = (objects : Objects) → MayTry b p objects

-- it is one of the bank's, and what it has to do with boxes is settled: it may make a box, raise one and drop it
pub record IsCaller (b : Bank) (p : Pass) : Type 0 where
  pub pass : IsPassOf b p
  pub settled : IsSettled (view p).log
  pub few : HoldsFew (view p)
  pub idle : (o : ℕ) → is_writing o (view p).log ≡ false
  pub may : MayTryAny b p

-- and is online, so that it may look at items without their lock
pub record IsCounter (b : Bank) (p : Pass) : Type 0 where
  pub caller : IsCaller b p
  pub online : 0 < announces (view p).log

-- both passes are
abbrev pub AreCounters : Bank → Pass × Pass → Type 0
AreCounters b p = IsCounter b p.0 × IsCounter b p.1

-- the pass is in the midst of a call that has taken the lock of the list
pub record IsStoring (b : Bank) (p : Pass) : Type 0 where
  pub making : IsMaking b p
  pub locked : has_lock 0 (view p).log ≡ true
