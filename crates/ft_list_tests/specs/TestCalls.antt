-- What the calls of a table need.
use Rattle.std.specs.Prelude.{◌≡◌, ℕ, [], ◌∷◌, true, false}
use Rattle.ft_model.specs.declared.script.Kind.TheVariants as kind
use Rattle.ft_bank.specs.declared.bank.Bank.{Bank}
use Rattle.ft_bank.specs.declared.pass.Pass.{Pass}
use Rattle.ft_trace.specs.declared.Shape.{Shape}
use Rattle.ft_trace.specs.declared.View.{View}
use Rattle.ft_trace.specs.Acts.{has_lock, is_writing, stage}
use Rattle.ft_trace.specs.Boxes.{IsSettled}
use Rattle.ft_bank.specs.declared.table.Table.{Table}
use Rattle.ft_bank.specs.Passes.{shape_of, view, IsPassOf}
use Rattle.ft_bank.specs.SameBoxes.{HoldsFew}
use Rattle.ft_bank.specs.TableNames.{table_id, IsTableIn}
use Rattle.ft_section.specs.declared.answers.Objects.{Objects}
use Rattle.ft_section.specs.Ready.{MayTry}
use Rattle.ft_model.specs.Worlds.{start_as}

-- the bank has two lists, and nothing else
abbrev pub HasTwoLists : Bank → Type 0
HasTwoLists b = (shape_of b).starts ≡ start_as kind.List ∷ start_as kind.List ∷ []

-- the pass may try a call on any containers
abbrev pub MayTryAny : Bank → Pass → Type 0
MayTryAny b p = (objects : Objects) → MayTry b p objects

-- the pass has the lock of list 0, writes no list yet, and has in its hand this table of class 4
pub record IsGrowing (k : Shape) (table : Table) (v : View) : Type 0 where
  pub table_in : IsTableIn k table
  pub class : table.class ≡ 4
  pub fresh : stage (table_id table) v.log ≡ 1
  pub locked : has_lock 0 v.log ≡ true
  pub even : (p : ℕ) → is_writing p v.log ≡ false

-- the pass may look: it has nothing left to do with boxes that it made, and holds few references
pub record MayLook (b : Bank) (p : Pass) : Type 0 where
  pub pass : IsPassOf b p
  pub settled : IsSettled (view p).log
  pub few : HoldsFew (view p)
