-- What a thread's work on a bank leaves of its pass.
use Rattle.std.specs.Prelude.{◌≡◌, ℕ, ◌+◌, ◌*◌, ◌<◌, ◌≤◌, length, Option, Some, None}
use Rattle.ft_model.specs.declared.script.Kind.TheVariants as kind
use Rattle.ft_trace.specs.declared.Shape.{Shape}
use Rattle.ft_trace.specs.declared.View.{View}
use Rattle.ft_trace.specs.Addresses.{container_count}
use Rattle.ft_trace.specs.ContainerStates.{kind_in}
use Rattle.ft_bank.specs.declared.bank.Bank.{Bank}
use Rattle.ft_bank.specs.declared.pass.Pass.{Pass}
use Rattle.ft_bank.specs.Passes.{view, IsPassOf}
use Rattle.ft_bank.specs.PassSections.{stack_of, no_sections}
use Rattle.ft_bank_tests.specs.TestRounds.{IsIdlePass}

-- the container is a list of the bank
pub record IsListIn (k : Shape) (l : ℕ) : Type 0 where
  pub low : l < container_count k
  pub kind : kind_in k.starts l ≡ kind.List

-- the pass is one of the bank's, between its rounds
pub record IsWorker (b : Bank) (p : Pass) : Type 0 where
  pub pass : IsPassOf b p
  pub idle : IsIdlePass (view p)
  pub sections : stack_of p ≡ no_sections

-- the same pass, later, which has made this many writes and has one entry of each
pub record Worked (writes : ℕ) (v w : View) : Type 0 where
  pub next : w.next ≡ v.next
  pub parts : w.parts ≡ v.parts
  pub left : w.left + writes ≡ v.left
  pub entries : length w.entries ≡ length v.entries + writes

-- how many writes an answer tells of
abbrev pub write_count : Option ℕ → ℕ
write_count None = 0
write_count (Some number) = 1

-- how many passes two passes stand for, and how many calls they may still make
abbrev pub parts_of : Pass × Pass → ℕ
parts_of p = (view p.0).parts + (view p.1).parts

abbrev pub calls_left : Pass × Pass → ℕ
calls_left p = (view p.0).left + (view p.1).left

-- two passes between their rounds, of which the second can be joined in the first, with this many calls left each
pub record IsPair (b : Bank) (rounds : ℕ) (p : Pass × Pass) : Type 0 where
  pub first : IsWorker b p.0
  pub second : IsWorker b p.1
  pub first_left : rounds ≤ (view p.0).left
  pub second_left : rounds ≤ (view p.1).left
  pub last : (view p.1).next ≡ 0

-- the first of the two, joined with the second, which have made this many writes
pub record HasWorkOf (p : Pass × Pass) (rounds : ℕ) (q : Pass) (writes : ℕ) : Type 0 where
  pub next : (view q).next ≡ (view p.0).next
  pub parts : (view q).parts ≡ parts_of p
  pub left : (view q).left + writes ≡ calls_left p
  pub few : writes ≤ 2 * rounds
