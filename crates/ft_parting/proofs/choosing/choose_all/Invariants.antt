use Rattle.std.proofs.Common.{◌≡◌, List}
use Rattle.ft_model.specs.declared.content.Element.{Element}
use Rattle.ft_layout.specs.Tables.{UsedEntry}
use Rattle.ft_bank.specs.Passes.{shape_of, view, IsPassOf}
use Rattle.ft_bank.specs.PassSections.{stack_of}
use Rattle.ft_table_calls.specs.Adding.{OnlyFilled}
use Rattle.ft_parting.specs.Internal.Choosing.{IsChosen}
use Rattle.ft_parting.proofs.choosing.choose_all.Given as goal

abbrev pub invariant-loop-place : goal.invariant-loop-place
invariant-loop-place l = record {
  pass : IsPassOf l.bank l.pass;
  stack : stack_of l.pass ≡ stack_of l.initial.pass;
  only : OnlyFilled (view l.initial.pass) (view l.pass);
  chosen : (used : List UsedEntry) (mine : List Element) → IsChosen (shape_of l.bank) l.s l.from l.t l.table l.first l.start used mine 0 l.start (view l.initial.pass)
      → IsChosen (shape_of l.bank) l.s l.from l.t l.table l.first l.start used mine l.place l.count (view l.pass);
}
