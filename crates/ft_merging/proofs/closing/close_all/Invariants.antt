use Rattle.std.proofs.Common.{◌≡◌}
use Rattle.ft_bank.specs.Passes.{shape_of, view, IsPassOf}
use Rattle.ft_bank.specs.PassSections.{stack_of}
use Rattle.ft_bank.specs.SameBoxes.{SameReferences}
use Rattle.ft_bank.specs.TableNames.{table_id}
use Rattle.ft_bank.specs.Whole.{OnlyPut}
use Rattle.ft_merging.specs.Internal.EntriesAtOnce.{IsClosing, KeepsEntries}
use Rattle.ft_merging.proofs.closing.close_all.Given as goal

abbrev pub invariant-loop-place : goal.invariant-loop-place
invariant-loop-place l = record {
  pass : IsPassOf l.bank l.pass;
  stack : stack_of l.pass ≡ stack_of l.initial.pass;
  only : OnlyPut l.o (view l.initial.pass) (view l.pass);
  references : SameReferences (view l.initial.pass) (view l.pass);
  closing : IsClosing (shape_of l.bank) l.o l.table l.place l.fill (view l.pass);
  keeps : KeepsEntries l.o (table_id l.table) (view l.initial.pass) (view l.pass);
}
