use Rattle.std.proofs.Common.{◌≡◌, true}
use Rattle.ft_trace.specs.Acts.{has_committed}
use Rattle.ft_trace.specs.Addresses.{class_of}
use Rattle.ft_trace.specs.Holds.{held_unboxed}
use Rattle.ft_bank.specs.Passes.{shape_of, view, IsPassOf}
use Rattle.ft_bank.specs.PassSections.{stack_of}
use Rattle.ft_bank.specs.SameBoxes.{SameReferences}
use Rattle.ft_bank.specs.TableNames.{table_id}
use Rattle.ft_bank.specs.Whole.{OnlyPut}
use Rattle.ft_list.specs.Internal.Carrying.{KeepsItemValues}
use Rattle.ft_list.specs.ListItemWrites.{WritesList, IsChanging, known_items}
use Rattle.ft_list.proofs.items.close_items.Given as goal

abbrev pub invariant-loop-place : goal.invariant-loop-place
invariant-loop-place l =
    record {
      pass : IsPassOf l.bank l.pass;
      stack : stack_of l.pass ≡ stack_of l.initial.pass;
      list : WritesList (shape_of l.bank) l.o l.table (view l.pass);
      late : has_committed l.o (view l.pass).log ≡ true;
      only : OnlyPut l.o (view l.initial.pass) (view l.pass);
      references : SameReferences (view l.initial.pass) (view l.pass);
      block : (held_unboxed l.o (view l.pass)).block ≡ (held_unboxed l.o (view l.initial.pass)).block;
      values : KeepsItemValues l.o (view l.initial.pass) (view l.pass);
      changing : IsChanging (class_of (table_id l.table)) (known_items l.o (view l.initial.pass)) (known_items l.o (view l.initial.pass)) l.place l.past (held_unboxed l.o (view l.pass)).table;
    }
