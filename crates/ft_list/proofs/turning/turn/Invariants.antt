use Rattle.std.proofs.Common.{◌≡◌, false, List, length}
use Rattle.ft_model.specs.declared.data.Value.{Value}
use Rattle.ft_trace.specs.Acts.{has_committed}
use Rattle.ft_trace.specs.Addresses.{class_of}
use Rattle.ft_trace.specs.Holds.{held_unboxed}
use Rattle.ft_bank.specs.Passes.{shape_of, view, IsPassOf}
use Rattle.ft_bank.specs.PassSections.{stack_of}
use Rattle.ft_bank.specs.SameBoxes.{SameReferences}
use Rattle.ft_bank.specs.TableNames.{table_id}
use Rattle.ft_bank.specs.Whole.{OnlyWritten}
use Rattle.ft_list.specs.ListItemWrites.{WritesList, IsPutting, stored_item}
use Rattle.ft_list.specs.Internal.Reversing.{IsTurning}
use Rattle.ft_list.proofs.turning.turn.Given as goal

abbrev pub invariant-loop-at : goal.invariant-loop-at
invariant-loop-at l =
    record {
      pass : IsPassOf l.bank l.pass;
      stack : stack_of l.pass ≡ stack_of l.initial.pass;
      list : WritesList (shape_of l.bank) l.o l.table (view l.pass);
      early : has_committed l.o (view l.pass).log ≡ false;
      only : OnlyWritten l.o (view l.initial.pass) (view l.pass);
      references : SameReferences (view l.initial.pass) (view l.pass);
      block : (held_unboxed l.o (view l.pass)).block ≡ (held_unboxed l.o (view l.initial.pass)).block;
      turning : (values : List Value) → length values ≡ l.count
          → IsPutting (class_of (table_id l.table)) values 0 l.count (stored_item values) (held_unboxed l.o (view l.initial.pass)).table
          → IsTurning (class_of (table_id l.table)) values l.at (held_unboxed l.o (view l.pass)).table;
    }
