use Rattle.std.proofs.Common.{◌≡◌, ℕ, ◌+◌, ◌≤◌, false, List, length}
use Rattle.std.specs.List.{insert}
use Rattle.ft_model.specs.declared.data.Value.{Value}
use Rattle.ft_layout.specs.declared.slot.Stored.TheVariants.{Plain}
use Rattle.ft_layout.specs.Words.{IsStored}
use Rattle.ft_trace.specs.Acts.{has_committed}
use Rattle.ft_trace.specs.Addresses.{class_of}
use Rattle.ft_trace.specs.Holds.{held_unboxed}
use Rattle.ft_bank.specs.Passes.{shape_of, view, IsPassOf}
use Rattle.ft_bank.specs.PassSections.{stack_of}
use Rattle.ft_bank.specs.BoxSteps.{kind_read, payload_read, HasReferenceFor}
use Rattle.ft_trace.specs.Boxes.{names_box, references_held}
use Rattle.ft_list.specs.Internal.Carrying.{HasWordsBefore, HoldsFewBut}
use Rattle.ft_bank.specs.TableNames.{table_id}
use Rattle.ft_bank.specs.Whole.{OnlyWritten}
use Rattle.ft_list.specs.ListItemWrites.{WritesList, IsPutting, stored_item}
use Rattle.ft_list.specs.Internal.Moving.{IsMoving}
use Rattle.ft_list.proofs.writes.shift_up.Given as goal

abbrev pub invariant-loop-at : goal.invariant-loop-at
invariant-loop-at l =
    record {
      pass : IsPassOf l.bank l.pass;
      stack : stack_of l.pass ≡ stack_of l.initial.pass;
      list : WritesList (shape_of l.bank) l.o l.table (view l.pass);
      early : has_committed l.o (view l.pass).log ≡ false;
      only : OnlyWritten l.o (view l.initial.pass) (view l.pass);
      own : HasReferenceFor (view l.pass) l.carried.0 l.carried.1;
      spare : HoldsFewBut (shape_of l.bank) l.carried.0 l.carried.1 (view l.pass);
      references : (b : ℕ) → references_held (shape_of l.bank) b (view l.pass).log + names_box b l.fn.given.0 l.fn.given.1
          ≡ references_held (shape_of l.bank) b (view l.initial.pass).log + names_box b l.carried.0 l.carried.1;
      block : (held_unboxed l.o (view l.pass)).block ≡ (held_unboxed l.o (view l.initial.pass)).block;
      from : l.place ≤ l.at;
      moving : (value : Value)
          → IsStored (kind_read (view l.initial.pass) l.fn.given.0 l.fn.given.1) (payload_read (view l.initial.pass) l.fn.given.0 l.fn.given.1) (Plain value)
          → (values : List Value) → length values ≡ l.count
          → IsPutting (class_of (table_id l.table)) values l.place (l.count + 1) (stored_item values) (held_unboxed l.o (view l.initial.pass)).table
          → IsStored (kind_read (view l.pass) l.carried.0 l.carried.1) (payload_read (view l.pass) l.carried.0 l.carried.1) (stored_item (insert values l.place value) l.at)
          × IsMoving (class_of (table_id l.table)) values (insert values l.place value) l.place (l.count + 1) l.at (held_unboxed l.o (view l.pass)).table
          × HasWordsBefore l.o values l.place l.at value l.fn.given l.carried (view l.pass);
    }
