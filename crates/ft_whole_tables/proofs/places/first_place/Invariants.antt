use Rattle.std.specs.Prelude.{◌≡◌, length}
use Rattle.ft_bank.specs.Passes.{shape_of, IsPassOf}
use Rattle.ft_bank.specs.PassSections.{stack_of}
use Rattle.ft_bank.specs.TableNames.{table_id}
use Rattle.ft_reads.specs.Reads.{Reads}
use Rattle.ft_whole_tables.specs.TableEntries.{OfUsed}
use Rattle.ft_whole_tables.specs.Places.{NoneThere}
use Rattle.ft_whole_tables.proofs.places.first_place.Given as goal

abbrev pub invariant-loop-place : goal.invariant-loop-place
invariant-loop-place l =
    record {
      pass : IsPassOf l.bank l.pass;
      stack : stack_of l.pass ≡ stack_of l.fn.pass;
      reads : Reads (shape_of l.bank) l.o (OfUsed (shape_of l.bank) (table_id l.table) (λ used. l.fill ≡ length used → NoneThere 0 l.place used)) l.fn.pass l.pass;
    }
