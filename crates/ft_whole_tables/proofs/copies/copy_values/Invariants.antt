use Rattle.std.specs.Prelude.{◌≡◌, length, take}
use Rattle.std.specs.List.{filter_map}
use Rattle.ft_bank.specs.Passes.{shape_of, IsPassOf}
use Rattle.ft_bank.specs.PassSections.{stack_of}
use Rattle.ft_bank.specs.TableNames.{table_id}
use Rattle.ft_reads.specs.Reads.{Reads}
use Rattle.ft_whole_tables.specs.TableEntries.{OfUsed, plain_pair}
use Rattle.ft_whole_tables.proofs.copies.copy_values.Given as goal

abbrev pub invariant-loop-place : goal.invariant-loop-place
invariant-loop-place l =
    record {
      pass : IsPassOf l.bank l.pass;
      stack : stack_of l.pass ≡ stack_of l.fn.pass;
      reads : Reads (shape_of l.bank) l.d (OfUsed (shape_of l.bank) (table_id l.table) (λ used. l.fill ≡ length used → l.pairs.items ≡ filter_map plain_pair (take l.place used))) l.fn.pass l.pass;
    }
