use Rattle.std.specs.Prelude.{◌≡◌, false, length, take}
use Rattle.std.specs.List.{filter_map, list_any}
use Rattle.ft_bank.specs.Passes.{shape_of, IsPassOf}
use Rattle.ft_bank.specs.PassSections.{stack_of}
use Rattle.ft_bank.specs.TableNames.{table_id}
use Rattle.ft_reads.specs.Pairs.{ReadsBoth}
use Rattle.ft_whole_tables.specs.Comparing.{WithDict, lacks_value}
use Rattle.ft_whole_tables.specs.TableEntries.{plain_pair}
use Rattle.ft_whole_tables.proofs.comparing.some_differs.Given as goal

abbrev pub invariant-loop-place : goal.invariant-loop-place
invariant-loop-place l =
    record {
      pass : IsPassOf l.bank l.pass;
      stack : stack_of l.pass ≡ stack_of l.fn.pass;
      reads : ReadsBoth (shape_of l.bank) l.d l.other (WithDict (shape_of l.bank) (table_id l.table) (λ used others. l.fill ≡ length used → false ≡ list_any (lacks_value others) (filter_map plain_pair (take l.place used)))) l.fn.pass l.pass;
    }
