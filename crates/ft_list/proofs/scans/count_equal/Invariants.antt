use Rattle.std.proofs.Common.{◌≤◌}
use Rattle.ft_bank.specs.Passes.{shape_of, IsPassOf}
use Rattle.ft_reads.specs.Reads.{Reads}
use Rattle.ft_list.specs.Scans.{IsOfItems}
use Rattle.ft_list.proofs.Scanning.{EqualYet}
use Rattle.ft_list.proofs.scans.count_equal.Given as goal

abbrev pub invariant-loop-place : goal.invariant-loop-place
invariant-loop-place l =
    record {
      pass : IsPassOf l.bank l.pass;
      few : l.equal ≤ l.place;
      reads : Reads (shape_of l.bank) l.l (IsOfItems (shape_of l.bank) (EqualYet l.value l.count l.place l.equal)) l.fn.pass l.pass;
    }
