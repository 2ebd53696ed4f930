use Rattle.std.proofs.Common.{◌≡◌, ◌≤◌, ◌⊎◌, length, take, drop}
use Rattle.ft_bank.specs.Passes.{shape_of, IsPassOf}
use Rattle.ft_reads.specs.Reads.{Reads}
use Rattle.ft_list.specs.Scans.{IsOfItems}
use Rattle.ft_list.proofs.copies.copy_part.Given as goal

abbrev pub invariant-loop-place : goal.invariant-loop-place
invariant-loop-place l =
    record {
      pass : IsPassOf l.bank l.pass;
      from : l.first ≤ l.place;
      to : (l.place ≡ l.first) ⊎ (l.place ≤ l.past);
      reads : Reads (shape_of l.bank) l.l (IsOfItems (shape_of l.bank) (λ items. l.past ≤ length items → l.part.items ≡ drop l.first (take l.place items))) l.fn.pass l.pass;
    }
