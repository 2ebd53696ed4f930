use Rattle.ft_bank.specs.Passes.{shape_of, IsPassOf}
use Rattle.ft_list.specs.Pairs.{AreOfItems}
use Rattle.ft_reads.specs.Pairs.{ReadsBoth}
use Rattle.ft_list.proofs.Both.{AlikeYet}
use Rattle.ft_list.proofs.pairs.are_alike.Given as goal

abbrev pub invariant-loop-place : goal.invariant-loop-place
invariant-loop-place l =
    record {
      pass : IsPassOf l.bank l.pass;
      reads : ReadsBoth (shape_of l.bank) l.l l.m (AreOfItems (shape_of l.bank) (AlikeYet l.count l.place)) l.fn.pass l.pass;
    }
