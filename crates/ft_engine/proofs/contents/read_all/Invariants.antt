use Rattle.std.proofs.Common.{◌≡◌, length}
use Rattle.ft_bank.specs.Passes.{shape_of, IsPassOf}
use Rattle.ft_engine.specs.Contents.{ReadsFirst}
use Rattle.ft_engine.proofs.contents.read_all.Given as goal

abbrev pub invariant-loop-place : goal.invariant-loop-place
invariant-loop-place l =
    record {
      pass : IsPassOf l.bank l.pass;
      count : length l.all.items ≡ l.place;
      reads : ReadsFirst (shape_of l.bank) l.all.items l.fn.pass l.pass;
    }
