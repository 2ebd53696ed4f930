use Rattle.std.proofs.Common.{◌≡◌, ℕ, List, length}
use Rattle.ft_bank.specs.Passes.{view, IsPassOf}
use Rattle.ft_bank.specs.Series.{DidAll}
use Rattle.ft_bank.specs.Takings.{KeepsBut, Each}
use Rattle.ft_qsbr.specs.Collecting.{loads_of, IsLeast}
use Rattle.ft_qsbr.proofs.collecting.least_announced.Given as goal

abbrev pub invariant-loop-other : goal.invariant-loop-other
invariant-loop-other l = record {
  pass : IsPassOf l.bank l.pass;
  did : (numbers : List ℕ) × (length numbers ≡ l.other) × DidAll (loads_of numbers) l.fn.pass l.pass × IsLeast l.least numbers;
  keeps : KeepsBut Each (view l.fn.pass) (view l.pass);
}
