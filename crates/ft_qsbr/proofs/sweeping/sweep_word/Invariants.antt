use Rattle.std.proofs.Common.{◌+◌, ◌*◌, ◌≤◌}
use Rattle.ft_bank.specs.Passes.{view, IsPassOf}
use Rattle.ft_qsbr.specs.Sweeping.{Gave, Swept}
use Rattle.ft_qsbr.proofs.sweeping.sweep_word.Given as goal

abbrev pub invariant-loop-bit : goal.invariant-loop-bit
invariant-loop-bit l = record {
  pass : IsPassOf l.bank l.pass;
  few : l.freed ≤ l.bit;
  gave : Gave l.freed l.fn.pass l.pass;
  swept : Swept l.least (64 * l.word) (64 * l.word + l.bit) (view l.fn.pass) (view l.pass);
}
