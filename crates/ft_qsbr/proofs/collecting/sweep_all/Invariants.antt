use Rattle.std.proofs.Common.{◌*◌, ◌≤◌}
use Rattle.ft_bank.specs.Passes.{view, IsPassOf}
use Rattle.ft_qsbr.specs.Sweeping.{Gave, Swept}
use Rattle.ft_qsbr.proofs.collecting.sweep_all.Given as goal

abbrev pub invariant-loop-word : goal.invariant-loop-word
invariant-loop-word l = record {
  pass : IsPassOf l.bank l.pass;
  few : l.freed ≤ 64 * l.word;
  gave : Gave l.freed l.fn.pass l.pass;
  swept : Swept l.least 0 (64 * l.word) (view l.fn.pass) (view l.pass);
}
