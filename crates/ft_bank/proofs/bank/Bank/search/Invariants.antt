use Rattle.std.proofs.Common.{◌≡◌}
use Rattle.ft_trace.specs.Acts.{flight, owes}
use Rattle.ft_bank.specs.Passes.{view, IsPassOf}
use Rattle.ft_bank.specs.Series.{DidAll}
use Rattle.ft_bank.specs.Takings.{KeepsBut, Each, loads_of_none}
use Rattle.ft_bank.proofs.bank.Bank.search.Given as goal

abbrev pub invariant-loop-word : goal.invariant-loop-word
invariant-loop-word l = record {
  pass : IsPassOf l.self l.pass;
  did : DidAll (loads_of_none l.class l.word) l.fn.pass l.pass;
  flight : flight (view l.pass).log ≡ flight (view l.fn.pass).log;
  owes : owes (view l.pass).log ≡ owes (view l.fn.pass).log;
  keeps : KeepsBut Each (view l.fn.pass) (view l.pass);
}
