use Rattle.std.proofs.Common.{◌≡◌, ◌≤◌}
use Rattle.ft_bank.specs.Passes.{view, IsPassOf}
use Rattle.ft_bank.specs.PassSections.{stack_of, no_sections}
use Rattle.ft_bank_tests.specs.TestRounds.{IsIdlePass, IsOnwards}
use Rattle.ft_bank_tests.proofs.rounds.go_round.Given as goal

abbrev pub invariant-loop : goal.invariant-loop
invariant-loop l =
    IsPassOf l.bank l.pass
    × IsIdlePass (view l.pass)
    × (stack_of l.pass ≡ no_sections)
    × IsOnwards (view l.fn.pass) (view l.pass)
    × (l.free ≤ l.counter)
