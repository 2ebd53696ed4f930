use Rattle.std.proofs.Common.{◌≡◌, arith, inl}
use Rattle.std.proofs.lemmas.Bool.Decides.{nat_tests}
use Rattle.ft_run_turns.proofs.turning.next_turn.Goals as goal

pub returns-then-left-eq0-clause-end : goal.returns-then-left-eq0-clause-end
returns-then-left-eq0-clause-end c = let none : c.args.left ≡ 0 = grind (arith, nat_tests, c.if-left-eq0.true) in inl none
