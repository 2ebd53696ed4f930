use Rattle.std.proofs.Common.{◌≡◌, ◌<◌, refl, arith}
use Rattle.std.proofs.lemmas.Bool.Decides.{nat_tests}
use Rattle.ft_turns.proofs.ScheduleLemmas.{round_begins}
use Rattle.ft_turns.proofs.schedule.Schedule.begin_round.Goals as goal

pub returns-then-self-gt0-clause-same : goal.returns-then-self-gt0-clause-same
returns-then-self-gt0-clause-same c = λ order.
    let schedule = c.args.self.now in
    let over : schedule.next ≡ c.args.threads = grind (arith, nat_tests, c.if-self-threads.true) in
    let some : 0 < schedule.rounds = grind (arith, nat_tests, c.if-self-gt0.true) in
    round_begins schedule _ order c.args.threads over some refl refl refl
