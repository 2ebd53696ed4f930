use Rattle.std.proofs.Common.{◌≡◌, ◌<◌, ◌≤◌, length, arith, sym, ◌∙◌}
use Rattle.std.proofs.lemmas.Bool.Decides.{nat_tests}
use Rattle.ft_turns.proofs.ScheduleLemmas.{turn_of_round, none_left}
use Rattle.ft_turns.proofs.schedule.Schedule.next.Goals as goal

pub returns-then-self-threads-clause-end : goal.returns-then-self-threads-clause-end
returns-then-self-threads-clause-end c =
    let begun = c.begin_round.new.self in
    let over : length c.args.order.now ≤ begun.ordered = grind (arith, nat_tests, c.begin_round.ensures.ordered) in
    let ended : begun.next ≡ c.args.threads = grind (arith, nat_tests) in
    sym (c.begin_round.ensures.same c.args.order.now) ∙ none_left begun c.args.order.now c.args.threads over ended (c.begin_round.ensures.begun ended)

pub returns-clause-turn : goal.returns-clause-turn
returns-clause-turn c =
    let begun = c.begin_round.new.self in
    let over : length c.args.order.now ≤ begun.ordered = grind (arith, nat_tests, c.begin_round.ensures.ordered) in
    let within : begun.next < c.args.threads = grind (arith, nat_tests, c.begin_round.ensures.within) in
    sym (c.begin_round.ensures.same c.args.order.now) ∙ turn_of_round begun c.args.order.now c.args.threads over within
