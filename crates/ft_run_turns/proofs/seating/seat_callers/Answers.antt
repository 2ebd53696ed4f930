use Rattle.ft_run_turns.proofs.NewSeats.{if_ok, if_ok3, new_online, new_seats, new_turned, none_made}
use Rattle.ft_run_turns.proofs.seating.seat_callers.Goals as goal

pub returns-clause-seats : goal.returns-clause-seats
returns-clause-seats c = if_ok c.sit_all.result (λ made are. new_seats c.args.engine.now c.args.script.now made.0.items are) c.sit_all.ensures.seats

pub returns-clause-none : goal.returns-clause-none
returns-clause-none c = if_ok c.sit_all.result (λ made are. none_made c.args.engine.now c.args.script.now 0 made.0.items are) c.sit_all.ensures.seats

pub returns-clause-turned : goal.returns-clause-turned
returns-clause-turned c =
    if_ok3 c.sit_all.result (λ made are count free. new_turned c.args.engine.now c.args.script.now made.0.items made.1 c.requires.bank are count free)
    c.sit_all.ensures.seats c.sit_all.ensures.count c.sit_all.ensures.free

pub returns-clause-online : goal.returns-clause-online
returns-clause-online c = if_ok c.sit_all.result (λ made are. new_online c.args.engine.now c.args.script.now made.0.items are) c.sit_all.ensures.seats
