use Rattle.ft_run_turns.specs.declared.seats.Seat.{Seat}
use Rattle.ft_run_turns.proofs.Seated.{tokens_go_on}
use Rattle.ft_run_turns.proofs.trying.turn_of.Goals as goal

pub returns-clause-turn : goal.returns-clause-turn
returns-clause-turn c =
    let e = c.args.engine.now in
    let w = c.requires.seat.caller in
    let d = c.try_next.new.caller in
    let r : Seat = record { caller = c.rest-caller.result.0; entries = c.try_next.new.entries } in
    tokens_go_on e c.args.script.now c.args.thread c.args.seat r c.args.tokens c.rest-caller.result.1 w c.wake-caller.result d
    c.requires.seat.rests (c.wake-caller.ensures.same w c.requires.seat.is c.requires.seat.rests) c.wake-caller.ensures.caller c.wake-caller.ensures.woken
    c.in_ok-ended.ensures.turn
    (record { caller = c.in_ok-ended.ensures.between.member.caller; floor = c.in_ok-ended.ensures.floor; hands = c.rest-caller.ensures.tokens.1 })
    c.rest-caller.ensures.rests
