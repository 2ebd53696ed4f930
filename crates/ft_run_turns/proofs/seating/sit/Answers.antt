use Rattle.std.proofs.Common.{sym, subst}
use Rattle.ft_run_turns.specs.Internal.CallerSeats.{IsBetweenTurns}
use Rattle.ft_run_turns.proofs.NewSeats.{one_more_sits}
use Rattle.ft_run_turns.proofs.seating.sit.Goals as goal

pub returns-clause-seat : goal.returns-clause-seat
returns-clause-seat c =
    let e = c.args.engine.now in
    let d = c.come.new.caller in
    let come = c.come.ensures in
    let rests = c.rest-caller.ensures.rests in
    let flies = rests.flight in
    let stack = rests.sections in
    let idle = come.idle in
    let sections = come.sections in
    let items = c.new-entries.ensures.items in (
      record {
        resting = c.rest-caller.ensures.resting.0;
        caller = d;
        is = come.between.member.caller;
        rests = rests;
        between = subst (IsBetweenTurns e c.args.script.now c.args.thread d) (sym items) come.between;
      },
      cc,
    )

pub returns-clause-sat : goal.returns-clause-sat
returns-clause-sat c =
    let come = c.come.ensures in
    λ none.
    one_more_sits c.args.engine.now c.args.thread c.come.new.caller c.rest-caller.result.1
    (record { caller = come.between.member.caller; floor = come.floor; hands = c.rest-caller.ensures.tokens.1 })
    come.between.member.thread come.sections (come.none none)
