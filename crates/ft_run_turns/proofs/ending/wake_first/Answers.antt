use Rattle.std.proofs.Common.{sym, ap, subst}
use Rattle.ft_run_turns.specs.Internal.CallerSeats.{IsEndSeat, seat_entries}
use Rattle.ft_run_turns.proofs.Ended.{first_in}
use Rattle.ft_run_turns.proofs.ending.wake_first.Goals as goal

pub wake-caller-requires-clause-resting : goal.wake-caller-requires-clause-resting
wake-caller-requires-clause-resting c =
    let end = subst (IsEndSeat c.args.engine.now c.args.script.now 0) c.in-Some.is c.requires.seat in
    (end.0.resting, (end.0.caller, end.0.is, end.0.rests))

pub returns-clause-taken : goal.returns-clause-taken
returns-clause-taken c =
    let e = c.args.engine.now in
    let script = c.args.script.now in
    let s = c.in-Some.seat in
    let end = subst (IsEndSeat e script 0) c.in-Some.is c.requires.seat in
    let x = c.wake-caller.ensures in
    first_in e script c.wake-caller.result s c.requires.script end.0 end.1 (x.same end.0.caller end.0.is end.0.rests) x.caller

pub returns-clause-entries : goal.returns-clause-entries
returns-clause-entries c = sym (ap seat_entries c.in-Some.is)

pub returns-clause-floor : goal.returns-clause-floor
returns-clause-floor c = c.wake-caller.ensures.woken.floor
