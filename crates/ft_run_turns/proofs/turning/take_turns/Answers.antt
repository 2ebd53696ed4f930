use Rattle.std.proofs.Common.{◌≡◌, [], Option, None, Some, IfNone, length, refl, ap, arith}
use Rattle.ft_run_turns.specs.Internal.CallerSeats.{entries_made}
use Rattle.ft_run_turns.proofs.AllMade.{end_made, end_turned, some_threads, taking_on}
use Rattle.ft_run_turns.proofs.turning.take_turns.Goals as goal

-- what holds where nothing came
where_none : {X P : Type 0} (found : Option X) → ((x : X) → found ≡ Some x → ⊥) → IfNone found P → P
where_none None not_some holds = holds
where_none (Some x) not_some holds = absurd (not_some x refl)

pub loop-thread-init : goal.loop-thread-init
loop-thread-init c =
    record {
      seated = c.requires.seats;
      count = c.requires.count;
      held = c.requires.tokens;
      round = c.start-schedule.ensures.within;
      calls = let n = c.count_calls-left.ensures in let none = c.requires.none in omega (arith, n, none);
      turns = [];
      whole = c.start-schedule.ensures.turns;
      turned = c.requires.turned;
    }

pub next_turn-requires-clause-some : goal.next_turn-requires-clause-some
next_turn-requires-clause-some c = some_threads c.args.script.now c.loop-thread.left (entries_made c.loop-thread.seats) c.loop-thread.invariant.calls

pub loop-thread-preserved : goal.loop-thread-preserved
loop-thread-preserved c =
    let at = c.loop-thread in
    let inv = at.invariant in
    let turn = c.in_ok-given in
    taking_on c.args.engine.now c.args.script.now at.schedule c.next_turn.new.schedule at.left c.left_after-left.result c.in-Some.thread at.seats c.take_turn.new.seats at.tokens turn.given inv
    turn.ensures.seats c.take_turn.auto.seats turn.ensures.tokens c.next_turn.ensures.round
    (let less = c.left_after-left.ensures in let made = turn.ensures.made in let calls = inv.calls in omega (arith, less, made, calls))
    c.in-Some.ensures.turn (turn.ensures.turn inv.turns inv.turned)

pub loop-thread-smaller : goal.loop-thread-smaller
loop-thread-smaller c = let longer = ap length c.in-Some.ensures.turn in omega (arith, longer)

pub returns-clause-turned : goal.returns-clause-turned
returns-clause-turned c =
    let at = c.loop-thread in
    end_turned c.args.engine.now c.args.script.now at.schedule at.left at.seats at.tokens c.requires.script c.requires.bank at.invariant (where_none c.next_turn.result c.in_default.not-Some c.next_turn.ensures.end)

pub returns-clause-made : goal.returns-clause-made
returns-clause-made c =
    let at = c.loop-thread in
    end_made c.args.engine.now c.args.script.now at.schedule at.left at.seats at.tokens c.requires.script c.requires.bank at.invariant (where_none c.next_turn.result c.in_default.not-Some c.next_turn.ensures.end)
