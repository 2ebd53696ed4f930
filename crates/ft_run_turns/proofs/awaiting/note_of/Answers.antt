use Rattle.std.proofs.Common.{length, arith, ◌≤◌}
use Rattle.std.proofs.lemmas.Bool.Decides.{nat_tests}
use Rattle.ft_run_turns.proofs.AwaitedCalls.{tells}
use Rattle.ft_run_turns.proofs.awaiting.note_of.Goals as goal

pub returns-clause-seat : goal.returns-clause-seat
returns-clause-seat c =
    let was = c.requires.seat in
    record {
      resting = c.note_resting-note.ensures.caller.0;
      caller = was.caller;
      is = was.is;
      rests = c.note_resting-note.ensures.rests was.caller was.rests;
      between = was.between;
    }

pub returns-clause-tells : goal.returns-clause-tells
returns-clause-tells c =
    let was = c.requires.seat in
    let few : c.args.index ≤ length c.args.seat.entries.items = grind (arith, nat_tests, c.if-len-index.false, c.len.ensures, c.args.seat.entries.ok.0) in
    tells was.caller c.args.seat.entries.items _ c.args.thread c.args.index _ c.note_resting-note.result was.between.member.thread was.between.kept few was.rests.pass c.note_resting-note.ensures.told
