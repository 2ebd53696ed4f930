use Rattle.std.proofs.Common.{◌<◌, length, arith, ◌∙◌}
use Rattle.std.proofs.lemmas.Bool.Decides.{nat_tests}
use Rattle.ft_model.specs.Histories.{calls_of}
use Rattle.ft_run_turns.proofs.NewSeats.{come_between, idle_between}
use Rattle.ft_run_turns.proofs.Visited.{visited_none}
use Rattle.ft_run_turns.proofs.seating.come.Goals as goal

pub returns-then-call_count-gt0 : goal.returns-then-call_count-gt0
returns-then-call_count-gt0 c =
    let e = c.args.engine.now in
    let script = c.args.script.now in
    let i = c.args.thread in
    let a = c.args.caller.now in
    let d = c.enter.new.caller in
    let is = c.requires.caller in
    let x = c.enter.ensures in
    let some : 0 < length (calls_of script i) = grind (arith, nat_tests, c.if-call_count-gt0.true, c.call_count.ensures) in
    record {
      between = come_between e script i a d is x.same x.caller x.kept x.online x.presence some;
      idle = x.same.flight ∙ is.idle;
      sections = x.same.sections ∙ is.sections;
      floor = x.floor.floor ∙ c.requires.floor;
      none = visited_none e a d is.member.caller x.caller x.same x.floor c.requires.floor i;
    }

pub returns-else-call_count-gt0 : goal.returns-else-call_count-gt0
returns-else-call_count-gt0 c =
    let script = c.args.script.now in
    let i = c.args.thread in
    let is = c.requires.caller in
    let none : 0 < length (calls_of script i) → ⊥ = λ some. grind (arith, nat_tests, c.if-call_count-gt0.false, c.call_count.ensures, some) in
    record {
      between = idle_between c.args.engine.now script i c.args.caller.now is none;
      idle = is.idle;
      sections = is.sections;
      floor = c.requires.floor;
      none = λ before. before;
    }
