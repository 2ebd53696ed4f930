use Rattle.std.proofs.Common.{ℕ, ◌<◌, sym, subst}
use Rattle.ft_boxes_tests.proofs.StillPasses.{loaded_calls}
use Rattle.ft_boxes_tests.proofs.counting.find_box.Goals as goal

pub returns-clause-counter : goal.returns-clause-counter
returns-clause-counter c =
    let only = c.see_name.ensures.only in
    record {
      caller = loaded_calls c.args.bank.now c.args.pass.now c.see_name.new.pass c.requires.counter.caller c.see_name.ensures.pass c.see_name.ensures.stack only;
      online = subst (λ (n : ℕ). 0 < n) (sym only.work.pass.announced) c.requires.counter.online;
    }
