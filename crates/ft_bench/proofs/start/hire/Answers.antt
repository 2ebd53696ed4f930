use Rattle.std.proofs.Common.{◌≡◌, List, ◌∷◌, subst, sym, All}
use Rattle.std.specs.Vec.Iter.{into_iter_items}
use Rattle.std.proofs.lemmas.List.Elements.{All-push}
use Rattle.ft_bench.specs.declared.worker.Worker.{Worker}
use Rattle.ft_bench.proofs.start.hire.Goals as goal
use Rattle.ft_engine.specs.Callers.{IsFreeCaller, AreFreeCallers}

pub hire_one-requires : goal.hire_one-requires
hire_one-requires c =
    let steps : into_iter_items c.loop-caller.caller-iterator ≡ c.in-Some.caller ∷ into_iter_items c.next.new.self = c.in-Some.ensures.steps.0 in
    (subst (AreFreeCallers c.args.engine.now) steps c.loop-caller.invariant.0).0

pub loop-caller-preserved : goal.loop-caller-preserved
loop-caller-preserved c =
    let steps : into_iter_items c.loop-caller.caller-iterator ≡ c.in-Some.caller ∷ into_iter_items c.next.new.self = c.in-Some.ensures.steps.0 in (
      (subst (AreFreeCallers c.args.engine.now) steps c.loop-caller.invariant.0).1,
      subst (All (λ (w : Worker). IsFreeCaller c.args.engine.now w.caller)) (sym {A = List Worker} c.in_ok-push.ensures.items)
          (All-push (λ (w : Worker). IsFreeCaller c.args.engine.now w.caller) c.loop-caller.workers.items _ c.loop-caller.invariant.1 c.in_ok-hire_one.ensures),
    )
