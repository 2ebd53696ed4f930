use Rattle.std.proofs.Common.{◌≡◌, ◌∷◌, subst, sym, All}
use Rattle.std.specs.Vec.Iter.{into_iter_items}
use Rattle.std.proofs.lemmas.List.Elements.{All-push}
use Rattle.ft_engine.specs.declared.caller.Caller.{Caller}
use Rattle.ft_engine.specs.Callers.{IsFreeCaller, AreFreeCallers}
use Rattle.ft_engine_tests.specs.TestCallers.{IsWorkerOf}
use Rattle.ft_engine_tests.proofs.starting.enter_all.Goals as goal

pub enter-requires-clause-caller : goal.enter-requires-clause-caller
enter-requires-clause-caller c =
    let steps : into_iter_items c.loop-caller.caller-iterator ≡ c.in-Some.caller ∷ into_iter_items c.next.new.self = c.in-Some.ensures.steps.0 in
    let free = subst (AreFreeCallers c.args.engine.now) steps c.loop-caller.invariant.0 in
    free.0.0

pub enter-requires-clause-idle : goal.enter-requires-clause-idle
enter-requires-clause-idle c =
    let steps : into_iter_items c.loop-caller.caller-iterator ≡ c.in-Some.caller ∷ into_iter_items c.next.new.self = c.in-Some.ensures.steps.0 in
    let free = subst (AreFreeCallers c.args.engine.now) steps c.loop-caller.invariant.0 in
    free.0.1

pub loop-caller-preserved : goal.loop-caller-preserved
loop-caller-preserved c =
    let steps : into_iter_items c.loop-caller.caller-iterator ≡ c.in-Some.caller ∷ into_iter_items c.next.new.self = c.in-Some.ensures.steps.0 in
    let free = subst (AreFreeCallers c.args.engine.now) steps c.loop-caller.invariant.0 in (
      free.1,
      subst (All (IsWorkerOf c.args.engine.now)) (sym c.in_ok-push.ensures.items)
          (All-push (IsWorkerOf c.args.engine.now) c.loop-caller.workers.items _ c.loop-caller.invariant.1 (c.enter.ensures.caller, λ on. c.enter.ensures.online)),
    )
