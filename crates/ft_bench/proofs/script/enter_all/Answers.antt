use Rattle.std.proofs.Common.{◌≡◌, [], ◌∷◌, ◌++◌, subst, sym, ◌∙◌, All}
use Rattle.std.specs.Vec.Iter.{into_iter_items}
use Rattle.std.proofs.lemmas.List.Elements.{All-push}
use Rattle.ft_bench.specs.Threads.{IsReadyCaller}
use Rattle.ft_bench.proofs.script.enter_all.Goals as goal
use Rattle.ft_engine.specs.Callers.{AreFreeCallers}

pub enter-requires-clause-caller : goal.enter-requires-clause-caller
enter-requires-clause-caller c =
    let steps : into_iter_items c.loop-caller.caller-iterator ≡ c.in-Some.caller ∷ into_iter_items c.next.new.self = c.in-Some.ensures.steps.0 in
    (subst (AreFreeCallers c.args.engine.now) steps c.loop-caller.invariant.0).0.0

pub enter-requires-clause-idle : goal.enter-requires-clause-idle
enter-requires-clause-idle c =
    let steps : into_iter_items c.loop-caller.caller-iterator ≡ c.in-Some.caller ∷ into_iter_items c.next.new.self = c.in-Some.ensures.steps.0 in
    (subst (AreFreeCallers c.args.engine.now) steps c.loop-caller.invariant.0).0.1

pub loop-caller-preserved : goal.loop-caller-preserved
loop-caller-preserved c =
    let e = c.args.engine.now in
    let steps : into_iter_items c.loop-caller.caller-iterator ≡ c.in-Some.caller ∷ into_iter_items c.next.new.self = c.in-Some.ensures.steps.0 in
    let free = subst (AreFreeCallers e) steps c.loop-caller.invariant.0 in
    let idle = c.enter.ensures.same.flight ∙ free.0.1 in
    let items : c.push.new.self.items ≡ c.loop-caller.ready.items ++ c.enter.new.caller ∷ [] = c.in_ok-push.ensures.items in (
      free.1,
      subst (All (IsReadyCaller e)) (sym items)
          (All-push (IsReadyCaller e) c.loop-caller.ready.items _ c.loop-caller.invariant.1 ((c.enter.ensures.caller, idle), c.enter.ensures.online)),
    )
