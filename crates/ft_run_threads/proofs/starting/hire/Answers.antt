use Rattle.std.proofs.Common.{◌≡◌, ◌+◌, ◌≤◌, suc, ℕ, [], ◌∷◌, ◌++◌, length, ap, sym, ◌∙◌, subst, arith}
use Rattle.std.specs.Prelude.{vec_capacity}
use Rattle.std.specs.Vec.Iter.{into_iter_items}
use Rattle.std.proofs.lemmas.List.{length_push}
use Rattle.ft_model.specs.Histories.{calls_of}
use Rattle.ft_model.specs.Limits.{most_cursors}
use Rattle.ft_engine.specs.Callers.{AreFreshCallers, IsFreshCaller}
use Rattle.ft_run_threads.specs.declared.workers.Worker.{Worker}
use Rattle.ft_run_threads.specs.Workers.{AreFrom, IsAtStart}
use Rattle.ft_run_threads.proofs.WorkerLemmas.{fresh_new, from_push}
use Rattle.ft_run_threads.proofs.starting.hire.Goals as goal

pub loop-caller-preserved : goal.loop-caller-preserved
loop-caller-preserved c =
    let at = c.loop-caller in
    let e = c.args.engine.now in
    let script = c.args.script.now in
    let n = length at.workers.items in
    let steps : into_iter_items at.caller-iterator ≡ c.in-Some.caller ∷ into_iter_items c.next.new.self = c.in-Some.ensures.steps.0 in
    let fresh = subst (AreFreshCallers e most_cursors n) steps at.invariant.0 in
    let hired : Worker = c.in_ok-hired.hired in
    let is_fresh : IsFreshCaller e most_cursors n hired.caller = subst (IsFreshCaller e most_cursors n) (sym c.in_ok-hired.ensures.caller) fresh.0 in
    let rows : length (calls_of script n) ≤ vec_capacity hired.entries = let r = c.in_ok-hired.ensures.rows in subst (λ (k : ℕ). k ≤ vec_capacity hired.entries) (c.call_count-calls.ensures ∙ ap (λ (t : ℕ). length (calls_of script t)) (c.len-in-loop-caller.ensures ∙ at.workers.ok.0)) r in
    let new = fresh_new e script n hired c.in_ok-hired.ensures.entries rows is_fresh in
    let items : c.push.new.self.items ≡ at.workers.items ++ hired ∷ [] = c.in_ok-push.ensures.items in
    let more : length c.push.new.self.items ≡ n + 1 = ap length items ∙ length_push at.workers.items hired in
    let short = ap length steps in
    let was = at.invariant.2 in
    let long = at.invariant.3 in
    let gone = c.in-Some.ensures.steps.1 in (
      subst (λ (k : ℕ). AreFreshCallers e most_cursors k (into_iter_items c.next.new.self)) (let s : suc n ≡ length c.push.new.self.items = omega (arith, more) in s) fresh.1,
      subst (AreFrom (IsAtStart e script) 0) (sym items) (from_push (IsAtStart e script) 0 at.workers.items hired at.invariant.1 (subst (λ (k : ℕ). IsAtStart e script k hired) (let s : n ≡ 0 + n = omega arith in s) new)),
      omega (arith, more, short, was),
      omega (arith, short, long, gone),
    )
