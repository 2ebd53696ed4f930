use Rattle.std.proofs.Common.{◌≡◌, ◌+◌, ◌++◌, ◌∷◌, [], suc, length, ap, sym, ◌∙◌, subst, arith, rules}
use Rattle.std.specs.Vec.Iter.{into_iter_items, into_iter_len}
use Rattle.std.proofs.lemmas.List.{length_push}
use Rattle.ft_model.specs.Limits.{most_cursors}
use Rattle.ft_engine.specs.Callers.{AreFreshCallers}
use Rattle.ft_run_turns.specs.Internal.CallerSeats.{AreNewFrom, IsNewRest}
use Rattle.ft_run_turns.proofs.NewSeats.{fresh_new, new_as, new_rest, rest_push}
use Rattle.ft_run_turns.proofs.seating.gather_all.Goals as goal

pub loop-caller-init : goal.loop-caller-init
loop-caller-init c =
    let e = c.args.engine.now in
    let steps : c.args.callers.items ≡ c.in-Some.first ∷ into_iter_items c.into_iter-caller-iterator.result = search rules in
    let left : into_iter_len c.into_iter-caller-iterator.result ≡ length (into_iter_items c.into_iter-caller-iterator.result) = search rules in
    let none : c.in_ok-others.others.items ≡ [] = c.in_ok-others.ensures.items in
    let zero : length c.in_ok-others.others.items ≡ 0 = ap length none in
    let fresh = subst (AreFreshCallers e most_cursors 0) steps c.requires.callers in
    let long = ap length steps in
    let count = c.requires.all in (
      fresh_new e 0 c.in-Some.first fresh.0,
      subst (AreNewFrom e 1) (sym none) tt,
      subst (λ n. AreFreshCallers e most_cursors n (into_iter_items c.into_iter-caller-iterator.result)) (let one : 1 ≡ length c.in_ok-others.others.items + 1 = omega (arith, zero) in one) fresh.1,
      fresh.0.tokens ∙ (let one : 1 ≡ length c.in_ok-others.others.items + 1 = omega (arith, zero) in one),
      omega (arith, zero, long, count),
      left,
    )

pub loop-caller-preserved : goal.loop-caller-preserved
loop-caller-preserved c =
    let at = c.loop-caller in
    let e = c.args.engine.now in
    let n = length at.others.items in
    let steps : into_iter_items at.caller-iterator ≡ c.in-Some-caller.caller ∷ into_iter_items c.next-in-loop-caller.new.self = c.in-Some-caller.ensures.steps.0 in
    let fresh = subst (AreFreshCallers e most_cursors (n + 1)) steps at.invariant.2 in
    let caller = c.in-Some-caller.caller in
    let r = c.rest-other.result.0 in
    let items : c.push.new.self.items ≡ at.others.items ++ r ∷ [] = c.in_ok-push.ensures.items in
    let more : length c.push.new.self.items ≡ n + 1 = ap length items ∙ length_push at.others.items r in
    let short = ap length steps in
    let was = at.invariant.4 in
    let long = at.invariant.5 in
    let gone = c.in-Some-caller.ensures.steps.1 in
    let have = at.invariant.3 in
    let gathered = c.gather.ensures.tokens in
    let given = c.rest-other.ensures.tokens.1.tokens in
    let one = fresh.0.tokens in
    let new : IsNewRest e (n + 1) r = new_rest e (n + 1) caller r (fresh_new e (n + 1) caller fresh.0) c.rest-other.ensures.resting c.rest-other.ensures.rests in (
      new_as e 0 at.first c.gather.new.caller at.invariant.0 c.gather.ensures.same c.gather.ensures.caller,
      subst (AreNewFrom e 1) (sym items) (rest_push e 1 at.others.items r at.invariant.1 (subst (λ k. IsNewRest e k r) (let z : n + 1 ≡ 1 + n = omega arith in z) new)),
      subst (λ k. AreFreshCallers e most_cursors k (into_iter_items c.next-in-loop-caller.new.self)) (let z : suc (n + 1) ≡ length c.push.new.self.items + 1 = omega (arith, more) in z) fresh.1,
      omega (arith, gathered, given, one, have, more),
      omega (arith, more, short, was),
      omega (arith, short, long, gone),
    )
