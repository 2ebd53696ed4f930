use Rattle.std.proofs.Common.{◌≡◌, ◌+◌, ℕ, suc, [], ◌∷◌, ◌++◌, length, ap, sym, ◌∙◌, subst, arith}
use Rattle.std.specs.Vec.Iter.{into_iter_items}
use Rattle.std.proofs.lemmas.List.{length_push}
use Rattle.ft_bank.specs.NewPasses.{AreOpening}
use Rattle.ft_engine.specs.Callers.{AreFreshCallers, IsFreshCaller}
use Rattle.ft_engine.proofs.Callers.{fresh_push}
use Rattle.ft_engine.proofs.engine.Engine.callers.Goals as goal

pub caller-requires-clause-pass : goal.caller-requires-clause-pass
caller-requires-clause-pass c =
    let at = c.loop-pass in
    let steps : into_iter_items at.pass-iterator ≡ c.in-Some.pass ∷ into_iter_items c.next.new.self = c.in-Some.ensures.steps.0 in
    (length at.callers.items, (subst (AreOpening c.args.self.now.bank (length at.callers.items)) steps at.invariant.1).0)

pub loop-pass-preserved : goal.loop-pass-preserved
loop-pass-preserved c =
    let at = c.loop-pass in
    let e = c.args.self.now in
    let room = c.args.cursors in
    let n = length at.callers.items in
    let made = c.in_ok-caller.field-0 in
    let steps : into_iter_items at.pass-iterator ≡ c.in-Some.pass ∷ into_iter_items c.next.new.self = c.in-Some.ensures.steps.0 in
    let opening = subst (AreOpening e.bank n) steps at.invariant.1 in
    let items : c.push.new.self.items ≡ at.callers.items ++ made ∷ [] = c.in_ok-push.ensures.items in
    let more : length c.push.new.self.items ≡ n + 1 = ap length items ∙ length_push at.callers.items made in
    let is : IsFreshCaller e room (0 + n) made = subst (λ (k : ℕ). IsFreshCaller e room k made) (let s : n ≡ 0 + n = omega arith in s) (c.in_ok-caller.ensures n opening.0) in
    let short = ap length steps in
    let was = at.invariant.2 in
    let long = at.invariant.3 in
    let gone = c.in-Some.ensures.steps.1 in (
      subst (AreFreshCallers e room 0) (sym items) (fresh_push e room 0 at.callers.items made at.invariant.0 is),
      subst (λ (k : ℕ). AreOpening e.bank k (into_iter_items c.next.new.self)) (let s : suc n ≡ length c.push.new.self.items = omega (arith, more) in s) opening.1,
      omega (arith, more, short, was),
      omega (arith, short, long, gone),
    )
