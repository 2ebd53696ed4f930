use Rattle.std.proofs.Common.{◌≡◌, ◌+◌, ◌++◌, ◌∷◌, [], suc, Some, length, ap, sym, ◌∙◌, subst, arith, rules}
use Rattle.std.specs.Vec.Iter.{into_iter_items, into_iter_len}
use Rattle.std.proofs.lemmas.List.{length_push}
use Rattle.ft_bank.specs.Passes.{view}
use Rattle.ft_engine.specs.Callers.{pass_of}
use Rattle.ft_turn_laws.specs.Beginnings.{NoneOwns}
use Rattle.ft_run_turns.specs.Internal.CallerSeats.{AreNewFrom, AreNewSeats, IsNewCaller, IsNewSeat, NobodyOwns}
use Rattle.ft_run_turns.proofs.NewSeats.{new_as, new_push, no_thread, none_handed, rest_of}
use Rattle.ft_run_turns.proofs.seating.sit_all.Goals as goal

pub wake-caller-requires-clause-resting : goal.wake-caller-requires-clause-resting
wake-caller-requires-clause-resting c =
    let at = c.loop-other in
    let e = c.args.engine.now in
    let n = length at.seats.items in
    let steps : into_iter_items at.other-iterator ≡ c.in-Some.other ∷ into_iter_items c.next.new.self = c.in-Some.ensures.steps.0 in
    rest_of e n c.in-Some.other (subst (AreNewFrom e n) steps at.invariant.3).0

pub sit-seat-requires-in-loop-other-clause-caller : goal.sit-seat-requires-in-loop-other-clause-caller
sit-seat-requires-in-loop-other-clause-caller c =
    let at = c.loop-other in
    let e = c.args.engine.now in
    let n = length at.seats.items in
    let steps : into_iter_items at.other-iterator ≡ c.in-Some.other ∷ into_iter_items c.next.new.self = c.in-Some.ensures.steps.0 in
    let rest = (subst (AreNewFrom e n) steps at.invariant.3).0 in
    let woken = c.wake-caller in
    subst (λ k. IsNewCaller e k woken.result) (sym (c.len-in-loop-other.ensures ∙ at.seats.ok.0)) (new_as e n rest.caller woken.result rest.new (woken.ensures.same rest.caller rest.new.member.caller rest.rests) woken.ensures.caller)

pub loop-other-init : goal.loop-other-init
loop-other-init c =
    let e = c.args.engine.now in
    let script = c.args.script.now in
    let s = c.sit-seat.result.0 in
    let t = c.sit-seat.result.1 in
    let items : c.push.new.self.items ≡ Some s ∷ [] = c.in_ok-push.ensures.items ∙ ap (λ l. l ++ Some s ∷ []) c.in_ok-seats.ensures.items in
    let one : length c.push.new.self.items ≡ 1 = ap length items in
    let rest : into_iter_items c.into_iter-other-iterator.result ≡ c.args.others.items = search rules in
    let left : into_iter_len c.into_iter-other-iterator.result ≡ length (into_iter_items c.into_iter-other-iterator.result) = search rules in
    let long = ap length rest in
    let count = c.requires.count in (
      subst (AreNewSeats e script 0) (sym items) (c.sit-seat.ensures.seat, tt),
      c.sit-seat.ensures.tokens,
      subst (λ k. NobodyOwns e k t) (sym one) (c.sit-seat.ensures.sat (no_thread (view (pass_of c.args.first)))),
      subst (λ k. AreNewFrom e k (into_iter_items c.into_iter-other-iterator.result)) (sym one) (subst (AreNewFrom e 1) (sym rest) c.requires.others),
      omega (arith, one, long, count),
      left,
    )

pub loop-other-preserved : goal.loop-other-preserved
loop-other-preserved c =
    let at = c.loop-other in
    let e = c.args.engine.now in
    let script = c.args.script.now in
    let n = length at.seats.items in
    let steps : into_iter_items at.other-iterator ≡ c.in-Some.other ∷ into_iter_items c.next.new.self = c.in-Some.ensures.steps.0 in
    let fresh = subst (AreNewFrom e n) steps at.invariant.3 in
    let d = c.wake-caller.result in
    let owns = at.invariant.2 in
    let sat = c.sit-seat-in-loop-other in
    let s = sat.result.0 in
    let place : c.len-in-loop-other.result ≡ n = c.len-in-loop-other.ensures ∙ at.seats.ok.0 in
    let none : NoneOwns (view (pass_of d)) n = none_handed e owns.0 d at.tokens n owns.1 c.wake-caller.ensures.caller c.wake-caller.ensures.woken owns.2 in
    let owned : NobodyOwns e (c.len-in-loop-other.result + 1) sat.result.1 = sat.ensures.sat (subst (NoneOwns (view (pass_of d))) (sym place) none) in
    let items : c.push-in-loop-other.new.self.items ≡ at.seats.items ++ Some s ∷ [] = c.in_ok-push-2.ensures.items in
    let more : length c.push-in-loop-other.new.self.items ≡ n + 1 = ap length items ∙ length_push at.seats.items (Some s) in
    let short = ap length steps in
    let was = at.invariant.4 in
    let long = at.invariant.5 in
    let gone = c.in-Some.ensures.steps.1 in (
      subst (AreNewSeats e script 0) (sym items) (new_push e script 0 at.seats.items s at.invariant.0 (subst (λ k. IsNewSeat e script k (Some s)) (place ∙ (let z : n ≡ 0 + n = omega arith in z)) sat.ensures.seat)),
      sat.ensures.tokens,
      subst (λ k. NobodyOwns e k sat.result.1) (ap (λ k. k + 1) place ∙ sym more) owned,
      subst (λ k. AreNewFrom e k (into_iter_items c.next.new.self)) (let z : suc n ≡ length c.push-in-loop-other.new.self.items = omega (arith, more) in z) fresh.1,
      omega (arith, more, short, was),
      omega (arith, short, long, gone),
    )
