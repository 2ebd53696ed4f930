use Rattle.std.proofs.Common.{◌≡◌, ◌+◌, ◌++◌, ◌∷◌, [], suc, length, map, ap, sym, ◌∙◌, subst, append_assoc, arith, rules}
use Rattle.std.specs.Vec.Iter.{into_iter_items, into_iter_len}
use Rattle.std.proofs.lemmas.List.{append-nil, nil_from_length}
use Rattle.ft_run_threads.specs.Workers.{HasTakenIn}
use Rattle.ft_run_turns.specs.Internal.CallerSeats.{AreEndSeats, seat_entries, vec_lists}
use Rattle.ft_run_turns.proofs.ending.gather_in.Goals as goal

pub wake_first-caller-requires-clause-seat : goal.wake_first-caller-requires-clause-seat
wake_first-caller-requires-clause-seat c =
    let steps : c.args.seats.items ≡ c.in-Some.first ∷ into_iter_items c.next.new.self = search rules in
    (subst (AreEndSeats c.args.engine.now c.args.script.now 0) steps c.requires.seats).0

pub loop-seat-init : goal.loop-seat-init
loop-seat-init c =
    let e = c.args.engine.now in
    let script = c.args.script.now in
    let rest = into_iter_items c.into_iter-seat-iterator.result in
    let steps : c.args.seats.items ≡ c.in-Some.first ∷ rest = search rules in
    let left : into_iter_len c.into_iter-seat-iterator.result ≡ length rest = search rules in
    let woken = c.wake_first-caller in
    let items : c.push.new.self.items ≡ woken.result.1 ∷ [] = c.in_ok-push.ensures.items ∙ ap (λ l. l ++ woken.result.1 ∷ []) c.in_ok-lists.ensures.items in
    let same : vec_lists c.push.new.self.items ≡ woken.result.1.items ∷ [] = ap vec_lists items in
    let one : length c.push.new.self.items ≡ 1 = ap length items in (
      subst (HasTakenIn e script woken.result.0) (sym same) woken.ensures.taken,
      subst (λ n. AreEndSeats e script n rest) (sym one) (subst (AreEndSeats e script 0) steps c.requires.seats).1,
      ap (λ l. l ++ map seat_entries rest) (same ∙ ap (λ l. l ∷ []) woken.ensures.entries) ∙ sym (ap (map seat_entries) steps),
      left,
      woken.ensures.floor,
    )

pub take_in-requires-clause-seat : goal.take_in-requires-clause-seat
take_in-requires-clause-seat c =
    let at = c.loop-seat in
    let steps : into_iter_items at.seat-iterator ≡ c.in-Some-seat.seat ∷ into_iter_items c.next-in-loop-seat.new.self = c.in-Some-seat.ensures.steps.0 in
    (subst (AreEndSeats c.args.engine.now c.args.script.now (length at.lists.items)) steps at.invariant.1).0

pub loop-seat-preserved : goal.loop-seat-preserved
loop-seat-preserved c =
    let at = c.loop-seat in
    let e = c.args.engine.now in
    let script = c.args.script.now in
    let n = length at.lists.items in
    let rest = into_iter_items c.next-in-loop-seat.new.self in
    let seat = c.in-Some-seat.seat in
    let steps : into_iter_items at.seat-iterator ≡ seat ∷ rest = c.in-Some-seat.ensures.steps.0 in
    let taken = c.in_ok-take_in.ensures in
    let short = ap length steps in
    let long = at.invariant.3 in
    let gone = c.in-Some-seat.ensures.steps.1 in
    let more = taken.count in (
      taken.taken,
      subst (λ k. AreEndSeats e script k rest) (let z : suc n ≡ length c.take_in.new.lists.items = omega (arith, more) in z) (subst (AreEndSeats e script n) steps at.invariant.1).1,
      ap (λ l. l ++ map seat_entries rest) taken.list
          ∙ (append_assoc (vec_lists at.lists.items) (seat_entries seat ∷ []) (map seat_entries rest)
          ∙ (ap (λ l. vec_lists at.lists.items ++ map seat_entries l) (sym steps) ∙ at.invariant.2)),
      omega (arith, short, long, gone),
      c.take_in.ensures.floor at.invariant.4,
    )

pub returns-clause-lists : goal.returns-clause-lists
returns-clause-lists c =
    let at = c.loop-seat in
    let over = c.in-None.ensures.steps.0 in
    let left = at.invariant.3 in
    let none : into_iter_items at.seat-iterator ≡ [] = nil_from_length (into_iter_items at.seat-iterator) (omega (arith, over, left)) in
    sym (append-nil (vec_lists at.lists.items)) ∙ (ap (λ l. vec_lists at.lists.items ++ map seat_entries l) (sym none) ∙ at.invariant.2)
