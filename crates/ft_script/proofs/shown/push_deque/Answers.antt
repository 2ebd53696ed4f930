use Rattle.std.proofs.Common.{◌+◌, ◌++◌, ◌<◌, ◌≤◌, List, ℕ, length, map, refl, sym, ap, ◌∙◌, arith}
use Rattle.std.specs.Prelude.{codes}
use Rattle.std.proofs.lemmas.List.{append-nil}
use Rattle.ft_model.specs.declared.data.Value.{Value}
use Rattle.ft_script.specs.Texts.{listed, value_text}
use Rattle.ft_script.proofs.Printed.{listed-push, printed_first, printed_next, printed_items}
use Rattle.ft_script.proofs.shown.push_deque.Goals.{then-place-gt0+in_ok-extend_from_slice, else-place-gt0}
use Rattle.ft_script.proofs.shown.push_deque.Goals as goal

pub loop-place-init : goal.loop-place-init
loop-place-init c = sym (append-nil c.push.new.self.items)

pub loop-place-preserved : goal.loop-place-preserved
loop-place-preserved c =
    let items : List Value = c.args.items.now.items in
    let place : ℕ = c.loop-place.place in
    let text : Value → List ℕ = value_text c.args.strings.now in
    let joined : List Value → List ℕ = λ shown. listed (map text shown) in
    let low : place < length items = omega (arith, c.loop-place-test.true, c.len-place-end.ensures, c.args.items.now.ok.0) in
    elim c.if-place-gt0.branch [
      | then-place-gt0+in_ok-extend_from_slice w ↦
          printed_next text (codes ", ") joined refl (λ _. refl) (listed-push text) items place (place + 1) c.index.result.now refl low c.index.ensures c.push.new.self.items c.loop-place.out.items w.extend_from_slice.new.self.items c.push_to.new.out.items w.if-place-gt0.true c.loop-place.invariant w.in_ok-extend_from_slice.ensures.items
          (c.in_ok-push_to.ensures ∙ ap (λ out. out.items ++ text c.index.result.now) w.out-is)
      | else-place-gt0 w ↦
          printed_first text (codes ", ") joined refl (λ _. refl) (listed-push text) items place (place + 1) c.index.result.now refl low c.index.ensures c.push.new.self.items c.loop-place.out.items c.push_to.new.out.items (omega (arith, w.if-place-gt0.false)) c.loop-place.invariant
          (c.in_ok-push_to.ensures ∙ ap (λ out. out.items ++ text c.index.result.now) w.out-is)
    ]

pub returns : goal.returns
returns c =
    let past : length c.args.items.now.items ≤ c.loop-place.place = omega (arith, c.loop-place-test.false, c.len-place-end.ensures, c.args.items.now.ok.0) in
    printed_items c.args.out.now.items c.push.new.self.items c.loop-place.out.items c.push-2.new.self.items (value_text c.args.strings.now) c.args.items.now.items c.loop-place.place past c.in_ok-push.ensures.items c.loop-place.invariant c.in_ok-push-2.ensures.items
