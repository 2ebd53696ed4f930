use Rattle.std.proofs.Common.{◌+◌, ◌++◌, ◌<◌, ◌≤◌, [], ◌∷◌, List, ℕ, length, map, min, refl, ap, ◌∙◌, arith}
use Rattle.std.specs.List.{join_with_byte, zip}
use Rattle.std.proofs.lemmas.Slice.Zip.{length-zip}
use Rattle.ft_model.specs.declared.reply.Shown.{Shown}
use Rattle.ft_model.specs.declared.script.Declaration.{Declaration}
use Rattle.ft_script.specs.Texts.{named_text}
use Rattle.ft_script.proofs.Printed.{joined-push, named_at, printed_all, printed_first, printed_next}
use Rattle.ft_script.proofs.shown.push_all.Goals.{then-place-gt0+in_ok-push, else-place-gt0}
use Rattle.ft_script.proofs.shown.push_all.Goals as goal

pub loop-place-preserved : goal.loop-place-preserved
loop-place-preserved c =
    let containers : List Declaration = c.as_slice-containers.result.now in
    let world : List Shown = c.args.world.now in
    let place : ℕ = c.loop-place.place in
    let container : Declaration = c.index-containers-place.result in
    let shown : Shown = c.index-world-place.result in
    let one : Declaration × Shown = (container, shown) in
    let text : Declaration × Shown → List ℕ = named_text c.as_slice-strings.result.now in
    let joined : List (Declaration × Shown) → List ℕ = λ ones. join_with_byte 59 (map text ones) in
    let low : place < length containers = omega (arith, c.loop-place-test.true, c.min-place-end.ensures) in
    let high : place < length world = omega (arith, c.loop-place-test.true, c.min-place-end.ensures) in
    let within : place < length (zip containers world) = omega (arith, length-zip containers world) in
    let here = named_at containers world place container shown low high c.index-containers-place.is c.index-world-place.is in
    elim c.if-place-gt0.branch [
      | then-place-gt0+in_ok-push w ↦
          printed_next text (59 ∷ []) joined refl (λ _. refl) (joined-push 59 text) (zip containers world) place (place + 1) one refl within here c.extend_from_slice.new.self.items c.loop-place.out.items w.push.new.self.items c.push_named.new.out.items w.if-place-gt0.true c.loop-place.invariant w.in_ok-push.ensures.items
          (c.in_ok-push_named.ensures ∙ ap (λ out. out.items ++ text one) w.out-is)
      | else-place-gt0 w ↦
          printed_first text (59 ∷ []) joined refl (λ _. refl) (joined-push 59 text) (zip containers world) place (place + 1) one refl within here c.extend_from_slice.new.self.items c.loop-place.out.items c.push_named.new.out.items (omega (arith, w.if-place-gt0.false)) c.loop-place.invariant
          (c.in_ok-push_named.ensures ∙ ap (λ out. out.items ++ text one) w.out-is)
    ]

pub returns : goal.returns
returns c =
    let past : min (length c.args.script.now.containers) (length c.args.world.now) ≤ c.loop-place.place = omega (arith, c.loop-place-test.false, c.min-place-end.ensures, ap length c.as_slice-containers.ensures) in
    printed_all c.args.out.now.items c.extend_from_slice.new.self.items c.loop-place.out.items c.args.script.now.strings c.args.script.now.containers c.args.world.now c.loop-place.place past c.in_ok-extend_from_slice.ensures.items
    (rw (c.as_slice-strings.ensures, c.as_slice-containers.ensures) at c.loop-place.invariant)
