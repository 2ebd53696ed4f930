use Rattle.std.proofs.Common.{◌≡◌, ◌≢◌, ℕ, ◌+◌, ◌*◌, ◌%◌, ◌^◌, eqb, false, true≢false, refl, sym, ap, ◌∙◌, inr, arith}
use Rattle.std.proofs.lemmas.Bool.{eqb-true}
use Rattle.ft_bank.specs.BoxSteps.{box_id}
use Rattle.ft_bank.specs.Passes.{view}
use Rattle.ft_boxes.proofs.Heaps.{counts_loaded, default_after_loads}
use Rattle.ft_boxes.proofs.merging.is_idle.Goals as goal

adds : (f g : ℕ) → (f + 4 * g % 2 ^ 64) % 2 ^ 64 ≡ (f + 4 * g) % 2 ^ 64
adds f g = omega arith

not_zero : (n : ℕ) → eqb n 0 ≡ false → n ≢ 0
not_zero n off z = true≢false (sym (ap (λ (m : ℕ). eqb m 0) z) ∙ off)

pub returns-clause-own : goal.returns-clause-own
returns-clause-own c zero =
    let own = (c.read_box-shared.ensures.state refl c.requires.maker).0 c.if-shared-ne0.false in
    let v = view c.args.pass.now in
    let x = view c.read_box-shared.new.pass in
    let w = view c.read_box-local.new.pass in
    let f = c.read_box-shared.result in
    let g = c.read_box-local.result in
    let first = c.read_box-shared.ensures.did.1 in
    let then = c.read_box-local.ensures.did.1 in (
      default_after_loads v x w (box_id c.args.b) f g first then own,
      counts_loaded v x w (box_id c.args.b) f g first then 0 (sym (sym (adds f g) ∙ eqb-true _ 0 zero)),
    )

pub returns-clause-other : goal.returns-clause-other
returns-clause-other c off =
    let f = c.read_box-shared.result in
    let g = c.read_box-local.result in
    inr (
      (f + 4 * g) % 2 ^ 64,
      (λ z. not_zero _ off (adds f g ∙ z)),
      counts_loaded (view c.args.pass.now) (view c.read_box-shared.new.pass) (view c.read_box-local.new.pass) (box_id c.args.b) f g c.read_box-shared.ensures.did.1 c.read_box-local.ensures.did.1 ((f + 4 * g) % 2 ^ 64) refl,
    )
