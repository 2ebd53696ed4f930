use Rattle.std.proofs.Common.{◌≡◌, ℕ, ◌+◌, ◌<◌, List, length, sym, ap, ◌∙◌, subst, arith}
use Rattle.ft_bank.specs.NewPasses.{opening_view, HasMade, IsOpening, AreOpening}
use Rattle.ft_bank.specs.Passes.{shape_of, view}
use Rattle.ft_bank.proofs.Openings.{may_make, has_made, made_is, first_is, are_more, length_snoc}
use Rattle.ft_bank.specs.declared.pass.Pass.{Pass}
use Rattle.ft_bank.proofs.bank.Bank.others.Goals as goal

pub loop-init : goal.loop-init
loop-init c = (c.requires.pass, c.requires.made, c.requires.sections, ap (λ (l : List Pass). length l) c.new-passes.ensures.items, subst (AreOpening c.args.self.now 1) (sym c.new-passes.ensures.items) tt)

pub split-requires-clause-pass : goal.split-requires-clause-pass
split-requires-clause-pass c = c.loop.invariant.0

pub split-requires-clause-may : goal.split-requires-clause-may
split-requires-clause-may c = may_make (shape_of c.args.self.now) c.loop.counter (view c.loop.first) c.loop.invariant.1 (let low = c.loop-test.true in omega (arith, low))

pub loop-preserved : goal.loop-preserved
loop-preserved c =
    let b = c.args.self.now in
    let i = c.loop.counter in
    let v = view c.loop.first in
    let low : i + 1 < b.shape.passes = (let t = c.loop-test.true in omega (arith, t)) in
    let inv = c.loop.invariant in
    let e = c.in_ok-push.ensures.items in
    let made : IsOpening b (1 + length c.loop.passes.items) c.split.result = (
      c.split.ensures.passes.1,
      c.split.ensures.made ∙ (made_is (shape_of b) i v inv.1 ∙ ap (λ (n : ℕ). opening_view (shape_of b) n) (place i (length c.loop.passes.items) inv.3)),
      c.split.ensures.sections.1,
    ) in (
      c.split.ensures.passes.0,
      subst (HasMade (shape_of b) (i + 1)) (sym c.split.ensures.maker) (has_made (shape_of b) i v inv.1 low),
      c.split.ensures.sections.0 ∙ inv.2,
      ap (λ (l : List Pass). length l) e ∙ (length_snoc c.loop.passes.items c.split.result ∙ ap (λ (n : ℕ). n + 1) inv.3),
      subst (AreOpening b 1) (sym e) (are_more b 1 c.loop.passes.items c.split.result inv.4 made),
    )
  where
    place : (i n : ℕ) → n ≡ i → i + 1 ≡ 1 + n
    place i n same = omega (arith, same)

pub returns-clause-first : goal.returns-clause-first
returns-clause-first c =
    let b = c.args.self.now in
    let inv = c.loop.invariant in
    let all : c.loop.counter + 1 ≡ b.shape.passes = (let f = c.loop-test.false in let g = c.loop.auto.counter-end in let p = b.fits.passes.0 in omega (arith, f, g, p)) in
    (inv.0, first_is (shape_of b) c.loop.counter (view c.loop.first) inv.1 all, inv.2)

pub returns-clause-count : goal.returns-clause-count
returns-clause-count c =
    let f = c.loop-test.false in
    let g = c.loop.auto.counter-end in
    let p = c.args.self.now.fits.passes.0 in
    let n = c.loop.invariant.3 in
    omega (arith, f, g, p, n)

pub returns-clause-passes : goal.returns-clause-passes
returns-clause-passes c = c.loop.invariant.4
