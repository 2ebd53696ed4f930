use Rattle.std.proofs.Common.{◌≡◌, ◌≤◌, ◌<◌, ◌+◌, ℕ, true, false, length, Some, sym, ap, ◌∙◌, subst, arith}
use Rattle.std.proofs.Math.Decide.{dec_lt}
use mathlib.Core.Logic.{dite}
use Rattle.ft_layout.specs.Tables.{entry_word}
use Rattle.ft_iter.specs.Seeking.{is_there, gone_loads, FewPassed, IsFirstThere}
use Rattle.ft_iter.proofs.Probing.{probed-more, gone-one}
use Rattle.ft_iter.proofs.seeking.first_there.Goals as goal

pub returns-then-says_there-clause-probed : goal.returns-then-says_there-clause-probed
returns-then-says_there-clause-probed g c =
    let inv = c.loop-place.invariant in
    let mask = g.W.Words.mask c.args.words.now in
    let place = c.loop-place.place in
    let kind = c.entry-kind in
    let there : is_there kind.result ≡ true = sym c.says_there.ensures ∙ c.if-says_there.true in
    probed-more g.W.Words.gave mask c.args.words.now c.loop-place.words kind.new.self c.args.steps.now c.loop-place.steps c.tick.new.self place 2 kind.result
    (λ calls. length calls ≤ gone_loads calls) FewPassed (λ ws. (other : ℕ) → c.args.from ≤ other → other < place → is_there (entry_word mask ws other 2) ≡ false) (λ ws. IsFirstThere mask ws c.args.from c.args.fill (Some place))
    c.tick.ensures (λ calls few. omega (arith, few))
    (λ ws before value. (c.loop-place.auto.place, c.loop-place-test.true, ap is_there (sym value) ∙ there, before)) inv.probed kind.ensures.gave

pub loop-place-preserved : goal.loop-place-preserved
loop-place-preserved g c =
    let inv = c.loop-place.invariant in
    let mask = g.W.Words.mask c.args.words.now in
    let place = c.loop-place.place in
    let kind = c.entry-kind in
    let gone : is_there kind.result ≡ false = sym c.says_there.ensures ∙ c.if-says_there.false in
    let one = gone-one place kind.result gone in
    record {
      can = (kind.ensures.can.0, λ may. kind.ensures.can.1 (inv.can.1 may), kind.ensures.can.2 ∙ inv.can.2);
      probed = probed-more g.W.Words.gave mask c.args.words.now c.loop-place.words kind.new.self c.args.steps.now c.loop-place.steps c.tick.new.self place 2 kind.result
          (λ calls. length calls ≤ gone_loads calls) (λ calls. length calls ≤ gone_loads calls) (λ ws. (other : ℕ) → c.args.from ≤ other → other < place → is_there (entry_word mask ws other 2) ≡ false)
          (λ ws. (other : ℕ) → c.args.from ≤ other → other < place + 1 → is_there (entry_word mask ws other 2) ≡ false)
          c.tick.ensures (λ calls few. omega (arith, few, one))
          (λ ws before value other more less.
          dite (dec_lt other place) (λ (low : other < place). before other more low)
          (λ high. let same : place ≡ other = omega (arith, high, less) in subst (λ (z : ℕ). is_there (entry_word mask ws z 2) ≡ false) same (ap is_there (sym value) ∙ gone))) inv.probed kind.ensures.gave;
    }
