use Rattle.std.proofs.Common.{ℕ, List, ◌++◌, subst}
use Rattle.ft_keys.specs.Accesses.{AreAnswered}
use Rattle.ft_keys.proofs.Shown.{runs-append, loads-append, fits-append, loads-leave}
use Rattle.ft_iter.specs.Seeking.{HasEntry}
use Rattle.ft_iter.proofs.pairs.seek_words.Goals as goal

pub returns-in-Some-clause-finds : goal.returns-in-Some-clause-finds
returns-in-Some-clause-finds g c =
    let mask = g.W.Words.mask c.args.words.now in
    let place = c.in-Some.place in
    let one = c.in-Some.ensures.seeks in
    let two = c.read_words.ensures.reads in (
      two.0 ++ one.calls,
      runs-append g.W.Words.gave c.args.words.now c.seek.new.words c.read_words.new.words one.calls two.0 one.runs two.1,
      loads-append one.calls two.0 one.loads two.2,
      λ ws fits.
          let both = fits-append mask one.calls two.0 ws fits in
          let later : AreAnswered mask two.0 ws = subst (AreAnswered mask two.0) (loads-leave mask one.calls ws one.loads) both.1 in
          let said = subst (λ (m : ℕ). (words : List ℕ) → AreAnswered m two.0 words → HasEntry m words place c.read_words.result) c.seek.ensures.can.2 two.3 in
          (place, c.in-Some.ensures.within, one.shown ws both.0, said ws later),
    )

pub returns-in-None-clause-finds : goal.returns-in-None-clause-finds
returns-in-None-clause-finds g c =
    let one = c.in-None.ensures.seeks in
    (one.calls, one.runs, one.loads, λ ws fits. one.shown ws fits)
