use Rattle.std.proofs.Common.{◌≡◌, ◌-◌, ◌≤◌}
use Rattle.ft_iter.specs.Seeking.{Probed}
use Rattle.ft_iter.proofs.Halving.{Halved, IsBetween}
use Rattle.ft_iter.proofs.seeking.first_after.Given as goal

abbrev pub invariant-halvings : goal.invariant-halvings
invariant-halvings g l = record {
  can : g.W.Words.can l.words × (g.W.Words.may_put l.fn.words → g.W.Words.may_put l.words) × (g.W.Words.mask l.words ≡ g.W.Words.mask l.fn.words);
  order : (l.low ≤ l.high) × (l.high ≤ l.fill);
  probed : Probed g.W.Words.gave (g.W.Words.mask l.fn.words) l.fn.words l.words l.fn.steps l.steps (Halved l.fill l.low l.high) (λ ws. IsBetween (g.W.Words.mask l.fn.words) ws l.fill l.last l.low l.high);
}

abbrev pub decreases-halvings : goal.decreases-halvings
decreases-halvings g l = l.high - l.low
