use Rattle.std.proofs.Common.{◌≡◌, ℕ, ◌≤◌, ◌<◌, false, length}
use Rattle.ft_layout.specs.Tables.{entry_word}
use Rattle.ft_iter.specs.Seeking.{is_there, gone_loads, Probed}
use Rattle.ft_iter.proofs.seeking.first_there.Given as goal

abbrev pub invariant-loop-place : goal.invariant-loop-place
invariant-loop-place g l = record {
  can : g.W.Words.can l.words × (g.W.Words.may_put l.fn.words → g.W.Words.may_put l.words) × (g.W.Words.mask l.words ≡ g.W.Words.mask l.fn.words);
  probed : Probed g.W.Words.gave (g.W.Words.mask l.fn.words) l.fn.words l.words l.fn.steps l.steps (λ calls. length calls ≤ gone_loads calls) (λ ws. (other : ℕ) → l.from ≤ other → other < l.place → is_there (entry_word (g.W.Words.mask l.fn.words) ws other 2) ≡ false);
}
