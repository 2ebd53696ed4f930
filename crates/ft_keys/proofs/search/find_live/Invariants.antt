use Rattle.std.proofs.Common.{◌≡◌, ◌+◌, ◌≤◌, length}
use Rattle.ft_keys.specs.Searches.{Shows}
use Rattle.ft_keys.proofs.SlotTries.{Passed}
use Rattle.ft_keys.proofs.search.find_live.Given as goal

abbrev pub invariant-entries : goal.invariant-entries
invariant-entries g l =
    let mask = l.fn.walk.mask in
    let first = l.fn.walk.left in
    record {
      can : g.W.Words.can l.words × (g.W.Words.may_put l.fn.words → g.W.Words.may_put l.words) × (g.W.Words.mask l.words ≡ g.W.Words.mask l.fn.words);
      same_mask : l.walk.mask ≡ mask;
      count : l.walk.passed + length l.walk.left ≡ l.fn.walk.passed + length first;
      shows : Shows g.W.Words.gave mask first l.walk.left l.fn.words l.words l.fn.steps l.steps (λ words. Passed mask words l.key first l.walk.left);
      cost : l.steps + length l.walk.left ≤ l.fn.steps + length first;
    }

abbrev pub decreases-entries : goal.decreases-entries
decreases-entries g l = length l.walk.left
