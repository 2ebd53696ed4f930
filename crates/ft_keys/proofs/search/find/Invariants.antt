use Rattle.std.proofs.Common.{◌≡◌, ◌+◌, List, length}
use Rattle.ft_keys.specs.declared.words.Access.{Access}
use Rattle.ft_keys.specs.Accesses.{Runs, index_loads}
use Rattle.ft_keys.proofs.Loading.{SoFar}
use Rattle.ft_keys.proofs.search.find.Given as goal

abbrev pub invariant-slots : goal.invariant-slots
invariant-slots g l =
    let mask = l.fn.walk.mask in
    let first = l.fn.walk.left in
    record {
      can : g.W.Words.can l.words × (g.W.Words.may_put l.fn.words → g.W.Words.may_put l.words) × (g.W.Words.mask l.words ≡ g.W.Words.mask l.fn.words);
      same_mask : l.walk.mask ≡ mask;
      count : l.walk.passed + length l.walk.left ≡ l.fn.walk.passed + length first;
      loads : (calls : List Access) × Runs g.W.Words.gave l.fn.words calls l.words × SoFar mask l.key first l.walk.left calls × (l.steps ≡ l.fn.steps + index_loads calls);
    }

abbrev pub decreases-slots : goal.decreases-slots
decreases-slots g l = length l.walk.left
