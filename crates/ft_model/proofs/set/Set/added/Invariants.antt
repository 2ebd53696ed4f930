use Rattle.std.proofs.Common.{◌≡◌, ◌+◌, ◌≤◌, ◌++◌, length}
use Rattle.ft_model.specs.Contents.{elements_from, those_not_in}
use Rattle.ft_model.proofs.set.Set.added.Given as goal

abbrev pub invariant-loop-element : goal.invariant-loop-element
invariant-loop-element l = record {
  rest : l.added.items ++ elements_from (l.self.next + length l.added.items) (those_not_in l.self.elements l.element-iterator) ≡ elements_from l.self.next (those_not_in l.self.elements l.other.elements);
  room : length l.added.items + length l.element-iterator ≤ length l.other.elements;
}
