use Rattle.std.proofs.Common.{◌≡◌, ◌+◌, ◌++◌, length}
use Rattle.ft_model.specs.Contents.{pairs_from}
use Rattle.ft_model.proofs.dict.with_serials.Given as goal

abbrev pub invariant-loop-pair : goal.invariant-loop-pair
invariant-loop-pair l = record {
  rest : l.copy.items ++ pairs_from (l.next + length l.copy.items) l.pair-iterator ≡ pairs_from l.next l.dict.pairs;
  room : length l.copy.items + length l.pair-iterator ≡ length l.dict.pairs;
}
