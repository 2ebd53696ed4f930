use Rattle.std.proofs.Common.{◌≡◌, ◌+◌, ◌≤◌, length}
use Rattle.ft_model.specs.Contents.{dict_update}
use Rattle.ft_model.proofs.dict.Dict.update.Given as goal

abbrev pub invariant-loop-pair : goal.invariant-loop-pair
invariant-loop-pair l = record {
  rest : dict_update l.grown l.pair-iterator ≡ dict_update l.self l.other.pairs;
  room : l.grown.next + length l.pair-iterator ≤ l.self.next + length l.other.pairs;
}
