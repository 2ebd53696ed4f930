use Rattle.std.proofs.Common.{◌+◌, length}
use Rattle.ft_model.specs.Contents.{pairs_from}
use Rattle.ft_model.proofs.Copies.{IsDict_copy}
use Rattle.ft_model.proofs.PlacedPairs.{are_pairs}
use Rattle.ft_model.proofs.dict.Dict.copy_from.Goals as goal

pub from_slice-requires : goal.from_slice-requires
from_slice-requires c = rw (c.deref.ensures.value, c.in_ok-pairs.ensures.copy) (are_pairs (c.self.inside.next + length c.args.other.now.pairs) (pairs_from c.self.inside.next c.args.other.now.pairs) (IsDict_copy c.self.inside.next c.args.other.now.next c.args.other.now.pairs c.with_serials.ensures.is_dict))

pub invariant_of-self : goal.invariant_of-self
invariant_of-self c = rw (c.in_ok-pairs-2.ensures, c.deref.ensures.value, c.in_ok-pairs.ensures.copy, c.len.ensures.length) (IsDict_copy c.self.inside.next c.args.other.now.next c.args.other.now.pairs c.with_serials.ensures.is_dict)
