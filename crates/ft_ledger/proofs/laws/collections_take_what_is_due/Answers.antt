use Rattle.std.proofs.Common.{refl}
use Rattle.ft_ledger.proofs.Collections.{collection_keeps}
use Rattle.ft_ledger.proofs.Counts.{collected_count}
use Rattle.ft_ledger.proofs.laws.collections_take_what_is_due.Goals as goal

pub returns : goal.returns
returns c thread ledger = record {
  number = refl;
  announced = refl;
  stays = λ one. collection_keeps thread ledger one;
  freed = λ counts class is. collected_count thread ledger class counts.classes is counts.counts;
}
