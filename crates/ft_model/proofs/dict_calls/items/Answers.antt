use Rattle.std.proofs.Common.{rules}
use Rattle.std.proofs.lemmas.Iterator.{items_from_collect, YieldsList-from_map}
use Rattle.std.proofs.lemmas.Iterator.Consumers.{YieldsList-at, YieldsList-from_rest}
use Rattle.ft_model.specs.declared.content.DictPair.{DictPair}
use Rattle.ft_model.proofs.dict_calls.items.Goals as goal

pub returns : goal.returns
returns c = items_from_collect c.collect.result c.collect.ensures.ran (YieldsList-from_map _ (λ (x : DictPair). (x.key, x.value)) (YieldsList-at c.map.ensures.source (YieldsList-from_rest c.args.dict.now.pairs c.pairs.ensures.pairs)) c.map.ensures.closure (λ x r q k. search rules))
