use Rattle.std.proofs.Common.{rules}
use Rattle.std.proofs.lemmas.Iterator.{items_from_collect, YieldsList-from_map}
use Rattle.std.proofs.lemmas.Iterator.Consumers.{YieldsList-at, YieldsList-from_rest}
use Rattle.ft_model.specs.declared.content.Element.{Element}
use Rattle.ft_model.proofs.set_calls.keys.Goals as goal

pub returns : goal.returns
returns c = items_from_collect c.collect.result c.collect.ensures.ran (YieldsList-from_map _ (λ (x : Element). x.key) (YieldsList-at c.map.ensures.source (YieldsList-from_rest c.args.set.now.elements c.elements.ensures.elements)) c.map.ensures.closure (λ x r q k. search rules))
