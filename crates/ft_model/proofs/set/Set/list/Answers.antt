use Rattle.std.proofs.lemmas.Iterator.{items_from_collect}
use Rattle.std.proofs.lemmas.Iterator.Consumers.{YieldsList-at, YieldsList-from_copied, YieldsList-from_rest}
use Rattle.ft_model.proofs.set.Set.list.Goals as goal

pub returns : goal.returns
returns c = items_from_collect c.collect.result c.collect.ensures.ran (YieldsList-from_copied (YieldsList-at c.copied.ensures.source (YieldsList-from_rest c.args.self.now.elements c.elements.ensures.elements)))
