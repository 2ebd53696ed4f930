use Rattle.ft_layout.proofs.Readers.{item_shown}
use Rattle.ft_layout.proofs.take.read_item.Goals as goal

pub returns-clause-shows : goal.returns-clause-shows
returns-clause-shows g c =
    item_shown g.T.Take.gave c.args.start c.word-kind.result c.word-payload.result
    c.args.from.now c.word-kind.new.self c.word-payload.new.self c.word-kind.ensures.gave c.word-payload.ensures.gave
    c.item_of.result c.item_of.ensures.says
