use Rattle.ft_layout.proofs.Readers.{entry_shown}
use Rattle.ft_layout.proofs.take.read_entry.Goals as goal

pub returns-clause-shows : goal.returns-clause-shows
returns-clause-shows g c =
    entry_shown g.T.Take.gave c.args.start
    c.word-hash.result c.word-kind.result c.word-payload.result c.word-value_kind.result c.word-value.result c.word-serial.result
    c.args.from.now c.word-hash.new.self c.word-kind.new.self c.word-payload.new.self c.word-value_kind.new.self c.word-value.new.self c.word-serial.new.self
    c.word-hash.ensures.gave c.word-kind.ensures.gave c.word-payload.ensures.gave c.word-value_kind.ensures.gave c.word-value.ensures.gave c.word-serial.ensures.gave
    c.entry_of.result c.entry_of.ensures.says
