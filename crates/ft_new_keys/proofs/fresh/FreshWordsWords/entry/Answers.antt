use Rattle.ft_bank.specs.Passes.{shape_of}
use Rattle.ft_search.proofs.WordPlaces.{entry_in}
use Rattle.ft_new_keys.proofs.fresh.FreshWordsWords.entry.Goals as goal

pub read_word-requires-clause-word : goal.read_word-requires-clause-word
read_word-requires-clause-word c =
    let s = c.args.self.now in
    entry_in (shape_of s.bank.now) s.table s.mask c.args.place c.args.word c.requires.can.table_in c.requires.can.mask
    c.requires.place.0 c.requires.place.1
