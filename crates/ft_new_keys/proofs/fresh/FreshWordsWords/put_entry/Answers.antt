use Rattle.ft_bank.specs.Passes.{shape_of}
use Rattle.ft_search.proofs.WordPlaces.{entry_in}
use Rattle.ft_new_keys.proofs.fresh.FreshWordsWords.put_entry.Goals as goal

pub put_fresh_word-requires-clause-word : goal.put_fresh_word-requires-clause-word
put_fresh_word-requires-clause-word c =
    let s = c.args.self.now in
    let can = c.requires.can.0 in
    entry_in (shape_of s.bank.now) s.table s.mask c.args.place c.args.word can.table_in can.mask
    c.requires.place.0 c.requires.place.1
