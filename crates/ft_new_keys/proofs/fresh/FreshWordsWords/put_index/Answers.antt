use Rattle.ft_bank.specs.Passes.{shape_of}
use Rattle.ft_search.proofs.WordPlaces.{slot_in}
use Rattle.ft_new_keys.proofs.fresh.FreshWordsWords.put_index.Goals as goal

pub put_fresh_word-requires-clause-word : goal.put_fresh_word-requires-clause-word
put_fresh_word-requires-clause-word c =
    let s = c.args.self.now in
    let can = c.requires.can.0 in
    slot_in (shape_of s.bank.now) s.table s.mask c.args.slot can.table_in can.mask c.requires.slot
