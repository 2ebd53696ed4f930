use Rattle.ft_bank.specs.Passes.{shape_of}
use Rattle.ft_search.proofs.WordPlaces.{slot_in}
use Rattle.ft_new_keys.proofs.fresh.FreshWordsWords.index.Goals as goal

pub read_word-requires-clause-word : goal.read_word-requires-clause-word
read_word-requires-clause-word c =
    let s = c.args.self.now in
    slot_in (shape_of s.bank.now) s.table s.mask c.args.slot c.requires.can.table_in c.requires.can.mask c.requires.slot
