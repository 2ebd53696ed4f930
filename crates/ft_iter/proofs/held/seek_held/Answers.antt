use Rattle.std.proofs.Common.{map}
use Rattle.ft_bank.specs.TableNames.{table_id}
use Rattle.ft_search.specs.TableWords.{access_act, known_words}
use Rattle.ft_search.proofs.Running.{ran, ran_known, looks_calls}
use Rattle.ft_iter.proofs.held.seek_held.Goals as goal

pub returns-clause-same : goal.returns-clause-same
returns-clause-same g c = let s = c.seek_words.ensures.finds in (ran c.args.words.now s.0 c.seek_words.new.words s.1).0

pub returns-clause-knows : goal.returns-clause-knows
returns-clause-knows g c =
    let s = c.seek_words.ensures.finds in
    let r = ran_known c.args.words.now s.0 c.seek_words.new.words s.1 c.requires.knows s.2 in
    (r.0, r.1)

pub returns-clause-looks : goal.returns-clause-looks
returns-clause-looks g c =
    let z = c.args.words.now in
    let s = c.seek_words.ensures.finds in
    (map (access_act z.o (table_id z.table)) s.0, looks_calls z.o (table_id z.table) s.0 s.2, (ran z s.0 c.seek_words.new.words s.1).1)

pub returns-clause-finds : goal.returns-clause-finds
returns-clause-finds g c =
    let z = c.args.words.now in
    let s = c.seek_words.ensures.finds in
    let r = ran_known z s.0 c.seek_words.new.words s.1 c.requires.knows s.2 in
    s.3 (known_words z) r.2
