use Rattle.std.specs.Prelude.{slice_set}
use Rattle.ft_layout.specs.Tables.{entry_at}
use Rattle.ft_trace.proofs.DictWrites.{EntryVersionsChangeNothing, ValuesKeepSerials, values_may_be_put}
use Rattle.ft_trace.proofs.laws.values_may_be_put.Goals as goal

pub returns : goal.returns
returns c =
    let versions : EntryVersionsChangeNothing = λ walk room texts mask used words place version inside table. c.versions_change_nothing.ensures.entries walk room texts mask used words (slice_set words (entry_at mask place 0) version) inside (c.versions_change_nothing.ensures.entry mask words place version) table in
    let serials : ValuesKeepSerials = λ used pairs place pair value are in_order at. let h = c.used_entries_follow_a_dict.ensures.changed used pairs place pair value are in_order at in (h.1, h.2) in
    values_may_be_put versions c.words_follow_a_dict.ensures.changed c.used_entries_follow_a_dict.ensures.live serials c.used_entries_follow_a_dict.ensures.first
