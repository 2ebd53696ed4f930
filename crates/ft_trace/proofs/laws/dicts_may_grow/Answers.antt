use Rattle.std.specs.Prelude.{slice_set}
use Rattle.ft_layout.specs.Tables.{entry_at}
use Rattle.ft_trace.proofs.DictWrites.{EntryVersionsChangeNothing}
use Rattle.ft_trace.proofs.GrownDicts.{dicts_may_grow}
use Rattle.ft_trace.proofs.laws.dicts_may_grow.Goals as goal

pub returns : goal.returns
returns c =
    let versions : EntryVersionsChangeNothing = λ walk room texts mask used words place version inside table. c.versions_change_nothing.ensures.entries walk room texts mask used words (slice_set words (entry_at mask place 0) version) inside (c.versions_change_nothing.ensures.entry mask words place version) table in
    dicts_may_grow versions c.used_entries_follow_a_dict.ensures.first
