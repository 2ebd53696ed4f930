use Rattle.std.specs.Prelude.{slice_set}
use Rattle.ft_layout.specs.Tables.{entry_at}
use Rattle.ft_trace.proofs.DictWrites.{EntryVersionsChangeNothing}
use Rattle.ft_trace.proofs.SetAdds.{elements_may_be_added}
use Rattle.ft_trace.proofs.laws.elements_may_be_added.Goals as goal

pub returns : goal.returns
returns c =
    let versions : EntryVersionsChangeNothing = λ walk room texts mask used words place version inside table. c.versions_change_nothing.ensures.entries walk room texts mask used words (slice_set words (entry_at mask place 0) version) inside (c.versions_change_nothing.ensures.entry mask words place version) table in
    elements_may_be_added versions c.used_entries_follow_a_set.ensures.first
