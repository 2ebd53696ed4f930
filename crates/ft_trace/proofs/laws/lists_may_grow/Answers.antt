use Rattle.std.specs.Prelude.{slice_set}
use Rattle.ft_layout.specs.Tables.{item_at}
use Rattle.ft_trace.proofs.ListGrowing as writes
use Rattle.ft_trace.proofs.ItemPuts.{VersionsChangeNothing}
use Rattle.ft_trace.proofs.laws.lists_may_grow.Goals as goal

pub returns : goal.returns
returns c =
    let versions : VersionsChangeNothing = λ mask values words place version table. c.versions_change_nothing.ensures.items mask values words (slice_set words (item_at place 0) version) (c.versions_change_nothing.ensures.item words place version) table in
    writes.lists_may_grow versions
