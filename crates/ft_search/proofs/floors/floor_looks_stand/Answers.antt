use Rattle.ft_search.proofs.Undisturbed.{floor_entries_stand, floor_versions_stand}
use Rattle.ft_search.proofs.floors.floor_looks_stand.Goals as goal

pub returns-clause-versions : goal.returns-clause-versions
returns-clause-versions c = floor_versions_stand

pub returns-clause-entries : goal.returns-clause-entries
returns-clause-entries c = floor_entries_stand
