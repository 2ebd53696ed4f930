use Rattle.ft_trace.proofs.ToldEntries.{told_entries_are_seen, awaited_entries_are_known}
use Rattle.ft_trace.proofs.notes.told_entries_are_seen.Goals as goal

pub returns-clause-seen : goal.returns-clause-seen
returns-clause-seen c = told_entries_are_seen

pub returns-clause-known : goal.returns-clause-known
returns-clause-known c = awaited_entries_are_known
