-- The history that the workers of a script made, beside the entries of the closed bank.
use Rattle.std.specs.Prelude.{◌≡◌, ℕ, List, [], map, reverse, slice_index_or}
use Rattle.ft_model.specs.declared.entry.Entry.{Entry}
use Rattle.ft_model.specs.Histories.{entries_of}
use Rattle.ft_trace.specs.OwnCursors.{plain_entry}
use Rattle.ft_bank.specs.declared.closed.Closed.{Closed}
use Rattle.ft_bank.specs.Closings.{lists_in}

-- Each thread's entries of the history, without thread, index and mark, are those of its pass in the closed bank, which
-- has them newest first. A thread that has no pass has none. (profile)
abbrev pub HasEntriesOf : Closed → List Entry → Type 0
HasEntriesOf closed history =
    (thread : ℕ) → map plain_entry (entries_of thread history) ≡ reverse (slice_index_or (lists_in closed) thread [])
