-- Scripts whose tables and heaps are enough for all of their calls. (profile)
use Rattle.std.specs.Prelude.{◌≡◌, ℕ, ◌+◌, ◌≤◌, Bool, false, List, length, take}
use Rattle.std.specs.List.{count_by, sum_by}
use Rattle.ft_model.specs.declared.call.Call.{Call}
use Rattle.ft_model.specs.declared.entry.Entry.{Entry}
use Rattle.ft_model.specs.declared.script.ScriptParts.{ScriptParts}
use Rattle.ft_model.specs.declared.script.Start.{Start}
use Rattle.ft_model.specs.Answers.{world_by}
use Rattle.ft_model.specs.Boxings.{boxes}
use Rattle.ft_model.specs.Calls.{can_add}
use Rattle.ft_model.specs.Classes.{IsClass}
use Rattle.ft_model.specs.Histories.{writes, entries_of, EachAt}
use Rattle.ft_model.specs.Worlds.{starts_of}
use Rattle.ft_model.specs.TableUses.{stored_after, table_count, would_pass, CanLackMemory}

-- how many of a script's calls can add to a container
abbrev pub adding_calls : ScriptParts → ℕ
adding_calls script = sum_by (λ thread. count_by can_add thread.calls) script.threads

-- of each class there are as many tables as such calls, and one more for each thread but one
abbrev pub HasEnoughTables : ScriptParts → Type 0
HasEnoughTables script =
    (class : ℕ) → IsClass class → adding_calls script + length script.threads ≤ table_count script.tables class + 1

-- no call that raises nothing else at its place would leave a container with more than the largest table holds
abbrev pub StaysWithinCaps : ScriptParts → List Entry → Type 0
StaysWithinCaps script history =
    EachAt history (λ place entry. CanLackMemory (stored_after script (writes (take place history))).world entry.call
    → would_pass (stored_after script (writes (take place history))).world entry.call ≡ false)

-- whether an entry's call would put a value in a box at its place, where `calls` are all writes in their order,
-- whatever it replied
abbrev pub would_box : List Start → List Call → Entry → Bool
would_box starts calls entry = boxes (world_by starts (take entry.stamp calls)) entry.call

-- no thread makes more calls that would put a value in a box than its heap has places
abbrev pub HasEnoughPlaces : ScriptParts → List Entry → Type 0
HasEnoughPlaces script history =
    (thread : ℕ)
    → count_by (would_box (starts_of script.containers) (writes history)) (entries_of thread history) ≤ script.heap
