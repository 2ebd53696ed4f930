-- Entries in the order in which their answers were made.
use Rattle.std.specs.Prelude.{◌≤◌, All, List, take}
use Rattle.ft_model.specs.declared.call.Call.{Call}
use Rattle.ft_model.specs.declared.entry.Entry.{Entry}
use Rattle.ft_model.specs.declared.entry.Storage.{Storage}
use Rattle.ft_model.specs.declared.script.ScriptParts.{ScriptParts}
use Rattle.ft_model.specs.Histories.{EachAt, IsAwaited, IsChronicle}
use Rattle.ft_model.specs.Numbers.{AreNumbered, number_after}

-- each entry knows of all writes that there were after each earlier one
abbrev pub AreRising : List Entry → Type 0
AreRising entries =
    EachAt entries (λ place entry. All (λ earlier. number_after earlier ≤ entry.stamp) (take place entries))

-- Entries with numbers that stand so, each await after the call that it names, are a chronicle. The order of a history
-- isn't asked for: other reads of one stamp may stand in any order.
abbrev pub RisingEntriesAreChronicles : Type 0
RisingEntriesAreChronicles =
    (storage : Storage) (script : ScriptParts) (calls : List Call) (entries : List Entry)
    → AreNumbered storage script calls entries → AreRising entries → EachAt entries (IsAwaited entries)
    → IsChronicle storage script entries
