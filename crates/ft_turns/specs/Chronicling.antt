-- That the entries of the turns are a chronicle of their script.
use Rattle.std.specs.Prelude.{◌≡◌, ℕ, ◌-◌, ◌^◌, ◌<◌, ◌≤◌, true, false, List, map, length, All}
use Rattle.ft_model.specs.declared.call.Call.{Call}
use Rattle.ft_model.specs.declared.content.Content.{Content}
use Rattle.ft_model.specs.declared.entry.Entry.{Entry}
use Rattle.ft_model.specs.declared.entry.Storage.TheVariants as storage
use Rattle.ft_model.specs.declared.script.ScriptParts.{ScriptParts}
use Rattle.ft_model.specs.Histories.{writes, world_at, calls_of, IsChronicle}
use Rattle.ft_model.specs.Worlds.{IsDeclared, HasRoom}
use Rattle.ft_model.specs.Parts.{IsEntryOf, IsWorldOf}
use Rattle.ft_turns.specs.AnsweredTurns.{asks_container, hands_in, tally_in, Progress, next_index}
use Rattle.ft_turns.specs.Orders.{thread_at, last_machine, order_of, ordered_entry}

-- each thread's calls have finished in the turns
abbrev pub AllFinish : ScriptParts → Type 0
AllFinish script =
    (thread : ℕ) → length (thread_at (last_machine script) thread).marks ≡ length (calls_of script thread)

-- these entries and this world come of the script's turns: the entries are a chronicle of the script in the order of
-- the turns, with the marks that the turns give, and the world is the one that they leave
pub record IsChronicleOfTurns (script : ScriptParts) (entries : List Entry) (world : List Content) : Type 0 where
  pub chronicled : IsChronicle storage.Plain script entries
  pub order : map ordered_entry entries ≡ order_of script
  pub entries_of : All (IsEntryOf script) entries
  pub world_is : world ≡ world_at script entries (length (writes entries))
  pub world_of : IsWorldOf script world

-- what answering the next call of a thread asks for: the thread has its hands and its tally, which counts no more than
-- the calls of a script, and a container is asked for what is declared, with a cursor that was made, and has serials
-- left
pub record IsAnswerable (progress : Progress) (thread : ℕ) (called : Call) : Type 0 where
  pub hands : thread < length progress.answers.hands
  pub tally : thread < length progress.answers.tallies
  pub few : (tally_in progress.answers thread).count < 2 ^ 32 - 1
  pub index : next_index progress.machine thread ≤ 500000
  pub declared : (thread_at progress.machine thread).fixed ≡ false → asks_container called ≡ true
      → IsDeclared progress.answers.world (hands_in progress.answers thread) called
  pub room : (thread_at progress.machine thread).fixed ≡ false → asks_container called ≡ true
      → HasRoom progress.answers.world called
