-- What the judge keeps before a place, and what it finds there.
use Rattle.std.specs.Prelude.{◌≡◌, ◌↔◌, ℕ, Bool, true, false, IsTrue, ◌&&◌, ◌+◌, ◌<◌, ◌≤◌, List, map, take, length, Option, Some, None, is_some, slice_get, slice_set, slice_index_or, if◌then◌else◌}
use Rattle.ft_model.specs.declared.entry.Entry.{Entry}
use Rattle.ft_model.specs.declared.entry.Rule.{Rule}
use Rattle.ft_model.specs.declared.entry.Rule.TheVariants as rule
use Rattle.ft_model.specs.declared.entry.Storage.{Storage}
use Rattle.ft_model.specs.declared.script.Thread.{Thread}
use Rattle.ft_model.specs.declared.script.ScriptParts.{ScriptParts}
use Rattle.ft_model.specs.Worlds.{kind_of}
use Rattle.ft_model.specs.Answers.{answer, is_memory}
use Rattle.ft_model.specs.Boxings.{boxes}
use Rattle.ft_model.specs.Histories.{writes, names, IsReplied}
use Rattle.ft_model.specs.Judging.{Holds, HoldsAt, rank_of}
use Rattle.ft_history.specs.declared.progress.ThreadProgress.{ThreadProgress}
use Rattle.ft_history.specs.declared.writers.LastWrites.{LastWrites}
use Rattle.ft_history.specs.declared.state.State.{State}
use Rattle.ft_history.specs.Internal.Accounts.{IsAccount, CountsCall}
use Rattle.ft_history.specs.Internal.States.{world_before, all_begun, after_begun, after_one, IsProgress, AreHandsOf, AreLastWrites}

-- the state says what the entries before a place come to
pub record IsState (script : ScriptParts) (entries : List Entry) (place : ℕ) (state : State) : Type 0 where
  pub world : state.world ≡ world_before script entries place
  pub kinds : map kind_of state.world ≡ map (λ container. container.start.kind) script.containers
  pub count : state.writes ≡ length (writes (take place entries))
  pub threads : length state.threads.items ≡ length script.threads
  pub progress : (thread : ℕ) (progress : ThreadProgress) → slice_get state.threads.items thread ≡ Some progress
      → IsProgress script entries thread place progress
  pub hands : (thread : ℕ) (progress : ThreadProgress) → slice_get state.threads.items thread ≡ Some progress
      → AreHandsOf script thread progress.made progress.hands
  pub containers : length state.containers.items ≡ length script.containers
  pub lasts : (container : ℕ) (last : LastWrites) → slice_get state.containers.items container ≡ Some last
      → AreLastWrites entries place container last
  pub account : IsAccount script (writes (take place entries)) state.account

-- the state goes on after an entry of the thread that went on from one progress to another
pub record GoesAfter (place : ℕ) (entry : Entry) (said : Bool) (before after : ThreadProgress)
    (old new : State) : Type 0 where
  pub at : slice_get old.threads.items entry.thread ≡ Some before
  pub threads : new.threads.items ≡ slice_set old.threads.items entry.thread after
  pub right : IsTrue said ↔ IsReplied entry.call entry.reply (answer old.world before.hands entry.call).reply
  pub world : new.world
      ≡ (if is_memory entry.reply then old.world else (answer old.world before.hands entry.call).world)
  pub hands : after.hands
      ≡ (if is_memory entry.reply then before.hands else (answer old.world before.hands entry.call).hands)
  pub made : after.made ≡ before.made + 1
  pub marks : after.marks ≡ before.marks + (if is_some entry.waited then 1 else 0)
  pub boxed : after.boxed ≡ before.boxed + (if entry.wrote && boxes old.world entry.call then 1 else 0)
  pub sections : all_begun after.sections.items
      ≡ after_begun place after.marks entry.call (all_begun before.sections.items)
  pub writes : new.writes ≡ old.writes + (if entry.wrote then 1 else 0)
  pub containers : length new.containers.items ≡ length old.containers.items
  pub lasts : (container : ℕ) (other : LastWrites) → slice_index_or new.containers.items container other
      ≡ (if entry.wrote
      && names container entry.call
      then after_one (slice_index_or old.containers.items container other) entry.thread place
      else slice_index_or old.containers.items container other)
  pub taking : entry.wrote ≡ true → CountsCall old.world new.world entry.call old.account new.account
  pub same : entry.wrote ≡ false → new.account ≡ old.account

-- every rule holds at every place before this one
abbrev pub IsUnbrokenBefore : Storage → ScriptParts → List Entry → ℕ → Type 0
IsUnbrokenBefore storage script entries place =
    (before : ℕ) (rule : Rule) → before < place → HoldsAt storage script entries before rule

-- a number of first rules hold of the entry
abbrev pub HoldsFirst : Storage → ScriptParts → List Entry → ℕ → Entry → ℕ → Type 0
HoldsFirst storage script entries place entry count =
    (other : Rule) → rank_of other < count → Holds storage script entries other place entry

-- it is the first that the entry breaks
pub record BreaksFirst (storage : Storage) (script : ScriptParts) (entries : List Entry) (place : ℕ) (entry : Entry)
    (rule : Rule) : Type 0 where
  pub before : HoldsFirst storage script entries place entry (rank_of rule)
  pub broken : ¬ (Holds storage script entries rule place entry)

-- of the first three rules, the first that the entry breaks
abbrev pub FindsEarly : Storage → ScriptParts → List Entry → ℕ → Entry → Option Rule → Type 0
FindsEarly storage script entries place entry None = HoldsFirst storage script entries place entry 3
FindsEarly storage script entries place entry (Some rule) = BreaksFirst storage script entries place entry rule

-- of those after the fourth, the first that the entry breaks
pub record HoldsLate (storage : Storage) (script : ScriptParts) (entries : List Entry) (place : ℕ)
    (entry : Entry) : Type 0 where
  pub awaits : Holds storage script entries rule.Await place entry
  pub mark : Holds storage script entries rule.Mark place entry
  pub kept : Holds storage script entries rule.Kept place entry
  pub suspended : Holds storage script entries rule.Suspended place entry
  pub memory : Holds storage script entries rule.Memory place entry

abbrev pub FindsLate : Storage → ScriptParts → List Entry → ℕ → Entry → Option Rule → Type 0
FindsLate storage script entries place entry None = HoldsLate storage script entries place entry
FindsLate storage script entries place entry (Some rule) =
    HoldsFirst storage script entries place entry 4 → BreaksFirst storage script entries place entry rule

-- of all rules, the first that the entry breaks
abbrev pub FindsBroken : Storage → ScriptParts → List Entry → ℕ → Entry → Option Rule → Type 0
FindsBroken storage script entries place entry None = (rule : Rule) → Holds storage script entries rule place entry
FindsBroken storage script entries place entry (Some rule) = BreaksFirst storage script entries place entry rule

-- each thread has made as many calls as it has
abbrev pub HaveMadeAll : List Thread → List ThreadProgress → Type 0
HaveMadeAll threads progresses =
    (thread : ℕ) (found : Thread) (progress : ThreadProgress) → slice_get threads thread ≡ Some found
    → slice_get progresses thread ≡ Some progress → length found.calls ≤ progress.made
