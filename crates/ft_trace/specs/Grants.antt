-- What a pass may do next, and go on to do: conditions that callers can meet.
use Rattle.std.specs.Prelude.{◌≡◌, ◌≢◌, ℕ, suc, ◌*◌, ◌^◌, ◌<◌, true, false, List}
use Rattle.ft_model.specs.declared.call.Call.TheVariants as call
use Rattle.ft_model.specs.declared.call.ListCall.TheVariants as list
use Rattle.ft_model.specs.declared.content.Content.TheVariants as content
use Rattle.ft_model.specs.declared.data.Value.{Value}
use Rattle.ft_model.specs.declared.reply.Reply.TheVariants as reply
use Rattle.ft_trace.specs.declared.Snap.{Snap}
use Rattle.ft_trace.specs.declared.View.{View}
use Rattle.ft_trace.specs.declared.Act.TheVariants.{StartWrite, PutRoot, PutBlock, Commit, StopWrite, Unlock, Retire, Announce, ReadAnnounced, GiveTable}
use Rattle.ft_trace.specs.Addresses.{container_count, IsTableName}
use Rattle.ft_trace.specs.Acts.{has_lock, is_writing, used, owes, flight, stage, view_after}
use Rattle.ft_trace.specs.Pictures.{root_in}
use Rattle.ft_trace.specs.Holds.{held_words, known_state}
use Rattle.ft_trace.specs.Boxes.{references_held, place_use, use_taken}
use Rattle.ft_trace.specs.Traces.{IsReachable, IsAwake}

-- a pass that has the lock of o may begin to write it: it writes nothing, is in the midst of nothing, has a call left,
-- holds few references, each box that it made was stored by a write, and the bank's calls are few enough for its words
pub record MayWrite (v : View) (o : ℕ) : Type 0 where
  pub live : IsAwake v
  pub possible : IsReachable v
  pub few : v.shape.passes * v.shape.calls < 2 ^ 46
  pub low : o < container_count v.shape
  pub mine : has_lock o v.log ≡ true
  pub quiet : (p : ℕ) → is_writing p v.log ≡ false
  pub spare : used v.log ≡ false
  pub none : owes v.log ≡ 0
  pub room : 0 < v.left
  pub few_references : (b : ℕ) → references_held v.shape b v.log < 2 ^ 31
  pub stored : (b : ℕ) → place_use b v.log ≢ use_taken

-- what a pass knows that then cleared a list: numbers that it found, and what stood in the bank at its commit
abbrev pub after_clear : View → ℕ → ℕ → ℕ → Snap → ℕ → View
after_clear v o start number s stop =
    view_after (Unlock o)
    (view_after (StopWrite o stop)
    (view_after (Commit (call.List o list.Clear) reply.Done number s)
    (view_after (PutBlock o 1 0)
    (view_after (PutRoot o 0 (root_in (held_words o v))) (view_after (StartWrite o start) v)))))

-- a pass with the lock of a list may clear it, whatever other passes have done
abbrev pub ListsMayBeCleared : Type 0
ListsMayBeCleared =
    (v : View) (o : ℕ) (values : List Value) → MayWrite v o → (known_state o v).content ≡ content.List values
    → (start number : ℕ) × (s : Snap) × (stop : ℕ) × IsReachable (after_clear v o start number s stop)

-- what a pass knows that retired a table, went offline and gave the table back
abbrev pub after_retiring : View → ℕ → ℕ → ℕ → View
after_retiring v t goal found =
    view_after (GiveTable t) (view_after (ReadAnnounced v.number found)
    (view_after (Announce v.number 0) (view_after (Retire t goal) v)))

-- the one pass of a bank may retire a table that it took out of a root by a clear, and give it back
abbrev pub ClearedTablesMayBeGivenBack : Type 0
ClearedTablesMayBeGivenBack =
    (v : View) (o t : ℕ) (values : List Value) → MayWrite v o → (known_state o v).content ≡ content.List values
    → v.number ≡ 1 → v.shape.passes ≡ 1 → flight v.log ≡ 0 → root_in (held_words o v) ≡ suc t
    → (start number : ℕ) × (s : Snap) × (stop goal found : ℕ)
    × IsReachable (after_retiring (after_clear v o start number s stop) t goal found)

-- the view is of a pass that is in the midst of no taking or giving
pub record Ends (v : View) : Type 0 where
  pub view : View
  pub possible : IsReachable view
  pub idle : flight view.log ≡ 0

-- a pass that found a count above 0 may lower it and take a bit, or raise it again
abbrev pub TakingsEnd : Type 0
TakingsEnd =
    (v : View) → IsAwake v → IsReachable v → (t old : ℕ) → IsTableName v.shape t → 0 < old → flight v.log ≡ 0
    → owes v.log ≡ 0 → stage t v.log ≡ 0 → Ends v
