-- Dicts and sets that get the keys of another one: what they have then, which table they take, and what a call comes
-- to that joins them.
use Rattle.std.specs.Prelude.{◌≡◌, ◌⊎◌, ℕ, ◌-◌, true, Option, Some}
use Rattle.ft_model.specs.declared.call.Call.{Call}
use Rattle.ft_model.specs.declared.content.Content.{Content}
use Rattle.ft_model.specs.declared.content.Content.TheVariants as content
use Rattle.ft_model.specs.declared.data.Key.{Key}
use Rattle.ft_model.specs.declared.reply.Reply.TheVariants as reply
use Rattle.ft_model.specs.declared.script.Kind.TheVariants as kind
use Rattle.ft_model.specs.Answers.{is_write}
use Rattle.ft_model.specs.Contents.{dict_update, set_or}
use Rattle.ft_model.specs.TableUses.{CanLackMemory, StoredWorld, after_stored, grown_table, passes_cap, takes_in, would_pass}
use Rattle.ft_model.specs.Worlds.{IsDeclared, dict_of, length_of, no_hands, serial_of, set_of}
use Rattle.ft_layout.specs.declared.slot.Ref.{Ref}
use Rattle.ft_layout.specs.Words.{FitsKey}
use Rattle.ft_trace.specs.declared.Shape.{Shape}
use Rattle.ft_trace.specs.declared.View.{View}
use Rattle.ft_trace.specs.FitCalls.{FitsCall}
use Rattle.ft_trace.specs.Holds.{known_state}
use Rattle.ft_trace.specs.BegunSections.{HasLocksOf}
use Rattle.ft_trace.specs.ContainerStates.{ContainerState, changes, kind_in, state_at}
use Rattle.ft_bank.specs.Whole.{OnlyLoaded}
use Rattle.ft_bank.specs.WriteSteps.{MayHave}
use Rattle.ft_table_calls.specs.declared.adding.Added.{Added}
use Rattle.ft_table_calls.specs.Adding.{IsAdded, WasMade}
use Rattle.ft_search.specs.Held.{IsHeldAt}
use Rattle.ft_search.specs.HeldValues.{NamesBoxAt}
use Rattle.ft_search.specs.MadeCalls.{IsReplyTo}
use Rattle.ft_new_keys.specs.KeyGrowth.{keys_take}

-- what a dict has once it is updated with another one, and a set that gets the elements of another one (Python manual,
-- Mapping Types, Set Types)
abbrev pub joined : Content → Content → Content
joined (content.Dict dict) others = content.Dict (dict_update dict (dict_of others).pairs)
joined (content.Set set) others = content.Set (set_or set (set_of others).elements)
joined (content.List values) others = content.List values
joined (content.Deque deque) others = content.Deque deque

-- how many new keys it has then: each draws a serial (profile)
abbrev pub new_keys : Content → Content → ℕ
new_keys content others = serial_of (joined content others) - serial_of content

-- the class of the table that it takes for them, if its own has no room (profile)
abbrev pub join_takes : ContainerState → Content → Option ℕ
join_takes kept others = keys_take kept.content kept.table (new_keys kept.content others)

-- it, and the table that it has then
abbrev pub joined_state : ContainerState → Content → ContainerState
joined_state kept others =
    record {
      content = joined kept.content others;
      table = grown_table
          kept.table
          (join_takes kept others)
          (new_keys kept.content others)
          (length_of (joined kept.content others));
    }

-- A call joins the container t to the container o: it replies that it is done, and o has these keys and this table
-- then, whatever else the bank has that agrees with what the pass knows; the pass has the locks of both. (Python
-- manual, Mapping Types, Set Types)
pub record JoinsKeys (o t : ℕ) (called : Call) (v : View) : Type 0 where
  pub write : is_write called reply.Done ≡ true
  pub changed : changes called ≡ o
  pub words : FitsCall called
  pub locks : HasLocksOf called v.log
  pub replied : IsReplyTo called reply.Done v
  pub declared : (found : StoredWorld) → MayHave v found → IsDeclared found.world no_hands called
  pub lacks : (found : StoredWorld) → MayHave v found → CanLackMemory found.world called
  pub over : (found : StoredWorld) → MayHave v found
      → would_pass found.world called ≡ passes_cap (joined (known_state o v).content (known_state t v).content)
  pub takes : (found : StoredWorld) → MayHave v found
      → takes_in found called ≡ join_takes (known_state o v) (known_state t v).content
  pub left_is : (found : StoredWorld) → MayHave v found
      → state_at (after_stored found called) o ≡ joined_state (known_state o v) (known_state t v).content

-- the two containers have the key, and equal values there
abbrev pub HaveEqual : ℕ → ℕ → Key → View → Type 0
HaveEqual o t key v =
    (words : ℕ × ℕ) × IsHeldAt (known_state o v).content key (Some words)
    × IsHeldAt (known_state t v).content key (Some words)

-- Where the entry of a key in the table of the dict t named a box, that of the key in the table of the dict o names that
-- box then; or o had an equal value at the key.
abbrev pub SharesValues : ℕ → ℕ → View → View → Type 0
SharesValues o t v w =
    (key : Key) (b : Ref) → FitsKey key → NamesBoxAt t key b v → NamesBoxAt o key b w ⊎ HaveEqual o t key v

-- What such a call comes to under the locks: after loads, by the class of the table that o takes for the new keys, if
-- it takes one, and by whether it would have more keys than the largest table holds.
abbrev pub AddsKeysOf : Shape → ℕ → ℕ → Call → View → View → Added → Type 0
AddsKeysOf k o t called v w what =
    (u : View) × OnlyLoaded v u
    × IsAdded k (join_takes (known_state o v) (known_state t v).content)
    (passes_cap (joined (known_state o v).content (known_state t v).content)) called reply.Done u w what

-- And where they are dicts, a value that stands in a box stands in that box in both once the call was made. (profile)
abbrev pub JoinsBy : Shape → ℕ → ℕ → Call → View → View → Added → Type 0
JoinsBy k o t called v w what =
    AddsKeysOf k o t called v w what × (kind_in k.starts t ≡ kind.Dict → WasMade what → SharesValues o t v w)
