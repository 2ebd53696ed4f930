-- Sets that keep what another one hasn't, and get what they haven't of it: what they have then, which table they take,
-- and what a call comes to that parts two sets so.
use Rattle.std.specs.Prelude.{◌≡◌, ℕ, ◌-◌, true, Option, length}
use Rattle.ft_model.specs.declared.call.Call.{Call}
use Rattle.ft_model.specs.declared.content.Content.{Content}
use Rattle.ft_model.specs.declared.content.Content.TheVariants as content
use Rattle.ft_model.specs.declared.reply.Reply.TheVariants as reply
use Rattle.ft_model.specs.Answers.{is_write}
use Rattle.ft_model.specs.Contents.{SetContent, set_xor}
use Rattle.ft_model.specs.TableUses.{CanLackMemory, StoredWorld, after_stored, grown_table, passes_cap, set_takes, takes_in, would_pass}
use Rattle.ft_model.specs.Worlds.{IsDeclared, no_hands, set_of}
use Rattle.ft_trace.specs.declared.Shape.{Shape}
use Rattle.ft_trace.specs.declared.View.{View}
use Rattle.ft_trace.specs.FitCalls.{FitsCall}
use Rattle.ft_trace.specs.Holds.{known_state}
use Rattle.ft_trace.specs.BegunSections.{HasLocksOf}
use Rattle.ft_trace.specs.ContainerStates.{ContainerState, changes, state_at, may_empty}
use Rattle.ft_bank.specs.Whole.{OnlyLoaded}
use Rattle.ft_bank.specs.WriteSteps.{MayHave}
use Rattle.ft_table_calls.specs.declared.adding.Added.{Added}
use Rattle.ft_table_calls.specs.Adding.{IsAdded}
use Rattle.ft_search.specs.MadeCalls.{IsReplyTo}

-- what the first of two sets has then (Python manual, Set Types)
abbrev pub parted : Content → Content → SetContent
parted set others = set_xor (set_of set) (set_of others).elements

-- the class of the table that it takes, if its own has no room for its new elements (profile)
abbrev pub part_takes : ContainerState → Content → Option ℕ
part_takes kept others = set_takes kept.table (set_of kept.content) (parted kept.content others)

-- it, and the table that it has then
abbrev pub parted_state : ContainerState → Content → ContainerState
parted_state kept others =
    record {
      content = content.Set (parted kept.content others);
      table = grown_table
          kept.table
          (part_takes kept others)
          ((parted kept.content others).next - (set_of kept.content).next)
          (length (parted kept.content others).elements);
    }

-- A call parts the set s and the set t: it replies that it is done, and s has this content and this table then,
-- whatever else the bank has that agrees with what the pass knows; the pass has the locks of both. (Python manual, Set
-- Types)
pub record PartsSets (s t : ℕ) (called : Call) (v : View) : Type 0 where
  pub write : is_write called reply.Done ≡ true
  pub changed : changes called ≡ s
  pub words : FitsCall called
  pub locks : HasLocksOf called v.log
  pub empties : may_empty called ≡ true
  pub replied : IsReplyTo called reply.Done v
  pub declared : (found : StoredWorld) → MayHave v found → IsDeclared found.world no_hands called
  pub lacks : (found : StoredWorld) → MayHave v found → CanLackMemory found.world called
  pub over : (found : StoredWorld) → MayHave v found
      → would_pass found.world called
      ≡ passes_cap (content.Set (parted (known_state s v).content (known_state t v).content))
  pub takes : (found : StoredWorld) → MayHave v found
      → takes_in found called ≡ part_takes (known_state s v) (known_state t v).content
  pub left_is : (found : StoredWorld) → MayHave v found
      → state_at (after_stored found called) s ≡ parted_state (known_state s v) (known_state t v).content

-- What such a call comes to under the locks: after loads, by the class of the table that s takes, if it takes one, and
-- by whether it would have more elements than the largest table holds.
abbrev pub PartsBy : Shape → ℕ → ℕ → Call → View → View → Added → Type 0
PartsBy k s t called v w what =
    (u : View) × OnlyLoaded v u
    × IsAdded k (part_takes (known_state s v) (known_state t v).content)
    (passes_cap (content.Set (parted (known_state s v).content (known_state t v).content))) called reply.Done u w what
