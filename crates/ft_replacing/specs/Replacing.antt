-- Calls that put a table in the place of the one that a dict or a set has, and what a pass needs for them.
use Rattle.std.specs.Prelude.{◌≡◌, ℕ, true, false, Option, Some, None}
use Rattle.std.specs.Option.{option_map_or}
use Rattle.ft_model.specs.declared.call.Call.{Call}
use Rattle.ft_model.specs.declared.content.Content.{Content}
use Rattle.ft_model.specs.declared.content.Content.TheVariants as content
use Rattle.ft_model.specs.declared.reply.Reply.TheVariants as reply
use Rattle.ft_model.specs.Answers.{is_write}
use Rattle.ft_model.specs.Contents.{dict_copy}
use Rattle.ft_model.specs.TableUses.{StoredWorld, CanLackMemory, TableUse, no_table, taken, takes_in, would_pass, after_stored}
use Rattle.ft_model.specs.Worlds.{length_of, no_hands, IsDeclared}
use Rattle.ft_trace.specs.declared.Shape.{Shape}
use Rattle.ft_trace.specs.declared.View.{View}
use Rattle.ft_trace.specs.FitCalls.{FitsCall}
use Rattle.ft_trace.specs.BegunSections.{HasLocksOf}
use Rattle.ft_trace.specs.ContainerStates.{state_at, changes, may_empty}
use Rattle.ft_bank.specs.Whole.{OnlyLoaded}
use Rattle.ft_bank.specs.WriteSteps.{MayHave}
use Rattle.ft_table_calls.specs.declared.adding.Added.{Added}
use Rattle.ft_table_calls.specs.declared.adding.Added.TheVariants as added
use Rattle.ft_table_calls.specs.Adding.{IsAdded}
use Rattle.ft_search.specs.MadeCalls.{IsReplyTo}
use Rattle.ft_reads.specs.Clears.{IsCleared}

-- what a dict has that gets a copy of another one (profile); nothing else does
abbrev pub copied : Content → Content → Content
copied (content.Dict pairs) (content.Dict others) = content.Dict (dict_copy pairs others.pairs)
copied given others = given

-- the table of a container that took a class, if it did, for that many pairs or elements
abbrev pub replaced_table : Option ℕ → ℕ → TableUse
replaced_table takes count = option_map_or (λ class. taken class count) takes no_table

-- A call gives the container o this in the place of what it has, and a table of this class or none, whatever else the
-- bank has that agrees with what the pass knows: the plain containers reply that it is done. The call may put 0 into
-- the root before its write; the pass has the locks of the containers that it names. (profile)
pub record Replaces (o : ℕ) (called : Call) (left : Content) (takes : Option ℕ) (v : View) : Type 0 where
  pub write : is_write called reply.Done ≡ true
  pub changed : changes called ≡ o
  pub words : FitsCall called
  pub locks : HasLocksOf called v.log
  pub empties : may_empty called ≡ true
  pub replied : IsReplyTo called reply.Done v
  pub declared : (found : StoredWorld) → MayHave v found → IsDeclared found.world no_hands called
  pub lacks : (found : StoredWorld) → MayHave v found → CanLackMemory found.world called
  pub fits : (found : StoredWorld) → MayHave v found → would_pass found.world called ≡ false
  pub takes_is : (found : StoredWorld) → MayHave v found → takes_in found called ≡ takes
  pub left_is : (found : StoredWorld) → MayHave v found
      → state_at (after_stored found called) o
      ≡ record { content = left; table = replaced_table takes (length_of left) }

-- What such a call comes to under its locks. Where it takes no table it is made as one whole write that leaves the
-- container none, and the table that was there is retired. Else, after loads, it is made in a table of its class, which
-- takes the place of the one that was there, or none of that class was free, or tables of it were taken or given
-- meanwhile. (profile)
abbrev pub IsReplaced : Shape → Option ℕ → Call → View → View → Added → Type 0
IsReplaced k None called v w (added.Made stamp) = IsCleared called stamp v w
IsReplaced k None called v w what = ⊥
IsReplaced k (Some class) called v w what =
    (u : View) × OnlyLoaded v u × IsAdded k (Some class) false called reply.Done u w what
