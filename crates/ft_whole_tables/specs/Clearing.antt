-- Clears of dicts and sets.
use Rattle.std.specs.Prelude.{◌≡◌, ℕ, Option, Some}
use Rattle.ft_keys.specs.declared.walk.Way.{Way}
use Rattle.ft_keys.specs.declared.walk.Way.TheVariants as way
use Rattle.ft_model.specs.declared.call.Call.{Call}
use Rattle.ft_model.specs.declared.call.Call.TheVariants as call
use Rattle.ft_model.specs.declared.call.DictCall.TheVariants as dict
use Rattle.ft_model.specs.declared.call.SetCall.TheVariants as set
use Rattle.ft_model.specs.declared.content.Content.{Content}
use Rattle.ft_model.specs.declared.content.Content.TheVariants as content
use Rattle.ft_model.specs.Contents.{dict_clear, set_clear}
use Rattle.ft_model.specs.TableUses.{no_table}
use Rattle.ft_trace.specs.declared.Shape.{Shape}
use Rattle.ft_trace.specs.declared.View.{View}
use Rattle.ft_trace.specs.Holds.{held_unboxed}
use Rattle.ft_trace.specs.Pictures.{root_in}
use Rattle.ft_trace.specs.ContainerStates.{ContainerState}
use Rattle.ft_bank.specs.declared.table.Table.{Table}
use Rattle.ft_bank.specs.TableNames.{root_for, IsTableIn}

-- the call that clears a dict or a set
abbrev pub clear_call : Way → ℕ → Call
clear_call way.Dict c = call.Dict c dict.Clear
clear_call way.Set c = call.Set c set.Clear

-- what a dict or a set has once it is cleared (Python manual, Mapping Types, Set Types): nothing, and its next serial
-- stays (profile)
abbrev pub cleared : Content → Content
cleared (content.Dict dict) = content.Dict (dict_clear dict)
cleared (content.Set set) = content.Set (set_clear set)
cleared (content.List values) = content.List values
cleared (content.Deque deque) = content.Deque deque

-- and it has no table (profile)
abbrev pub cleared_kept : ContainerState → ContainerState
cleared_kept kept = record { content = cleared kept.content; table = no_table }

-- the root of the container names this table of the bank, or none
pub record HasRootOf (k : Shape) (o : ℕ) (old : Option Table) (v : View) : Type 0 where
  pub table_in : (t : Table) → old ≡ Some t → IsTableIn k t
  pub root : root_in (held_unboxed o v) ≡ root_for old
