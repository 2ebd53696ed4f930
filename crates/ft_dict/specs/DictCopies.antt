-- What a call on two dicts comes to that copies the first one to the second.
use Rattle.std.specs.Prelude.{ℕ}
use Rattle.ft_model.specs.declared.call.Call.TheVariants as call
use Rattle.ft_model.specs.declared.call.DictCall.TheVariants as dict
use Rattle.ft_model.specs.TableUses.{copy_takes}
use Rattle.ft_model.specs.Worlds.{length_of}
use Rattle.ft_trace.specs.declared.Shape.{Shape}
use Rattle.ft_trace.specs.declared.View.{View}
use Rattle.ft_trace.specs.Holds.{known_state}
use Rattle.ft_table_calls.specs.declared.adding.Added.{Added}
use Rattle.ft_table_calls.specs.Adding.{WasMade}
use Rattle.ft_replacing.specs.Replacing.{IsReplaced}
use Rattle.ft_replacing.specs.Sharing.{SharesPairs}

-- What `copyto d e` comes to under the locks of both: a write of e, which gets a table of the class for as many pairs
-- as d has, always, or none where d has no pairs. A value that stands in a box of d stands in that box in both dicts then,
-- which may be one. (profile)
abbrev pub CopiesTo : Shape → ℕ → ℕ → View → View → Added → Type 0
CopiesTo k d e v w what =
    IsReplaced k (copy_takes (length_of (known_state d v).content)) (call.Dict d (dict.CopyTo e)) v w what
    × (WasMade what → SharesPairs k d e v w)
