-- What calls come to that give a list another table, or none.
use Rattle.std.specs.Prelude.{ℕ, ◌+◌, nat_lt, length}
use Rattle.ft_model.specs.declared.call.Call.{Call}
use Rattle.ft_model.specs.declared.call.Call.TheVariants as call
use Rattle.ft_model.specs.declared.call.ListCall.TheVariants as list
use Rattle.ft_model.specs.declared.reply.Reply.TheVariants as reply
use Rattle.ft_model.specs.Classes.{most_items}
use Rattle.ft_model.specs.TableUses.{list_takes}
use Rattle.ft_trace.specs.declared.Shape.{Shape}
use Rattle.ft_trace.specs.declared.View.{View}
use Rattle.ft_trace.specs.Holds.{known_state}
use Rattle.ft_bank.specs.Whole.{OnlyLoaded}
use Rattle.ft_table_calls.specs.declared.adding.Added.{Added}
use Rattle.ft_table_calls.specs.Adding.{IsAdded, WasMade}
use Rattle.ft_list.specs.HeldValues.{SharesItems}
use Rattle.ft_list.specs.ListItemWrites.{known_items}

-- What a call that adds n items to the list o comes to under the lock, which the plain list replies is done: after
-- loads, by the class of the table that the list takes for its items and n more, if it takes one, and by whether these
-- are more than the largest table holds.
abbrev pub AddsItems : Shape → ℕ → Call → ℕ → View → View → Added → Type 0
AddsItems k o called n v w what =
    (u : View) × OnlyLoaded v u
    × IsAdded k (list_takes (known_state o v).table (length (known_items o v) + n))
    (nat_lt most_items (length (known_items o v) + n)) called reply.Done u w what

-- What `o.extend(m)` comes to under the locks of both: it adds as many items as m has (Python manual, Mutable Sequence
-- Types), and a value that stands in a box stands in that box in both then. (profile)
abbrev pub ExtendsBy : Shape → ℕ → ℕ → View → View → Added → Type 0
ExtendsBy k o m v w what =
    AddsItems k o (call.List o (list.Extend m)) (length (known_items m v)) v w what
    × (WasMade what → SharesItems o (length (known_items o v)) m (length (known_items m v)) v w)
