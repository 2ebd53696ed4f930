-- What calls count.
use Rattle.std.specs.Prelude.{ℕ, List, length}
use Rattle.ft_model.specs.declared.call.Call.{Call}
use Rattle.ft_model.specs.declared.call.Call.TheVariants as call
use Rattle.ft_model.specs.declared.content.Content.{Content}
use Rattle.ft_model.specs.Worlds.{dict_at, list_at, set_at, deque_at}

-- how many pairs, items or elements the container of a call has
abbrev pub counted_in : List Content → Call → ℕ
counted_in world (call.Dict container dict_call) = length (dict_at world container).pairs
counted_in world (call.List container list_call) = length (list_at world container)
counted_in world (call.Set container set_call) = length (set_at world container).elements
counted_in world (call.Deque container deque_call) = length (deque_at world container).items
counted_in world other = 0
