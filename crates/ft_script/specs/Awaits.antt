-- The awaits of a script, and which calls they name. (profile)
use Rattle.std.specs.Prelude.{◌≡◌, ℕ, ◌<◌, ◌≤◌, Bool, true, false, nat_le, List, length, slice_get}
use Rattle.std.specs.List.{list_any}
use Rattle.std.specs.Option.{option_map_or}
use Rattle.ft_model.specs.declared.call.Call.{Call}
use Rattle.ft_model.specs.declared.call.Call.TheVariants as call
use Rattle.ft_model.specs.declared.script.Thread.{Thread}

abbrev pub is_await : Call → Bool
is_await (call.Await thread index) = true
is_await other = false

-- whether a thread awaits another
abbrev pub has_awaits : List Thread → Bool
has_awaits threads = list_any (λ thread. list_any is_await thread.calls) threads

-- whether the thread that an `await` names is one of these, and has that call
abbrev pub has_awaited : List Thread → Call → Bool
has_awaited threads (call.Await thread index) =
    option_map_or (λ named. nat_le index (length named.calls)) (slice_get threads thread) false
has_awaited threads other = true

-- an `await` may stand, and names a thread of this many, and an index from 1
abbrev pub MayAwait : Bool → ℕ → Call → Type 0
MayAwait allowed threads (call.Await thread index) = (allowed ≡ true) × (thread < threads) × (1 ≤ index)
MayAwait allowed threads other = Unit {0}
