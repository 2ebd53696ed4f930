-- How many awaits of a script name a call.
use Rattle.std.specs.Prelude.{ℕ, Bool, false, ◌&&◌, nat_eq, List, sum, map, Option, option_map}
use Rattle.std.specs.List.{count_by}
use Rattle.std.specs.Option.{unwrap_or}
use Rattle.std.specs.Map.{lookup}
use Rattle.ft_model.specs.declared.call.Call.{Call}
use Rattle.ft_model.specs.declared.call.Call.TheVariants as call
use Rattle.ft_model.specs.declared.script.ScriptParts.{ScriptParts}
use Rattle.ft_board.specs.declared.awaits.Awaited.{Awaited}

-- whether these are the same thread and the same index
abbrev pub is_same_call : ℕ × ℕ → ℕ × ℕ → Bool
is_same_call one other = nat_eq one.0 other.0 && nat_eq one.1 other.1

-- whether a call is an `await` of the thread's call of this index (profile)
abbrev pub is_await_of : ℕ → ℕ → Call → Bool
is_await_of thread index (call.Await named at) = is_same_call (named, at) (thread, index)
is_await_of thread index _ = false

-- how many of these calls are
abbrev pub count_awaits : ℕ → ℕ → List Call → ℕ
count_awaits thread index calls = count_by (is_await_of thread index) calls

-- how many calls of the script are (profile)
abbrev pub awaits_of : ScriptParts → ℕ → ℕ → ℕ
awaits_of script thread index = sum (map (λ own. count_awaits thread index own.calls) script.threads)

-- calls that are awaited, by thread and index, with what is noted of each
abbrev pub Notebook : Type 0
Notebook = List ((ℕ × ℕ) × Awaited)

-- what is noted of a call
abbrev pub noted : Notebook → ℕ → ℕ → Option Awaited
noted awaited thread index = lookup (is_same_call (thread, index)) awaited

-- how many awaits are noted of it
abbrev pub await_count : Notebook → ℕ → ℕ → ℕ
await_count awaited thread index = unwrap_or (option_map (λ one. one.awaits) (noted awaited thread index)) 0
