-- The scripts that the generator makes: their calls, and their text. (profile)
use Rattle.std.specs.Prelude.{ℕ, zero, suc, pos, ◌+◌, ◌*◌, ◌/◌, ◌%◌, ◌^◌, ◌==◌, nat_lt, List, [], ◌∷◌, ◌++◌, map, sum, slice_set, codes, if◌then◌else◌}
use Rattle.std.specs.List.{flat_map, range_with_len}
use Rattle.ft_model.specs.declared.data.Key.TheVariants as key
use Rattle.ft_model.specs.declared.data.Value.TheVariants as value
use Rattle.ft_model.specs.declared.call.Call.{Call}
use Rattle.ft_model.specs.declared.call.Call.TheVariants as call
use Rattle.ft_model.specs.declared.call.DictCall.TheVariants as dict
use Rattle.ft_model.specs.declared.call.ListCall.TheVariants as list
use Rattle.ft_model.specs.declared.call.SetCall.TheVariants as set
use Rattle.ft_model.specs.declared.script.Kind.TheVariants as kind
use Rattle.ft_model.specs.declared.script.ScriptParts.{ScriptParts}
use Rattle.ft_model.specs.declared.script.Thread.{Thread}
use Rattle.ft_model.specs.Scripts.{default_tables}
use Rattle.ft_script.specs.Texts.{line, call_words}

-- ---- numbers

-- The number that is drawn after another: a linear congruential generator modulo 2^64. (profile)
abbrev pub drawn_after : ℕ → ℕ
drawn_after number = (number * 6364136223846793005 + 1442695040888963407) % 2 ^ 64

-- The number that stands after this many draws from a first one. (profile)
abbrev pub number_at : ℕ → ℕ → ℕ
number_at first zero = first
number_at first (suc draws) = drawn_after (number_at first draws)

-- ---- calls

-- Of the upper 31 bits of a number the rest modulo 8 says which call it is, and the rest of the eighth part modulo 1000
-- is its key, value or index. (profile)
abbrev pub call_by : ℕ → ℕ → Call
call_by rest k =
    if rest == 0 then call.Dict 0 (dict.Set (key.Int (pos k)) (value.Int (pos k))) else (
    if rest == 1 then call.Dict 0 (dict.Get (key.Int (pos k))) else (
    if rest == 2 then call.Dict 0 (dict.Del (key.Int (pos k))) else (
    if rest == 3 then call.List 1 (list.Append (value.Int (pos k))) else (
    if rest == 4 then call.List 1 (list.Get (pos k)) else (
    if rest == 5 then call.Set 2 (set.Add (key.Int (pos k))) else (
    if rest == 6 then call.Set 2 (set.Discard (key.Int (pos k))) else call.Quiesce))))))

abbrev pub made_call : ℕ → Call
made_call number = call_by (number / 2 ^ 33 % 8) (number / 2 ^ 33 / 8 % 1000)

-- The calls of this many numbers, the first of which is drawn after this one. (profile)
abbrev pub made_calls : ℕ → ℕ → List Call
made_calls first count = map (λ draws. made_call (number_at first (draws + 1))) (range_with_len 0 count)

-- ---- scripts

-- Calls are dealt in blocks: each thread has a fourth of them, rounded down, and as many threads as are left over have
-- one more. (profile)
abbrev pub share : ℕ → ℕ → ℕ
share calls place = calls / 4 + (if nat_lt place (calls % 4) then 1 else 0)

-- The calls of all threads above this one. (profile)
abbrev pub calls_above : ℕ → ℕ → ℕ
calls_above calls place = sum (map (share calls) (range_with_len 0 place))

-- The threads are named from A on, and the first number of all is the number of calls. (profile)
abbrev pub made_thread : ℕ → ℕ → Thread
made_thread calls place = record {
  name = (65 + place) ∷ [];
  cursors = [];
  calls = made_calls (number_at calls (calls_above calls place)) (share calls place);
}

-- What each script of the generator declares: a dict, a list and a set, 16 tables of class 12, and the greatest heap.
-- (profile)
abbrev pub made_head : ScriptParts
made_head = record {
  shared = [];
  containers =
      record { start = record { kind = kind.Dict; keys = [] }; name = codes "d" }
      ∷ record { start = record { kind = kind.List; keys = [] }; name = codes "l" }
      ∷ record { start = record { kind = kind.Set; keys = [] }; name = codes "s" } ∷ [];
  threads = [];
  strings = [];
  tables = slice_set default_tables 9 16;
  heap = 4096;
  order = [];
}

-- The script of this number of calls. (profile)
abbrev pub made_script : ℕ → ScriptParts
made_script calls = record made_head { threads = map (made_thread calls) (range_with_len 0 4) }

-- ---- their text

-- The words of the lines above all threads. (profile)
abbrev pub head_words : List (List (List ℕ))
head_words =
    (codes "heap" ∷ codes "4096" ∷ []) ∷ (codes "tables" ∷ codes "12" ∷ codes "16" ∷ [])
    ∷ (codes "dict" ∷ codes "d" ∷ []) ∷ (codes "list" ∷ codes "l" ∷ []) ∷ (codes "set" ∷ codes "s" ∷ []) ∷ []

-- The words of a thread's line, and of a line for each of its calls. (profile)
abbrev pub thread_words : Thread → List (List (List ℕ))
thread_words thread = (codes "thread" ∷ thread.name ∷ []) ∷ map (call_words made_head 0) thread.calls

-- The text of the script of this number of calls: a line for each list of words. (profile)
abbrev pub made_text : ℕ → List ℕ
made_text calls = flat_map line (head_words ++ flat_map thread_words (made_script calls).threads)
