-- The containers and calls of the worked cases on tables: two dicts, of which the first starts split over the keys 1 to
-- 10, a deque without a bound, one of three items at most, and another without a bound.
use Rattle.std.specs.Prelude.{ℕ, Bool, List, [], ◌∷◌, map, Option, None, Some, pos}
use Rattle.std.specs.List.{range_with_len}
use Rattle.ft_model.specs.declared.data.Key.{Key}
use Rattle.ft_model.specs.declared.data.Key.TheVariants as key
use Rattle.ft_model.specs.declared.data.Value.TheVariants as value
use Rattle.ft_model.specs.declared.call.Call.{Call}
use Rattle.ft_model.specs.declared.call.Call.TheVariants as call
use Rattle.ft_model.specs.declared.call.DictCall.{DictCall}
use Rattle.ft_model.specs.declared.call.DictCall.TheVariants as dict
use Rattle.ft_model.specs.declared.call.DequeCall.{DequeCall}
use Rattle.ft_model.specs.declared.call.DequeCall.TheVariants as deque
use Rattle.ft_model.specs.declared.script.Start.{Start}
use Rattle.ft_model.specs.declared.script.Kind.{Kind}
use Rattle.ft_model.specs.declared.script.Kind.TheVariants as kind
use Rattle.ft_model.specs.TableUses.{TableUse, stored_by, takes_in, table_at, is_split}

abbrev pub int_key : ℕ → Key
int_key n = key.Int (pos n)

abbrev pub plain : Kind → Start
plain kind = record { kind = kind; keys = [] }

abbrev pub case_starts : List Start
case_starts =
    record { kind = kind.Dict; keys = map int_key (range_with_len 1 10) }
    ∷ plain kind.Dict
    ∷ plain (kind.Deque None)
    ∷ plain (kind.Deque (Some 3))
    ∷ plain (kind.Deque None)
    ∷ []

-- the class that the call takes after these
abbrev pub class_after : List Call → Call → Option ℕ
class_after calls next = takes_in (stored_by case_starts calls) next

-- the table of the first dict, or of the first deque, after these calls
abbrev pub table_after : List Call → TableUse
table_after calls = table_at (stored_by case_starts calls).tables 0

abbrev pub deque_table_after : List Call → TableUse
deque_table_after calls = table_at (stored_by case_starts calls).tables 2

-- whether the first dict is still split after these calls
abbrev pub split_after : List Call → Bool
split_after calls = is_split (table_after calls).keys

-- ---- calls of the dicts: the first one's, `d[n] = None` for some n, and for the keys 1 to n in order

abbrev pub of_dict : DictCall → Call
of_dict called = call.Dict 0 called

abbrev pub set : ℕ → Call
set n = of_dict (dict.Set (int_key n) value.Nothing)

abbrev pub set_first : ℕ → List Call
set_first n = map set (range_with_len 1 n)

abbrev pub set_other : ℕ → Call
set_other n = call.Dict 1 (dict.Set (int_key n) value.Nothing)

-- ---- calls of the deques: `append` of a None, as often as that

abbrev pub of_deque : DequeCall → Call
of_deque called = call.Deque 2 called

abbrev pub append_often : ℕ → List Call
append_often n = map (λ k. of_deque (deque.Append value.Nothing)) (range_with_len 0 n)

abbrev pub append_other : ℕ → List Call
append_other n = map (λ k. call.Deque 4 (deque.Append value.Nothing)) (range_with_len 0 n)
