-- What calls of a list do to its items. (Python manual, Sequence Types)
use Rattle.std.specs.Prelude.{ℕ, suc, Bool, ◌-◌, nat_lt, min, List, length, take, drop, position, Option, Some, None, ℤ, pos, negsuc, if◌then◌else◌}
use Rattle.std.specs.List.{list_any, insert, count_by}
use Rattle.std.specs.Cmp.Lexicographic.{pointwise}
use Rattle.ft_model.specs.declared.data.Value.{Value}
use Rattle.ft_model.specs.Keys.{is_value}

-- a list's items, in order (Python manual, Sequence Types)
abbrev pub ListContent : Type 0
ListContent = List Value

-- an index of a list of this length: a negative one has the length added once, and one that is then outside is none
-- (Python manual, Sequence Types, note 3)
abbrev pub index_in : ℕ → ℤ → Option ℕ
index_in len (pos index) = if nat_lt index len then Some index else None
index_in len (negsuc below) = if nat_lt below len then Some (len - suc below) else None

-- an end of a slice, or where to insert: a negative one has the length added once, and one that is then outside is
-- clamped (Python manual, Sequence Types, note 4)
abbrev pub clamped_in : ℕ → ℤ → ℕ
clamped_in len (pos index) = min index len
clamped_in len (negsuc below) = len - suc below

-- `l[i:j]`: the items from i on and before j (Python manual, Sequence Types, note 4)
abbrev pub list_slice : List Value → ℤ → ℤ → List Value
list_slice items start end = drop (clamped_in (length items) start) (take (clamped_in (length items) end) items)

-- `l.insert(i, v)`: before item i (Python manual, Mutable Sequence Types)
abbrev pub list_insert : List Value → ℤ → Value → List Value
list_insert items index value = insert items (clamped_in (length items) index) value

-- `v in l` (Python manual, Sequence Types)
abbrev pub has_value : List Value → Value → Bool
has_value items value = list_any (λ item. is_value item value) items

-- `l.index(v)`: the index of the first equal item (Python manual, Sequence Types)
abbrev pub index_of : List Value → Value → Option ℕ
index_of items value = position (λ item. is_value item value) items

-- `l.count(v)`: how many items are equal (Python manual, Sequence Types)
abbrev pub count_of : List Value → Value → ℕ
count_of items value = count_by (λ item. is_value item value) items

-- `l == m`: of one length, with equal items (Python manual, Sequence Types)
abbrev pub same_items : List Value → List Value → Bool
same_items items others = pointwise is_value items others
