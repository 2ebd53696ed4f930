-- What a deque has, and what each of its calls leaves and answers. Left is the front, right the end. (Python manual,
-- collections.deque. How often a deque was changed: profile)
use Rattle.std.specs.Prelude.{◌≡◌, ℕ, suc, nat_le, ◌==◌, ◌+◌, ◌-◌, ◌%◌, ◌≤◌, List, [], ◌∷◌, ◌++◌, length, take, drop, reverse, slice_get, slice_index_or, Option, None, Some, option_map, IfSome, ℤ, pos, negsuc, if◌then◌else◌}
use Rattle.ft_model.specs.declared.data.Value.{Value}
use Rattle.ft_model.specs.declared.data.Value.TheVariants as value
use Rattle.ft_model.specs.Lists.{index_in}

-- how often the deque was changed (profile), the most items that it may have, if there is such a bound, and its items
-- from left to right
pub record DequeContent : Type 0 where
  pub moves : ℕ
  pub bound : Option ℕ
  pub items : List Value

-- `deque(maxlen=n)`: no items yet
abbrev pub empty_deque : Option ℕ → DequeContent
empty_deque bound = record { moves = 0; bound = bound; items = [] }

-- `maxlen`: a deque is bounded to the specified maximum length; where it is not specified, it may grow to an arbitrary
-- length
pub record IsDeque (bound : Option ℕ) (items : List Value) : Type 0 where
  pub bounded : IfSome bound (λ most. length items ≤ most)

-- ---- what a bound leaves: once a bounded length deque is full, when new items are added, a corresponding number of
-- ---- items are discarded from the opposite end

-- where items were added on the right side, those furthest right
abbrev pub right_within : Option ℕ → List Value → List Value
right_within None items = items
right_within (Some most) items = drop (length items - most) items

-- where they were added on the left side, those furthest left
abbrev pub left_within : Option ℕ → List Value → List Value
left_within None items = items
left_within (Some most) items = take most items

-- ---- the calls that change a deque

-- the deque with these items, and changed once more
abbrev pub with_deque_items : DequeContent → List Value → DequeContent
with_deque_items deque items = record { moves = deque.moves + 1; bound = deque.bound; items = items }

-- `q.append(v)`: add the value to the right side
abbrev pub deque_append : DequeContent → Value → DequeContent
deque_append deque value = with_deque_items deque (right_within deque.bound (deque.items ++ value ∷ []))

-- `q.appendleft(v)`: add the value to the left side
abbrev pub deque_append_left : DequeContent → Value → DequeContent
deque_append_left deque value = with_deque_items deque (left_within deque.bound (value ∷ deque.items))

-- `q.extend(r)`: extend the right side by appending the elements of the other. By none it is not changed (profile)
abbrev pub deque_extend : DequeContent → List Value → DequeContent
deque_extend deque others =
    if length others == 0
    then deque
    else with_deque_items deque (right_within deque.bound (deque.items ++ others))

-- `q.extendleft(r)`: extend the left side by appending the elements of the other; the series of left appends results in
-- reversing their order. By none it is not changed (profile)
abbrev pub deque_extend_left : DequeContent → List Value → DequeContent
deque_extend_left deque others =
    if length others == 0
    then deque
    else with_deque_items deque (left_within deque.bound (reverse others ++ deque.items))

-- `q.pop()`: remove and return an element from the right side. If no elements are present, raises an IndexError
abbrev pub last_item : List Value → Option Value
last_item items = slice_get items (length items - 1)

abbrev pub deque_pop : DequeContent → DequeContent
deque_pop deque = with_deque_items deque (take (length deque.items - 1) deque.items)

-- `q.popleft()`: remove and return an element from the left side. If no elements are present, raises an IndexError
abbrev pub first_item : List Value → Option Value
first_item items = slice_get items 0

abbrev pub deque_pop_left : DequeContent → DequeContent
deque_pop_left deque = with_deque_items deque (drop 1 deque.items)

-- rotate the items that many steps to the right: each step takes the last one to the left side
abbrev pub rotated_right : List Value → ℕ → List Value
rotated_right items steps =
    let rest = length items - steps % length items in drop rest items ++ take rest items

-- to the left: each step takes the first one to the right side
abbrev pub rotated_left : List Value → ℕ → List Value
rotated_left items steps = let front = steps % length items in drop front items ++ take front items

-- `q.rotate(n)`: rotate the items n steps to the right. If n is negative, rotate to the left
abbrev pub rotated : List Value → ℤ → List Value
rotated items (pos steps) = rotated_right items steps
rotated items (negsuc below) = rotated_left items (suc below)

-- a deque of no item or of one is not changed by it (profile)
abbrev pub deque_rotate : DequeContent → ℤ → DequeContent
deque_rotate deque steps =
    if nat_le (length deque.items) 1 then deque else with_deque_items deque (rotated deque.items steps)

-- `q.clear()`: remove all elements, leaving it with length 0. An empty deque is not changed (profile)
abbrev pub deque_clear : DequeContent → DequeContent
deque_clear deque = if length deque.items == 0 then deque else with_deque_items deque []

-- ---- the calls that read a deque, beside `len(q)`, which is `length`, and `v in q`, which is `has_value` as for lists

-- `q[i]`: a subscript reference, by an index as of a list; one that is outside raises an IndexError
abbrev pub deque_get : List Value → ℤ → Option Value
deque_get items index =
    option_map (λ found. slice_index_or items found value.Nothing) (index_in (length items) index)

-- ---- what the calls keep to

-- what a deque has later on: the bound stays and isn't passed, moves never fall, and where they haven't risen nothing has
-- changed (profile)
pub record IsLaterDeque (old new : DequeContent) : Type 0 where
  pub bound : new.bound ≡ old.bound
  pub is_deque : IsDeque new.bound new.items
  pub moves : old.moves ≤ new.moves
  pub unmoved : new.moves ≡ old.moves → new ≡ old
