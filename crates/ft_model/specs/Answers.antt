-- What each call answers, and the world and the hands that it leaves: one case for each call.
use Rattle.std.specs.Prelude.{ℕ, Bool, true, false, not, ◌&&◌, ◌-◌, List, [], ◌∷◌, ◌++◌, map, fold, reverse, length, take, drop, Option, Some, slice_get, slice_set, slice_index_or, negsuc, if◌then◌else◌}
use Rattle.std.specs.List.{remove}
use Rattle.std.specs.Option.{option_map_or, unwrap_or}
use Rattle.ft_model.specs.declared.data.Key.{Key}
use Rattle.ft_model.specs.declared.data.Value.{Value}
use Rattle.ft_model.specs.declared.data.Value.TheVariants as value
use Rattle.ft_model.specs.declared.call.Call.{Call}
use Rattle.ft_model.specs.declared.call.Call.TheVariants as call
use Rattle.ft_model.specs.declared.call.DictCall.{DictCall}
use Rattle.ft_model.specs.declared.call.DictCall.TheVariants as dict
use Rattle.ft_model.specs.declared.call.ListCall.{ListCall}
use Rattle.ft_model.specs.declared.call.ListCall.TheVariants as list
use Rattle.ft_model.specs.declared.call.SetCall.{SetCall}
use Rattle.ft_model.specs.declared.call.SetCall.TheVariants as set
use Rattle.ft_model.specs.declared.call.DequeCall.{DequeCall}
use Rattle.ft_model.specs.declared.call.DequeCall.TheVariants as deque
use Rattle.ft_model.specs.declared.reply.Raise.TheVariants as raise
use Rattle.ft_model.specs.declared.reply.Reply.{Reply}
use Rattle.ft_model.specs.declared.reply.Reply.TheVariants as reply
use Rattle.ft_model.specs.declared.reply.Shown.{Shown}
use Rattle.ft_model.specs.declared.reply.Shown.TheVariants as shown
use Rattle.ft_model.specs.declared.content.Content.{Content}
use Rattle.ft_model.specs.declared.content.Content.TheVariants as content
use Rattle.ft_model.specs.declared.content.DictPair.{DictPair}
use Rattle.ft_model.specs.declared.content.Element.{Element}
use Rattle.ft_model.specs.declared.cursor.Cursor.{Cursor}
use Rattle.ft_model.specs.declared.cursor.Cursor.TheVariants as cursor
use Rattle.ft_model.specs.Keys.{as_value}
use Rattle.ft_model.specs.Calls.{is_changing}
use Rattle.ft_model.specs.Contents.{DictContent, SetContent, dict_get, has_key, dict_set, dict_del, dict_clear, dict_update, dict_copy, same_pairs}
use Rattle.ft_model.specs.Contents.{has_element, set_add, set_discard, set_clear, set_or, set_and, set_sub, set_xor, is_subset, same_elements, is_disjoint}
use Rattle.ft_model.specs.Lists.{index_in, list_slice, list_insert, has_value, index_of, count_of, same_items}
use Rattle.ft_model.specs.Deques.{DequeContent, deque_append, deque_append_left, deque_extend, deque_extend_left, last_item, deque_pop, first_item, deque_pop_left, deque_rotate, deque_clear, deque_get}
use Rattle.ft_model.specs.Views.{keys_and, keys_sub, keys_or, keys_xor, has_item}
use Rattle.ft_model.specs.Cursors.{CursorStep, dict_iter, dict_next, list_iter, list_next, set_iter, set_next}
use Rattle.ft_model.specs.Cursors.{deque_iter, deque_next, dict_reversed, dict_back_next, list_reversed, list_back_next}
use Rattle.ft_model.specs.declared.script.Start.{Start}
use Rattle.ft_model.specs.Worlds.{empty_world, dict_at, list_at, set_at, deque_at, cursor_at, no_hands}

-- the reply to a call, and what it leaves (profile)
pub record Answer : Type 0 where
  pub reply : Reply
  pub world : List Content
  pub hands : List (Option Cursor)

-- a call that leaves everything as it is
abbrev pub shows : List Content → List (Option Cursor) → Reply → Answer
shows world hands reply = record { reply = reply; world = world; hands = hands }

-- a call after which a container has this
abbrev pub puts : List Content → List (Option Cursor) → ℕ → Content → Reply → Answer
puts world hands container content reply =
    record { reply = reply; world = slice_set world container content; hands = hands }

-- a call after which a cursor stands so
abbrev pub moves : List Content → List (Option Cursor) → ℕ → Cursor → Reply → Answer
moves world hands number cursor reply =
    record { reply = reply; world = world; hands = slice_set hands number (Some cursor) }

-- ---- dicts

-- `d.items()` (Python manual, Mapping Types)
abbrev pub items_of : List DictPair → List (Key × Value)
items_of pairs = map (λ pair. (pair.key, pair.value)) pairs

-- the dict without its last pair
abbrev pub without_last : DictContent → DictContent
without_last dict = record { next = dict.next; pairs = take (length dict.pairs - 1) dict.pairs }

-- a call of the dict at a place (Python manual, Mapping Types)
abbrev pub answer_dict : List Content → List (Option Cursor) → ℕ → DictContent → DictCall → Answer
-- d[k]: raises a KeyError if the key is not in the map
answer_dict world hands place old (dict.Get key) =
    option_map_or (λ value. shows world hands (reply.Value value)) (dict_get old.pairs key)
    (shows world hands (reply.Raised raise.NoKey))
-- d.get(k, v)
answer_dict world hands place old (dict.GetOr key default) =
    shows world hands (reply.Value (unwrap_or (dict_get old.pairs key) default))
-- d[k] = v
answer_dict world hands place old (dict.Set key value) =
    puts world hands place (content.Dict (dict_set old key value)) reply.Done
-- del d[k]: raises a KeyError if the key is not in the map
answer_dict world hands place old (dict.Del key) =
    if has_key old.pairs key
    then puts world hands place (content.Dict (dict_del old key)) reply.Done
    else shows world hands (reply.Raised raise.NoKey)
-- d.pop(k): if the key is not there, a KeyError is raised
answer_dict world hands place old (dict.Pop key) =
    option_map_or (λ value. puts world hands place (content.Dict (dict_del old key)) (reply.Value value))
    (dict_get old.pairs key) (shows world hands (reply.Raised raise.NoKey))
-- d.pop(k, v): if the key is not there, the default
answer_dict world hands place old (dict.PopOr key default) =
    option_map_or (λ value. puts world hands place (content.Dict (dict_del old key)) (reply.Value value))
    (dict_get old.pairs key) (shows world hands (reply.Value default))
-- d.popitem(): pairs are returned in LIFO order; if the dictionary is empty, a KeyError is raised
answer_dict world hands place old dict.PopItem =
    option_map_or (λ pair. puts world hands place (content.Dict (without_last old)) (reply.Pair pair.key pair.value))
    (slice_get old.pairs (length old.pairs - 1)) (shows world hands (reply.Raised raise.NoKey))
-- d.setdefault(k, v): if the key is there its value; if not, the default is inserted and returned
answer_dict world hands place old (dict.SetDefault key default) =
    option_map_or (λ value. shows world hands (reply.Value value)) (dict_get old.pairs key)
    (puts world hands place (content.Dict (dict_set old key default)) (reply.Value default))
-- k in d
answer_dict world hands place old (dict.Has key) = shows world hands (reply.Truth (has_key old.pairs key))
-- len(d)
answer_dict world hands place old dict.Len = shows world hands (reply.Count (length old.pairs))
-- d.items()
answer_dict world hands place old dict.Items = shows world hands (reply.Dict (items_of old.pairs))
-- d.update(e)
answer_dict world hands place old (dict.Update other) =
    puts world hands place (content.Dict (dict_update old (dict_at world other).pairs)) reply.Done
-- d.clear()
answer_dict world hands place old dict.Clear = puts world hands place (content.Dict (dict_clear old)) reply.Done
-- the other dict gets these pairs in place of its own (profile)
answer_dict world hands place old (dict.CopyTo other) =
    puts world hands other (content.Dict (dict_copy (dict_at world other) old.pairs)) reply.Done
-- d == e
answer_dict world hands place old (dict.Eq other) =
    shows world hands (reply.Truth (same_pairs old.pairs (dict_at world other).pairs))
-- iter(d.items())
answer_dict world hands place old (dict.Iter cursor) = moves world hands cursor (dict_iter place old.pairs) reply.Done
-- d.keys() & e.keys(), d.keys() - e.keys(), d.keys() | e.keys(), d.keys() ^ e.keys()
answer_dict world hands place old (dict.KeysAnd other) =
    shows world hands (reply.Set (keys_and old.pairs (dict_at world other).pairs))
answer_dict world hands place old (dict.KeysSub other) =
    shows world hands (reply.Set (keys_sub old.pairs (dict_at world other).pairs))
answer_dict world hands place old (dict.KeysOr other) =
    shows world hands (reply.Set (keys_or old.pairs (dict_at world other).pairs))
answer_dict world hands place old (dict.KeysXor other) =
    shows world hands (reply.Set (keys_xor old.pairs (dict_at world other).pairs))
-- (k, v) in d.items()
answer_dict world hands place old (dict.ItemsHas key value) =
    shows world hands (reply.Truth (has_item old.pairs key value))
-- reversed(d.items())
answer_dict world hands place old (dict.Reversed cursor) =
    moves world hands cursor (dict_reversed place old.pairs) reply.Done

-- ---- lists

-- a call of the list at a place (Python manual, Sequence Types)
abbrev pub answer_list : List Content → List (Option Cursor) → ℕ → List Value → ListCall → Answer
-- l.append(v)
answer_list world hands place items (list.Append value) =
    puts world hands place (content.List (items ++ value ∷ [])) reply.Done
-- l.insert(i, v)
answer_list world hands place items (list.Insert index value) =
    puts world hands place (content.List (list_insert items index value)) reply.Done
-- l[i]: raises an IndexError where the index is outside (Python manual, Built-in Exceptions)
answer_list world hands place items (list.Get index) =
    option_map_or (λ found. shows world hands (reply.Value (slice_index_or items found value.Nothing)))
    (index_in (length items) index) (shows world hands (reply.Raised raise.NoIndex))
-- l[i] = v
answer_list world hands place items (list.Set index value) =
    option_map_or (λ found. puts world hands place (content.List (slice_set items found value)) reply.Done)
    (index_in (length items) index) (shows world hands (reply.Raised raise.NoIndex))
-- del l[i]
answer_list world hands place items (list.Del index) =
    option_map_or (λ found. puts world hands place (content.List (remove items found)) reply.Done)
    (index_in (length items) index) (shows world hands (reply.Raised raise.NoIndex))
-- l.pop(i): the index defaults to -1, so that the last item is taken out
answer_list world hands place items (list.Pop index) =
    option_map_or
    (λ found. puts world hands place (content.List (remove items found))
    (reply.Value (slice_index_or items found value.Nothing))) (index_in (length items) (unwrap_or index (negsuc 0)))
    (shows world hands (reply.Raised raise.NoIndex))
-- l.remove(v): the first equal item; raises a ValueError when it is not found
answer_list world hands place items (list.Remove value) =
    option_map_or (λ found. puts world hands place (content.List (remove items found)) reply.Done)
    (index_of items value) (shows world hands (reply.Raised raise.NoValue))
-- l.index(v): raises a ValueError when it is not found
answer_list world hands place items (list.Index value) =
    option_map_or (λ found. shows world hands (reply.Count found)) (index_of items value)
    (shows world hands (reply.Raised raise.NoValue))
-- l.count(v)
answer_list world hands place items (list.Count value) = shows world hands (reply.Count (count_of items value))
-- v in l
answer_list world hands place items (list.Has value) = shows world hands (reply.Truth (has_value items value))
-- l.reverse()
answer_list world hands place items list.Reverse = puts world hands place (content.List (reverse items)) reply.Done
-- l.extend(m)
answer_list world hands place items (list.Extend other) =
    puts world hands place (content.List (items ++ list_at world other)) reply.Done
-- l[i:j]
answer_list world hands place items (list.Slice start end) = shows world hands (reply.List (list_slice items start end))
-- l.clear()
answer_list world hands place items list.Clear = puts world hands place (content.List []) reply.Done
-- len(l)
answer_list world hands place items list.Len = shows world hands (reply.Count (length items))
-- all items, in order
answer_list world hands place items list.Items = shows world hands (reply.List items)
-- l == m
answer_list world hands place items (list.Eq other) =
    shows world hands (reply.Truth (same_items items (list_at world other)))
-- iter(l)
answer_list world hands place items (list.Iter cursor) = moves world hands cursor (list_iter place) reply.Done
-- reversed(l)
answer_list world hands place items (list.Reversed cursor) =
    moves world hands cursor (list_reversed place items) reply.Done

-- ---- sets

-- all elements, in the order in which they were added (profile)
abbrev pub elements_of : List Element → List Key
elements_of elements = map (λ element. element.key) elements

-- the set without its first element
abbrev pub without_first : SetContent → SetContent
without_first set = record { next = set.next; elements = drop 1 set.elements }

-- a call of the set at a place (Python manual, Set Types)
abbrev pub answer_set : List Content → List (Option Cursor) → ℕ → SetContent → SetCall → Answer
-- s.add(k)
answer_set world hands place old (set.Add key) = puts world hands place (content.Set (set_add old key)) reply.Done
-- s.discard(k): removes the element if it is present
answer_set world hands place old (set.Discard key) =
    puts world hands place (content.Set (set_discard old key)) reply.Done
-- s.remove(k): raises a KeyError if the element is not contained in the set
answer_set world hands place old (set.Remove key) =
    if has_element old.elements key
    then puts world hands place (content.Set (set_discard old key)) reply.Done
    else shows world hands (reply.Raised raise.NoKey)
-- s.pop(): raises a KeyError if the set is empty; it is the first element that goes (profile)
answer_set world hands place old set.Pop =
    option_map_or
    (λ element. puts world hands place (content.Set (without_first old)) (reply.Value (as_value element.key)))
    (slice_get old.elements 0) (shows world hands (reply.Raised raise.NoKey))
-- k in s
answer_set world hands place old (set.Has key) = shows world hands (reply.Truth (has_element old.elements key))
-- len(s)
answer_set world hands place old set.Len = shows world hands (reply.Count (length old.elements))
-- all elements, in the order in which they were added (profile)
answer_set world hands place old set.Items = shows world hands (reply.Set (elements_of old.elements))
-- s == t
answer_set world hands place old (set.Eq other) =
    shows world hands (reply.Truth (same_elements old.elements (set_at world other).elements))
-- s |= t
answer_set world hands place old (set.Or other) =
    puts world hands place (content.Set (set_or old (set_at world other).elements)) reply.Done
-- s &= t
answer_set world hands place old (set.And other) =
    puts world hands place (content.Set (set_and old (set_at world other).elements)) reply.Done
-- s -= t
answer_set world hands place old (set.Sub other) =
    puts world hands place (content.Set (set_sub old (set_at world other).elements)) reply.Done
-- s ^= t
answer_set world hands place old (set.Xor other) =
    puts world hands place (content.Set (set_xor old (set_at world other).elements)) reply.Done
-- s <= t
answer_set world hands place old (set.Subset other) =
    shows world hands (reply.Truth (is_subset old.elements (set_at world other).elements))
-- s.isdisjoint(t)
answer_set world hands place old (set.Disjoint other) =
    shows world hands (reply.Truth (is_disjoint old.elements (set_at world other).elements))
-- s.clear()
answer_set world hands place old set.Clear = puts world hands place (content.Set (set_clear old)) reply.Done
-- iter(s)
answer_set world hands place old (set.Iter cursor) = moves world hands cursor (set_iter place old.elements) reply.Done

-- ---- deques

-- a call of the deque at a place (Python manual, collections.deque)
abbrev pub answer_deque : List Content → List (Option Cursor) → ℕ → DequeContent → DequeCall → Answer
-- q.append(v)
answer_deque world hands place old (deque.Append value) =
    puts world hands place (content.Deque (deque_append old value)) reply.Done
-- q.appendleft(v)
answer_deque world hands place old (deque.AppendLeft value) =
    puts world hands place (content.Deque (deque_append_left old value)) reply.Done
-- q.pop(): if no elements are present, raises an IndexError
answer_deque world hands place old deque.Pop =
    option_map_or (λ value. puts world hands place (content.Deque (deque_pop old)) (reply.Value value))
    (last_item old.items) (shows world hands (reply.Raised raise.NoIndex))
-- q.popleft(): if no elements are present, raises an IndexError
answer_deque world hands place old deque.PopLeft =
    option_map_or (λ value. puts world hands place (content.Deque (deque_pop_left old)) (reply.Value value))
    (first_item old.items) (shows world hands (reply.Raised raise.NoIndex))
-- q.extend(r)
answer_deque world hands place old (deque.Extend other) =
    puts world hands place (content.Deque (deque_extend old (deque_at world other).items)) reply.Done
-- q.extendleft(r)
answer_deque world hands place old (deque.ExtendLeft other) =
    puts world hands place (content.Deque (deque_extend_left old (deque_at world other).items)) reply.Done
-- q.rotate(n)
answer_deque world hands place old (deque.Rotate steps) =
    puts world hands place (content.Deque (deque_rotate old steps)) reply.Done
-- q.clear()
answer_deque world hands place old deque.Clear = puts world hands place (content.Deque (deque_clear old)) reply.Done
-- q[i]
answer_deque world hands place old (deque.Get index) =
    option_map_or (λ value. shows world hands (reply.Value value)) (deque_get old.items index)
    (shows world hands (reply.Raised raise.NoIndex))
-- len(q)
answer_deque world hands place old deque.Len = shows world hands (reply.Count (length old.items))
-- all items, in order
answer_deque world hands place old deque.Items = shows world hands (reply.List old.items)
-- v in q
answer_deque world hands place old (deque.Has value) = shows world hands (reply.Truth (has_value old.items value))
-- iter(q)
answer_deque world hands place old (deque.Iter cursor) = moves world hands cursor (deque_iter place old) reply.Done

-- ---- cursors

-- one `next` of a cursor over a container of the world (Python manual, Iterator Types)
abbrev pub cursor_step : List Content → Cursor → CursorStep
cursor_step world (cursor.Dict container walk size expected last) =
    dict_next (dict_at world container).pairs container walk size expected last
cursor_step world (cursor.List container index ended) = list_next (list_at world container) container index ended
cursor_step world (cursor.Set container walk size last) =
    set_next (set_at world container).elements container walk size last
cursor_step world (cursor.Deque container moves index) = deque_next (deque_at world container) container moves index
cursor_step world (cursor.DictBack container walk size last) =
    dict_back_next (dict_at world container).pairs container walk size last
cursor_step world (cursor.ListBack container index) = list_back_next (list_at world container) container index

-- how many pairs, items or elements the cursor's container has
abbrev pub walked_length : List Content → Cursor → ℕ
walked_length world (cursor.Dict container walk size expected last) = length (dict_at world container).pairs
walked_length world (cursor.List container index ended) = length (list_at world container)
walked_length world (cursor.Set container walk size last) = length (set_at world container).elements
walked_length world (cursor.Deque container moves index) = length (deque_at world container).items
walked_length world (cursor.DictBack container walk size last) = length (dict_at world container).pairs
walked_length world (cursor.ListBack container index) = length (list_at world container)

-- ---- all calls

-- what a container is shown to have: all pairs, items or elements, in order (profile)
abbrev pub shown_of : Content → Shown
shown_of (content.Dict dict) = shown.Dict (items_of dict.pairs)
shown_of (content.List items) = shown.List items
shown_of (content.Set set) = shown.Set (elements_of set.elements)
shown_of (content.Deque deque) = shown.List deque.items

-- what the plain containers of one thread reply to a call, and what it leaves; a dump shows what each of them has; the
-- calls of sections, `quiesce` and `await` ask no container, and leave all as it is
abbrev pub answer : List Content → List (Option Cursor) → Call → Answer
answer world hands (call.Dict container dict_call) =
    answer_dict world hands container (dict_at world container) dict_call
answer world hands (call.List container list_call) =
    answer_list world hands container (list_at world container) list_call
answer world hands (call.Set container set_call) = answer_set world hands container (set_at world container) set_call
answer world hands (call.Deque container deque_call) =
    answer_deque world hands container (deque_at world container) deque_call
answer world hands (call.Next number) =
    option_map_or
    (λ cursor. moves world hands number (cursor_step world cursor).cursor (cursor_step world cursor).reply)
    (cursor_at hands number) (shows world hands reply.Stop)
answer world hands (call.Begin first second) = shows world hands reply.Done
answer world hands call.End = shows world hands reply.Done
answer world hands call.Quiesce = shows world hands reply.Done
answer world hands (call.Await thread index) = shows world hands reply.Done
answer world hands call.Dump = shows world hands (reply.World (map shown_of world))

-- ---- writes

-- the world that a write leaves, whoever's it is: no call of a changing kind asks for hands (profile)
abbrev pub after_write : List Content → Call → List Content
after_write world call = (answer world no_hands call).world

-- what these writes leave, in their order, of containers that start so (profile)
abbrev pub world_by : List Start → List Call → List Content
world_by starts calls = fold after_write (empty_world starts) calls

-- whether a reply is an exception (profile)
abbrev pub is_raised : Reply → Bool
is_raised (reply.Raised raise) = true
is_raised _ = false

-- whether a reply is a MemoryError, of whatever cause (Python manual, Built-in Exceptions)
abbrev pub is_memory : Reply → Bool
is_memory (reply.Raised (raise.Memory class)) = true
is_memory (reply.Raised raise.Over) = true
is_memory (reply.Raised raise.Heap) = true
is_memory _ = false

-- a write is a call of a changing kind whose reply is no exception (profile)
abbrev pub is_write : Call → Reply → Bool
is_write call reply = is_changing call && not (is_raised reply)
