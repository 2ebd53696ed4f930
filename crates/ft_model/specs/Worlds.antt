-- A world is one content for each container of a script; a thread's hands are its cursors by number.
use Rattle.std.specs.Prelude.{◌≡◌, ℕ, ◌+◌, ◌^◌, ◌<◌, List, [], ◌∷◌, length, map, sum, replicate, slice_get, slice_index_or, All, Option, option_map, Some, None, IfSome, IsSomeAnd}
use Rattle.std.specs.Option.{option_map_or}
use Rattle.ft_model.specs.declared.data.Value.{Value}
use Rattle.ft_model.specs.declared.call.Call.{Call}
use Rattle.ft_model.specs.declared.call.Call.TheVariants as call
use Rattle.ft_model.specs.declared.content.Content.{Content}
use Rattle.ft_model.specs.declared.content.Content.TheVariants as content
use Rattle.ft_model.specs.declared.cursor.Cursor.{Cursor}
use Rattle.ft_model.specs.declared.cursor.Cursor.TheVariants as cursor
use Rattle.ft_model.specs.declared.script.Declaration.{Declaration}
use Rattle.ft_model.specs.declared.script.Kind.{Kind}
use Rattle.ft_model.specs.declared.script.Kind.TheVariants as kind
use Rattle.ft_model.specs.declared.script.Start.{Start}
use Rattle.ft_model.specs.Calls.{containers_of, other_dict, other_list, other_set, other_deque, cursor_of_dict, cursor_of_list, cursor_of_set, cursor_of_deque}
use Rattle.ft_model.specs.Contents.{DictContent, empty_dict, SetContent, empty_set}
use Rattle.ft_model.specs.Deques.{DequeContent, empty_deque}

-- ---- worlds

-- what the containers of a script have, in the order of declaration (profile)
abbrev pub WorldContent : Type 0
WorldContent = List Content

-- what a container of a kind has at the start: `{}`, `[]` or `set()` (Python manual, Built-in Types), or
-- `deque(maxlen=n)` (Python manual, collections.deque)
abbrev pub empty_content : Kind → Content
empty_content kind.Dict = content.Dict empty_dict
empty_content kind.List = content.List []
empty_content kind.Set = content.Set empty_set
empty_content (kind.Deque bound) = content.Deque (empty_deque bound)

-- containers that start so, all of them empty (profile)
abbrev pub empty_world : List Start → List Content
empty_world starts = map (λ start. empty_content start.kind) starts

-- how the containers start that are declared
abbrev pub starts_of : List Declaration → List Start
starts_of containers = map (λ container. container.start) containers

-- how a container starts that shares no keys
abbrev pub start_as : Kind → Start
start_as kind = record { kind = kind; keys = [] }

-- how the container at a place starts; as a list where none is there
abbrev pub start_in : List Start → ℕ → Start
start_in starts place = slice_index_or starts place (start_as kind.List)

-- the world at the start: each container that is declared is empty (profile)
abbrev pub start_world : List Declaration → List Content
start_world containers = empty_world (starts_of containers)

-- what the dict has that a container is; a container of another kind counts as empty
abbrev pub dict_of : Content → DictContent
dict_of (content.Dict dict) = dict
dict_of _ = empty_dict

abbrev pub list_of : Content → List Value
list_of (content.List items) = items
list_of _ = []

abbrev pub set_of : Content → SetContent
set_of (content.Set set) = set
set_of _ = empty_set

abbrev pub deque_of : Content → DequeContent
deque_of (content.Deque deque) = deque
deque_of _ = empty_deque None

-- what the dict at a place has (profile)
abbrev pub dict_at : List Content → ℕ → DictContent
dict_at world place = dict_of (slice_index_or world place (content.Dict empty_dict))

abbrev pub list_at : List Content → ℕ → List Value
list_at world place = list_of (slice_index_or world place (content.List []))

abbrev pub set_at : List Content → ℕ → SetContent
set_at world place = set_of (slice_index_or world place (content.Set empty_set))

abbrev pub deque_at : List Content → ℕ → DequeContent
deque_at world place = deque_of (slice_index_or world place (content.Deque (empty_deque None)))

-- what the container is
abbrev pub kind_of : Content → Kind
kind_of (content.Dict dict) = kind.Dict
kind_of (content.List items) = kind.List
kind_of (content.Set set) = kind.Set
kind_of (content.Deque deque) = kind.Deque deque.bound

-- how many pairs, items or elements there are
abbrev pub length_of : Content → ℕ
length_of (content.Dict dict) = length dict.pairs
length_of (content.List items) = length items
length_of (content.Set set) = length set.elements
length_of (content.Deque deque) = length deque.items

-- the next serial; a list has none, and a deque counts its changes
abbrev pub serial_of : Content → ℕ
serial_of (content.Dict dict) = dict.next
serial_of (content.List items) = 0
serial_of (content.Set set) = set.next
serial_of (content.Deque deque) = deque.moves

-- ---- hands

-- the cursors of a thread by number, `None` where none was made (profile)
abbrev pub HandsContent : Type 0
HandsContent = List (Option Cursor)

-- the cursors of a thread that has room for that many, by number; none is made at the start (profile)
abbrev pub start_hands : ℕ → List (Option Cursor)
start_hands count = replicate count None

-- the hands of a thread without cursors
abbrev pub no_hands : List (Option Cursor)
no_hands = []

-- the cursor of that number, where it was made
abbrev pub cursor_at : List (Option Cursor) → ℕ → Option Cursor
cursor_at hands number = slice_index_or hands number None

-- the container that a cursor goes over
abbrev pub container_of : Cursor → ℕ
container_of (cursor.Dict container walk size expected last) = container
container_of (cursor.List container index ended) = container
container_of (cursor.Set container walk size last) = container
container_of (cursor.Deque container moves index) = container
container_of (cursor.DictBack container walk size last) = container
container_of (cursor.ListBack container index) = container

-- what a cursor's container is; a cursor doesn't know the bound of its deque
abbrev pub cursor_kind : Cursor → Kind
cursor_kind (cursor.Dict container walk size expected last) = kind.Dict
cursor_kind (cursor.List container index ended) = kind.List
cursor_kind (cursor.Set container walk size last) = kind.Set
cursor_kind (cursor.Deque container moves index) = kind.Deque None
cursor_kind (cursor.DictBack container walk size last) = kind.Dict
cursor_kind (cursor.ListBack container index) = kind.List

-- the containers that a call is about: those that it names, or that of its cursor
abbrev pub containers_used : List (Option Cursor) → Call → List ℕ
containers_used hands (call.Next number) =
    option_map_or (λ cursor. container_of cursor ∷ []) (cursor_at hands number) []
containers_used hands (call.Dict container dict_call) = containers_of (call.Dict container dict_call)
containers_used hands (call.List container list_call) = containers_of (call.List container list_call)
containers_used hands (call.Set container set_call) = containers_of (call.Set container set_call)
containers_used hands (call.Deque container deque_call) = containers_of (call.Deque container deque_call)
containers_used hands (call.Begin first second) = containers_of (call.Begin first second)
containers_used hands call.End = []
containers_used hands call.Quiesce = []
containers_used hands (call.Await thread index) = []
containers_used hands call.Dump = []

-- ---- what a call asks of the world and the hands

-- the container is declared, and of that kind; a deque is one whatever bounds it
abbrev pub IsOfKind : List Content → Kind → ℕ → Type 0
IsOfKind world kind.Dict place = option_map kind_of (slice_get world place) ≡ Some kind.Dict
IsOfKind world kind.List place = option_map kind_of (slice_get world place) ≡ Some kind.List
IsOfKind world kind.Set place = option_map kind_of (slice_get world place) ≡ Some kind.Set
IsOfKind world (kind.Deque _) place =
    (bound : Option ℕ) × (option_map kind_of (slice_get world place) ≡ Some (kind.Deque bound))

-- the container and the other one are declared, and of that kind, and there is room for the cursor
pub record IsNamed (world : List Content) (hands : List (Option Cursor)) (kind : Kind) (container : ℕ)
    (other cursor : Option ℕ) : Type 0 where
  pub one : IsOfKind world kind container
  pub both : IfSome other (λ place. IsOfKind world kind place)
  pub room : IfSome cursor (λ number. number < length hands)

-- the containers that a call names are declared and of its kind, and the cursor of a `next` was made; a dump asks
-- nothing; the calls of sections, `quiesce` and `await` are none that a container answers
abbrev pub IsDeclared : List Content → List (Option Cursor) → Call → Type 0
IsDeclared world hands (call.Dict container dict_call) =
    IsNamed world hands kind.Dict container (other_dict dict_call) (cursor_of_dict dict_call)
IsDeclared world hands (call.List container list_call) =
    IsNamed world hands kind.List container (other_list list_call) (cursor_of_list list_call)
IsDeclared world hands (call.Set container set_call) =
    IsNamed world hands kind.Set container (other_set set_call) (cursor_of_set set_call)
IsDeclared world hands (call.Deque container deque_call) =
    IsNamed world hands (kind.Deque None) container (other_deque deque_call) (cursor_of_deque deque_call)
IsDeclared world hands (call.Next number) =
    IsSomeAnd (cursor_at hands number) (λ cursor. IsOfKind world (cursor_kind cursor) (container_of cursor))
IsDeclared world hands (call.Begin first second) = ⊥
IsDeclared world hands call.End = ⊥
IsDeclared world hands call.Quiesce = ⊥
IsDeclared world hands (call.Await thread index) = ⊥
IsDeclared world hands call.Dump = Unit {0}

-- what the containers have that a call names
abbrev pub named_in : List Content → Call → List Content
named_in world named = map (λ place. slice_index_or world place (content.List [])) (containers_of named)

-- a container has serials left for that many more; a list draws none, and a deque counts one change for each call
abbrev pub HasSerials : ℕ → Content → Type 0
HasSerials added (content.Dict dict) = dict.next + added < 2 ^ 63
HasSerials added (content.List items) = Unit {0}
HasSerials added (content.Set set) = set.next + added < 2 ^ 63
HasSerials added (content.Deque deque) = deque.moves < 2 ^ 63

-- each dict or set that the call names has serials left for as much as there is in all that it names, and each deque
-- room to count a change
abbrev pub HasRoom : List Content → Call → Type 0
HasRoom world named = All (HasSerials (sum (map length_of (named_in world named)))) (named_in world named)
