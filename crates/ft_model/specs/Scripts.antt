-- The rule of scripts: what names, kinds, cursors, sections and limits a script has. (profile)
use Rattle.std.specs.Prelude.{◌≡◌, ◌≢◌, ℕ, ◌+◌, ◌-◌, ◌%◌, ◌<◌, ◌≤◌, true, List, [], ◌∷◌, ◌++◌, map, replicate, sum, length, take, slice_get, All, Any, AllPairs, Option, option_map, Some, None, IfSome, IsSomeAnd}
use Rattle.ft_model.specs.declared.data.Key.{Key}
use Rattle.ft_model.specs.declared.data.Key.TheVariants as key
use Rattle.ft_model.specs.declared.data.Value.{Value}
use Rattle.ft_model.specs.declared.data.Value.TheVariants as value
use Rattle.ft_model.specs.declared.call.Call.{Call}
use Rattle.ft_model.specs.declared.call.Call.TheVariants as call
use Rattle.ft_model.specs.declared.call.DictCall.{DictCall}
use Rattle.ft_model.specs.declared.call.DictCall.TheVariants as dict
use Rattle.ft_model.specs.declared.call.ListCall.{ListCall}
use Rattle.ft_model.specs.declared.call.ListCall.TheVariants as list
use Rattle.ft_model.specs.declared.call.SetCall.{SetCall}
use Rattle.ft_model.specs.declared.call.SetCall.TheVariants as set
use Rattle.ft_model.specs.declared.call.DequeCall.{DequeCall}
use Rattle.ft_model.specs.declared.call.DequeCall.TheVariants as deque
use Rattle.ft_model.specs.declared.script.Declaration.{Declaration}
use Rattle.ft_model.specs.declared.script.Kind.{Kind}
use Rattle.ft_model.specs.declared.script.Kind.TheVariants as kind
use Rattle.ft_model.specs.declared.script.Start.{Start}
use Rattle.ft_model.specs.declared.script.SharedKeys.{SharedKeys}
use Rattle.ft_model.specs.declared.script.Thread.{Thread}
use Rattle.ft_model.specs.declared.script.ScriptParts.{ScriptParts}
use Rattle.ft_model.specs.Calls.{other_dict, other_list, other_set, other_deque, cursor_of_dict, cursor_of_list, cursor_of_set, cursor_of_deque}
use Rattle.ft_model.specs.Classes.{class_count}
use Rattle.ft_model.specs.Landed.{is_landed_start, is_landed_call}
use Rattle.ft_model.specs.Limits.{heap_step, most_bound, most_calls, most_containers, most_cursors, most_heap, most_sections, most_shared, most_shared_keys, most_strings, most_tables, most_threads, most_turns}
use Rattle.ft_model.specs.Names.{is_container_name, is_thread_name, IsString}

-- ---- strings

-- a key names a string that is declared, of that many
abbrev pub IsKeyOf : ℕ → Key → Type 0
IsKeyOf strings (key.Int n) = Unit {0}
IsKeyOf strings (key.Text symbol) = symbol.0 < strings

-- and so does a value
abbrev pub IsValueOf : ℕ → Value → Type 0
IsValueOf strings value.Nothing = Unit {0}
IsValueOf strings (value.Int n) = Unit {0}
IsValueOf strings (value.Text symbol) = symbol.0 < strings

-- and so does each key and value of a call
abbrev pub AreStringsOfDict : ℕ → DictCall → Type 0
AreStringsOfDict strings (dict.Get key) = IsKeyOf strings key
AreStringsOfDict strings (dict.GetOr key default) = IsKeyOf strings key × IsValueOf strings default
AreStringsOfDict strings (dict.Set key value) = IsKeyOf strings key × IsValueOf strings value
AreStringsOfDict strings (dict.Del key) = IsKeyOf strings key
AreStringsOfDict strings (dict.Pop key) = IsKeyOf strings key
AreStringsOfDict strings (dict.PopOr key default) = IsKeyOf strings key × IsValueOf strings default
AreStringsOfDict strings dict.PopItem = Unit {0}
AreStringsOfDict strings (dict.SetDefault key default) = IsKeyOf strings key × IsValueOf strings default
AreStringsOfDict strings (dict.Has key) = IsKeyOf strings key
AreStringsOfDict strings dict.Len = Unit {0}
AreStringsOfDict strings dict.Items = Unit {0}
AreStringsOfDict strings (dict.Update other) = Unit {0}
AreStringsOfDict strings dict.Clear = Unit {0}
AreStringsOfDict strings (dict.CopyTo other) = Unit {0}
AreStringsOfDict strings (dict.Eq other) = Unit {0}
AreStringsOfDict strings (dict.Iter cursor) = Unit {0}
AreStringsOfDict strings (dict.KeysAnd other) = Unit {0}
AreStringsOfDict strings (dict.KeysSub other) = Unit {0}
AreStringsOfDict strings (dict.KeysOr other) = Unit {0}
AreStringsOfDict strings (dict.KeysXor other) = Unit {0}
AreStringsOfDict strings (dict.ItemsHas key value) = IsKeyOf strings key × IsValueOf strings value
AreStringsOfDict strings (dict.Reversed cursor) = Unit {0}

abbrev pub AreStringsOfList : ℕ → ListCall → Type 0
AreStringsOfList strings (list.Append value) = IsValueOf strings value
AreStringsOfList strings (list.Insert index value) = IsValueOf strings value
AreStringsOfList strings (list.Get index) = Unit {0}
AreStringsOfList strings (list.Set index value) = IsValueOf strings value
AreStringsOfList strings (list.Del index) = Unit {0}
AreStringsOfList strings (list.Pop index) = Unit {0}
AreStringsOfList strings (list.Remove value) = IsValueOf strings value
AreStringsOfList strings (list.Index value) = IsValueOf strings value
AreStringsOfList strings (list.Count value) = IsValueOf strings value
AreStringsOfList strings (list.Has value) = IsValueOf strings value
AreStringsOfList strings list.Reverse = Unit {0}
AreStringsOfList strings (list.Extend other) = Unit {0}
AreStringsOfList strings (list.Slice start end) = Unit {0}
AreStringsOfList strings list.Clear = Unit {0}
AreStringsOfList strings list.Len = Unit {0}
AreStringsOfList strings list.Items = Unit {0}
AreStringsOfList strings (list.Eq other) = Unit {0}
AreStringsOfList strings (list.Iter cursor) = Unit {0}
AreStringsOfList strings (list.Reversed cursor) = Unit {0}

abbrev pub AreStringsOfSet : ℕ → SetCall → Type 0
AreStringsOfSet strings (set.Add key) = IsKeyOf strings key
AreStringsOfSet strings (set.Discard key) = IsKeyOf strings key
AreStringsOfSet strings (set.Remove key) = IsKeyOf strings key
AreStringsOfSet strings set.Pop = Unit {0}
AreStringsOfSet strings (set.Has key) = IsKeyOf strings key
AreStringsOfSet strings set.Len = Unit {0}
AreStringsOfSet strings set.Items = Unit {0}
AreStringsOfSet strings (set.Eq other) = Unit {0}
AreStringsOfSet strings (set.Or other) = Unit {0}
AreStringsOfSet strings (set.And other) = Unit {0}
AreStringsOfSet strings (set.Sub other) = Unit {0}
AreStringsOfSet strings (set.Xor other) = Unit {0}
AreStringsOfSet strings (set.Subset other) = Unit {0}
AreStringsOfSet strings (set.Disjoint other) = Unit {0}
AreStringsOfSet strings set.Clear = Unit {0}
AreStringsOfSet strings (set.Iter cursor) = Unit {0}

abbrev pub AreStringsOfDeque : ℕ → DequeCall → Type 0
AreStringsOfDeque strings (deque.Append value) = IsValueOf strings value
AreStringsOfDeque strings (deque.AppendLeft value) = IsValueOf strings value
AreStringsOfDeque strings deque.Pop = Unit {0}
AreStringsOfDeque strings deque.PopLeft = Unit {0}
AreStringsOfDeque strings (deque.Extend other) = Unit {0}
AreStringsOfDeque strings (deque.ExtendLeft other) = Unit {0}
AreStringsOfDeque strings (deque.Rotate steps) = Unit {0}
AreStringsOfDeque strings deque.Clear = Unit {0}
AreStringsOfDeque strings (deque.Get index) = Unit {0}
AreStringsOfDeque strings deque.Len = Unit {0}
AreStringsOfDeque strings deque.Items = Unit {0}
AreStringsOfDeque strings (deque.Has value) = IsValueOf strings value
AreStringsOfDeque strings (deque.Iter cursor) = Unit {0}

abbrev pub AreStringsOf : ℕ → Call → Type 0
AreStringsOf strings (call.Dict container dict_call) = AreStringsOfDict strings dict_call
AreStringsOf strings (call.List container list_call) = AreStringsOfList strings list_call
AreStringsOf strings (call.Set container set_call) = AreStringsOfSet strings set_call
AreStringsOf strings (call.Deque container deque_call) = AreStringsOfDeque strings deque_call
AreStringsOf strings (call.Next cursor) = Unit {0}
AreStringsOf strings (call.Begin first second) = Unit {0}
AreStringsOf strings call.End = Unit {0}
AreStringsOf strings call.Quiesce = Unit {0}
AreStringsOf strings (call.Await thread index) = Unit {0}
AreStringsOf strings call.Dump = Unit {0}

-- ---- containers and cursors

-- what the container at a place is declared as, where one is
abbrev pub kind_at : List Declaration → ℕ → Option Kind
kind_at containers place = option_map (λ container. container.start.kind) (slice_get containers place)

-- the container is declared, and of that kind; a deque is one whatever bounds it
abbrev pub IsDeclaredAs : List Declaration → Kind → ℕ → Type 0
IsDeclaredAs containers kind.Dict place = kind_at containers place ≡ Some kind.Dict
IsDeclaredAs containers kind.List place = kind_at containers place ≡ Some kind.List
IsDeclaredAs containers kind.Set place = kind_at containers place ≡ Some kind.Set
IsDeclaredAs containers (kind.Deque _) place = (bound : Option ℕ) × (kind_at containers place ≡ Some (kind.Deque bound))

-- the containers are declared, and of that kind, and there is such a cursor, of that many
pub record AreNamesOf (containers : List Declaration) (cursors : ℕ) (kind : Kind) (one : ℕ)
    (other cursor : Option ℕ) : Type 0 where
  pub container : IsDeclaredAs containers kind one
  pub second : IfSome other (λ place. IsDeclaredAs containers kind place)
  pub made : IfSome cursor (λ number. number < cursors)

-- a call names containers of its kind and cursors of its thread
abbrev pub NamesOf : List Declaration → ℕ → Call → Type 0
NamesOf containers cursors (call.Dict place dict_call) =
    AreNamesOf containers cursors kind.Dict place (other_dict dict_call) (cursor_of_dict dict_call)
NamesOf containers cursors (call.List place list_call) =
    AreNamesOf containers cursors kind.List place (other_list list_call) (cursor_of_list list_call)
NamesOf containers cursors (call.Set place set_call) =
    AreNamesOf containers cursors kind.Set place (other_set set_call) (cursor_of_set set_call)
NamesOf containers cursors (call.Deque place deque_call) =
    AreNamesOf containers cursors (kind.Deque None) place (other_deque deque_call) (cursor_of_deque deque_call)
NamesOf containers cursors (call.Next number) = number < cursors
NamesOf containers cursors (call.Begin first second) =
    (first < length containers) × IfSome second (λ place. place < length containers)
NamesOf containers cursors call.End = Unit {0}
NamesOf containers cursors call.Quiesce = Unit {0}
NamesOf containers cursors (call.Await thread index) = Unit {0}
NamesOf containers cursors call.Dump = Unit {0}

-- a call's containers, cursors and strings are the script's and the thread's
pub record IsCallOf (script : ScriptParts) (cursors : ℕ) (called : Call) : Type 0 where
  pub names : NamesOf script.containers cursors called
  pub strings : AreStringsOf (length script.strings) called

-- the cursor that a call makes, if it makes one
abbrev pub cursor_of : Call → Option ℕ
cursor_of (call.Dict place dict_call) = cursor_of_dict dict_call
cursor_of (call.List place list_call) = cursor_of_list list_call
cursor_of (call.Set place set_call) = cursor_of_set set_call
cursor_of (call.Deque place deque_call) = cursor_of_deque deque_call
cursor_of (call.Next cursor) = None
cursor_of (call.Begin first second) = None
cursor_of call.End = None
cursor_of call.Quiesce = None
cursor_of (call.Await thread index) = None
cursor_of call.Dump = None

-- a cursor is made before it is moved
abbrev pub AreMade : List Call → Type 0
AreMade calls =
    (place number : ℕ) → slice_get calls place ≡ Some (call.Next number)
    → Any (λ earlier. cursor_of earlier ≡ Some number) (take place calls)

-- ---- sections

-- from that many open sections on each `end` has its `begin`, no more are open at once than may be, no `await` stands
-- inside one, and all are ended (C API, critical sections; the limit, and awaits: profile)
abbrev pub AreNested : ℕ → List Call → Type 0
AreNested depth [] = depth ≡ 0
AreNested depth (call.Begin first second ∷ calls) = (depth < most_sections) × AreNested (depth + 1) calls
AreNested depth (call.End ∷ calls) = (0 < depth) × AreNested (depth - 1) calls
AreNested depth (call.Dict place dict_call ∷ calls) = AreNested depth calls
AreNested depth (call.List place list_call ∷ calls) = AreNested depth calls
AreNested depth (call.Set place set_call ∷ calls) = AreNested depth calls
AreNested depth (call.Deque place deque_call ∷ calls) = AreNested depth calls
AreNested depth (call.Next cursor ∷ calls) = AreNested depth calls
AreNested depth (call.Quiesce ∷ calls) = AreNested depth calls
AreNested depth (call.Await thread index ∷ calls) = (depth ≡ 0) × AreNested depth calls
AreNested depth (call.Dump ∷ calls) = AreNested depth calls

-- ---- awaits

-- an `await` of a thread names a call of one that is declared before it, by its index from 1 (profile)
abbrev pub IsAwaitOf : List Thread → ℕ → Call → Type 0
IsAwaitOf threads number (call.Await thread index) =
    (thread < number) × (1 ≤ index) × IsSomeAnd (slice_get threads thread) (λ named. index ≤ length named.calls)
IsAwaitOf threads number _ = Unit {0}

-- all awaits of the threads do
abbrev pub AreAwaitsOf : List Thread → Type 0
AreAwaitsOf threads =
    (number : ℕ) (thread : Thread) →
    slice_get threads number ≡ Some thread → All (IsAwaitOf threads number) thread.calls

-- ---- shared keys and starts

-- keys that split dicts share: 1 to 10 that differ, and a name of a container's form that no container has (profile)
pub record IsShared (script : ScriptParts) (shared : SharedKeys) : Type 0 where
  pub name : is_container_name shared.name ≡ true
  pub own_name : All (λ container. container.name ≢ shared.name) script.containers
  pub some : 1 ≤ length shared.keys
  pub few : length shared.keys ≤ most_shared_keys
  pub differ : AllPairs (λ a b. a ≢ b) shared.keys
  pub strings : All (IsKeyOf (length script.strings)) shared.keys

-- the keys of a container at the start: a dict may share those of one of these names, every other container has none
-- (profile)
abbrev pub HasStartKeys : List SharedKeys → Start → List Key → Type 0
HasStartKeys shared start [] = Unit {0}
HasStartKeys shared start (first ∷ keys) =
    (start.kind ≡ kind.Dict) × Any (λ each. each.keys ≡ first ∷ keys) shared

-- the bound of a deque: 1 to 65536 items (profile)
abbrev pub HasBound : Kind → Type 0
HasBound (kind.Deque bound) = IfSome bound (λ most. (1 ≤ most) × (most ≤ most_bound))
HasBound _ = Unit {0}

-- a container starts so in a script
pub record IsStartOf (script : ScriptParts) (start : Start) : Type 0 where
  pub keys : HasStartKeys script.shared start start.keys
  pub bound : HasBound start.kind
  pub landed : is_landed_start start ≡ true

-- ---- scripts

-- how many tables of each class there are where a script has no line for the class: 4 of each class from 3 to 12, 1 of
-- each class above
abbrev pub default_tables : List ℕ
default_tables = replicate 10 4 ++ replicate 4 1

-- a thread of the script, with its cursors and calls
pub record IsThread (script : ScriptParts) (thread : Thread) : Type 0 where
  pub name : is_thread_name thread.name ≡ true
  pub few_cursors : length thread.cursors ≤ most_cursors
  pub cursor_names : All (λ cursor. is_container_name cursor ≡ true) thread.cursors
  pub cursors_differ : AllPairs (λ a b. a ≢ b) thread.cursors
  pub calls : All (IsCallOf script (length thread.cursors)) thread.calls
  pub made : AreMade thread.calls
  pub nested : AreNested 0 thread.calls
  pub landed : All (λ called. is_landed_call called ≡ true) thread.calls

-- what every script keeps
pub record IsScript (script : ScriptParts) : Type 0 where
  pub few_containers : length script.containers ≤ most_containers
  pub container_names : All (λ container. is_container_name container.name ≡ true) script.containers
  pub containers_differ : AllPairs (λ a b. a.name ≢ b.name) script.containers
  pub starts : All (λ container. IsStartOf script container.start) script.containers
  pub few_shared : length script.shared ≤ most_shared
  pub shared : All (IsShared script) script.shared
  pub shared_differ : AllPairs (λ a b. a.name ≢ b.name) script.shared
  pub few_threads : length script.threads ≤ most_threads
  pub threads : All (IsThread script) script.threads
  pub threads_differ : AllPairs (λ a b. a.name ≢ b.name) script.threads
  pub awaits : AreAwaitsOf script.threads
  pub few_calls : sum (map (λ thread. length thread.calls) script.threads) ≤ most_calls
  pub few_strings : length script.strings ≤ most_strings
  pub strings : All IsString script.strings
  pub strings_differ : AllPairs (λ a b. a ≢ b) script.strings
  -- at least one table of each class
  pub classes : length script.tables ≡ class_count
  pub tables : All (λ count. (1 ≤ count) × (count ≤ most_tables)) script.tables
  -- a number of places that is a whole number of steps
  pub least_heap : heap_step ≤ script.heap
  pub greatest_heap : script.heap ≤ most_heap
  pub heap_steps : script.heap % heap_step ≡ 0
  pub few_turns : length script.order ≤ most_turns
  pub turns : All (λ thread. thread < length script.threads) script.order
