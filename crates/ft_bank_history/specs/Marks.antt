-- Marks of calls that waited: whom they may name, by what was seen of locks. What a call needs is said here by its
-- thread's own entries alone.
use Rattle.std.specs.Prelude.{◌≡◌, ◌≢◌, ◌==◌, ◌+◌, ◌≤◌, ℕ, true, List, [], ◌∷◌, ◌++◌, drop, fold, map, take, Option, Some, None, IfSome, if◌then◌else◌, slice_get}
use Rattle.std.specs.List.{list_any}
use Rattle.std.specs.Option.{option_map_or}
use Rattle.ft_model.specs.declared.call.Call.{Call}
use Rattle.ft_model.specs.declared.call.Call.TheVariants as call
use Rattle.ft_model.specs.declared.entry.Entry.{Entry as NamedEntry}
use Rattle.ft_model.specs.declared.script.ScriptParts.{ScriptParts}
use Rattle.ft_model.specs.Calls.{containers_of, cursor_of_dict, cursor_of_list, cursor_of_set, cursor_of_deque}
use Rattle.ft_model.specs.Histories.{calls_of, names, EachAt}
use Rattle.ft_model.specs.Numbers.{begins_of, begun_containers}
use Rattle.ft_trace.specs.declared.Owner.{Owner}
use Rattle.ft_trace.specs.Owners.{is_owner_in}

-- ---- what a call needs

-- the container that the cursor of this number goes over, after a call on o that makes this cursor, or none (Python
-- manual, Iterator Types)
abbrev pub over_after : ℕ → ℕ → Option ℕ → Option ℕ → Option ℕ
over_after number o None before = before
over_after number o (Some made) before = if made == number then Some o else before

-- the same after any call: a `next` leaves the cursor on its container
abbrev pub walked_after : ℕ → Call → Option ℕ → Option ℕ
walked_after number (call.Dict o dict_call) before = over_after number o (cursor_of_dict dict_call) before
walked_after number (call.List o list_call) before = over_after number o (cursor_of_list list_call) before
walked_after number (call.Set o set_call) before = over_after number o (cursor_of_set set_call) before
walked_after number (call.Deque o deque_call) before = over_after number o (cursor_of_deque deque_call) before
walked_after number (call.Next cursor) before = before
walked_after number (call.Begin first second) before = before
walked_after number call.End before = before
walked_after number call.Quiesce before = before
walked_after number (call.Await thread index) before = before
walked_after number call.Dump before = before

-- the container of the last `iter` that made the cursor of this number, if one did
abbrev pub walked_by : ℕ → List NamedEntry → Option ℕ
walked_by number mine = fold (λ before entry. walked_after number entry.call before) None mine

-- the containers that a call is about which comes after these entries: those that it names, or that of its cursor
abbrev pub used_after : List NamedEntry → Call → List ℕ
used_after mine (call.Next number) = option_map_or (λ o. o ∷ []) (walked_by number mine) []
used_after mine (call.Dict o dict_call) = containers_of (call.Dict o dict_call)
used_after mine (call.List o list_call) = containers_of (call.List o list_call)
used_after mine (call.Set o set_call) = containers_of (call.Set o set_call)
used_after mine (call.Deque o deque_call) = containers_of (call.Deque o deque_call)
used_after mine (call.Begin first second) = containers_of (call.Begin first second)
used_after mine call.End = []
used_after mine call.Quiesce = []
used_after mine (call.Await thread index) = []
used_after mine call.Dump = []

-- the containers of the section that is innermost after a call, where these entries began those that were open before
abbrev pub inner_after : Call → List NamedEntry → List ℕ
inner_after (call.Begin first second) begins = containers_of (call.Begin first second)
inner_after call.End begins = begun_containers (drop 1 begins)
inner_after (call.Dict o dict_call) begins = begun_containers begins
inner_after (call.List o list_call) begins = begun_containers begins
inner_after (call.Set o set_call) begins = begun_containers begins
inner_after (call.Deque o deque_call) begins = begun_containers begins
inner_after (call.Next number) begins = begun_containers begins
inner_after call.Quiesce begins = begun_containers begins
inner_after (call.Await thread index) begins = begun_containers begins
inner_after call.Dump begins = begun_containers begins

-- the containers whose locks a call needs that comes after these entries of its thread (C API, critical sections)
abbrev pub needed_after : List NamedEntry → Call → List ℕ
needed_after mine called = used_after mine called ++ inner_after called (begins_of mine)

-- ---- who had which locks; a thread's pass has the thread's number and one

-- the thread was found with the lock of a container that the call needs
abbrev pub IsFoundFor : List Owner → List NamedEntry → Call → ℕ → Type 0
IsFoundFor found mine called thread =
    (o : ℕ) × (list_any (λ needed. needed == o) (needed_after mine called) ≡ true)
    × (is_owner_in o (thread + 1) found ≡ true)

-- the mark of a call that waited is another thread, which was found so (C API, critical sections; marks: profile)
abbrev pub AreMarksFound : List Owner → List NamedEntry → Type 0
AreMarksFound found mine =
    EachAt mine (λ place entry. IfSome entry.waited (λ thread.
    (thread ≢ entry.thread) × IsFoundFor found (take place mine) entry.call thread))

-- one of the calls of these entries names the container
abbrev pub IsNamedIn : ℕ → List NamedEntry → Type 0
IsNamedIn o mine = list_any (λ entry. names o entry.call) mine ≡ true

-- each container whose lock the thread has had is one that a call of it names
abbrev pub HasNamed : ℕ → List Owner → List NamedEntry → Type 0
HasNamed thread had mine = (o : ℕ) → is_owner_in o (thread + 1) had ≡ true → IsNamedIn o mine

-- they are all passes of the first that many threads
abbrev pub AreOfFirst : ℕ → List Owner → Type 0
AreOfFirst count owners = (o q : ℕ) → is_owner_in o q owners ≡ true → (1 ≤ q) × (q ≤ count)

-- ---- all calls are made

-- each thread's entries are of just the calls that the script has for it
abbrev pub HaveScriptCalls : ScriptParts → List (List NamedEntry) → Type 0
HaveScriptCalls script lists =
    (thread : ℕ) (mine : List NamedEntry) → slice_get lists thread ≡ Some mine
    → map (λ entry. entry.call) mine ≡ calls_of script thread
