-- The tables that containers have at a place of a history, computed from the writes before it alone, and when a
-- MemoryError is right. An entry of a dict's or set's table is used once, so that `fill` counts deleted ones too. A
-- dict that is split has no table: its pairs are the first of the keys that it shares (PEP 412), and it ceases to be
-- split for good at the first call that breaks this. (profile)
use Rattle.std.specs.Prelude.{◌≡◌, ◌⊎◌, ℕ, Bool, true, false, not, ◌&&◌, ◌==◌, ◌+◌, ◌-◌, ◌*◌, ◌^◌, ◌≤◌, nat_lt, List, [], ◌∷◌, map, fold, length, Option, Some, None, slice_set, slice_index_or, if◌then◌else◌}
use Rattle.std.specs.Option.{option_map_or}
use Rattle.std.specs.List.{count_by, list_any}
use Rattle.ft_model.specs.declared.call.Call.{Call}
use Rattle.ft_model.specs.declared.call.Call.TheVariants as call
use Rattle.ft_model.specs.declared.data.Key.{Key}
use Rattle.ft_model.specs.declared.call.DictCall.{DictCall}
use Rattle.ft_model.specs.declared.call.DictCall.TheVariants as dict
use Rattle.ft_model.specs.declared.call.TableChange.{TableChange}
use Rattle.ft_model.specs.declared.call.TableChange.TheVariants as change
use Rattle.ft_model.specs.declared.content.Content.{Content}
use Rattle.ft_model.specs.declared.content.Content.TheVariants as content
use Rattle.ft_model.specs.declared.reply.Reply.{Reply}
use Rattle.ft_model.specs.declared.reply.Reply.TheVariants as reply
use Rattle.ft_model.specs.declared.reply.Raise.TheVariants as raise
use Rattle.ft_model.specs.declared.entry.Entry.{Entry}
use Rattle.ft_model.specs.declared.entry.Storage.{Storage}
use Rattle.ft_model.specs.declared.entry.Storage.TheVariants as storage
use Rattle.ft_model.specs.declared.script.Start.{Start}
use Rattle.ft_model.specs.declared.script.ScriptParts.{ScriptParts}
use Rattle.ft_model.specs.declared.table.KeptTable.{KeptTable}
use Rattle.ft_model.specs.Calls.{dict_change, list_change, set_change, deque_change, can_add}
use Rattle.ft_model.specs.Classes.{least_class, IsClass, dict_entries, list_items, most_pairs, most_elements, most_items, dict_class, set_class, list_class}
use Rattle.ft_model.specs.Contents.{DictContent, SetContent}
use Rattle.ft_model.specs.Keys.{same_key}
use Rattle.ft_model.specs.Views.{keys_in}
use Rattle.ft_model.specs.Boxings.{boxes, boxings}
use Rattle.ft_model.specs.Worlds.{starts_of, start_in, empty_world, dict_at, list_at, set_at, deque_at, named_in, no_hands}
use Rattle.ft_model.specs.Answers.{answer, after_write, is_memory, is_raised}

-- ---- the table of a container

-- its class, or none where nothing was stored since the start or the last clear, how many entries are used, and the
-- keys that a dict shares as long as it is split, of which every other container has none
pub record TableUse : Type 0 where
  pub class : Option ℕ
  pub fill : ℕ
  pub keys : List Key

abbrev pub no_table : TableUse
no_table = record { class = None; fill = 0; keys = [] }

-- the table of a container at the start: none, and a dict may be split
abbrev pub start_table : Start → TableUse
start_table start = record { class = None; fill = 0; keys = start.keys }

-- what a kept table says, which is of a dict that is not split
abbrev pub table_of : KeptTable → TableUse
table_of kept = record { class = kept.class; fill = kept.fill; keys = [] }

-- whether that many new entries find no room in the table, and whether that many items do
abbrev pub outgrows_dict : TableUse → ℕ → Bool
outgrows_dict table added =
    nat_lt 0 added && option_map_or (λ class. nat_lt (dict_entries class) (table.fill + added)) table.class true

abbrev pub outgrows_set : TableUse → ℕ → Bool
outgrows_set table added =
    nat_lt 0 added && option_map_or (λ class. nat_lt (3 * 2 ^ class) (5 * (table.fill + added))) table.class true

abbrev pub outgrows_list : TableUse → ℕ → Bool
outgrows_list table count = nat_lt 0 count && option_map_or (λ class. nat_lt (list_items class) count) table.class true

-- the class that a container takes that had one content and then has another
abbrev pub dict_takes : TableUse → DictContent → DictContent → Option ℕ
dict_takes table old new =
    if outgrows_dict table (new.next - old.next) then Some (dict_class (length new.pairs)) else None

abbrev pub set_takes : TableUse → SetContent → SetContent → Option ℕ
set_takes table old new =
    if outgrows_set table (new.next - old.next) then Some (set_class (length new.elements)) else None

abbrev pub list_takes : TableUse → ℕ → Option ℕ
list_takes table count = if outgrows_list table count then Some (list_class count) else None

-- a copy takes a table in any case, but for no pairs
abbrev pub copy_takes : ℕ → Option ℕ
copy_takes count = if nat_lt 0 count then Some (dict_class count) else None

-- the table with that many entries more, and the one that is taken for that many
abbrev pub with_more_used : TableUse → ℕ → TableUse
with_more_used table added = record { class = table.class; fill = table.fill + added; keys = table.keys }

abbrev pub taken : ℕ → ℕ → TableUse
taken class count = record { class = Some class; fill = count; keys = [] }

-- the table of a dict that got a copy of that many pairs, which is none for no pairs
abbrev pub copy_leaves : ℕ → TableUse
copy_leaves count = option_map_or (λ class. taken class count) (copy_takes count) no_table

-- ---- what a call does to tables

abbrev pub table_at : List TableUse → ℕ → TableUse
table_at tables place = slice_index_or tables place no_table

-- the class that a call takes of these, where it grows its container and where it copies
abbrev pub change_takes : TableChange → Option ℕ → Option ℕ → Option ℕ
change_takes change.Stays grown copied = None
change_takes change.Grows grown copied = grown
change_takes (change.CopiesTo other) grown copied = copied
change_takes change.GivesUp grown copied = None

-- ---- dicts that are split

-- whether a dict that shares these keys is split
abbrev pub is_split : List Key → Bool
is_split [] = false
is_split (key ∷ keys) = true

-- whether the pairs' keys are the first of these, in their order
abbrev pub are_first : List Key → List Key → Bool
are_first [] keys = true
are_first (key ∷ own) [] = false
are_first (key ∷ own) (first ∷ keys) = same_key key first && are_first own keys

-- whether a call ends it that a dict is split: a new key keeps it so where its place among the shared keys is the number
-- of pairs, which is where the keys are the first of them again; an update that adds, a pair that is taken out and a
-- clear end it
abbrev pub ends_split : List Key → DictCall → DictContent → DictContent → Bool
ends_split keys (dict.Set key value) old new = not (are_first (keys_in new.pairs) keys)
ends_split keys (dict.SetDefault key default) old new = not (are_first (keys_in new.pairs) keys)
ends_split keys (dict.Update other) old new = not (new.next == old.next)
ends_split keys (dict.Del key) old new = not (length new.pairs == length old.pairs)
ends_split keys (dict.Pop key) old new = not (length new.pairs == length old.pairs)
ends_split keys (dict.PopOr key default) old new = not (length new.pairs == length old.pairs)
ends_split keys dict.PopItem old new = not (length new.pairs == length old.pairs)
ends_split keys dict.Clear old new = true
ends_split keys _ old new = false

-- the class that a dict takes that ceases to be split: that of its pairs, where it has any
abbrev pub leaving_takes : DictContent → Option ℕ
leaving_takes new = if nat_lt 0 (length new.pairs) then Some (dict_class (length new.pairs)) else None

-- the class that a call of a split dict takes; a copy takes one for the other dict
abbrev pub split_takes : List Key → DictCall → DictContent → DictContent → Option ℕ
split_takes keys (dict.CopyTo other) old new = copy_takes (length old.pairs)
split_takes keys called old new = if ends_split keys called old new then leaving_takes new else None

-- the table of a dict that ceased to be split, and took this class, if it took one
abbrev pub combined_table : Option ℕ → DictContent → TableUse
combined_table takes new = option_map_or (λ class. taken class (length new.pairs)) takes no_table

-- the tables that a call of a split dict leaves that takes a class, if it takes one
abbrev pub split_leaves : List TableUse → ℕ → DictCall → DictContent → DictContent → Option ℕ → List TableUse
split_leaves tables place (dict.CopyTo other) old new takes = slice_set tables other (copy_leaves (length old.pairs))
split_leaves tables place called old new takes =
    if ends_split (table_at tables place).keys called old new
    then slice_set tables place (combined_table takes new)
    else tables

-- ---- what each call takes and leaves

-- the class that a call of a dict takes, if it takes one
abbrev pub dict_call_takes : TableUse → DictCall → DictContent → DictContent → Option ℕ
dict_call_takes table called old new =
    if is_split table.keys
    then split_takes table.keys called old new
    else change_takes (dict_change called) (dict_takes table old new) (copy_takes (length old.pairs))

-- the class of the table that a call takes, if it takes one, between the world before it and the world after it
abbrev pub takes_class : List Content → List Content → List TableUse → Call → Option ℕ
takes_class old new tables (call.Dict place dict_call) =
    dict_call_takes (table_at tables place) dict_call (dict_at old place) (dict_at new place)
takes_class old new tables (call.List place list_call) =
    change_takes (list_change list_call) (list_takes (table_at tables place) (length (list_at new place))) None
takes_class old new tables (call.Set place set_call) =
    change_takes (set_change set_call) (set_takes (table_at tables place) (set_at old place) (set_at new place)) None
takes_class old new tables (call.Deque place deque_call) =
    change_takes (deque_change deque_call) (list_takes (table_at tables place) (length (deque_at new place).items)) None
takes_class old new tables (call.Next cursor) = None
takes_class old new tables (call.Begin first second) = None
takes_class old new tables call.End = None
takes_class old new tables call.Quiesce = None
takes_class old new tables (call.Await thread index) = None
takes_class old new tables call.Dump = None

-- the tables with these in place of a container's own, where it grows, and of the other one's, where it is copied
abbrev pub change_leaves : List TableUse → ℕ → TableChange → TableUse → TableUse → List TableUse
change_leaves tables place change.Stays grown copied = tables
change_leaves tables place change.Grows grown copied = slice_set tables place grown
change_leaves tables place (change.CopiesTo other) grown copied = slice_set tables other copied
change_leaves tables place change.GivesUp grown copied = slice_set tables place no_table

-- the table of a container that took a class, if it did, with its new entries and all that it then has
abbrev pub grown_table : TableUse → Option ℕ → ℕ → ℕ → TableUse
grown_table table takes added count = option_map_or (λ class. taken class count) takes (with_more_used table added)

-- the tables that a call of a dict leaves that takes a class, if it takes one
abbrev pub dict_call_leaves : List TableUse → ℕ → DictCall → DictContent → DictContent → Option ℕ → List TableUse
dict_call_leaves tables place called old new takes =
    if is_split (table_at tables place).keys
    then split_leaves tables place called old new takes
    else change_leaves
    tables
    place
    (dict_change called)
    (grown_table (table_at tables place) takes (new.next - old.next) (length new.pairs))
    (copy_leaves (length old.pairs))

-- the tables that a call leaves that takes a class, if it takes one; the table of a list or a deque has no fill
abbrev pub leaves_tables : List Content → List Content → List TableUse → Call → Option ℕ → List TableUse
leaves_tables old new tables (call.Dict place dict_call) takes =
    dict_call_leaves tables place dict_call (dict_at old place) (dict_at new place) takes
leaves_tables old new tables (call.List place list_call) takes =
    change_leaves tables place (list_change list_call) (grown_table (table_at tables place) takes 0 0) no_table
leaves_tables old new tables (call.Set place set_call) takes =
    change_leaves
    tables
    place
    (set_change set_call)
    (grown_table
    (table_at tables place)
    takes
    ((set_at new place).next - (set_at old place).next)
    (length (set_at new place).elements))
    no_table
leaves_tables old new tables (call.Deque place deque_call) takes =
    change_leaves tables place (deque_change deque_call) (grown_table (table_at tables place) takes 0 0) no_table
leaves_tables old new tables (call.Next cursor) takes = tables
leaves_tables old new tables (call.Begin first second) takes = tables
leaves_tables old new tables call.End takes = tables
leaves_tables old new tables call.Quiesce takes = tables
leaves_tables old new tables (call.Await thread index) takes = tables
leaves_tables old new tables call.Dump takes = tables

-- ---- over a list of writes

-- what containers have, and their tables
pub record StoredWorld : Type 0 where
  pub world : List Content
  pub tables : List TableUse

-- containers that start so: empty, and without tables
abbrev pub empty_stored : List Start → StoredWorld
empty_stored starts = record { world = empty_world starts; tables = map start_table starts }

-- the class that a write takes there, and what it leaves
abbrev pub takes_in : StoredWorld → Call → Option ℕ
takes_in stored call = takes_class stored.world (after_write stored.world call) stored.tables call

abbrev pub after_stored : StoredWorld → Call → StoredWorld
after_stored stored call =
    record {
      world = after_write stored.world call;
      tables = leaves_tables stored.world (after_write stored.world call) stored.tables call (takes_in stored call);
    }

-- what these writes leave of containers that start so, the oldest write first
abbrev pub stored_by : List Start → List Call → StoredWorld
stored_by starts calls = fold after_stored (empty_stored starts) calls

-- and the newest write first, for whoever goes back from the last write
abbrev pub stored_newest : List Start → List Call → StoredWorld
stored_newest starts [] = empty_stored starts
stored_newest starts (call ∷ calls) = after_stored (stored_newest starts calls) call

-- the classes that each of the writes takes
abbrev pub takings : StoredWorld → List Call → List (Option ℕ)
takings stored [] = []
takings stored (call ∷ calls) = takes_in stored call ∷ takings (after_stored stored call) calls

abbrev pub is_class : ℕ → Option ℕ → Bool
is_class class None = false
is_class class (Some taken_class) = taken_class == class

-- how many of these writes took a table of the class, the oldest write first
abbrev pub takes_by : List Start → ℕ → List Call → ℕ
takes_by starts class calls = count_by (is_class class) (takings (empty_stored starts) calls)

-- and the newest write first
abbrev pub takes_newest : List Start → ℕ → List Call → ℕ
takes_newest starts class [] = 0
takes_newest starts class (call ∷ calls) =
    takes_newest starts class calls + (if is_class class (takes_in (stored_newest starts calls) call) then 1 else 0)

-- of the containers of a script
abbrev pub stored_after : ScriptParts → List Call → StoredWorld
stored_after script calls = stored_by (starts_of script.containers) calls

abbrev pub takes : ScriptParts → ℕ → List Call → ℕ
takes script class calls = takes_by (starts_of script.containers) class calls

-- ---- MemoryErrors

-- whether a container has more than the largest table holds
abbrev pub passes_cap : Content → Bool
passes_cap (content.Dict dict) = nat_lt most_pairs (length dict.pairs)
passes_cap (content.List items) = nat_lt most_items (length items)
passes_cap (content.Set set) = nat_lt most_elements (length set.elements)
passes_cap (content.Deque deque) = nat_lt most_items (length deque.items)

-- whether a call can add, and would leave a container that it names with more than that
abbrev pub would_pass : List Content → Call → Bool
would_pass world call = can_add call && list_any passes_cap (named_in (after_write world call) call)

-- the count of a class among the counts of all classes: of the tables that there are, or of those that were taken
abbrev pub table_count : List ℕ → ℕ → ℕ
table_count tables class = slice_index_or tables (class - least_class) 0

-- earlier writes, and a call of each other thread in flight, can have taken all tables of the class
pub record IsClassEarned
    (starts : List Start) (tables : List ℕ) (threads : ℕ) (calls : List Call) (class : ℕ) : Type 0 where
  pub is_class : IsClass class
  pub all_taken : table_count tables class ≤ takes_by starts class calls + (threads - 1)

-- a MemoryError of a class or over stands on a call that can add to a container, and that raises nothing else there
pub record CanLackMemory (world : List Content) (call : Call) : Type 0 where
  pub adds : can_add call ≡ true
  pub raises_nothing : is_raised (answer world no_hands call).reply ≡ false

-- whether a call of a dict can take a pair out of it, and nothing more
abbrev pub takes_out : DictCall → Bool
takes_out (dict.Del key) = true
takes_out (dict.Pop key) = true
takes_out (dict.PopOr key default) = true
takes_out dict.PopItem = true
takes_out _ = false

-- whether a call can take a pair out of a dict that is declared split, which then takes a table for those that are left
abbrev pub can_leave_split : List Start → Call → Bool
can_leave_split starts (call.Dict place dict_call) = takes_out dict_call && is_split (start_in starts place).keys
can_leave_split starts _ = false

-- a MemoryError of a class stands on such a call too, where it raises nothing else
pub record CanLackLeaving (starts : List Start) (world : List Content) (call : Call) : Type 0 where
  pub leaves : can_leave_split starts call ≡ true
  pub raises_nothing : is_raised (answer world no_hands call).reply ≡ false

-- a MemoryError of a heap stands on a call that would put a value in a box, which raises nothing else there and passes
-- no largest table, where the thread's own boxings before it are no fewer than the heap's places
pub record IsHeapEarned (starts : List Start) (heap : ℕ) (calls : List Call) (mine : List Entry)
    (call : Call) : Type 0 where
  pub boxes : boxes (stored_by starts calls).world call ≡ true
  pub raises_nothing : is_raised (answer (stored_by starts calls).world no_hands call).reply ≡ false
  pub passes_nothing : would_pass (stored_by starts calls).world call ≡ false
  pub all_used : heap ≤ boxings starts calls mine

-- what a thread may use: how many tables there are of each class, how many threads, and the places of each heap
pub record Supply : Type 0 where
  pub tables : List ℕ
  pub threads : ℕ
  pub heap : ℕ

-- a MemoryError over stands exactly where the call would pass the largest table, and one of a class where it would not,
-- and where all tables of the class can be taken. `calls` are the writes before it, and `mine` the thread's own entries
-- before it, by which the values in its heap count (profile)
abbrev pub IsEarnedReply : List Start → Supply → List Call → List Entry → Call → Reply → Type 0
IsEarnedReply starts supply calls mine call (reply.Raised (raise.Memory class)) =
    (CanLackMemory (stored_by starts calls).world call ⊎ CanLackLeaving starts (stored_by starts calls).world call)
    × (would_pass (stored_by starts calls).world call ≡ false)
    × IsClassEarned starts supply.tables supply.threads calls class
IsEarnedReply starts supply calls mine call (reply.Raised raise.Over) =
    CanLackMemory (stored_by starts calls).world call × (would_pass (stored_by starts calls).world call ≡ true)
IsEarnedReply starts supply calls mine call (reply.Raised raise.Heap) =
    IsHeapEarned starts supply.heap calls mine call
IsEarnedReply starts supply calls mine call _ = would_pass (stored_by starts calls).world call ≡ false

-- what the threads of a script may use
abbrev pub supply_of : ScriptParts → Supply
supply_of script = record { tables = script.tables; threads = length script.threads; heap = script.heap }

-- plain containers are never out of memory; containers on tables are where there is a cause
abbrev pub IsEarned : Storage → ScriptParts → List Call → List Entry → Entry → Type 0
IsEarned storage.Plain script calls mine entry = is_memory entry.reply ≡ false
IsEarned storage.Tables script calls mine entry =
    IsEarnedReply (starts_of script.containers) (supply_of script) calls mine entry.call entry.reply

-- a MemoryError of a class fits where the call would take a table of that class there, and one of a heap where it would
-- put a value in a box
abbrev pub IsFittingReply : StoredWorld → Call → Reply → Type 0
IsFittingReply stored call (reply.Raised (raise.Memory class)) = takes_in stored call ≡ Some class
IsFittingReply stored call (reply.Raised raise.Heap) = boxes stored.world call ≡ true
IsFittingReply stored call _ = Unit {0}

abbrev pub IsFitting : Storage → ScriptParts → List Call → Entry → Type 0
IsFitting storage.Plain script calls entry = Unit {0}
IsFitting storage.Tables script calls entry = IsFittingReply (stored_after script calls) entry.call entry.reply
