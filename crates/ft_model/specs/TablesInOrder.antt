-- Which container a call changes, and when the tables of containers are in order.
use Rattle.std.specs.Prelude.{◌≡◌, ℕ, ◌≤◌, true, List, [], ◌∷◌, length, Option, Some, None, slice_index_or, if◌then◌else◌}
use Rattle.ft_model.specs.declared.call.Call.{Call}
use Rattle.ft_model.specs.declared.call.Call.TheVariants as call
use Rattle.ft_model.specs.declared.call.TableChange.{TableChange}
use Rattle.ft_model.specs.declared.call.TableChange.TheVariants as change
use Rattle.ft_model.specs.declared.content.Content.{Content}
use Rattle.ft_model.specs.declared.content.Content.TheVariants as content
use Rattle.ft_model.specs.declared.data.Key.{Key}
use Rattle.ft_model.specs.Calls.{is_changing_dict, is_changing_list, is_changing_set, is_changing_deque, dict_change}
use Rattle.ft_model.specs.Classes.{IsClass, dict_entries, set_entries, list_items, most_pairs}
use Rattle.ft_model.specs.Contents.{DictContent}
use Rattle.ft_model.specs.Views.{keys_in}
use Rattle.ft_model.specs.TableUses.{TableUse, StoredWorld, table_at, are_first}

-- ---- the container that a call changes

-- of a changing call of a dict: the dict itself, but for a copy the one that it is copied to (profile)
abbrev pub changed_dict : ℕ → TableChange → ℕ
changed_dict place change.Stays = place
changed_dict place change.Grows = place
changed_dict place (change.CopiesTo other) = other
changed_dict place change.GivesUp = place

-- the container that a call changes, where it is of a changing kind: never more than one (profile)
abbrev pub changed_by : Call → Option ℕ
changed_by (call.Dict place dict_call) =
    if is_changing_dict dict_call then Some (changed_dict place (dict_change dict_call)) else None
changed_by (call.List place list_call) = if is_changing_list list_call then Some place else None
changed_by (call.Set place set_call) = if is_changing_set set_call then Some place else None
changed_by (call.Deque place deque_call) = if is_changing_deque deque_call then Some place else None
changed_by (call.Next cursor) = None
changed_by (call.Begin first second) = None
changed_by call.End = None
changed_by call.Quiesce = None
changed_by (call.Await thread index) = None
changed_by call.Dump = None

-- ---- tables in order

-- without a table nothing is stored; a table is of a class, and its used entries are no fewer than what is stored and
-- no more than it has room for (profile)
abbrev pub HasTableFor : ℕ → Option ℕ → ℕ → (ℕ → ℕ) → Type 0
HasTableFor count None fill room = (count ≡ 0) × (fill ≡ 0)
HasTableFor count (Some class) fill room = IsClass class × (count ≤ fill) × (fill ≤ room class)

-- the pairs of a split dict are the first of the keys that it shares, in their order, and it has no table (PEP 412)
pub record IsSplitOver (keys : List Key) (dict : DictContent) (table : TableUse) : Type 0 where
  pub first : are_first (keys_in dict.pairs) keys ≡ true
  pub few : length dict.pairs ≤ most_pairs
  pub class : table.class ≡ None
  pub fill : table.fill ≡ 0

-- a dict is split over the keys that it shares, or has a table for its pairs
abbrev pub IsDictTable : List Key → DictContent → TableUse → Type 0
IsDictTable [] dict table = HasTableFor (length dict.pairs) table.class table.fill dict_entries
IsDictTable (key ∷ keys) dict table = IsSplitOver (key ∷ keys) dict table

-- the table of a content is in order; the entries of the table of a list or a deque are its items, and aren't counted
-- (profile)
abbrev pub IsTableFor : Content → TableUse → Type 0
IsTableFor (content.Dict dict) table = IsDictTable table.keys dict table
IsTableFor (content.List items) table =
    HasTableFor (length items) table.class (length items) list_items × (table.fill ≡ 0)
IsTableFor (content.Set set) table = HasTableFor (length set.elements) table.class table.fill set_entries
IsTableFor (content.Deque deque) table =
    HasTableFor (length deque.items) table.class (length deque.items) list_items × (table.fill ≡ 0)

-- there is a table or none for each content, each in order (profile)
pub record AreTablesInOrder (stored : StoredWorld) : Type 0 where
  pub as_many : length stored.tables ≡ length stored.world
  pub each :
      (place : ℕ) → IsTableFor (slice_index_or stored.world place (content.List [])) (table_at stored.tables place)
