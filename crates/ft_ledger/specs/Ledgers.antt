-- The ledger: how many tables of each class are free, and which were given up and are not free yet, after entries in
-- the order in which their answers were fixed. It is a machine over the script and the replies alone, and says where a
-- MemoryError of a class stands. (profile)
use Rattle.std.specs.Prelude.{◌≡◌, ℕ, Bool, true, false, not, ◌&&◌, ◌+◌, ◌-◌, ◌==◌, nat_lt, List, [], ◌∷◌, ◌++◌, map, filter, fold, length, take, Option, Some, None, is_some, slice_set, slice_index_or, if◌then◌else◌}
use Rattle.std.specs.Option.{option_map_or}
use Rattle.std.specs.List.{count_by, list_any}
use Rattle.ft_model.specs.declared.call.Call.{Call}
use Rattle.ft_model.specs.declared.call.Call.TheVariants as call
use Rattle.ft_model.specs.declared.entry.Entry.{Entry}
use Rattle.ft_model.specs.declared.reply.Reply.{Reply}
use Rattle.ft_model.specs.declared.reply.Reply.TheVariants as reply
use Rattle.ft_model.specs.declared.reply.Raise.TheVariants as raise
use Rattle.ft_model.specs.declared.script.ScriptParts.{ScriptParts}
use Rattle.ft_model.specs.declared.script.Thread.{Thread}
use Rattle.ft_model.specs.Answers.{is_raised}
use Rattle.ft_model.specs.Classes.{least_class}
use Rattle.ft_model.specs.Histories.{writes, calls_of, EachAt}
use Rattle.ft_model.specs.TablesInOrder.{changed_by}
use Rattle.ft_model.specs.TableUses.{TableUse, StoredWorld, table_at, table_count, is_class, takes_in, after_stored, stored_after}

-- ---- the ledger

-- a table that a thread gave up and that is not free yet: its class, and the write number that each thread with calls
-- left has to announce first (profile)
pub record Retired : Type 0 where
  pub thread : ℕ
  pub class : ℕ
  pub goal : ℕ

-- what is known of a script's tables after some entries, and of what its threads have announced (profile)
pub record Ledger : Type 0 where
  -- how many tables of each class are free, from the least class on
  pub free : List ℕ
  -- the write number, which rises by one with each table that is retired
  pub number : ℕ
  -- the write number that each thread has announced last, and 0 where it has no call left
  pub announced : List ℕ
  -- the retired tables, in the order in which they were given up
  pub retired : List Retired

-- what a thread has announced at the start: the first write number, where it has calls (profile)
abbrev pub announced_first : Thread → ℕ
announced_first thread = if length thread.calls == 0 then 0 else 1

-- all tables of a script are free at the start (profile)
abbrev pub start_ledger : ScriptParts → Ledger
start_ledger script =
    record { free = script.tables; number = 1; announced = map announced_first script.threads; retired = [] }

-- ---- counts of tables by class

-- the counts of all classes, with one more of a class (profile)
abbrev pub one_more : List ℕ → ℕ → List ℕ
one_more counts class = slice_set counts (class - least_class) (table_count counts class + 1)

-- and with one fewer (profile)
abbrev pub one_fewer : List ℕ → ℕ → List ℕ
one_fewer counts class = slice_set counts (class - least_class) (table_count counts class - 1)

-- ---- what a thread announces and collects

-- a thread that holds on to nothing announces a write number, or 0 when it leaves (profile)
abbrev pub with_announced : ℕ → ℕ → Ledger → Ledger
with_announced thread number ledger = record ledger { announced = slice_set ledger.announced thread number }

-- what a thread has announced last; 0 where there is no such thread (profile)
abbrev pub announced_by : Ledger → ℕ → ℕ
announced_by ledger thread = slice_index_or ledger.announced thread 0

-- a retired table is held back where an announced number other than 0 is below its goal: that thread may still look at
-- it (profile)
abbrev pub is_held_back : List ℕ → Retired → Bool
is_held_back announced one = list_any (λ number. not (number == 0) && nat_lt number one.goal) announced

-- whether a thread can collect a retired table: it is the thread's own, and nothing holds it back (profile)
abbrev pub is_due : ℕ → List ℕ → Retired → Bool
is_due thread announced one = (one.thread == thread) && not (is_held_back announced one)

-- the tables that a thread can collect, and the others (profile)
abbrev pub due_of : ℕ → Ledger → List Retired
due_of thread ledger = filter (is_due thread ledger.announced) ledger.retired

abbrev pub kept_of : ℕ → Ledger → List Retired
kept_of thread ledger = filter (λ one. not (is_due thread ledger.announced one)) ledger.retired

-- a thread collects: each retired table of its own that nothing holds back is free again (profile)
abbrev pub collected : ℕ → Ledger → Ledger
collected thread ledger =
    record ledger {
      free = fold (λ free one. one_more free one.class) ledger.free (due_of thread ledger);
      retired = kept_of thread ledger;
    }

-- a thread comes to a quiescent point: it announces the write number and collects (profile)
abbrev pub quiesced : ℕ → Ledger → Ledger
quiesced thread ledger = collected thread (with_announced thread ledger.number ledger)

-- a thread that has made its last call leaves: it announces 0 and collects (profile)
abbrev pub left : ℕ → Ledger → Ledger
left thread ledger = collected thread (with_announced thread 0 ledger)

-- ---- tables that are taken and given up

-- a table that a container had, if it had one, is retired by a thread: the write number rises, and is its goal
-- (profile)
abbrev pub with_retired : ℕ → Option ℕ → Ledger → Ledger
with_retired thread None ledger = ledger
with_retired thread (Some class) ledger =
    record ledger {
      number = ledger.number + 1;
      retired = ledger.retired ++ record { thread = thread; class = class; goal = ledger.number + 1 } ∷ [];
    }

-- a free table of the class is taken for a container, whose old one is retired, if it had one (profile)
abbrev pub with_taken : ℕ → Option ℕ → ℕ → Ledger → Ledger
with_taken thread had class ledger = with_retired thread had (record ledger { free = one_fewer ledger.free class })

-- no table of the class is free (profile)
abbrev pub is_out_of : Ledger → ℕ → Bool
is_out_of ledger class = table_count ledger.free class == 0

-- a thread that wants a table of a class collects first, and then takes one, if one is free (profile)
abbrev pub taken_or_lacked : ℕ → Option ℕ → ℕ → Ledger → Ledger
taken_or_lacked thread had class ledger =
    if is_out_of (collected thread ledger) class
    then collected thread ledger
    else with_taken thread had class (collected thread ledger)

-- ---- what a call wants and gives up

-- the class of the table of the container that a call changes, where it has one; a copy changes the other dict
-- (profile)
abbrev pub class_had : List TableUse → Call → Option ℕ
class_had tables called = option_map_or (λ place. (table_at tables place).class) (changed_by called) None

-- whether a reply is an exception other than a MemoryError of a class (profile)
abbrev pub raises_else : Reply → Bool
raises_else (reply.Raised (raise.Memory class)) = false
raises_else said = is_raised said

-- the class that a call wants there: the one that it would take, where it raises nothing else (profile)
abbrev pub wanted : StoredWorld → Entry → Option ℕ
wanted stored entry = if raises_else entry.reply then None else takes_in stored entry.call

-- the class of the table that a write gives up without taking one, where its container had one and then has none
-- (profile)
abbrev pub given_up : StoredWorld → Entry → Option ℕ
given_up stored entry =
    if entry.wrote && not (is_some (class_had (after_stored stored entry.call).tables entry.call))
    then class_had stored.tables entry.call
    else None

-- whether a call is a quiescent point of its thread (profile)
abbrev pub is_quiesce : Call → Bool
is_quiesce call.Quiesce = true
is_quiesce _ = false

-- ---- the machine

-- a call on containers at its place: it wants a class, or gives a table up, or neither (profile)
abbrev pub ledger_call : StoredWorld → Ledger → Entry → Ledger
ledger_call stored ledger entry =
    option_map_or
    (λ class. taken_or_lacked entry.thread (class_had stored.tables entry.call) class ledger)
    (wanted stored entry)
    (with_retired entry.thread (given_up stored entry) ledger)

-- the ledger after an entry's call, before its thread leaves (profile)
abbrev pub ledger_answer : StoredWorld → Ledger → Entry → Ledger
ledger_answer stored ledger entry =
    if is_quiesce entry.call then quiesced entry.thread ledger else ledger_call stored ledger entry

-- whether an entry is the last one of its thread (profile)
abbrev pub is_last_of : ScriptParts → Entry → Bool
is_last_of script entry = entry.index == length (calls_of script entry.thread)

-- the ledger after an entry: the thread's last call and its leaving are one step (profile)
abbrev pub ledger_step : ScriptParts → StoredWorld → Ledger → Entry → Ledger
ledger_step script stored ledger entry =
    if is_last_of script entry
    then left entry.thread (ledger_answer stored ledger entry)
    else ledger_answer stored ledger entry

-- the ledger after entries, where others come before them that led to this one (profile)
abbrev pub ledger_from : ScriptParts → List Entry → Ledger → List Entry → Ledger
ledger_from script before ledger [] = ledger
ledger_from script before ledger (entry ∷ entries) =
    ledger_from script (before ++ entry ∷ [])
    (ledger_step script (stored_after script (writes before)) ledger entry) entries

-- the ledger after entries of a script (profile)
abbrev pub ledger_after : ScriptParts → List Entry → Ledger
ledger_after script entries = ledger_from script [] (start_ledger script) entries

-- ---- MemoryErrors

-- the class of which an entry finds no table, where the ledger has come so far: the one that it wants, where none is
-- free once its thread has collected (profile)
abbrev pub lacks_in : StoredWorld → Ledger → Entry → Option ℕ
lacks_in stored ledger entry =
    option_map_or
    (λ class. if is_out_of (collected entry.thread ledger) class then Some class else None)
    (wanted stored entry)
    None

-- and after these entries (profile)
abbrev pub lacks_after : ScriptParts → List Entry → Entry → Option ℕ
lacks_after script before entry =
    lacks_in (stored_after script (writes before)) (ledger_after script before) entry

-- the class of which a reply says that no table was free, if it says so (profile)
abbrev pub lacked_by : Reply → Option ℕ
lacked_by (reply.Raised (raise.Memory class)) = Some class
lacked_by _ = None

-- a MemoryError of a class stands exactly where the ledger says, and is of the class that it says (profile)
abbrev pub HasLedgerErrors : ScriptParts → List Entry → Type 0
HasLedgerErrors script entries =
    EachAt entries (λ place entry. lacked_by entry.reply ≡ lacks_after script (take place entries) entry)

-- ---- all tables of a class

-- how many containers have a table of the class after these entries (profile)
abbrev pub current_tables : ScriptParts → List Entry → ℕ → ℕ
current_tables script entries class =
    count_by (λ table. is_class class table.class) (stored_after script (writes entries)).tables

-- how many retired tables are of the class (profile)
abbrev pub retired_tables : Ledger → ℕ → ℕ
retired_tables ledger class = count_by (λ one. one.class == class) ledger.retired

-- of a class: how many tables are free, how many containers have one, and how many are retired (profile)
pub record ClassTables : Type 0 where
  pub free : ℕ
  pub current : ℕ
  pub retired : ℕ

-- after these entries (profile)
abbrev pub class_tables : ScriptParts → List Entry → ℕ → ClassTables
class_tables script entries class =
    record {
      free = table_count (ledger_after script entries).free class;
      current = current_tables script entries class;
      retired = retired_tables (ledger_after script entries) class;
    }
