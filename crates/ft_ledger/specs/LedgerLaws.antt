-- What holds of the ledger of a script's tables. (profile)
use Rattle.std.specs.Prelude.{◌≡◌, ◌≢◌, ◌↔◌, ◌⊎◌, ℕ, false, not, ◌&&◌, ◌||◌, ◌+◌, ◌<◌, ◌≤◌, List, length, take, Option, Some, None, is_some, if◌then◌else◌, All, AllPairs, Any, Contains}
use Rattle.ft_model.specs.declared.call.Call.{Call}
use Rattle.ft_model.specs.declared.call.Call.TheVariants as call
use Rattle.ft_model.specs.declared.entry.Entry.{Entry}
use Rattle.ft_model.specs.declared.entry.Storage.TheVariants as storage
use Rattle.ft_model.specs.declared.reply.Reply.{Reply}
use Rattle.ft_model.specs.declared.reply.Reply.TheVariants as reply
use Rattle.ft_model.specs.declared.reply.Raise.TheVariants as raise
use Rattle.ft_model.specs.declared.script.ScriptParts.{ScriptParts}
use Rattle.ft_model.specs.declared.script.Start.{Start}
use Rattle.ft_model.specs.Classes.{class_count, IsClass}
use Rattle.ft_model.specs.Histories.{writes, calls_of, entries_of, EachAt, IsWhole, IsAnswered}
use Rattle.ft_model.specs.TableUses.{StoredWorld, after_stored, table_count, stored_after, stored_by, supply_of, would_pass, takes, takes_in, IsEarnedReply, IsFitting, Supply}
use Rattle.ft_model.specs.Worlds.{starts_of}
use Rattle.ft_ledger.specs.Ledgers.{Ledger, Retired, announced_by, class_had, class_tables, current_tables, ledger_after, retired_tables, wanted}

-- ---- goals and announced numbers

-- each goal is a write number that was reached, and not the first one; goals rise in the order in which tables were
-- given up, so that each stands once; and no number was announced that was not reached (profile)
pub record HasReached (ledger : Ledger) : Type 0 where
  pub first : 1 ≤ ledger.number
  pub goals : All (λ one. (2 ≤ one.goal) × (one.goal ≤ ledger.number)) ledger.retired
  pub rising : AllPairs (λ earlier later. earlier.goal < later.goal) ledger.retired
  pub announced : All (λ number. number ≤ ledger.number) ledger.announced

-- some thread has announced a number other than 0 that is below the goal of a retired table (profile)
abbrev pub IsHeldBack : Ledger → Retired → Type 0
IsHeldBack ledger one = Any (λ number. (number ≢ 0) × (number < one.goal)) ledger.announced

-- the ledger has a count for each class, and each retired table is of a class (profile)
pub record CountsClasses (ledger : Ledger) : Type 0 where
  pub counts : length ledger.free ≡ class_count
  pub classes : All (λ one. IsClass one.class) ledger.retired

-- a thread's collection takes off just those of its own retired tables that nothing holds back, and makes each of them
-- a free table of its class (profile)
pub record CollectsDue (thread : ℕ) (before after : Ledger) : Type 0 where
  pub number : after.number ≡ before.number
  pub announced : after.announced ≡ before.announced
  pub stays : (one : Retired) → Contains after.retired one
      ↔ (Contains before.retired one × (one.thread ≡ thread → IsHeldBack before one))
  pub freed : CountsClasses before → (class : ℕ) → IsClass class
      → table_count after.free class + retired_tables after class
      ≡ table_count before.free class + retired_tables before class

-- each retired table of a thread is held back (profile)
abbrev pub HoldsBackOwn : ℕ → Ledger → Type 0
HoldsBackOwn thread ledger = All (λ one. one.thread ≡ thread → IsHeldBack ledger one) ledger.retired

-- after these entries an entry is one at which its thread collects: it is a quiescent point, or its call wants a table,
-- or it is the last one of the thread (profile)
abbrev pub Collects : ScriptParts → List Entry → Entry → Type 0
Collects script before entry =
    (entry.call ≡ call.Quiesce)
    ⊎ (((class : ℕ) × (wanted (stored_after script (writes before)) entry ≡ Some class))
    ⊎ (entry.index ≡ length (calls_of script entry.thread)))

-- ---- what an entry changes

-- each thread that has calls left has announced the goal of a retired table, or a later number (profile)
abbrev pub HasPassed : Ledger → Retired → Type 0
HasPassed ledger one = All (λ number. number ≢ 0 → one.goal ≤ number) ledger.announced

-- from the ledger before an entry to the one after it (profile)
pub record Changes (script : ScriptParts) (entry : Entry) (before after : Ledger) : Type 0 where
  -- a retired table stays so, or its thread makes it free once all others have passed it
  pub old : (one : Retired) → Contains before.retired one
      → Contains after.retired one ⊎ ((one.thread ≡ entry.thread) × HasPassed after one)
  -- a new one is the thread's, and its goal is the new write number
  pub new : (one : Retired) → Contains after.retired one
      → Contains before.retired one ⊎ ((one.thread ≡ entry.thread) × (one.goal ≡ after.number))
  -- the other threads announce nothing, and the thread announces the write number at a quiescent point; what it does
  -- with its last call stands below
  pub others : (thread : ℕ) → thread ≢ entry.thread → announced_by after thread ≡ announced_by before thread
  pub quiesces : entry.call ≡ call.Quiesce → entry.index ≢ length (calls_of script entry.thread)
      → entry.thread < length before.announced → announced_by after entry.thread ≡ after.number
  pub goes_on : entry.call ≢ call.Quiesce → entry.index ≢ length (calls_of script entry.thread)
      → announced_by after entry.thread ≡ announced_by before entry.thread

-- ---- threads that leave

-- after that many entries a thread has announced 0 exactly where it has no call left (profile)
abbrev pub LeavesAfterLast : ScriptParts → List Entry → ℕ → ℕ → Type 0
LeavesAfterLast script entries place thread =
    (announced_by (ledger_after script (take place entries)) thread ≡ 0)
    ↔ (length (calls_of script thread) ≤ length (entries_of thread (take place entries)))

-- ---- all tables

-- the entries are the script's calls, each thread's in its order, each answered as its plain container answers there,
-- or by a MemoryError (profile)
pub record AreAnswered (script : ScriptParts) (entries : List Entry) : Type 0 where
  pub whole : IsWhole script entries
  pub answered : EachAt entries (IsAnswered script entries)

-- of each class the tables that are free, that containers have, and that are retired are all tables of the script
-- (profile)
abbrev pub AddUp : ScriptParts → List Entry → Type 0
AddUp script entries =
    (class : ℕ) → IsClass class
    → (class_tables script entries class).free
    + (class_tables script entries class).current
    + (class_tables script entries class).retired
    ≡ table_count script.tables class

-- the class of the table that a container gives up at an entry, if it does: the write takes another one or leaves none
-- (profile)
abbrev pub table_given : StoredWorld → Entry → Option ℕ
table_given stored entry =
    if entry.wrote && (is_some (takes_in stored entry.call)
    || not (is_some (class_had (after_stored stored entry.call).tables entry.call)))
    then class_had stored.tables entry.call
    else None

-- the write number rises by one where a container gives a table up, and else stays (profile)
abbrev pub RisesWithTables : ScriptParts → List Entry → ℕ → Entry → Type 0
RisesWithTables script entries place entry =
    (ledger_after script (take (place + 1) entries)).number
    ≡ (ledger_after script (take place entries)).number
    + (if is_some (table_given (stored_after script (writes (take place entries))) entry) then 1 else 0)

-- ---- MemoryErrors

-- of the class no table is free after these entries: each is a container's or retired, and calls took them all
-- (profile)
pub record IsUsedUp (script : ScriptParts) (before : List Entry) (class : ℕ) : Type 0 where
  pub is_class : IsClass class
  pub none_free : table_count (ledger_after script before).free class ≡ 0
  pub all_used : current_tables script before class + retired_tables (ledger_after script before) class
      ≡ table_count script.tables class
  pub all_taken : table_count script.tables class ≤ takes script class (writes before)

-- an entry finds no table of a class: the class is used up, and the one that its call would take (profile)
pub record IsFound (script : ScriptParts) (before : List Entry) (entry : Entry) (class : ℕ) : Type 0 where
  pub used_up : IsUsedUp script before class
  pub fitting : IsFitting storage.Tables script (writes before) entry

-- a reply has its cause, where none is asked of a MemoryError of a class but that the call would pass no largest table
-- (profile)
abbrev pub IsEarnedElse : List Start → Supply → List Call → List Entry → Call → Reply → Type 0
IsEarnedElse starts supply calls mine call (reply.Raised (raise.Memory class)) =
    would_pass (stored_by starts calls).world call ≡ false
IsEarnedElse starts supply calls mine call said = IsEarnedReply starts supply calls mine call said

-- and so has each of these (profile)
abbrev pub EarnsElse : ScriptParts → List Entry → Type 0
EarnsElse script entries =
    EachAt entries (λ place entry. IsEarnedElse (starts_of script.containers) (supply_of script)
    (writes (take place entries)) (entries_of entry.thread (take place entries)) entry.call entry.reply)
