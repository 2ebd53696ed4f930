-- Entries that threads make beside each other, in whatever order they came together. Each is right by its own thread's
-- entries and by the writes as they are numbered, whatever other threads' entries say: all that a legal history needs.
use Rattle.std.specs.Prelude.{◌≡◌, ◌≢◌, ℕ, Bool, true, ◌&&◌, ◌==◌, ◌+◌, ◌-◌, ◌<◌, ◌≤◌, List, [], ◌∷◌, ◌++◌, map, fold, take, drop, length, All, Option, Some, IfSome, slice_get, slice_index_or, if◌then◌else◌}
use Rattle.std.specs.List.{count_by, flat_map, list_any, range_with_len}
use Rattle.ft_model.specs.declared.call.Call.{Call}
use Rattle.ft_model.specs.declared.call.Call.TheVariants as call
use Rattle.ft_model.specs.declared.reply.Reply.{Reply}
use Rattle.ft_model.specs.declared.reply.Reply.TheVariants as reply
use Rattle.ft_model.specs.declared.content.Content.{Content}
use Rattle.ft_model.specs.declared.cursor.Cursor.{Cursor}
use Rattle.ft_model.specs.declared.entry.Entry.{Entry}
use Rattle.ft_model.specs.declared.entry.Storage.{Storage}
use Rattle.ft_model.specs.declared.script.ScriptParts.{ScriptParts}
use Rattle.ft_model.specs.Calls.{containers_of}
use Rattle.ft_model.specs.Worlds.{starts_of, containers_used}
use Rattle.ft_model.specs.Answers.{answer, world_by, is_write}
use Rattle.ft_model.specs.TableUses.{IsEarned, IsFitting}
use Rattle.ft_model.specs.Histories.{writes, entries_of, calls_of, cursors_of, names, has_call_on, is_marked, hands_by, open_sections_after, IfEnds, EachAt, IsReplied, IsCountedAs, IsLegal}

-- Here `calls` are the calls of the writes in the order of their numbers, which count from 0; `before` and `mine` are
-- entries of one thread in its order.

-- ---- what a thread finds

-- the world after the first n writes (profile)
abbrev pub world_after : ScriptParts → List Call → ℕ → List Content
world_after script calls n = world_by (starts_of script.containers) (take n calls)

-- the hands that a thread's entries so far leave to it (profile)
abbrev pub hands_after : ScriptParts → List Call → ℕ → List Entry → List (Option Cursor)
hands_after script calls thread before = hands_by (starts_of script.containers) calls (cursors_of script thread) before

-- what the plain containers reply to the entry's call, after as many writes as its stamp says (profile)
abbrev pub plain_reply : ScriptParts → List Call → List Entry → Entry → Reply
plain_reply script calls before entry =
    (answer (world_after script calls entry.stamp) (hands_after script calls entry.thread before) entry.call).reply

-- how many writes there are at least once the entry is made: a write counts itself
abbrev pub number_after : Entry → ℕ
number_after entry = if entry.wrote then entry.stamp + 1 else entry.stamp

-- whether an entry is the write of this number
abbrev pub is_number : ℕ → Entry → Bool
is_number number entry = entry.wrote && (entry.stamp == number)

-- ---- the open sections of a thread

-- the entries that began the sections that are open after an entry of this call, innermost first
abbrev pub after_begins : Entry → Call → List Entry → List Entry
after_begins entry called begins = open_sections_after entry called begins

-- those of the sections that these entries leave open
abbrev pub begins_of : List Entry → List Entry
begins_of before = fold (λ begins entry. after_begins entry entry.call begins) [] before

-- the containers of the innermost one, where there is one
abbrev pub begun_containers : List Entry → List ℕ
begun_containers [] = []
begun_containers (begun ∷ begins) = containers_of begun.call

-- an `end` says kept only where each write on the section's containers that is numbered from the `begin`'s stamp on,
-- and below the `end`'s own, is the thread's (C API, critical sections: the locks were held all the while)
abbrev pub IsKeptFrom : List Call → List Entry → Entry → ℕ → Reply → Type 0
IsKeptFrom calls before begun until reply.Kept =
    (number : ℕ) (called : Call)
    → begun.stamp ≤ number
    → number < until
    → slice_get calls number ≡ Some called
    → list_any (λ container. names container called) (containers_of begun.call) ≡ true
    → list_any (is_number number) before ≡ true
IsKeptFrom calls before begun until said = Unit {0}

-- how many of the thread's entries after the `begin` waited for a lock (profile)
abbrev pub marks_since : ℕ → List Entry → Entry → ℕ
marks_since thread before begun = count_by (is_marked thread) (drop begun.index before)

-- the containers whose locks a call needs: its own, and those of the section that is innermost after it (C API,
-- critical sections)
abbrev pub needs_after : ScriptParts → List Call → List Entry → Entry → List ℕ
needs_after script calls before entry =
    containers_used (hands_after script calls entry.thread before) entry.call
    ++ begun_containers (after_begins entry entry.call (begins_of before))

-- ---- entries with numbers

-- an entry is right after its thread's earlier ones (profile)
pub record IsRightAfter
    (storage : Storage) (script : ScriptParts) (calls : List Call) (before : List Entry) (entry : Entry) : Type 0 where
  -- its stamp says how many writes it knows of; a thread forgets none, and knows of its own
  pub within : entry.stamp ≤ length calls
  pub rises : All (λ earlier. number_after earlier ≤ entry.stamp) before
  pub wrote : entry.wrote ≡ is_write entry.call entry.reply
  pub reply : IsReplied entry.call entry.reply (plain_reply script calls before entry)
  pub kept : IfEnds (begins_of before) entry.call (λ begun. IsKeptFrom calls before begun entry.stamp entry.reply)
  pub counted :
      IfEnds (begins_of before) entry.call
      (λ begun. IsCountedAs (marks_since entry.thread before begun) entry.reply)
  -- a MemoryError has its cause in the writes that it knows of, and stands where a table or a place of the heap would be
  -- taken
  pub earned : IsEarned storage script (take entry.stamp calls) before entry
  pub fitting : IsFitting storage script (take entry.stamp calls) entry

-- a mark names another thread that has a call on a container that the marked call needs, made by then or not (profile)
abbrev pub IsMarkedAfter : ScriptParts → List Call → List Entry → Entry → Type 0
IsMarkedAfter script calls before entry =
    IfSome entry.waited (λ thread.
    (thread ≢ entry.thread) × (list_any (has_call_on script thread) (needs_after script calls before entry) ≡ true))

-- the entries that a thread has made so far (profile)
pub record IsNumberedThread
    (storage : Storage) (script : ScriptParts) (calls : List Call) (thread : ℕ) (mine : List Entry) : Type 0 where
  pub own : All (λ entry. entry.thread ≡ thread) mine
  pub indexes : map (λ entry. entry.index) mine ≡ range_with_len 1 (length mine)
  -- the stamp of a write is its number
  pub numbers : All (λ entry. entry.wrote ≡ true → slice_get calls entry.stamp ≡ Some entry.call) mine
  pub right : EachAt mine (λ place entry. IsRightAfter storage script calls (take place mine) entry)

-- an `await` knows of the call that it names, where these are the entries of each thread: its stamp is at least how many
-- writes there are once that call's entry is made (profile)
abbrev pub KnowsAwaited : (ℕ → List Entry) → Entry → Call → Type 0
KnowsAwaited made entry (call.Await thread index) =
    (place : ℕ) (named : Entry) → index ≡ place + 1 → slice_get (made thread) place ≡ Some named
    → number_after named ≤ entry.stamp
KnowsAwaited made entry _ = Unit {0}

-- a thread has made all its calls, and its marks are right
pub record IsDone (script : ScriptParts) (calls : List Call) (thread : ℕ) (mine : List Entry) : Type 0 where
  pub made : map (λ entry. entry.call) mine ≡ calls_of script thread
  pub marked : EachAt mine (λ place entry. IsMarkedAfter script calls (take place mine) entry)

-- the entries of all threads, when all calls are made; nothing is said of how those of one thread stand among those of
-- another (profile)
pub record AreNumbered
    (storage : Storage) (script : ScriptParts) (calls : List Call) (entries : List Entry) : Type 0 where
  pub threads : (thread : ℕ) → IsNumberedThread storage script calls thread (entries_of thread entries)
  -- each number is that of one write
  pub once : (number : ℕ) → number < length calls → count_by (is_number number) entries ≡ 1
  pub done : (thread : ℕ) → IsDone script calls thread (entries_of thread entries)
  pub known : All (λ entry. KnowsAwaited (λ thread. entries_of thread entries) entry entry.call) entries

-- ---- one list for each thread

-- the entries so far, in one list for each thread of the script, in the order of the threads (profile)
pub record AreNumberedLists
    (storage : Storage) (script : ScriptParts) (calls : List Call) (lists : List (List Entry)) : Type 0 where
  pub count : length lists ≡ length script.threads
  pub threads :
      (thread : ℕ) (mine : List Entry)
      → slice_get lists thread ≡ Some mine
      → IsNumberedThread storage script calls thread mine
  pub once : (number : ℕ) → number < length calls → count_by (is_number number) (flat_map (λ mine. mine) lists) ≡ 1

-- all threads are done, and each `await` knows of the call that it names
pub record AreDone (script : ScriptParts) (calls : List Call) (lists : List (List Entry)) : Type 0 where
  pub threads : (thread : ℕ) (mine : List Entry) → slice_get lists thread ≡ Some mine → IsDone script calls thread mine
  pub known :
      All (λ mine. All (λ entry. KnowsAwaited (λ thread. slice_index_or lists thread []) entry entry.call) mine) lists

-- the writes after one more entry
abbrev pub calls_after : List Call → Entry → List Call
calls_after calls entry = if entry.wrote then calls ++ entry.call ∷ [] else calls

-- one more entry of a thread, right by the writes that there were when it was made (profile)
pub record IsNextEntry
    (storage : Storage) (script : ScriptParts) (calls : List Call)
    (thread : ℕ) (mine : List Entry) (entry : Entry) : Type 0 where
  pub own : entry.thread ≡ thread
  pub index : entry.index ≡ length mine + 1
  -- a write has the next number
  pub number : entry.wrote ≡ true → entry.stamp ≡ length calls
  pub right : IsRightAfter storage script calls mine entry

-- ---- the history of the entries

-- each MemoryError of a class stands on a call that would take a table of the class there, and each of a heap on one
-- that would put a value in a box (profile)
abbrev pub AreFitting : Storage → ScriptParts → List Entry → Type 0
AreFitting storage script entries =
    EachAt entries (λ place entry. IsFitting storage script (writes (take place entries)) entry)

-- a legal history with these writes, in which MemoryErrors fit (profile)
pub record IsHistoryOf
    (storage : Storage) (script : ScriptParts) (calls : List Call) (history : List Entry) : Type 0 where
  pub legal : IsLegal storage script history
  pub fitting : AreFitting storage script history
  pub written : writes history ≡ calls
