-- What makes a list of answered calls a legal history of a script: what each entry has to say at its place.
use Rattle.std.specs.Prelude.{◌≡◌, ◌≢◌, ℕ, Bool, true, false, not, ◌&&◌, ◌+◌, ◌≤◌, List, [], ◌∷◌, ◌++◌, map, filter, fold, take, drop, length, Option, Some, is_some, IfSome, slice_get, ◌==◌, ◌⊎◌, if◌then◌else◌}
use Rattle.std.specs.declared.cmp.Ordering.{Ordering}
use Rattle.std.specs.Ordering.{nat_cmp, bool_cmp, ordering_then}
use Rattle.std.specs.Option.{option_map_or}
use Rattle.std.specs.List.{range_with_len, between, count_by, enumerate_from, list_any}
use Rattle.std.specs.List.Sorted.{IsSorted}
use Rattle.ft_model.specs.declared.call.Call.{Call}
use Rattle.ft_model.specs.declared.call.Call.TheVariants as call
use Rattle.ft_model.specs.declared.reply.Reply.{Reply}
use Rattle.ft_model.specs.declared.reply.Reply.TheVariants as reply
use Rattle.ft_model.specs.declared.content.Content.{Content}
use Rattle.ft_model.specs.declared.cursor.Cursor.{Cursor}
use Rattle.ft_model.specs.declared.entry.Entry.{Entry}
use Rattle.ft_model.specs.declared.entry.Storage.{Storage}
use Rattle.ft_model.specs.declared.script.ScriptParts.{ScriptParts}
use Rattle.ft_model.specs.Calls.{containers_of}
use Rattle.ft_model.specs.declared.script.Start.{Start}
use Rattle.ft_model.specs.Worlds.{starts_of, start_hands, containers_used}
use Rattle.ft_model.specs.Answers.{answer, world_by, is_memory, is_write}
use Rattle.ft_model.specs.TableUses.{IsEarned}

-- ---- order

-- by stamp, reads before the write of that number, then by thread and by index (profile)
abbrev pub history_cmp : Entry → Entry → Ordering
history_cmp a b =
    ordering_then (nat_cmp a.stamp b.stamp)
    (ordering_then (bool_cmp a.wrote b.wrote) (ordering_then (nat_cmp a.thread b.thread) (nat_cmp a.index b.index)))

-- ---- the world and the hands at a place; places count from 0

-- the calls that are marked as writes, in order (profile)
abbrev pub writes : List Entry → List Call
writes entries = map (λ entry. entry.call) (filter (λ entry. entry.wrote) entries)

-- the start world after the first n writes of the history (profile)
abbrev pub world_at : ScriptParts → List Entry → ℕ → List Content
world_at script entries n = world_by (starts_of script.containers) (take n (writes entries))

-- a thread's entries, in order (profile)
abbrev pub entries_of : ℕ → List Entry → List Entry
entries_of thread entries = filter (λ entry. entry.thread == thread) entries

-- a thread's calls in the script; none where there is no such thread (profile)
abbrev pub calls_of : ScriptParts → ℕ → List Call
calls_of script thread = option_map_or (λ found. found.calls) (slice_get script.threads thread) []

-- how many cursors a thread has in the script (profile)
abbrev pub cursors_of : ScriptParts → ℕ → ℕ
cursors_of script thread = option_map_or (λ found. length found.cursors) (slice_get script.threads thread) 0

-- the hands that an entry leaves to its thread, where `calls` are all writes in their order; a MemoryError leaves them
-- as they were (profile)
abbrev pub after_stamped : List Start → List Call → List (Option Cursor) → Entry → List (Option Cursor)
after_stamped starts calls hands entry =
    if is_memory entry.reply then hands else (answer (world_by starts (take entry.stamp calls)) hands entry.call).hands

-- the hands that these entries of a thread leave to it, with room for that many cursors
abbrev pub hands_by : List Start → List Call → ℕ → List Entry → List (Option Cursor)
hands_by starts calls room mine = fold (after_stamped starts calls) (start_hands room) mine

-- the hands of a thread at a place: those that its entries before it leave (profile)
abbrev pub hands_at : ScriptParts → List Entry → ℕ → ℕ → List (Option Cursor)
hands_at script entries thread place =
    hands_by (starts_of script.containers) (writes entries) (cursors_of script thread)
    (entries_of thread (take place entries))

-- ---- answers

-- a reply is the plain container's, or a MemoryError
abbrev pub IsPlainReply : Reply → Reply → Type 0
IsPlainReply said plain = (is_memory said ≡ true) ⊎ (said ≡ plain)

-- what a call may reply at a place: a section is entered, and ends kept or suspended (C API, critical sections); a
-- container replies as the plain one does there, or raises a MemoryError
abbrev pub IsReplied : Call → Reply → Reply → Type 0
IsReplied (call.Begin first second) said plain = said ≡ reply.Entered
IsReplied call.End said plain = (said ≡ reply.Kept) ⊎ ((count : ℕ) × (said ≡ reply.Suspended count))
IsReplied call.Quiesce said plain = said ≡ reply.Done
IsReplied (call.Await thread index) said plain = said ≡ reply.Done
IsReplied (call.Dict container dict_call) said plain = IsPlainReply said plain
IsReplied (call.List container list_call) said plain = IsPlainReply said plain
IsReplied (call.Set container set_call) said plain = IsPlainReply said plain
IsReplied (call.Deque container deque_call) said plain = IsPlainReply said plain
IsReplied (call.Next cursor) said plain = IsPlainReply said plain
IsReplied call.Dump said plain = IsPlainReply said plain

-- an entry is what the plain containers reply at its place (profile)
pub record IsAnswered (script : ScriptParts) (entries : List Entry) (place : ℕ) (entry : Entry) : Type 0 where
  -- its stamp is the number of writes before it
  pub stamp : entry.stamp ≡ length (writes (take place entries))
  pub wrote : entry.wrote ≡ is_write entry.call entry.reply
  pub reply : IsReplied entry.call entry.reply
      (answer (world_at script entries entry.stamp) (hands_at script entries entry.thread place) entry.call).reply

-- ---- whole histories

-- each thread's entries are its calls in the script, each once, in its order (profile)
pub record IsWhole (script : ScriptParts) (entries : List Entry) : Type 0 where
  pub calls : (thread : ℕ) → map (λ entry. entry.call) (entries_of thread entries) ≡ calls_of script thread
  pub indexes : (thread : ℕ)
      → map (λ entry. entry.index) (entries_of thread entries) ≡ range_with_len 1 (length (entries_of thread entries))

-- ---- sections

-- what is kept of each open section of a thread, innermost first, after a call of it: a `begin` opens a section, of
-- which this is kept, and an `end` ends the innermost one (C API, critical sections)
abbrev pub open_sections_after : {T : Type 0} → T → Call → List T → List T
open_sections_after opened (call.Begin first second) sections = opened ∷ sections
open_sections_after opened call.End sections = drop 1 sections
open_sections_after opened (call.Dict container dict_call) sections = sections
open_sections_after opened (call.List container list_call) sections = sections
open_sections_after opened (call.Set container set_call) sections = sections
open_sections_after opened (call.Deque container deque_call) sections = sections
open_sections_after opened (call.Next cursor) sections = sections
open_sections_after opened call.Quiesce sections = sections
open_sections_after opened (call.Await thread index) sections = sections
open_sections_after opened call.Dump sections = sections

-- this holds for the innermost open section, where there is one
abbrev pub IfInnermost : {T : Type 0} → List T → (T → Type 0) → Type 0
IfInnermost [] P = Unit {0}
IfInnermost (section ∷ sections) P = P section

-- of an `end`, this holds for the section that it ends: the innermost open one
abbrev pub IfEnds : {T : Type 0} → List T → Call → (T → Type 0) → Type 0
IfEnds sections call.End P = IfInnermost sections P
IfEnds sections (call.Dict container dict_call) P = Unit {0}
IfEnds sections (call.List container list_call) P = Unit {0}
IfEnds sections (call.Set container set_call) P = Unit {0}
IfEnds sections (call.Deque container deque_call) P = Unit {0}
IfEnds sections (call.Next cursor) P = Unit {0}
IfEnds sections (call.Begin first second) P = Unit {0}
IfEnds sections call.Quiesce P = Unit {0}
IfEnds sections (call.Await thread index) P = Unit {0}
IfEnds sections call.Dump P = Unit {0}

-- an open section: its containers, and the place of its `begin` in the history (C API, critical sections)
pub record Section : Type 0 where
  pub containers : List ℕ
  pub begun : ℕ

-- the open sections of a thread after a call of it, innermost first
abbrev pub after_section : ℕ → Call → List Section → List Section
after_section place called sections =
    open_sections_after (record { containers = containers_of called; begun = place }) called sections

-- the open sections after an entry at its place, where the thread is the entry's
abbrev pub after_numbered : ℕ → List Section → ℕ × Entry → List Section
after_numbered thread sections numbered =
    if numbered.1.thread == thread then after_section numbered.0 numbered.1.call sections else sections

-- the open sections of a thread at a place, innermost first
abbrev pub sections_at : List Entry → ℕ → ℕ → List Section
sections_at entries thread place = fold (after_numbered thread) [] (enumerate_from 0 (take place entries))

-- the containers of the innermost open section, where there is one
abbrev pub innermost : List Section → List ℕ
innermost [] = []
innermost (section ∷ sections) = section.containers

-- whether a call names the container
abbrev pub names : ℕ → Call → Bool
names container called = list_any (λ named. named == container) (containers_of called)

-- whether an entry is another thread's write on one of the containers
abbrev pub disturbs : ℕ → List ℕ → Entry → Bool
disturbs thread containers entry =
    (entry.wrote && not (entry.thread == thread)) && list_any (λ container. names container entry.call) containers

-- whether another thread's write on the section's containers stands between its `begin` and a place
abbrev pub is_disturbed : List Entry → ℕ → ℕ → Section → Bool
is_disturbed entries thread place section =
    list_any (disturbs thread section.containers) (between (section.begun + 1) place entries)

-- whether an entry is a call of the thread that waited for a lock
abbrev pub is_marked : ℕ → Entry → Bool
is_marked thread entry = (entry.thread == thread) && is_some entry.waited

-- how many calls of the thread strictly between the section's `begin` and a place waited for a lock (profile)
abbrev pub marks_between : List Entry → ℕ → ℕ → Section → ℕ
marks_between entries thread place section = count_by (is_marked thread) (between (section.begun + 1) place entries)

-- `end` says kept only where no other thread wrote in between (C API, critical sections: the locks were held all the
-- while)
abbrev pub IsKeptBy : List Entry → ℕ → ℕ → Section → Reply → Type 0
IsKeptBy entries thread place section reply.Kept = is_disturbed entries thread place section ≡ false
IsKeptBy entries thread place section said = Unit {0}

-- `end` says kept where none of its calls waited, and else how many did (C API, critical sections: a thread that would
-- block may let its locks go; the count: profile)
abbrev pub IsCountedAs : ℕ → Reply → Type 0
IsCountedAs marks reply.Kept = marks ≡ 0
IsCountedAs marks (reply.Suspended count) = (1 ≤ count) × (marks ≡ count)
IsCountedAs marks said = Unit {0}

-- `end` says so of the calls between the section's `begin` and its own place
abbrev pub IsCountedBy : List Entry → ℕ → ℕ → Section → Reply → Type 0
IsCountedBy entries thread place section said = IsCountedAs (marks_between entries thread place section) said

-- an `end` that says kept is right
abbrev pub IsKept : List Entry → ℕ → Entry → Type 0
IsKept entries place entry =
    IfEnds (sections_at entries entry.thread place) entry.call
    (λ section. IsKeptBy entries entry.thread place section entry.reply)

-- an `end` says how many calls in its section waited
abbrev pub IsCounted : List Entry → ℕ → Entry → Type 0
IsCounted entries place entry =
    IfEnds (sections_at entries entry.thread place) entry.call
    (λ section. IsCountedBy entries entry.thread place section entry.reply)

-- ---- marks

-- whether the thread has a call in the script that names the container
abbrev pub has_call_on : ScriptParts → ℕ → ℕ → Bool
has_call_on script thread container = list_any (names container) (calls_of script thread)

-- the containers whose locks a call needs: its own, and those of the section that is innermost after it, which it
-- enters or takes up again (C API, critical sections)
abbrev pub needs_at : ScriptParts → List Entry → ℕ → Entry → List ℕ
needs_at script entries place entry =
    containers_used (hands_at script entries entry.thread place) entry.call
    ++ innermost (after_section place entry.call (sections_at entries entry.thread place))

-- a mark names another thread that has a call on a container that the marked call needs: one that could have had the
-- lock, which need not be the one that had it (profile)
abbrev pub IsMarked : ScriptParts → List Entry → ℕ → Entry → Type 0
IsMarked script entries place entry =
    IfSome entry.waited
    (λ thread. (thread ≢ entry.thread)
    × (list_any (has_call_on script thread) (needs_at script entries place entry) ≡ true))

-- ---- awaits

-- of an `await`, the call that it names stands before a place: so many of the named thread's entries do (profile)
abbrev pub IsAwaitedIn : List Entry → ℕ → Call → Type 0
IsAwaitedIn entries place (call.Await thread index) = index ≤ length (entries_of thread (take place entries))
IsAwaitedIn entries place (call.Dict container dict_call) = Unit {0}
IsAwaitedIn entries place (call.List container list_call) = Unit {0}
IsAwaitedIn entries place (call.Set container set_call) = Unit {0}
IsAwaitedIn entries place (call.Deque container deque_call) = Unit {0}
IsAwaitedIn entries place (call.Next cursor) = Unit {0}
IsAwaitedIn entries place (call.Begin first second) = Unit {0}
IsAwaitedIn entries place call.End = Unit {0}
IsAwaitedIn entries place call.Quiesce = Unit {0}
IsAwaitedIn entries place call.Dump = Unit {0}

-- and so it does where the entry is of an `await`
abbrev pub IsAwaited : List Entry → ℕ → Entry → Type 0
IsAwaited entries place entry = IsAwaitedIn entries place entry.call

-- ---- legal histories

-- this holds of each entry at its place
abbrev pub EachAt : List Entry → (ℕ → Entry → Type 0) → Type 0
EachAt entries P = (place : ℕ) (entry : Entry) → slice_get entries place ≡ Some entry → P place entry

-- a MemoryError has its cause, of the writes and of the thread's own entries before its place
abbrev pub IsEarnedAt : Storage → ScriptParts → List Entry → ℕ → Entry → Type 0
IsEarnedAt storage script entries place entry =
    IsEarned storage script (writes (take place entries)) (entries_of entry.thread (take place entries)) entry

-- entries in the order in which their answers were fixed: each has to say what it says at its place (profile)
pub record IsChronicle (storage : Storage) (script : ScriptParts) (entries : List Entry) : Type 0 where
  pub whole : IsWhole script entries
  pub answered : EachAt entries (IsAnswered script entries)
  pub awaited : EachAt entries (IsAwaited entries)
  pub marked : EachAt entries (IsMarked script entries)
  pub kept : EachAt entries (IsKept entries)
  pub counted : EachAt entries (IsCounted entries)
  pub earned : EachAt entries (IsEarnedAt storage script entries)

-- a history of the script that containers of one thread can have, each of whose MemoryErrors has its cause: a chronicle
-- in the order of histories (profile)
pub record IsLegal (storage : Storage) (script : ScriptParts) (entries : List Entry) : Type 0 where
  pub order : IsSorted history_cmp entries
  pub chronicle : IsChronicle storage script entries
