-- What the judge keeps of the entries before a place.
use Rattle.std.specs.Prelude.{◌≡◌, ℕ, Bool, false, ◌+◌, ◌<◌, ◌≤◌, nat_le, ◌==◌, List, [], ◌∷◌, ◌++◌, map, reverse, take, drop, length, All, Option, Some, None, if◌then◌else◌, IfSome, IsSome, slice_get, slice_index_or}
use Rattle.std.specs.Option.{option_map_or}
use Rattle.ft_model.specs.declared.call.Call.{Call}
use Rattle.ft_model.specs.declared.call.Call.TheVariants as call
use Rattle.ft_model.specs.declared.entry.Entry.{Entry}
use Rattle.ft_model.specs.Calls.{container_list, containers_of}
use Rattle.std.specs.Global.{Vec}
use Rattle.std.specs.List.{fold, list_any, count_by, AllByRecursion, Any}
use Rattle.ft_model.specs.declared.cursor.Cursor.{Cursor}
use Rattle.ft_model.specs.declared.reply.Reply.{Reply}
use Rattle.ft_model.specs.declared.reply.Reply.TheVariants as reply
use Rattle.ft_model.specs.declared.script.Thread.{Thread}
use Rattle.ft_model.specs.declared.script.ScriptParts.{ScriptParts}
use Rattle.ft_model.specs.Scripts.{IsDeclaredAs, cursor_of}
use Rattle.ft_model.specs.declared.content.Content.{Content}
use Rattle.ft_model.specs.declared.content.Content.TheVariants as content
use Rattle.ft_model.specs.Boxings.{boxings}
use Rattle.ft_model.specs.Worlds.{starts_of, start_world, start_hands, IsDeclared, cursor_at, cursor_kind, container_of}
use Rattle.ft_model.specs.Answers.{after_write}
use Rattle.ft_model.specs.Histories.{Section, entries_of, calls_of, cursors_of, hands_at, writes, sections_at, is_marked, disturbs, has_call_on, open_sections_after}
use Rattle.ft_history.specs.declared.progress.OpenSection.{OpenSection}
use Rattle.ft_history.specs.declared.progress.ThreadProgress.{ThreadProgress}
use Rattle.ft_history.specs.declared.writers.LastWrites.{LastWrites}
use Rattle.ft_history.specs.declared.writers.Write.{Write}

-- ---- contents

-- the world that the writes before a place leave
abbrev pub world_before : ScriptParts → List Entry → ℕ → List Content
world_before script entries place = fold after_write (start_world script.containers) (writes (take place entries))

-- what the container has
abbrev pub content_at : List Content → ℕ → Content
content_at world place = slice_index_or world place (content.List [])

-- a call of a container may be made there; the calls of sections ask no container
abbrev pub IsAskable : List Content → List (Option Cursor) → Call → Type 0
IsAskable world hands (call.Begin first second) = Unit {0}
IsAskable world hands call.End = Unit {0}
IsAskable world hands call.Quiesce = Unit {0}
IsAskable world hands (call.Await other index) = Unit {0}
IsAskable world hands call.Dump = IsDeclared world hands call.Dump
IsAskable world hands (call.Dict container dict_call) = IsDeclared world hands (call.Dict container dict_call)
IsAskable world hands (call.List container list_call) = IsDeclared world hands (call.List container list_call)
IsAskable world hands (call.Set container set_call) = IsDeclared world hands (call.Set container set_call)
IsAskable world hands (call.Deque container deque_call) = IsDeclared world hands (call.Deque container deque_call)
IsAskable world hands (call.Next cursor) = IsDeclared world hands (call.Next cursor)

-- ---- who uses what

-- whether a table says that the thread has a call on the container
abbrev pub is_used : List (Vec Bool) → ℕ → ℕ → Bool
is_used users thread container =
    option_map_or (λ (used : Vec Bool). slice_index_or used.items container false) (slice_get users thread) false

-- the table is right
abbrev pub AreUsers : ScriptParts → List (Vec Bool) → Type 0
AreUsers script users = (thread container : ℕ) → is_used users thread container ≡ has_call_on script thread container

-- ---- open sections

-- an open section: its containers, the place of its `begin`, and how many calls of its thread had waited then
pub record BegunSection : Type 0 where
  pub containers : List ℕ
  pub begun : ℕ
  pub marks : ℕ

abbrev pub begun_of : OpenSection → BegunSection
begun_of section =
    record { containers = container_list section.containers; begun = section.begun; marks = section.marks }

-- innermost first
abbrev pub all_begun : List OpenSection → List BegunSection
all_begun sections = reverse (map begun_of sections)

-- the open sections of a thread after a call of it at a place, by when a number of its calls have waited
abbrev pub after_begun : ℕ → ℕ → Call → List BegunSection → List BegunSection
after_begun place marks called sections =
    open_sections_after (record { containers = containers_of called; begun = place; marks = marks }) called sections

-- the section without its count
abbrev pub section_of : BegunSection → Section
section_of begun = record { containers = begun.containers; begun = begun.begun }

-- what is kept of an open section of a thread at a place: how many calls of the thread had waited when it was begun
pub record IsOpen (script : ScriptParts) (entries : List Entry) (thread place : ℕ)
    (section : BegunSection) : Type 0 where
  pub before : section.begun < place
  pub marks : section.marks ≡ count_by (is_marked thread) (take (section.begun + 1) entries)
  pub containers : All (λ container. container < length script.containers) section.containers

-- the containers of the innermost open section, where there is one
abbrev pub inner_begun : List BegunSection → List ℕ
inner_begun [] = []
inner_begun (section ∷ sections) = section.containers

-- ---- threads

-- so many of a thread's writes before a place put a value in a box, whatever writes follow
abbrev pub HasBoxed : ScriptParts → List Entry → ℕ → ℕ → ℕ → Type 0
HasBoxed script entries thread place boxed =
    (later : List Call)
    → boxed
    ≡ boxings (starts_of script.containers) (writes (take place entries) ++ later)
    (entries_of thread (take place entries))

-- what is kept of a thread before a place
pub record IsProgress (script : ScriptParts) (entries : List Entry) (thread place : ℕ)
    (progress : ThreadProgress) : Type 0 where
  pub made : progress.made ≡ length (entries_of thread (take place entries))
  pub marks : progress.marks ≡ count_by (is_marked thread) (take place entries)
  pub boxed : HasBoxed script entries thread place progress.boxed
  pub hands : progress.hands ≡ hands_at script entries thread place
  pub sections : sections_at entries thread place ≡ map section_of (all_begun progress.sections.items)
  pub «open» : AllByRecursion (IsOpen script entries thread place) (all_begun progress.sections.items)

-- what is kept of a thread that has made no call
pub record IsFreshProgress (thread : Thread) (progress : ThreadProgress) : Type 0 where
  pub made : progress.made ≡ 0
  pub marks : progress.marks ≡ 0
  pub boxed : progress.boxed ≡ 0
  pub hands : progress.hands ≡ start_hands (length thread.cursors)
  pub sections : progress.sections.items ≡ []

-- hands of a thread that has made a number of its calls: each cursor that these make is there, over a container of its
-- kind
pub record AreHandsOf (script : ScriptParts) (thread made : ℕ) (hands : List (Option Cursor)) : Type 0 where
  pub room : length hands ≡ cursors_of script thread
  pub kinds : (number : ℕ)
      → IfSome (cursor_at hands number)
      (λ cursor. IsDeclaredAs script.containers (cursor_kind cursor) (container_of cursor))
  pub cursors : (number : ℕ) → Any (λ called. cursor_of called ≡ Some number) (take made (calls_of script thread))
      → IsSome (cursor_at hands number)

-- ---- awaits

-- the thread that an await names is there, of that many
abbrev pub NamesThread : ℕ → Call → Type 0
NamesThread threads (call.Await thread index) = thread < threads
NamesThread threads called = Unit {0}

-- and it has made the call that the await names
abbrev pub HasMade : List ThreadProgress → Call → Type 0
HasMade threads (call.Await thread index) =
    IfSome (slice_get threads thread) (λ (progress : ThreadProgress). index ≤ progress.made)
HasMade threads called = Unit {0}

-- ---- the last writes on a container

-- the last write by another thread than this one, which writes now
abbrev pub other_than : ℕ → Option Write → Option ℕ → Option ℕ
other_than thread None other = other
other_than thread (Some last) other = if last.thread == thread then other else Some last.place

-- the last writes after one more
abbrev pub after_one : LastWrites → ℕ → ℕ → LastWrites
after_one writes thread place =
    record {
      last = Some (record { thread = thread; place = place });
      other = other_than thread writes.last writes.other;
    }

-- whether a place is there, from this one on
abbrev pub is_from : ℕ → Option ℕ → Bool
is_from since None = false
is_from since (Some place) = nat_le since place

-- whether another thread than this one wrote, from a place on
abbrev pub is_written_since : LastWrites → ℕ → ℕ → Bool
is_written_since writes thread since =
    option_map_or
    (λ last. if last.thread == thread then is_from since writes.other else nat_le since last.place) writes.last false

-- what is kept of the writes on a container before a place
pub record AreLastWrites (entries : List Entry) (place container : ℕ) (writes : LastWrites) : Type 0 where
  -- it tells whether another thread wrote on the container, from any place on
  pub since : (thread since : ℕ)
      → list_any (disturbs thread (container ∷ [])) (drop since (take place entries))
      ≡ is_written_since writes thread since
  pub last : IfSome writes.last (λ write. write.place < place)
  pub other : IfSome writes.other (λ at. at < place)
  pub first : writes.last ≡ None → writes.other ≡ None

-- whether the kept writes say that another thread wrote on the container, from a place on
abbrev pub is_written_on : List LastWrites → ℕ → ℕ → ℕ → Bool
is_written_on containers thread since container =
    option_map_or (λ (writes : LastWrites). is_written_since writes thread since) (slice_get containers container) false

-- an `end` says kept only where no other thread wrote on the section's containers after its `begin`
abbrev pub IsKeptSince : List LastWrites → ℕ → BegunSection → Reply → Type 0
IsKeptSince containers thread section reply.Kept =
    list_any (is_written_on containers thread (section.begun + 1)) section.containers ≡ false
IsKeptSince containers thread section said = Unit {0}
