-- What callers keep of the entries of their passes, and what they have then of the entries of all.
use Rattle.std.specs.Prelude.{◌≡◌, ℕ, suc, All, List, [], ◌∷◌, length, map, reverse, take, Some, slice_get}
use Rattle.std.specs.List.{flat_map, range_with_len}
use Rattle.ft_model.specs.declared.call.Call.{Call}
use Rattle.ft_model.specs.declared.entry.Entry.{Entry as NamedEntry}
use Rattle.ft_model.specs.declared.entry.Storage.TheVariants as storage
use Rattle.ft_model.specs.declared.script.ScriptParts.{ScriptParts}
use Rattle.ft_model.specs.declared.script.Start.{Start}
use Rattle.ft_model.specs.Answers.{answer, world_by}
use Rattle.ft_model.specs.Histories.{cursors_of, hands_by, EachAt, IsCountedAs, IsReplied, IfEnds}
use Rattle.ft_model.specs.Numbers.{begins_of, marks_since, AreDone, AreNumberedLists}
use Rattle.ft_model.specs.Worlds.{starts_of}
use Rattle.ft_trace.specs.declared.Entry.{Entry}
use Rattle.ft_trace.specs.declared.Owner.{Owner}
use Rattle.ft_trace.specs.declared.Shape.{Shape}
use Rattle.ft_trace.specs.declared.Told.{Told}
use Rattle.ft_trace.specs.HeapErrors.{HeapErrorsFollowBoxings}
use Rattle.ft_trace.specs.InOrder.{AreInOrder}
use Rattle.ft_trace.specs.OwnCursors.{plain_entry, AsksWithin}
use Rattle.ft_trace.specs.OwnOrder.{AreInOwnOrder, IsWriteIn}
use Rattle.ft_trace.specs.Owners.{AreOwners}
use Rattle.ft_trace.specs.ToldEntries.{AgreeOnPasses, AreAwaitsTold}
use Rattle.ft_bank_history.specs.Marks.{HaveScriptCalls, AreMarksFound, AreOfFirst, HasNamed}

-- the bank is made for the script: its containers, its tables, its heaps, and a pass for each thread (profile)
pub record IsFor (script : ScriptParts) (k : Shape) : Type 0 where
  pub starts : k.starts ≡ starts_of script.containers
  pub tables : k.tables ≡ script.tables
  pub passes : k.passes ≡ length script.threads
  pub heap : k.heap ≡ script.heap

-- Entries of a pass, newest first: where these are the same with thread, index and mark, the oldest first, each has
-- the reply of the plain containers at its stamp to a thread with the hands that the earlier ones leave, or that of a
-- section, or a MemoryError. (Python manual, Iterator Types: a cursor is its thread's)
abbrev pub AreReplied : List Start → List Call → ℕ → List Entry → Type 0
AreReplied starts calls room own =
    (mine : List NamedEntry) → map plain_entry mine ≡ reverse own → All (AsksWithin room) mine
    → EachAt mine (λ place e. IsReplied e.call e.reply
    (answer (world_by starts (take e.stamp calls)) (hands_by starts calls room (take place mine)) e.call).reply)

-- one of these tells all these entries of the thread's pass, which has the thread's number and one
abbrev pub AreAllTold : ℕ → List Entry → List Told → Type 0
AreAllTold thread entries told =
    (place : ℕ) × (one : Told) × (slice_get told place ≡ Some one) × (one.pass ≡ suc thread) × (one.entries ≡ entries)

-- A caller kept the entries of its pass, the oldest first, with its thread and an index, which counts from 1. An `end`
-- says how many of its entries in the section waited. A mark is a thread that was found with a lock that the call
-- needs, and the thread had no locks but of containers that its calls name. What was told of the thread has all its
-- entries. (profile)
pub record HasNamedEntries
    (thread : ℕ) (mine : List NamedEntry) (entries : List Entry) (had found : List Owner) (told : List Told)
    : Type 0 where
  pub same : map plain_entry mine ≡ reverse entries
  pub own : All (λ entry. entry.thread ≡ thread) mine
  pub indexes : map (λ entry. entry.index) mine ≡ range_with_len 1 (length mine)
  pub counted : EachAt mine (λ place entry. IfEnds (begins_of (take place mine)) entry.call
      (λ begun. IsCountedAs (marks_since entry.thread (take place mine) begun) entry.reply))
  pub marked : AreMarksFound found mine
  pub named : HasNamed thread had mine
  pub all_told : AreAllTold thread entries told

-- each caller did, from this thread on, beside the entries of the passes in the same order (profile)
abbrev pub HaveNamedEntries
    : ℕ → List (List NamedEntry) → List (List Entry) → List Owner → List Owner → List Told → Type 0
HaveNamedEntries thread [] [] had found told = Unit {0}
HaveNamedEntries thread [] (own ∷ lists) had found told = ⊥
HaveNamedEntries thread (mine ∷ kept) [] had found told = ⊥
HaveNamedEntries thread (mine ∷ kept) (own ∷ lists) had found told =
    HasNamedEntries thread mine own had found told × HaveNamedEntries (suc thread) kept lists had found told

-- each cursor that a thread's entries ask is one of the thread's in the script
abbrev pub AskOwnCursors : ScriptParts → List (List NamedEntry) → Type 0
AskOwnCursors script kept =
    (thread : ℕ) (mine : List NamedEntry) → slice_get kept thread ≡ Some mine
    → All (AsksWithin (cursors_of script thread)) mine

-- entries of passes beside the writes in their order, and in the order of each pass, with replies by the hands that
-- each pass had and MemoryErrors of heaps by what each pass had boxed, are numbered entries of the script
abbrev pub EntriesAreNumbered : Type 0
EntriesAreNumbered =
    (k : Shape) (script : ScriptParts) (calls : List Call) (lists : List (List Entry)) (kept : List (List NamedEntry))
    (had found : List Owner) (told : List Told)
    → IsFor script k → AreInOrder k calls (flat_map (λ own. own) lists) → All (AreInOwnOrder (IsWriteIn calls)) lists
    → All (HeapErrorsFollowBoxings k calls) lists
    → All (λ own. (room : ℕ) → AreReplied k.starts calls room own) lists
    → HaveNamedEntries 0 kept lists had found told → AskOwnCursors script kept → length kept ≡ length script.threads
    → AreNumberedLists storage.Tables script calls kept

-- Where all calls are made, each mark is right: the thread that it names was found with the lock, so it had it, and so
-- a call of it names the container. And each `await` knows of the call that it names: it was told of it, and what was
-- told of one pass agrees.
abbrev pub MarksAreRight : Type 0
MarksAreRight =
    (script : ScriptParts) (calls : List Call) (lists : List (List Entry)) (kept : List (List NamedEntry))
    (had found : List Owner) (told : List Told)
    → HaveNamedEntries 0 kept lists had found told → AreOfFirst (length kept) had → AreOwners found had
    → AgreeOnPasses told → All (AreAwaitsTold told) lists → AskOwnCursors script kept
    → AreNumberedLists storage.Tables script calls kept → HaveScriptCalls script kept
    → AreDone script calls kept
