-- The entries that a caller was answered, as whoever makes its calls keeps them, beside those of its pass.
use Rattle.std.specs.Prelude.{◌≡◌, ℕ, ◌+◌, All, List, [], ◌∷◌, ◌++◌, length, map, reverse, take, Option, Some, None}
use Rattle.std.specs.List.{range_with_len}
use Rattle.ft_model.specs.declared.call.Call.{Call}
use Rattle.ft_model.specs.declared.entry.Entry.{Entry as NamedEntry}
use Rattle.ft_model.specs.declared.reply.Reply.{Reply}
use Rattle.ft_model.specs.Histories.{EachAt, IsCountedAs, IfEnds, open_sections_after}
use Rattle.ft_model.specs.Numbers.{begins_of, marks_since}
use Rattle.ft_trace.specs.declared.Entry.{Entry}
use Rattle.ft_trace.specs.OwnCursors.{plain_entry}
use Rattle.ft_bank.specs.Passes.{view}
use Rattle.ft_bank.specs.PassSections.{Stack, stack_of}
use Rattle.ft_section.specs.declared.answers.Stamp.{Stamp}
use Rattle.ft_engine.specs.declared.caller.Caller.{Caller}
use Rattle.ft_engine.specs.declared.caller.Flight.{Flight}
use Rattle.ft_engine.specs.declared.caller.Flight.TheVariants as flight
use Rattle.ft_engine.specs.Callers.{thread_of}
use Rattle.ft_engine.specs.Owning.{AreOwnedBy}

-- ---- marks

-- how many calls waited in each open section, as the pass counts them, innermost first
abbrev pub section_marks : Stack → List ℕ
section_marks s = reverse (map (λ section. section.marks) s.sections)

-- how many of the entries after the `begin` of each open section waited, innermost first
abbrev pub open_marks : ℕ → List NamedEntry → List ℕ
open_marks thread mine = map (λ begun. marks_since thread mine begun) (begins_of mine)

-- 1 where the call waited
abbrev pub mark_count : Option ℕ → ℕ
mark_count None = 0
mark_count (Some q) = 1

-- each of them, and that many more
abbrev pub more_marks : ℕ → List ℕ → List ℕ
more_marks count marks = map (λ n. n + count) marks

-- the counts of the sections that are open after a call: a `begin` opens one of which no call waited (C API, critical
-- sections)
abbrev pub marks_after : Call → List ℕ → List ℕ
marks_after called marks = open_sections_after 0 called marks

-- those that are open once the call in flight has its answer
abbrev pub marks_due : Flight → List ℕ → List ℕ
marks_due flight.Idle marks = marks
marks_due (flight.Tried called) marks = marks
marks_due (flight.Answered called said stamp) marks = marks_after called marks
marks_due (flight.Refused called) marks = marks

-- ---- entries

-- the entry of an answer, as a pass has it
abbrev pub made_entry : Call → Reply → Stamp → Entry
made_entry called said stamp = record { call = called; reply = said; stamp = stamp.number; wrote = stamp.wrote }

-- the entry of the call in flight, where the pass has it already
abbrev pub pending : Flight → List Entry
pending flight.Idle = []
pending (flight.Tried called) = []
pending (flight.Answered called said stamp) = made_entry called said stamp ∷ []
pending (flight.Refused called) = []

-- the entry of an answer, as whoever made the call keeps it after others of the thread
abbrev pub named_entry : ℕ → List NamedEntry → Call → Reply → Stamp → Option ℕ → NamedEntry
named_entry thread mine called said stamp mark =
    record {
      thread = thread;
      index = length mine + 1;
      stamp = stamp.number;
      wrote = stamp.wrote;
      call = called;
      reply = said;
      waited = mark;
    }

-- the `end` in flight says how many of these waited in its section (C API, critical sections; the count: profile)
abbrev pub IsEndCounted : ℕ → List NamedEntry → Flight → Type 0
IsEndCounted thread mine flight.Idle = Unit {0}
IsEndCounted thread mine (flight.Tried called) = Unit {0}
IsEndCounted thread mine (flight.Answered called said stamp) =
    IfEnds (begins_of mine) called (λ begun. IsCountedAs (marks_since thread mine begun) said)
IsEndCounted thread mine (flight.Refused called) = Unit {0}

-- These are a thread's entries, the oldest first, of calls that have ended: those of its pass with the thread, indexes
-- that count from 1, and the marks of those that waited, but for the one of the call in flight. An `end` says how many
-- entries in its section waited, and that many does the pass count in each open section, with the call in flight where
-- it waited. (profile)
pub record AreThreadEntries (thread : ℕ) (entries : List Entry) (s : Stack) (f : Flight) (mine : List NamedEntry)
    : Type 0 where
  pub same : entries ≡ pending f ++ reverse (map plain_entry mine)
  pub own : All (λ entry. entry.thread ≡ thread) mine
  pub indexes : map (λ entry. entry.index) mine ≡ range_with_len 1 (length mine)
  pub counted : EachAt mine (λ place entry. IfEnds (begins_of (take place mine)) entry.call
      (λ begun. IsCountedAs (marks_since entry.thread (take place mine) begun) entry.reply))
  pub sections : section_marks s ≡ marks_due f (more_marks (mark_count s.mark) (open_marks thread mine))
  pub ends : IsEndCounted thread mine f

-- these are the entries that the caller was answered
abbrev pub WasAnswered : Caller → List NamedEntry → Type 0
WasAnswered c mine =
    AreThreadEntries (thread_of c) (view c.pass).entries (stack_of c.pass) c.flight mine
    × AreOwnedBy (view c.pass) (stack_of c.pass) c.flight mine
