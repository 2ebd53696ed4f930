-- That the cursors of a pass by its log are the hands that its own entries leave, in the words of histories.
use Rattle.std.specs.Prelude.{◌≡◌, ℕ, ◌<◌, All, IfSome, List, map, reverse, take}
use Rattle.ft_model.specs.declared.entry.Entry.{Entry as NamedEntry}
use Rattle.ft_model.specs.Answers.{answer, world_by}
use Rattle.ft_model.specs.Calls.{moved_cursor}
use Rattle.ft_model.specs.Histories.{IsReplied, EachAt, hands_by}
use Rattle.ft_model.specs.Worlds.{cursor_at}
use Rattle.ft_trace.specs.declared.Entry.{Entry}
use Rattle.ft_trace.specs.declared.Shape.{Shape}
use Rattle.ft_trace.specs.declared.View.{View}
use Rattle.ft_trace.specs.Hands.{cursor_in, own_entries}
use Rattle.ft_trace.specs.TraceLaws.{HasView}
use Rattle.ft_trace.specs.Traces.{Event, history, Valid}

-- what a thread's entry says, without its thread, index and mark
abbrev pub plain_entry : NamedEntry → Entry
plain_entry e = record { call = e.call; reply = e.reply; stamp = e.stamp; wrote = e.wrote }

-- the entry's call asks no cursor, or one of the first `room`
abbrev pub AsksWithin : ℕ → NamedEntry → Type 0
AsksWithin room e = IfSome (moved_cursor e.call) (λ n. n < room)

-- Where these entries, the oldest first, are a pass's own ones, the cursors that the pass has are the hands that they
-- leave by the writes so far; and each has the reply of the plain containers at its stamp to a thread with the hands
-- that the earlier ones leave, or that of a section, or a MemoryError. (Python manual, Iterator Types: a cursor is its
-- thread's)
abbrev pub CursorsAreHands : Type 0
CursorsAreHands =
    (k : Shape) (es : List Event) → Valid k es → (j : ℕ) (u : View) → HasView k es j u → (room : ℕ)
    → (mine : List NamedEntry) → map plain_entry (reverse mine) ≡ own_entries u.log → All (AsksWithin room) mine
    → ((n : ℕ) → n < room → cursor_at (hands_by k.starts (reverse (history es)) room mine) n ≡ cursor_in n u.log)
    × EachAt mine (λ place e. IsReplied e.call e.reply
    (answer (world_by k.starts (take e.stamp (reverse (history es))))
    (hands_by k.starts (reverse (history es)) room (take place mine)) e.call).reply)
