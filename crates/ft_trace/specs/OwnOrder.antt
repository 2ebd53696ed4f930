-- The entries of one pass in their order: their stamps rise, and inside a section that is kept no other pass writes.
use Rattle.std.specs.Prelude.{◌≡◌, ℕ, ◌+◌, ◌<◌, ◌≤◌, ◌==◌, ◌&&◌, Bool, true, cond, All, List, [], ◌∷◌, ◌++◌, length, reverse, Some, slice_get}
use Rattle.std.specs.List.{list_any}
use Rattle.ft_model.specs.declared.call.Call.{Call}
use Rattle.ft_model.specs.declared.call.Call.TheVariants as call
use Rattle.ft_model.specs.declared.reply.Reply.TheVariants as reply
use Rattle.ft_model.specs.Calls.{containers_of}
use Rattle.ft_model.specs.Histories.{names, open_sections_after}
use Rattle.ft_trace.specs.declared.Entry.{Entry}
use Rattle.ft_trace.specs.declared.Shape.{Shape}
use Rattle.ft_trace.specs.declared.View.{View}
use Rattle.ft_trace.specs.Acts.{all_lists}
use Rattle.ft_trace.specs.Entries.{IsNumber}
use Rattle.ft_trace.specs.TraceLaws.{HasView}
use Rattle.ft_trace.specs.BegunSections.{Begun, begun, is_among}
use Rattle.ft_trace.specs.Traces.{Event, history, Valid}

-- Entries of one pass stand newest first here, as in a view. Which call is the write of a number is an argument: traces
-- have writes newest first, histories oldest first.

-- how many writes there are at least once the entry is made: a write counts itself
abbrev pub number_after : Entry → ℕ
number_after e = cond e.wrote (e.stamp + 1) e.stamp

-- whether the entry is the write of this number
abbrev pub is_write_of : ℕ → Entry → Bool
is_write_of n e = e.wrote && (e.stamp == n)

-- ---- sections

-- the entries that began the sections that are open after an entry of this call, innermost first
abbrev pub after_begins : Entry → Call → List Entry → List Entry
after_begins e called begins = open_sections_after e called begins

-- those of the sections that these entries leave open
abbrev pub begins_in : List Entry → List Entry
begins_in [] = []
begins_in (e ∷ before) = after_begins e e.call (begins_in before)

-- Each write that names one of these containers, and that is numbered from `first` on and below `past`, is one of the
-- entries. (C API, critical sections: the locks were held all the while)
abbrev pub HasWritesOn : (ℕ → Call → Type 0) → List Entry → List ℕ → ℕ → ℕ → Type 0
HasWritesOn IsWrite entries containers first past =
    (o n : ℕ) (called : Call) → is_among o containers ≡ true → names o called ≡ true → first ≤ n → n < past
    → IsWrite n called → list_any (is_write_of n) entries ≡ true

-- ---- order

-- An entry after earlier ones of its pass: its stamp is at least the number of writes that there were after each of
-- them. An `end` says kept only where each write on the section's containers from the `begin`'s stamp on, and below its
-- own, is the pass's.
pub record FollowsOwn (IsWrite : ℕ → Call → Type 0) (before : List Entry) (e : Entry) : Type 0 where
  pub rises : All (λ earlier. number_after earlier ≤ e.stamp) before
  pub kept : e.call ≡ call.End → e.reply ≡ reply.Kept → (begun : Entry) (outer : List Entry)
      → begins_in before ≡ begun ∷ outer
      → HasWritesOn IsWrite before (containers_of begun.call) begun.stamp e.stamp

abbrev pub AreInOwnOrder : (ℕ → Call → Type 0) → List Entry → Type 0
AreInOwnOrder IsWrite [] = Unit {0}
AreInOwnOrder IsWrite (e ∷ before) = FollowsOwn IsWrite before e × AreInOwnOrder IsWrite before

-- the write of this number, among writes from the first to the newest
abbrev pub IsWriteIn : List Call → ℕ → Call → Type 0
IsWriteIn calls n called = slice_get calls n ≡ Some called

-- ---- laws

-- the entries of each pass are in its order, those that a view took in with others as well as its own
abbrev pub OwnEntriesAreInOrder : Type 0
OwnEntriesAreInOrder =
    (k : Shape) (es : List Event) → Valid k es → (j : ℕ) (u : View) → HasView k es j u
    → All (AreInOwnOrder (IsNumber (history es))) (all_lists u)
    × All (AreInOwnOrder (IsWriteIn (reverse (history es)))) (all_lists u)

-- While a pass has a section begun and has had its locks since the load of the counter that gave the stamp of the
-- `begin`, each write from that stamp on that names one of its containers is the pass's: no other pass writes on them.
-- (C API, critical sections)
abbrev pub KeptSectionsAreUntouched : Type 0
KeptSectionsAreUntouched =
    (k : Shape) (es : List Event) → Valid k es → (j : ℕ) (u : View) → HasView k es j u
    → (inner : List Begun) (b : Begun) (outer : List Begun) → begun u.log ≡ inner ++ b ∷ outer → b.held ≡ true
    → HasWritesOn (IsNumber (history es)) u.entries b.containers b.stamp (length (history es))

-- What is so stays so when writes are appended, if the entries have stamps that are not past the writes that there
-- were.
abbrev pub OwnOrderStays : Type 0
OwnOrderStays =
    (calls more : List Call) (entries : List Entry) → All (λ e. e.stamp ≤ length calls) entries
    → AreInOwnOrder (IsWriteIn calls) entries → AreInOwnOrder (IsWriteIn (calls ++ more)) entries
