-- What a board keeps for a call that is awaited, and what whoever awaits it is told.
use Rattle.std.specs.Prelude.{◌≡◌, ◌≢◌, ℕ, [], ◌∷◌, ◌++◌, All, Option, Some, None}
use Rattle.atomic_table.specs.Seated.{TableId}
use Rattle.ft_bank.specs.declared.bank.Bank.{Bank}
use Rattle.ft_bank.specs.declared.note.Note.{Note}
use Rattle.ft_bank.specs.Notes.{TellsOf}
use Rattle.ft_board.specs.declared.desk.Fetched.{Fetched}
use Rattle.ft_board.specs.declared.desk.Fetched.TheVariants as fetched
use Rattle.ft_board.specs.declared.desk.State.{State}
use Rattle.ft_board.specs.declared.desk.State.TheVariants as state

-- what names a bank
abbrev pub name_of : Bank → TableId
name_of b = b.table.shared.table_id

-- the name of no bank
abbrev pub no_bank : TableId
no_bank = record { words = 0; slots = 0; views_name = 0; atom = 0; block = 0; offset = 0; slot_names = [] }

-- the note is of a pass of the bank of this name
abbrev pub IsNoteNamed : TableId → Note → Type 0
IsNoteNamed bank note = note.seat.table_id ≡ bank

-- the note is of a pass of the bank, and tells that the thread has made its calls up to this index
pub record IsNoteFor (bank : TableId) (thread index : ℕ) (note : Note) : Type 0 where
  pub of : IsNoteNamed bank note
  pub tells : TellsOf note thread index

-- What has come of a call of a thread so far: notes that tell of it are left, or the thread has stopped, which has this
-- consequence.
abbrev pub IsStateOf : TableId → (ℕ → Type 0) → ℕ → ℕ → State → Type 0
IsStateOf bank Stopped thread index state.NotYet = Unit {0}
IsStateOf bank Stopped thread index (state.Published notes) = All (IsNoteFor bank thread index) notes.items
IsStateOf bank Stopped thread index state.Stopped = Stopped thread

-- who awaits the call is given a note that tells of it, or the thread has stopped
abbrev pub IsFetchedFor : TableId → (ℕ → Type 0) → ℕ → ℕ → Fetched → Type 0
IsFetchedFor bank Stopped thread index (fetched.Got note) = IsNoteFor bank thread index note
IsFetchedFor bank Stopped thread index fetched.Stopped = Stopped thread

-- ---- how the state of a call changes

-- notes that are left of a call, or its thread's stop, come to a call of which nothing has come; what came first stays
pub record ComesTo (came before after : State) : Type 0 where
  pub first : before ≡ state.NotYet → after ≡ came
  pub stays : before ≢ state.NotYet → after ≡ before

-- the note is one of those that were left, and the others stay
abbrev pub TakesNote : Note → State → State → Type 0
TakesNote note (state.Published notes) (state.Published others) = notes.items ≡ others.items ++ note ∷ []
TakesNote note (state.Published notes) _ = ⊥
TakesNote note _ after = ⊥

-- what has come of the call stays, with all notes
abbrev pub KeepsState : State → State → Type 0
KeepsState state.NotYet after = after ≡ state.NotYet
KeepsState (state.Published notes) (state.Published others) = others.items ≡ notes.items
KeepsState (state.Published notes) _ = ⊥
KeepsState state.Stopped after = after ≡ state.Stopped

-- A note is taken from those that were left of the call; or its thread has stopped, and had left none of it before; or
-- there is nothing to take.
abbrev pub Fetches : State → State → Option Fetched → Type 0
Fetches before after None = KeepsState before after
Fetches before after (Some fetched.Stopped) = (before ≡ state.Stopped) × (after ≡ before)
Fetches before after (Some (fetched.Got note)) = TakesNote note before after
