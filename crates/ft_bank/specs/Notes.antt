-- What passes have seen of each other's writes, and notes of it.
use Rattle.std.specs.Prelude.{◌≡◌, ◌≤◌, ℕ, suc, max, List, [], ◌∷◌, length}
use Rattle.ft_trace.specs.declared.Act.TheVariants.{TookOver}
use Rattle.ft_trace.specs.declared.Told.{Told}
use Rattle.ft_trace.specs.declared.View.{View}
use Rattle.ft_trace.specs.Acts.{shown}
use Rattle.ft_bank.specs.Passes.{view}
use Rattle.ft_bank.specs.declared.bank.Bank.{Bank}
use Rattle.ft_bank.specs.declared.note.Note.{Note}
use Rattle.ft_bank.specs.declared.pass.Pass.{Pass}

-- How many writes the pass has seen: the greatest of what its loads of the counter gave, and of each own write's number
-- and one. Who learns a note or takes in a pass loads the counter, so this counts what the others had seen too.
-- (profile)
abbrev pub writes_seen : Pass → ℕ
writes_seen p = shown (view p).log

-- how many writes the maker of the note had seen when it made it
abbrev pub says : Note → ℕ
says n = n.seat.me.0.learnt

-- what it tells of its maker: how many writes it had seen, and the entries that it had made, newest first
abbrev pub told_by : Note → List Told
told_by n = n.seat.me.0.told

-- it tells of the thread's pass, which has the thread's number and one, and of this many entries of it at least
abbrev pub TellsOf : Note → ℕ → ℕ → Type 0
TellsOf note thread index =
    (one : Told) × (told_by note ≡ one ∷ []) × (one.pass ≡ suc thread) × (index ≤ length one.entries)

-- the note is of a pass of the bank
abbrev pub IsNoteOf : Bank → Note → Type 0
IsNoteOf b n = n.seat.table_id ≡ b.table.shared.table_id

-- what the pass knows once it has learnt that there are this many writes, and what it was told; from a note it takes over
-- no table
abbrev pub knowing : ℕ → List Told → View → View
knowing n told v = record v { log = TookOver [] [] [] told ∷ v.log; learnt = max v.learnt n }
