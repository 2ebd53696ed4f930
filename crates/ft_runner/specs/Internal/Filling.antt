-- What reading the input of `check` keeps from one piece to the next.
use Rattle.std.specs.Prelude.{◌≡◌, ◌≤◌, ◌<◌, ◌+◌, ◌&&◌, ◌||◌, ℕ, Bool, true, false, List, [], ◌++◌, length, drop, codes, Result, Ok, Err}
use Rattle.std.specs.Str.{bytes_eq}
use Rattle.ft_io.specs.Streams.{Stream}
use Rattle.ft_runner.specs.declared.reading.ReadFault.{ReadFault}
use Rattle.ft_runner.specs.Checking.{begins_line, is_separator_at, CanFit, IsReadInTime, StopsInput}
use Rattle.ft_runner.specs.Transfers.{piece_limit, script_limit, has_failed, is_too_much, GivesBytes, HasEnded}

-- ---- lines that have begun

-- whether the bytes are those of `---` that have come, one at least
abbrev pub is_begun : List ℕ → Bool
is_begun rest = bytes_eq rest (codes "-") || (bytes_eq rest (codes "--") || bytes_eq rest (codes "---"))

-- whether a line that has begun there, and hasn't ended, can become `---`
abbrev pub is_open_at : List ℕ → ℕ → Bool
is_open_at bytes place = begins_line bytes place && is_begun (drop place bytes)

-- such a line has begun within the limit
abbrev pub HasOpenLine : List ℕ → Type 0
HasOpenLine bytes = (place : ℕ) × (place ≤ script_limit) × (is_open_at bytes place ≡ true)

-- or none has
abbrev pub HasNoOpenLine : List ℕ → Type 0
HasNoOpenLine bytes = (place : ℕ) → place ≤ script_limit → is_open_at bytes place ≡ false

-- whatever follows, it is settled at which places within the limit a line is `---`
abbrev pub IsSettled : List ℕ → Type 0
IsSettled bytes =
    (more : List ℕ) (place : ℕ) → place ≤ script_limit
    → is_separator_at (bytes ++ more) place ≡ is_separator_at bytes place

-- ---- pieces

-- a source has ended, or a piece came
abbrev pub EndsTaking : Bool → List ℕ → Stream → Type 0
EndsTaking true came after = (came ≡ []) × HasEnded after
EndsTaking false came after = 0 < length came

-- one piece is read on after these bytes
abbrev pub TakesPiece : Stream → List ℕ → Result Bool ReadFault → List ℕ → Stream → Type 0
TakesPiece before old (Ok ended) new after =
    (came : List ℕ) × (new ≡ old ++ came) × GivesBytes before came false after × (length came ≤ piece_limit)
    × EndsTaking ended came after
TakesPiece before old (Err stop) new after =
    (came : List ℕ) × GivesBytes before came (has_failed stop) after × (length came ≤ piece_limit)
    × (has_failed stop ≡ true → came ≡ []) × (is_too_much stop ≡ false)

-- the source has ended, or more than that many bytes are there
abbrev pub EndsFilling : Bool → ℕ → List ℕ → Stream → Type 0
EndsFilling true most bytes after = (length bytes ≤ most) × HasEnded after
EndsFilling false most bytes after = (most < length bytes) × (length bytes ≤ most + piece_limit)

-- a source is read on after these bytes, until it ends or more than that many are there
abbrev pub Fills : Stream → List ℕ → ℕ → Result Bool ReadFault → List ℕ → Stream → Type 0
Fills before old most (Ok ended) new after =
    (came : List ℕ) × (new ≡ old ++ came) × GivesBytes before came false after × EndsFilling ended most new after
Fills before old most (Err stop) new after =
    (came : List ℕ) × GivesBytes before came (has_failed stop) after × (length old + length came ≤ most + piece_limit)
    × (has_failed stop ≡ true → length old + length came ≤ most) × (is_too_much stop ≡ false)

-- ---- the script's part

-- the source has ended, or what follows can't change the script's part
abbrev pub EndsScript : Bool → List ℕ → Stream → Type 0
EndsScript true bytes after = CanFit bytes × HasEnded after
EndsScript false bytes after =
    (script_limit < length bytes) × (length bytes ≤ script_limit + 3 + piece_limit) × IsSettled bytes
    × IsReadInTime bytes

-- a source is read until it ends or the script's part of the input is settled
abbrev pub ReadsScript : Stream → Result Bool ReadFault → List ℕ → Stream → Type 0
ReadsScript before (Ok ended) bytes after = GivesBytes before bytes false after × EndsScript ended bytes after
ReadsScript before (Err stop) bytes after = StopsInput stop before after
