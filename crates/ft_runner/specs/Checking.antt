-- What `check` reads. (profile)
use Rattle.std.specs.Prelude.{◌≡◌, ◌≤◌, ◌<◌, ◌⊎◌, ℕ, ◌+◌, ◌-◌, ◌==◌, ◌&&◌, ◌||◌, Bool, true, false, List, ◌++◌, length, take, drop, codes, slice_index_or, Option, MatchOption, Result, Ok, Err}
use Rattle.ft_io.specs.Streams.{Stream}
use Rattle.std.specs.Str.{bytes_eq}
use Rattle.ft_runner.specs.declared.reading.Input.{Input}
use Rattle.ft_runner.specs.declared.reading.ReadFault.{ReadFault}
use Rattle.ft_runner.specs.Transfers.{input_limit, piece_limit, script_limit, has_failed, is_too_much, GivesBytes, HasEnded}

-- ---- the two parts of the input

-- whether a line begins at the place
abbrev pub begins_line : List ℕ → ℕ → Bool
begins_line bytes place = place == 0 || slice_index_or bytes (place - 1) 0 == 10

-- whether the bytes are `---` to the letter, with a line feed or without one
abbrev pub is_separator : List ℕ → Bool
is_separator bytes = bytes_eq bytes (codes "---\n") || bytes_eq bytes (codes "---")

-- whether a line that is `---` begins there; its line feed may be missing at the end of the bytes
abbrev pub is_separator_at : List ℕ → ℕ → Bool
is_separator_at bytes place = begins_line bytes place && is_separator (take 4 (drop place bytes))

-- the first line that is `---` begins at the place
pub record IsSeparator (bytes : List ℕ) (place : ℕ) : Type 0 where
  pub inside : place < length bytes
  pub here : is_separator_at bytes place ≡ true
  pub first : (earlier : ℕ) → earlier < place → is_separator_at bytes earlier ≡ false

-- no line is `---`
abbrev pub HasNoSeparator : List ℕ → Type 0
HasNoSeparator bytes = (place : ℕ) → place < length bytes → is_separator_at bytes place ≡ false

-- the place of the first line that is `---`, if one is
abbrev pub IsSeparatorOf : List ℕ → Option ℕ → Type 0
IsSeparatorOf bytes separator = MatchOption separator (HasNoSeparator bytes) (IsSeparator bytes)

-- the script is what stands before the line, or all bytes where there is none
abbrev pub IsScriptPart : List ℕ → List ℕ → Type 0
IsScriptPart bytes text =
    (HasNoSeparator bytes × (text ≡ bytes)) ⊎ ((place : ℕ) × IsSeparator bytes place × (text ≡ take place bytes))

-- ---- limits

-- the script is not too long: all bytes are few enough, or those before the first line that is `---`
abbrev pub IsScriptFew : List ℕ → Type 0
IsScriptFew bytes = (length bytes ≤ script_limit) ⊎ ((place : ℕ) × (place ≤ script_limit) × IsSeparator bytes place)

-- or it is
abbrev pub IsScriptLong : List ℕ → Type 0
IsScriptLong bytes =
    (script_limit < length bytes) × ((place : ℕ) → place ≤ script_limit → is_separator_at bytes place ≡ false)

-- more bytes than are taken, in all or before the line
abbrev pub IsPastLimit : List ℕ → Type 0
IsPastLimit bytes = (input_limit < length bytes) ⊎ IsScriptLong bytes

-- no more bytes than are taken
pub record IsWithinLimits (bytes : List ℕ) : Type 0 where
  pub few : length bytes ≤ input_limit
  pub script_few : IsScriptFew bytes

-- no more bytes are read than are taken and one piece
abbrev pub most_checked : ℕ
most_checked = input_limit + piece_limit

-- bytes can follow with which these are no more than are taken
abbrev pub CanFit : List ℕ → Type 0
CanFit came = (more : List ℕ) × IsWithinLimits (came ++ more)

-- more is asked for only while what came can fit: all but the last piece can
pub record IsReadInTime (came : List ℕ) : Type 0 where
  pub front : List ℕ
  pub last : List ℕ
  pub parts : front ++ last ≡ came
  pub fits : CanFit front
  pub one_piece : length last ≤ piece_limit

-- all that a source gives is read
pub record IsReadToItsEnd (before : Stream) (bytes : List ℕ) (after : Stream) : Type 0 where
  pub gives : GivesBytes before bytes false after
  pub ended : HasEnded after

-- whatever follows the bytes is too long, or they are, and are all there is
abbrev pub IsTooLong : Stream → List ℕ → Stream → Type 0
IsTooLong before came after =
    ((more : List ℕ) → IsPastLimit (came ++ more)) ⊎ (IsPastLimit came × IsReadToItsEnd before came after)

-- reading stops at a fault, after the bytes that came
pub record StopsInput (stop : ReadFault) (before after : Stream) : Type 0 where
  pub came : List ℕ
  pub gives : GivesBytes before came (has_failed stop) after
  pub too_long : is_too_much stop ≡ true → IsTooLong before came after
  pub fits : has_failed stop ≡ true → CanFit came
  pub few : length came ≤ most_checked
  pub in_time : IsReadInTime came

-- what reading a script, the line and a transcript comes to
abbrev pub ReadsInput : Stream → Result Input ReadFault → Stream → Type 0
ReadsInput before (Ok input) after =
    IsReadToItsEnd before input.bytes.items after × IsWithinLimits input.bytes.items
    × IsSeparatorOf input.bytes.items input.separator
ReadsInput before (Err stop) after = StopsInput stop before after
