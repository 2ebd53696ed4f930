-- What streams give and get.
use Rattle.std.specs.Prelude.{◌≡◌, ℕ, Bool, true, false, nat_lt, if◌then◌else◌, ◌⊎◌, ◌≤◌, ◌+◌, List, [], ◌++◌, length, IfSome, Result, Ok, Err, Vec}
use Rattle.std.specs.declared.alloc.Global.{Global}
use Rattle.ft_io.specs.declared.source.Failed.{Failed}
use Rattle.ft_io.specs.Streams.{raised, prepended, added, Stream}
use Rattle.ft_runner.specs.declared.reading.ReadFault.{ReadFault}
use Rattle.ft_runner.specs.declared.reading.ReadFault.TheVariants as read
use Rattle.ft_runner.specs.declared.writing.WriteFault.{WriteFault}
use Rattle.ft_runner.specs.declared.writing.WriteFault.TheVariants as write

-- ---- streams

-- these bytes came from a source, whose last call failed or not
pub record GivesBytes (before : Stream) (came : List ℕ) (failed : Bool) (after : Stream) : Type 0 where
  pub content : before.content ≡ prepended came after.content
  pub faults : after.faults ≡ (if failed then raised before.faults else before.faults)

-- these bytes went into a sink, whose last call failed or not
pub record Receives (before : Stream) (put : List ℕ) (failed : Bool) (after : Stream) : Type 0 where
  pub content : after.content ≡ added before.content put
  pub faults : after.faults ≡ (if failed then raised before.faults else before.faults)

-- nothing is left in a source, where it tells that
abbrev pub HasEnded : Stream → Type 0
HasEnded source = IfSome source.content (λ rest. rest ≡ [])

-- the first bytes of a text
abbrev pub IsPrefix : List ℕ → List ℕ → Type 0
IsPrefix prefix text = (rest : List ℕ) × (prefix ++ rest ≡ text)

-- ---- limits

-- the most bytes that a script may have
abbrev pub script_limit : ℕ
script_limit = 4194304

-- the most bytes that a script and a transcript may have together
abbrev pub input_limit : ℕ
input_limit = 67108864

-- the most bytes that one call of a source is asked for
abbrev pub piece_limit : ℕ
piece_limit = 65536

-- ---- reading

-- reading stopped as the source failed
abbrev pub has_failed : ReadFault → Bool
has_failed read.Failed = true
has_failed read.Memory = false
has_failed read.TooLong = false

-- reading stopped as too much came
abbrev pub is_too_much : ReadFault → Bool
is_too_much read.Failed = false
is_too_much read.Memory = false
is_too_much read.TooLong = true

-- a source is read to its end, and gives no more than a script may have
pub record IsWholeInput (before : Stream) (bytes : List ℕ) (after : Stream) : Type 0 where
  pub gives : GivesBytes before bytes false after
  pub few : length bytes ≤ script_limit
  pub ended : HasEnded after

-- no more bytes are read than a script may have and one piece
abbrev pub most_read : ℕ
most_read = script_limit + piece_limit

-- reading stops at a fault, after the bytes that came
pub record StopsReading (stop : ReadFault) (before after : Stream) : Type 0 where
  pub came : List ℕ
  pub gives : GivesBytes before came (has_failed stop) after
  pub too_long : is_too_much stop ≡ nat_lt script_limit (length came)
  pub few : length came ≤ most_read

-- what reading a script comes to
abbrev pub ReadsAll : Stream → Result (Vec ℕ Global) ReadFault → Stream → Type 0
ReadsAll before (Ok bytes) after = IsWholeInput before bytes.items after
ReadsAll before (Err stop) after = StopsReading stop before after

-- ---- writing

-- a prefix of a text goes into a sink, which fails or not
pub record PutsPrefix (before : Stream) (text : List ℕ) (failed : Bool) (after : Stream) : Type 0 where
  pub prefix : List ℕ
  pub is_prefix : IsPrefix prefix text
  pub receives : Receives before prefix failed after

-- a text is put: whole, or a prefix where the sink fails
abbrev pub PutsText : Stream → List ℕ → Result (Unit {0}) Failed → Stream → Type 0
PutsText before text (Ok u) after = Receives before text false after
PutsText before text (Err e) after = PutsPrefix before text true after

-- what was put, and then what the buffer has, are the text so far
pub record IsBuffered (before now : Stream) (buffer text : List ℕ) : Type 0 where
  pub put : List ℕ
  pub receives : Receives before put false now
  pub text_is : put ++ buffer ≡ text

-- out of memory stops writing after a part of the text
abbrev pub Writes : Stream → List ℕ → Result (Unit {0}) WriteFault → Stream → Type 0
Writes before text (Ok u) after = Receives before text false after
Writes before text (Err write.Failed) after = PutsPrefix before text true after
Writes before text (Err write.Memory) after = PutsPrefix before text false after

-- a sink gets a text: whole, or a prefix where the sink failed
abbrev pub Reported : Stream → List ℕ → Stream → Type 0
Reported before text after = Receives before text false after ⊎ PutsPrefix before text true after
