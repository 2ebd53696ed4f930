-- What callers see of a source over a reader and of a sink over a writer.
use Rattle.std.specs.Prelude.{ℕ, List, take, Option}
use Rattle.std.specs.Io.KnownBytes.{Appends}

-- the bytes that the reader has left, where its type says, and how many calls failed
pub record ReaderState : Type 0 where
  pub known : Option (List ℕ)
  pub faults : ℕ

-- the bytes that the writer holds, where its type says, and how many calls failed
pub record WriterState : Type 0 where
  pub known : Option (List ℕ)
  pub faults : ℕ

-- known bytes grow by some of the front of a piece, or by none
abbrev pub AppendsSome : Option (List ℕ) → Option (List ℕ) → List ℕ → Type 0
AppendsSome old new piece = (count : ℕ) × Appends old new (take count piece)
