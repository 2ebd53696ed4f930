-- Facts about one answer of a call.
use Rattle.std.specs.Prelude.{ℕ, Option}
use Rattle.ft_section.specs.declared.answers.Began.{Began}
use Rattle.ft_section.specs.declared.answers.Began.TheVariants as began
use Rattle.ft_section.specs.declared.answers.Ended.{Ended}
use Rattle.ft_section.specs.declared.answers.Ended.TheVariants as ended
use Rattle.ft_section.specs.declared.answers.Got.{Got}
use Rattle.ft_section.specs.declared.answers.Got.TheVariants as got
use Rattle.ft_section.specs.declared.answers.Resumed.{Resumed}
use Rattle.ft_section.specs.declared.answers.Resumed.TheVariants as resumed
use Rattle.ft_section.specs.declared.answers.Stamp.{Stamp}

abbrev pub IfHave : Got → Type 0 → Type 0
IfHave got.Have P = P
IfHave (got.NotYet o q) P = Unit {0}

abbrev pub IfNotYet : Got → (ℕ → ℕ → Type 0) → Type 0
IfNotYet got.Have P = Unit {0}
IfNotYet (got.NotYet o q) P = P o q

abbrev pub IfEntered : Began → (Stamp → Type 0) → Type 0
IfEntered (began.Entered s) P = P s
IfEntered (began.NotYet o q) P = Unit {0}

-- a `begin` has to wait
abbrev pub IfBeginWaits : Began → (ℕ → ℕ → Type 0) → Type 0
IfBeginWaits (began.Entered s) P = Unit {0}
IfBeginWaits (began.NotYet o q) P = P o q

abbrev pub IfBack : Resumed → (Option ℕ → Type 0) → Type 0
IfBack (resumed.Back mark) P = P mark
IfBack (resumed.NotYet o q) P = Unit {0}

-- the innermost section has to wait for its locks
abbrev pub IfStillWaits : Resumed → (ℕ → ℕ → Type 0) → Type 0
IfStillWaits (resumed.Back mark) P = Unit {0}
IfStillWaits (resumed.NotYet o q) P = P o q

-- the stamp of an `end`
abbrev pub stamp_of : Ended → Stamp
stamp_of (ended.Kept s) = s
stamp_of (ended.Suspended k s) = s

-- how many calls in the section had to wait, by what its `end` answered
abbrev pub marks_in : Ended → ℕ
marks_in (ended.Kept s) = 0
marks_in (ended.Suspended k s) = k
