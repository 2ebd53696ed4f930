-- What a pass with the floor is answered: no other pass takes a step while it has it, so it knows every word, and each
-- answer is a function of the words known. (profile)
use Rattle.std.specs.Prelude.{◌≡◌, ℕ, zero, suc, ◌<◌, true, Option, Some, None, Result, Ok, Err, false, if◌then◌else◌, slice_index}
use Rattle.ft_section.specs.declared.answers.Began.{Began}
use Rattle.ft_section.specs.declared.answers.Began.TheVariants as began
use Rattle.ft_section.specs.declared.answers.Got.{Got}
use Rattle.ft_section.specs.declared.answers.Got.TheVariants as got
use Rattle.ft_section.specs.declared.answers.Objects.{Objects}
use Rattle.ft_section.specs.declared.answers.Resumed.{Resumed}
use Rattle.ft_section.specs.declared.answers.Resumed.TheVariants as resumed
use Rattle.ft_section.specs.LockTakings.{lower_of, upper_of}
use Rattle.ft_trace.specs.declared.View.{View}
use Rattle.ft_trace.specs.Acts.{has_lock, floor_words}
use Rattle.ft_trace.specs.Addresses.{Word, counter, lock_of, at, container_count}

-- a word of the bank, as a pass with the floor knows it
abbrev pub floor_word : Word → View → ℕ
floor_word x v = slice_index (floor_words v.shape v.number v.log) (at v.shape x)

-- the pass that a lock word names
abbrev pub owner_named : ℕ → Option ℕ
owner_named zero = None
owner_named (suc q) = Some q

-- the other pass that has the lock of o, where one has
abbrev pub owner_of : ℕ → View → Option ℕ
owner_of o v = if has_lock o v.log then None else owner_named (floor_word (lock_of o) v)

-- the container with its owner, and else what the rest says
abbrev pub owner_or : ℕ → Option ℕ → Option (ℕ × ℕ) → Option (ℕ × ℕ)
owner_or o (Some q) rest = Some (o, q)
owner_or o None rest = rest

-- the first of two containers whose lock another pass has, the lower one first, with that pass
abbrev pub first_owned : ℕ → ℕ → View → Option (ℕ × ℕ)
first_owned lower upper v = owner_or lower (owner_of lower v) (owner_or upper (owner_of upper v) None)

-- what is answered by whoever needs locks, where this is the first of them that another pass has
abbrev pub got_by : Option (ℕ × ℕ) → Got
got_by None = got.Have
got_by (Some found) = got.NotYet found.0 found.1

-- whoever needs the locks of these containers and has the floor is answered what the lock words known say
abbrev pub KnewOwners : Objects → View → Got → Type 0
KnewOwners objects v answer =
    v.has_floor ≡ true → answer ≡ got_by (first_owned (lower_of objects) (upper_of objects) v)

-- at the number that the counter has
abbrev pub began_by : ℕ → Option (ℕ × ℕ) → Began
began_by n None = began.Entered (record { number = n; wrote = false })
began_by n (Some found) = began.NotYet found.0 found.1

-- with the mark of the call
abbrev pub resumed_by : Option ℕ → Option (ℕ × ℕ) → Resumed
resumed_by mark None = resumed.Back mark
resumed_by mark (Some found) = resumed.NotYet found.0 found.1

-- what a try for a lock found, and one for two locks
abbrev pub owner_found : {A : Type 0} → Result A ℕ → Option ℕ
owner_found (Ok a) = None
owner_found (Err q) = Some q

abbrev pub first_found : Result (Unit {0}) (ℕ × ℕ) → Option (ℕ × ℕ)
first_found (Ok a) = None
first_found (Err found) = Some found

-- the pass has the floor still, finds the same owners of locks, and the same counter
abbrev pub FindsSame : View → View → Type 0
FindsSame v w =
    v.has_floor ≡ true
    → (w.has_floor ≡ true)
    × ((o : ℕ) → o < container_count v.shape → owner_of o w ≡ owner_of o v)
    × (floor_word counter w ≡ floor_word counter v)
