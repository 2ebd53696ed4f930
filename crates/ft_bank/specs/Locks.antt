-- What a try for a lock found, and what a step leaves of what a pass knows.
use Rattle.std.specs.Prelude.{◌≡◌, ◌≢◌, ℕ, ◌+◌, ◌<◌, true, Result, Ok, Err}
use Rattle.ft_trace.specs.declared.View.{View}
use Rattle.ft_trace.specs.Addresses.{container_count}
use Rattle.ft_trace.specs.Acts.{has_lock}
use Rattle.ft_trace.specs.Holds.{held_words, held_unboxed, known_state}

-- the lock word that a try found: 0 where it took the lock, and else that of the pass that has it
abbrev pub lock_found : Result (Unit {0}) ℕ → ℕ
lock_found (Ok _) = 0
lock_found (Err other) = other + 1

-- the pass knows the same of the container: its words, what they stand for, and what they read through boxes
abbrev pub KnowsSame : ℕ → View → View → Type 0
KnowsSame p v w =
    (held_words p w ≡ held_words p v) × (known_state p w ≡ known_state p v) × (held_unboxed p w ≡ held_unboxed p v)

-- the pass knows the same as before of each other container whose lock it has
abbrev pub KeepsOthers : ℕ → View → View → Type 0
KeepsOthers o v w =
    (p : ℕ) → p < container_count v.shape → p ≢ o → has_lock p v.log ≡ true
    → KnowsSame p v w
