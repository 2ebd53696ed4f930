-- Which thread has a lock, as the pass that has the floor knows it.
use Rattle.std.specs.Prelude.{ℕ, Option}
use Rattle.ft_trace.specs.declared.View.{View}
use Rattle.ft_trace.specs.Addresses.{lock_of}
use Rattle.ft_section.specs.Floors.{floor_word, owner_named}

-- a lock word names the pass that has the lock, and that is the thread with the number before
abbrev pub owners_in : View → ℕ → Option ℕ
owners_in v o = owner_named (floor_word (lock_of o) v)
