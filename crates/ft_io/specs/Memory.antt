-- What callers see of a source and a sink over memory.
use Rattle.std.specs.Prelude.{ℕ, ◌-◌, List, length}

-- the bytes that are left, how many one call may give, which calls fail, by their numbers from 1,
-- how many calls there were, and how many of them failed
pub record SourceState : Type 0 where
  pub left : List ℕ
  pub most : ℕ
  pub fails : List ℕ
  pub calls : ℕ
  pub faults : ℕ

-- the bytes that were put, how many there is room for in all, how many one call may take, which
-- calls fail, by their numbers from 1, how many calls there were, and how many of them failed
pub record SinkState : Type 0 where
  pub taken : List ℕ
  pub room : ℕ
  pub most : ℕ
  pub fails : List ℕ
  pub calls : ℕ
  pub faults : ℕ

-- how many more bytes there is room for
abbrev pub free_room : SinkState → ℕ
free_room sink = sink.room - length sink.taken
