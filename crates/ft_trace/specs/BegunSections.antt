-- The sections that a pass has begun and not ended, by what it did, and whether it has had their locks all the while.
use Rattle.std.specs.Prelude.{◌≡◌, ℕ, ◌==◌, ◌&&◌, Bool, true, false, cond, List, [], ◌∷◌, map}
use Rattle.ft_model.specs.declared.call.Call.{Call}
use Rattle.ft_model.specs.Calls.{containers_of}
use Rattle.ft_model.specs.Histories.{names, open_sections_after}
use Rattle.ft_trace.specs.declared.Act.{Act}
use Rattle.ft_trace.specs.declared.Act.TheVariants.{Unlock, ReadCounter, Answer}
use Rattle.ft_trace.specs.Acts.{has_lock}

-- A section that was begun: its containers as its `begin` names them, the stamp of the `begin`, and whether the pass
-- has had their locks at each moment since the load of the counter that gave the stamp. (C API, critical sections)
pub record Begun : Type 0 where
  pub containers : List ℕ
  pub stamp : ℕ
  pub held : Bool

-- the pass has had the lock of o at each moment since it last found this number in the counter
abbrev pub since_load_next : ℕ → ℕ → Act → Bool → Bool → Bool
since_load_next o n (ReadCounter f) has b = cond (f == n) has b
since_load_next o n (Unlock p) has b = cond (p == o) false b
since_load_next o n act has b = b

abbrev pub since_load : ℕ → ℕ → List Act → Bool
since_load o n [] = false
since_load o n (a ∷ l) = since_load_next o n a (has_lock o l) (since_load o n l)

-- the same of each of these containers
abbrev pub all_since_load : List ℕ → ℕ → List Act → Bool
all_since_load [] n l = true
all_since_load (o ∷ os) n l = since_load o n l && all_since_load os n l

-- what an entry makes of the sections, innermost first
abbrev pub begun_by : Call → ℕ → List Act → List Begun → List Begun
begun_by called n l sections =
    open_sections_after
    (record { containers = containers_of called; stamp = n; held = all_since_load (containers_of called) n l })
    called sections

abbrev pub is_among : ℕ → List ℕ → Bool
is_among o [] = false
is_among o (p ∷ ps) = cond (p == o) true (is_among o ps)

-- a section when the lock of o was let go
abbrev pub without : ℕ → Begun → Begun
without o s = record s { held = cond (is_among o s.containers) false s.held }

abbrev pub begun_next : Act → List Act → List Begun → List Begun
begun_next (Answer c r n) l sections = begun_by c n l sections
begun_next (Unlock o) l sections = map (without o) sections
begun_next act l sections = sections

-- the sections that were begun and not ended, innermost first
abbrev pub begun : List Act → List Begun
begun [] = []
begun (a ∷ l) = begun_next a l (begun l)

-- the pass has had the locks of the innermost section that it has begun and not ended, since its `begin`
abbrev pub IsInnermostHeld : List Begun → Type 0
IsInnermostHeld sections =
    (innermost : Begun) (outer : List Begun) → sections ≡ innermost ∷ outer → innermost.held ≡ true

-- the pass has the lock of each container that the call names (PEP 703, Container Thread-Safety)
abbrev pub HasLocksOf : Call → List Act → Type 0
HasLocksOf called log = (o : ℕ) → names o called ≡ true → has_lock o log ≡ true
