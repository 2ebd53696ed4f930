-- Which locks a pass has had, and with which passes it has found locks.
use Rattle.std.specs.Prelude.{◌≡◌, ◌⊎◌, ℕ, ◌==◌, Bool, true, false, cond, List, [], ◌∷◌, ◌++◌}
use Rattle.ft_trace.specs.declared.Act.{Act}
use Rattle.ft_trace.specs.declared.Act.TheVariants.{Lock, TookOver}
use Rattle.ft_trace.specs.declared.Owner.{Owner}
use Rattle.ft_trace.specs.declared.View.{View}

-- the pass with this number is among these with the lock of o
abbrev pub is_owner_in : ℕ → ℕ → List Owner → Bool
is_owner_in o q [] = false
is_owner_in o q (one ∷ more) =
    cond (one.container == o) (cond (one.pass == q) true (is_owner_in o q more)) (is_owner_in o q more)

-- each of the first ones is among the others
abbrev pub AreOwners : List Owner → List Owner → Type 0
AreOwners owners others = (o q : ℕ) → is_owner_in o q owners ≡ true → is_owner_in o q others ≡ true

-- the locks that the pass with this number has taken, and those that passes which it took in had
abbrev pub had_locks_next : ℕ → Act → List Owner → List Owner
had_locks_next number (Lock o f s) owners =
    cond (f == 0) (record { container = o; pass = number } ∷ owners) owners
had_locks_next number (TookOver tables had found told) owners = had ++ owners
had_locks_next number act owners = owners

abbrev pub had_locks : ℕ → List Act → List Owner
had_locks number [] = []
had_locks number (a ∷ l) = had_locks_next number a (had_locks number l)

-- the passes that the pass has found with locks that it asked for, and those that passes which it took in had found
abbrev pub found_owners_next : Act → List Owner → List Owner
found_owners_next (Lock o f s) owners = cond (f == 0) owners (record { container = o; pass = f } ∷ owners)
found_owners_next (TookOver tables had found told) owners = found ++ owners
found_owners_next act owners = owners

abbrev pub found_owners : List Act → List Owner
found_owners [] = []
found_owners (a ∷ l) = found_owners_next a (found_owners l)

-- what a pass has had and whom it has found stays
pub record SameOwners (v w : View) : Type 0 where
  pub had : had_locks w.number w.log ≡ had_locks v.number v.log
  pub found : found_owners w.log ≡ found_owners v.log

-- the locks that it has had since then are of such containers, and it took them itself
abbrev pub LocksOnly : (ℕ → Type 0) → View → View → Type 0
LocksOnly P v w =
    (o q : ℕ) → is_owner_in o q (had_locks w.number w.log) ≡ true
    → (is_owner_in o q (had_locks v.number v.log) ≡ true) ⊎ ((q ≡ w.number) × P o)

-- whom it has found it has found for good
abbrev pub FindsMore : View → View → Type 0
FindsMore v w = AreOwners (found_owners v.log) (found_owners w.log)
