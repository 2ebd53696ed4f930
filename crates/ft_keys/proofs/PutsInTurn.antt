-- Calls that put words, one after the other.
use Rattle.std.proofs.Common.{◌≡◌, ◌+◌, List, [], ◌∷◌, ◌++◌, arith}
use Rattle.ft_keys.specs.declared.words.Access.{Access}
use Rattle.ft_keys.specs.declared.words.Access.TheVariants.{Index, Entry, PutIndex, PutEntry, OldEntry}
use Rattle.ft_keys.specs.Accesses.{Runs, Allows}
use Rattle.ft_keys.specs.TableChanges.{other_calls}
use Rattle.ft_keys.proofs.Shown.{runs-append}

pub other-calls-append : (earlier later : List Access) → other_calls (later ++ earlier) ≡ other_calls earlier + other_calls later
other-calls-append earlier [] = omega arith
other-calls-append earlier (Index slot value ∷ later) = other-calls-append earlier later
other-calls-append earlier (Entry place word value ∷ later) = let more = other-calls-append earlier later in omega arith
other-calls-append earlier (PutIndex slot value ∷ later) = let more = other-calls-append earlier later in omega arith
other-calls-append earlier (PutEntry place word value ∷ later) = let more = other-calls-append earlier later in omega arith
other-calls-append earlier (OldEntry place word value ∷ later) = let more = other-calls-append earlier later in omega arith

-- ---- puts that may be made

module _ {S : Type 0} (gave : S → Access → S → Type 0) (may : S → Access → Type 0) where
  pub allows-earlier : (start : S) (earlier later : List Access) → Allows gave may start (later ++ earlier) → Allows gave may start earlier
  allows-earlier start earlier [] all = all
  allows-earlier start earlier (put ∷ later) all = allows-earlier start earlier later all.0

  pub allows-later : (start between : S) (earlier later : List Access) → Allows gave may start (later ++ earlier) → Runs gave start earlier between → Allows gave may between later
  allows-later start between earlier [] all runs = tt
  allows-later start between earlier (put ∷ later) all runs =
      (allows-later start between earlier later all.0 runs, λ next more. all.1 next (runs-append gave start between next earlier later runs more))

  -- where every call may be made, so may all
  pub allows-any : ((state : S) (access : Access) → may state access) → (start : S) (puts : List Access) → Allows gave may start puts
  allows-any any start [] = tt
  allows-any any start (put ∷ earlier) = (allows-any any start earlier, λ between runs. any between put)
