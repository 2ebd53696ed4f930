-- Calls that show facts of words, one after the other.
use Rattle.std.proofs.Common.{◌≡◌, ℕ, zero, suc, ◌+◌, List, [], ◌∷◌, ◌++◌, refl, ap, ◌∙◌, subst, arith}
use Rattle.ft_keys.specs.declared.words.Access.{Access}
use Rattle.ft_keys.specs.declared.words.Access.TheVariants.{Index, Entry, PutIndex, PutEntry, OldEntry}
use Rattle.ft_keys.specs.Accesses.{put_by, after, Tells, AreAnswered, Runs, IsLoad, AreLoads, index_loads, Follows}
use Rattle.ft_keys.specs.Searches.{Shows}

load-puts-nothing : (mask : ℕ) (access : Access) (words : List ℕ) → IsLoad access → put_by mask access words ≡ words
load-puts-nothing mask (PutIndex slot value) words bad = absurd bad
load-puts-nothing mask (PutEntry place word value) words bad = absurd bad
load-puts-nothing mask (Index slot value) words _ = refl
load-puts-nothing mask (Entry place word value) words _ = refl
load-puts-nothing mask (OldEntry place word value) words _ = refl

-- loads leave the words as they were
pub loads-leave : (mask : ℕ) (calls : List Access) (words : List ℕ) → AreLoads calls → after mask calls words ≡ words
loads-leave mask [] words loads = refl
loads-leave mask (access ∷ earlier) words loads = load-puts-nothing mask access (after mask earlier words) loads.0 ∙ loads-leave mask earlier words loads.1

pub runs-append : {S : Type 0} (gave : S → Access → S → Type 0) (first middle last : S) (earlier later : List Access) → Runs gave first earlier middle → Runs gave middle later last → Runs gave first (later ++ earlier) last
runs-append {S} gave first middle last earlier [] run more = subst (λ (s : S). Runs gave first earlier s) more run
runs-append {S} gave first middle last earlier (access ∷ later) run more = (more.0, runs-append gave first middle more.0 earlier later run more.1, more.2)

pub after-append : (mask : ℕ) (earlier later : List Access) (words : List ℕ) → after mask (later ++ earlier) words ≡ after mask later (after mask earlier words)
after-append mask earlier [] words = refl
after-append mask earlier (access ∷ later) words = ap (put_by mask access) (after-append mask earlier later words)

pub fits-append : (mask : ℕ) (earlier later : List Access) (words : List ℕ) → AreAnswered mask (later ++ earlier) words → AreAnswered mask earlier words × AreAnswered mask later (after mask earlier words)
fits-append mask earlier [] words fits = (fits, tt)
fits-append mask earlier (access ∷ later) words fits =
    let both = fits-append mask earlier later words fits.0 in
    (both.0, (both.1, subst (Tells mask access) (after-append mask earlier later words) fits.1))

pub loads-append : (earlier later : List Access) → AreLoads earlier → AreLoads later → AreLoads (later ++ earlier)
loads-append earlier [] loads more = loads
loads-append earlier (access ∷ later) loads more = (more.0, loads-append earlier later loads more.1)

pub index-loads-append : (earlier later : List Access) → index_loads (later ++ earlier) ≡ index_loads earlier + index_loads later
index-loads-append earlier [] = omega arith
index-loads-append earlier (Index slot value ∷ later) = let more = index-loads-append earlier later in omega arith
index-loads-append earlier (Entry place word value ∷ later) = index-loads-append earlier later
index-loads-append earlier (PutIndex slot value ∷ later) = index-loads-append earlier later
index-loads-append earlier (PutEntry place word value ∷ later) = index-loads-append earlier later
index-loads-append earlier (OldEntry place word value ∷ later) = index-loads-append earlier later

pub follows-append : (first middle left : List ℕ) (earlier later : List Access) → Follows first earlier middle → Follows middle later left → Follows first (later ++ earlier) left
follows-append first middle left earlier [] follow more = subst (Follows first earlier) more follow
follows-append first middle left earlier (Index slot zero ∷ later) follow more = (more.0, follows-append first middle left earlier later follow more.1, more.2)
follows-append first middle left earlier (Index slot (suc value) ∷ later) follow more = follows-append first middle (slot ∷ left) earlier later follow more
follows-append first middle left earlier (Entry place word value ∷ later) follow more = follows-append first middle left earlier later follow more
follows-append first middle left earlier (PutIndex slot value ∷ later) follow more = follows-append first middle left earlier later follow more
follows-append first middle left earlier (PutEntry place word value ∷ later) follow more = follows-append first middle left earlier later follow more
follows-append first middle left earlier (OldEntry place word value ∷ later) follow more = follows-append first middle left earlier later follow more

module _ {S : Type 0} (gave : S → Access → S → Type 0) (mask : ℕ) where
  -- no call shows what every list has
  pub shows-none : (left : List ℕ) (state : S) (steps : ℕ) (P : List ℕ → Type 0) → ((words : List ℕ) → P words) → Shows gave mask left left state state steps steps P
  shows-none left state steps P given = record { calls = []; runs = refl; loads = tt; follows = refl; steps = omega arith; shown = λ words _. given words }

  -- what follows is shown too
  pub shows-more : (first left : List ℕ) (start end : S) (before after : ℕ) (P Q : List ℕ → Type 0) → ((words : List ℕ) → P words → Q words) → Shows gave mask first left start end before after P → Shows gave mask first left start end before after Q
  shows-more first left start end before after P Q implies shows =
      record { calls = shows.calls; runs = shows.runs; loads = shows.loads; follows = shows.follows; steps = shows.steps; shown = λ words fits. implies words (shows.shown words fits) }

  -- calls after calls show both facts
  pub shows-both : (first middle left : List ℕ) (start between end : S) (a b c : ℕ) (P Q : List ℕ → Type 0) → Shows gave mask first middle start between a b P → Shows gave mask middle left between end b c Q → Shows gave mask first left start end a c (λ words. P words × Q words)
  shows-both first middle left start between end a b c P Q one two = record {
    calls = two.calls ++ one.calls;
    runs = runs-append gave start between end one.calls two.calls one.runs two.runs;
    loads = loads-append one.calls two.calls one.loads two.loads;
    follows = follows-append first middle left one.calls two.calls one.follows two.follows;
    steps = let sum = index-loads-append one.calls two.calls in let x = one.steps in let y = two.steps in omega arith;
    shown = λ words fits.
        let both = fits-append mask one.calls two.calls words fits in
        (one.shown words both.0, two.shown words (subst (AreAnswered mask two.calls) (loads-leave mask one.calls words one.loads) both.1));
  }
