-- What a collection of retired tables does. (profile)
use Rattle.std.specs.Prelude.{◌≡◌, ◌⊎◌, ℕ, suc, ◌+◌, ◌≤◌, true, false, Option, Some, None, List, [], ◌∷◌, ◌++◌, length}
use Rattle.ft_trace.specs.declared.Act.{Act}
use Rattle.ft_trace.specs.declared.Act.TheVariants.{GiveTable, RaiseCount, ReadAnnounced, ReadHeader}
use Rattle.ft_trace.specs.declared.View.{View}
use Rattle.ft_trace.specs.Addresses.{IsTableName}
use Rattle.ft_trace.specs.Acts.{flight, goal, has_goal, owes, stage}
use Rattle.ft_bank.specs.Series.{noted_all}
use Rattle.ft_bank.specs.Takings.{KeepsBut}

-- ---- announced numbers

-- loads of the announced numbers of the passes from pass 0 on, the newest first
abbrev pub loads_of : List ℕ → List Act
loads_of [] = []
loads_of (n ∷ ns) = ReadAnnounced (length ns + 1) n ∷ loads_of ns

-- each of these numbers is 0, which is that of a pass that is offline, or not below the goal
abbrev pub AllPast : ℕ → List ℕ → Type 0
AllPast g [] = Unit {0}
AllPast g (n ∷ ns) = ((n ≡ 0) ⊎ (g ≤ n)) × AllPast g ns

-- the goal is at most the least number that a pass which is online announces, if one is
abbrev pub IsPast : Option ℕ → ℕ → Type 0
IsPast None g = Unit {0}
IsPast (Some least) g = g ≤ least

-- that is the least of these numbers which isn't 0
abbrev pub IsLeast : Option ℕ → List ℕ → Type 0
IsLeast least numbers = (g : ℕ) → (IsPast least g → AllPast g numbers) × (AllPast g numbers → IsPast least g)

-- ---- tables

-- how many tables were given back
abbrev pub given_next : Act → ℕ → ℕ
given_next (GiveTable t) n = suc n
given_next act n = n

abbrev pub given : List Act → ℕ
given [] = 0
given (a ∷ l) = given_next a (given l)

-- each of these is a load of a goal or a step of a giving
abbrev pub AreGivings : List Act → Type 0
AreGivings [] = Unit {0}
AreGivings (ReadHeader t g ∷ l) = AreGivings l
AreGivings (GiveTable t ∷ l) = AreGivings l
AreGivings (RaiseCount c n ∷ l) = AreGivings l
AreGivings (act ∷ l) = ⊥

-- a table is the pass's as it was, or was given back
abbrev pub StaysOrGoes : View → View → ℕ → Type 0
StaysOrGoes v w t = (stage t w.log ≡ stage t v.log) ⊎ (stage t w.log ≡ 0)

-- A collection loads the number of each pass once, this pass's own too. Then it gives back just those of the tables
-- that the pass kept retired whose goal all these numbers are past; the others it keeps, with their goals. It leaves
-- all else as it was.
pub record Collected (v w : View) (freed : ℕ) : Type 0 where
  pub numbers : List ℕ
  pub each : length numbers ≡ v.shape.passes
  pub acts : List Act
  pub did : w ≡ noted_all (acts ++ loads_of numbers) v
  pub count : given acts ≡ freed
  pub givings : AreGivings acts
  pub free : (t : ℕ) → IsTableName v.shape t → has_goal t v.log ≡ true → AllPast (goal t v.log) numbers
      → stage t w.log ≡ 0
  pub kept : (t : ℕ) → IsTableName v.shape t → has_goal t v.log ≡ true → (AllPast (goal t v.log) numbers → ⊥)
      → (has_goal t w.log ≡ true) × (goal t w.log ≡ goal t v.log)
  pub idle : flight w.log ≡ 0
  pub owes : owes v.log ≡ 0 → owes w.log ≡ 0
  pub keeps : KeepsBut (λ t. has_goal t v.log ≡ false) v w
