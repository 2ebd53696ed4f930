-- Containers of a call or a section, and which of their locks were taken.
use Rattle.std.specs.Prelude.{◌≡◌, ◌≤◌, ◌<◌, ◌⊎◌, ℕ, nat_lt, false, true, if◌then◌else◌}
use Rattle.ft_bank.specs.declared.sections.Taking.{Taking}
use Rattle.ft_bank.specs.PassSections.{nothing_taken}
use Rattle.ft_section.specs.declared.answers.Objects.{Objects}
use Rattle.ft_section.specs.declared.answers.Objects.TheVariants.{One, Two}
use Rattle.ft_trace.specs.declared.Shape.{Shape}
use Rattle.ft_trace.specs.declared.View.{View}
use Rattle.ft_trace.specs.Addresses.{container_count}
use Rattle.ft_trace.specs.Acts.{has_lock}

-- the container with the lower number
abbrev pub lower_of : Objects → ℕ
lower_of (One o) = o
lower_of (Two a b) = if nat_lt b a then b else a

-- the other one, or the same where there is one alone
abbrev pub upper_of : Objects → ℕ
upper_of (One o) = o
upper_of (Two a b) = if nat_lt b a then a else b

-- the container is one of these
abbrev pub IsOf : ℕ → Objects → Type 0
IsOf o objects = (o ≡ lower_of objects) ⊎ (o ≡ upper_of objects)

-- the bank has these containers
abbrev pub AreIn : Shape → Objects → Type 0
AreIn k objects = (lower_of objects < container_count k) × (upper_of objects < container_count k)

-- Of the locks of these containers, the lower one first, the call in flight has at most taken the lower one itself.
-- (profile)
abbrev pub IsOwnFor : ℕ → ℕ → Taking → Type 0
IsOwnFor lower upper own =
    (own ≡ nothing_taken) ⊎ ((own.lower ≡ lower) × (own.upper ≡ upper) × (own.took_upper ≡ false))

-- the lower number comes first, the bank has both, and where there is one alone its lock is noted once
pub record IsLockTaking (k : Shape) (t : Taking) : Type 0 where
  pub order : t.lower ≤ t.upper
  pub low : t.upper < container_count k
  pub once : t.lower ≡ t.upper → t.took_upper ≡ false

-- the pass has the locks of these containers
abbrev pub HasLocks : View → Objects → Type 0
HasLocks v objects = (has_lock (lower_of objects) v.log ≡ true) × (has_lock (upper_of objects) v.log ≡ true)

-- the pass has the locks of both containers
abbrev pub HasBoth : View → Taking → Type 0
HasBoth v t = (has_lock t.lower v.log ≡ true) × (has_lock t.upper v.log ≡ true)
