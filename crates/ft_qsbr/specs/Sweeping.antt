-- How far a collection has come: it goes through the bits of retired tables in their order.
use Rattle.std.specs.Prelude.{◌≡◌, ◌⊎◌, ℕ, ◌+◌, ◌*◌, ◌<◌, ◌≤◌, true, false, Option, List}
use Rattle.ft_trace.specs.declared.Act.{Act}
use Rattle.ft_trace.specs.declared.View.{View}
use Rattle.ft_trace.specs.Addresses.{IsTableName, free_word_of, free_bit_of}
use Rattle.ft_trace.specs.Acts.{clear, flight, goal, has_goal, owes, stage}
use Rattle.ft_bank.specs.declared.pass.Pass.{Pass}
use Rattle.ft_bank.specs.Series.{DidAll}
use Rattle.ft_bank.specs.Takings.{KeepsBut}
use Rattle.ft_qsbr.specs.Collecting.{given, AreGivings, IsPast}

-- where the bit of a table is among the bits of all
abbrev pub bit_index : ℕ → ℕ
bit_index t = 64 * free_word_of t + free_bit_of t

-- the pass has found each pass past the goal of each table that it keeps retired where this least number is
abbrev pub HasSeen : Option ℕ → View → Type 0
HasSeen least v =
    (t p : ℕ) → IsTableName v.shape t → has_goal t v.log ≡ true → IsPast least (goal t v.log)
    → 0 < p → p ≤ v.shape.passes
    → clear t p v.log ≡ true

-- Of the tables whose bits lie in this range, those whose goal this least number is past were given back, and the
-- others are kept; all else is as it was.
pub record Swept (least : Option ℕ) (from to : ℕ) (v w : View) : Type 0 where
  pub freed : (t : ℕ) → IsTableName v.shape t → from ≤ bit_index t → bit_index t < to → has_goal t v.log ≡ true
      → IsPast least (goal t v.log) → (stage t w.log ≡ 0) × (has_goal t w.log ≡ false)
  pub kept : (t : ℕ) → IsTableName v.shape t → from ≤ bit_index t → bit_index t < to → has_goal t v.log ≡ true
      → (IsPast least (goal t v.log) → ⊥) → has_goal t w.log ≡ true
  pub apart : (t : ℕ) → IsTableName v.shape t → (bit_index t < from) ⊎ (to ≤ bit_index t)
      → has_goal t w.log ≡ has_goal t v.log
  pub none : (t : ℕ) → has_goal t v.log ≡ false → has_goal t w.log ≡ false
  pub goals : (t : ℕ) → goal t w.log ≡ goal t v.log
  pub clears : (t p : ℕ) → clear t p w.log ≡ clear t p v.log
  pub idle : flight v.log ≡ 0 → flight w.log ≡ 0
  pub owes : owes v.log ≡ 0 → owes w.log ≡ 0
  pub keeps : KeepsBut (λ t. has_goal t v.log ≡ false) v w

-- the pass has loaded goals and given back this many tables, and done nothing else
abbrev pub Gave : ℕ → Pass → Pass → Type 0
Gave count p q = (acts : List Act) × DidAll acts p q × (given acts ≡ count) × AreGivings acts
