-- Which tables a pass keeps retired: a bit for each, in words like the bank's free words. (profile)
use Rattle.std.specs.Prelude.{◌≡◌, ℕ, ◌+◌, ◌*◌, ◌/◌, ◌%◌, ◌<◌, Bool, true, List, length, slice_index}
use Rattle.ft_trace.specs.declared.Act.{Act}
use Rattle.ft_trace.specs.declared.Snap.{Snap}
use Rattle.ft_trace.specs.declared.View.{View}
use Rattle.ft_trace.specs.Addresses.{IsTableName, free_word_of, free_bit_of}
use Rattle.ft_trace.specs.Acts.{goal, has_goal, has_goal_next}
use Rattle.ft_trace.specs.Bits.{bit}
use Rattle.ft_bank.specs.declared.table.Table.{Table}
use Rattle.ft_bank.specs.TableNames.{table_id, IsTableIn}

-- the table of a bit of the free words
abbrev pub table_of_bit : ℕ → ℕ → Table
table_of_bit word b = record { class = 3 + word / 16; number = 64 * (word % 16) + b }

-- Each bit that is set is that of a table of the bank which the pass has retired and whose goal stands in its header,
-- and each such table has its bit set.
pub record AreRetired (words : List ℕ) (v : View) : Type 0 where
  pub long : length words ≡ 224
  pub some : (w b : ℕ) → w < 224 → b < 64 → bit b (slice_index words w) ≡ 1
      → IsTableIn v.shape (table_of_bit w b) × (has_goal (table_id (table_of_bit w b)) v.log ≡ true)
  pub all : (t : Table) → IsTableIn v.shape t → has_goal (table_id t) v.log ≡ true
      → bit (free_bit_of (table_id t)) (slice_index words (free_word_of (table_id t))) ≡ 1

-- The tables of the bank that the other pass kept retired are this pass's then, with their goals, and it keeps its own.
pub record TakesOver (v other w : View) : Type 0 where
  pub theirs : (t : ℕ) → IsTableName v.shape t → has_goal t other.log ≡ true
      → (has_goal t w.log ≡ true) × (goal t w.log ≡ goal t other.log)
  pub own : (t : ℕ) → has_goal t v.log ≡ true → has_goal t w.log ≡ true

-- the action puts no goal into a header, and gives no table back
abbrev pub LeavesRetired : (ℕ → Snap → Act) → Type 0
LeavesRetired act = (n : ℕ) (s : Snap) (t : ℕ) (b : Bool) → has_goal_next t (act n s) b ≡ b
