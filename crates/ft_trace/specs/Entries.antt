-- What is said of the entries of all passes.
use Rattle.std.specs.Prelude.{◌≡◌, ◌⊎◌, ℕ, ◌+◌, ◌≤◌, ◌==◌, ◌&&◌, true, cond, nat_lt, List, [], ◌∷◌, length, Option}
use Rattle.ft_model.specs.declared.call.Call.{Call}
use Rattle.ft_model.specs.declared.cursor.Cursor.{Cursor}
use Rattle.ft_model.specs.declared.script.Start.{Start}
use Rattle.ft_model.specs.Answers.{answer, is_write}
use Rattle.ft_model.specs.Histories.{IsReplied}
use Rattle.ft_model.specs.TableUses.{stored_newest}
use Rattle.ft_trace.specs.declared.Entry.{Entry}
use Rattle.ft_trace.specs.ContainerStates.{first_writes}

-- a number of each, added up
abbrev pub total : {A : Type 0} → (A → ℕ) → List A → ℕ
total f [] = 0
total f (x ∷ xs) = f x + total f xs

-- the write with this number, among writes from the newest to the first
abbrev pub IsNumber : List Call → ℕ → Call → Type 0
IsNumber [] n c = ⊥
IsNumber (d ∷ cs) n c = ((n ≡ length cs) × (c ≡ d)) ⊎ IsNumber cs n c

-- The entry is that of the write with its number, or is no write. It has the plain containers' reply after as many
-- writes as its stamp says, to a thread with some cursors, or that of a section, or a MemoryError.
pub record Right (starts : List Start) (cs : List Call) (e : Entry) : Type 0 where
  pub wrote : e.wrote ≡ is_write e.call e.reply
  pub write : e.wrote ≡ true → IsNumber cs e.stamp e.call
  pub low : e.stamp ≤ length cs
  pub hands : List (Option Cursor)
  pub reply : IsReplied e.call e.reply
      (answer (stored_newest starts (first_writes e.stamp cs)).world hands e.call).reply

abbrev pub AllRight : List Start → List Call → List Entry → Type 0
AllRight starts cs [] = Unit {0}
AllRight starts cs (e ∷ es) = Right starts cs e × AllRight starts cs es

abbrev pub number_count : ℕ → Entry → ℕ
number_count n e = cond (e.wrote && (e.stamp == n)) 1 0

-- there are these writes: each entry is right, and each number stands once
pub record Numbered (starts : List Start) (cs : List Call) (entries : List Entry) : Type 0 where
  pub right : AllRight starts cs entries
  pub once : (n : ℕ) → total (number_count n) entries ≡ cond (nat_lt n (length cs)) 1 0
