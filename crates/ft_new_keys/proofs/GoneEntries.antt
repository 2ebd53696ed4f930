-- The boxes that a table names are those of entries that are there and those of deleted ones.
use Rattle.std.proofs.Common.{◌≡◌, ℕ, zero, suc, ◌+◌, ◌<◌, ◌≤◌, Bool, true, false, cond, List, refl, ap, ◌∙◌, arith}
use Rattle.std.specs.Prelude.{nat_lt, slice_index}
use Rattle.ft_model.specs.declared.script.Kind.{Kind}
use Rattle.ft_trace.specs.Addresses.{class_of, slots}
use Rattle.ft_trace.specs.Boxes.{value_at, names_box_at, named_in_root}
use Rattle.ft_trace.specs.Kinds.{rows}
use Rattle.ft_trace.specs.Pictures.{entry_field}
use Rattle.ft_trace.specs.Sums.{sum_to}
use Rattle.ft_trace.proofs.Unboxed.{named_row}
use Rattle.ft_table_calls.proofs.Dropped.{sum_upto}
use Rattle.ft_new_keys.specs.Moving.{live_names_at, gone_names_at, live_in_root, gone_in_root}

cond_both : (a : Bool) (n : ℕ) → n ≡ cond a n 0 + cond a 0 n
cond_both true n = omega arith
cond_both false n = omega arith

sum_both : (f g h : ℕ → ℕ) (n : ℕ) → ((p : ℕ) → f p ≡ g p + h p) → sum_to f n ≡ sum_to g n + sum_to h n
sum_both f g h zero each = refl
sum_both f g h (suc n) each = let one = each n in let rest = sum_both f g h n each in omega (arith, one, rest)

pub split_names : (b : ℕ) (kind : Kind) (root : ℕ) (ws : List ℕ) → named_in_root b kind root ws ≡ live_in_root b kind root ws + gone_in_root b kind root ws
split_names b kind zero ws = refl
split_names b kind (suc t) ws =
    sum_both (names_box_at b kind (class_of t) ws) (live_names_at b kind (class_of t) ws) (gone_names_at b kind (class_of t) ws) (rows kind (class_of t))
    (λ p. cond_both (nat_lt (entry_field (slots (class_of t)) ws p 2) 3) (names_box_at b kind (class_of t) ws p))

-- ---- row by row

-- the references that are left after the rows before this one; the box that this one names is among them
module _ (kind : Kind) (class : ℕ) (table : List ℕ) (start left : ℕ → ℕ) (row past : ℕ) (low : row < past) (enough : (b : ℕ) → sum_to (gone_names_at b kind class table) past ≤ start b) (all : (b : ℕ) → left b + sum_to (gone_names_at b kind class table) row ≡ start b) where
  pub gone_held : nat_lt (entry_field (slots class) table row 2) 3 ≡ false → slice_index table (value_at kind class row) ≡ 4 → 0 < left (slice_index table (suc (value_at kind class row)))
  gone_held gone four =
      let b = slice_index table (suc (value_at kind class row)) in
      let f : ℕ → ℕ = gone_names_at b kind class table in
      let one : f row ≡ 1 = ap (λ (z : Bool). cond z 0 (names_box_at b kind class table row)) gone ∙ named_row b kind class table row four refl in
      let more : sum_to f (suc row) ≤ sum_to f past = sum_upto f (suc row) past low in
      let sum = all b in
      let most = enough b in
      omega (arith, one, more, sum, most)

  pub gone_then : (next : ℕ → ℕ) → ((b : ℕ) → left b ≡ next b + gone_names_at b kind class table row) → (b : ℕ) → next b + sum_to (gone_names_at b kind class table) (suc row) ≡ start b
  gone_then next drops b = let sum = all b in let less = drops b in omega (arith, sum, less)
