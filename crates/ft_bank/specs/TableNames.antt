-- Tables by the names that traces have for them, and where they lie.
use Rattle.std.specs.Prelude.{◌≡◌, ◌≤◌, ℕ, zero, suc, ◌+◌, ◌*◌, ◌<◌, Option, Some, None, List, [], ◌∷◌}
use Rattle.ft_layout.specs.Sizes.{table_size}
use Rattle.ft_layout.specs.Starts.{words_below}
use Rattle.ft_model.specs.Classes.{IsClass}
use Rattle.ft_trace.specs.declared.Shape.{Shape}
use Rattle.ft_trace.specs.declared.View.{View}
use Rattle.ft_trace.specs.Addresses.{at, cell, class_of, extent, size, tables_in, far}
use Rattle.ft_trace.specs.Holds.{in_hand, hand_unboxed}
use Rattle.ft_bank.specs.declared.table.Table.{Table}

-- the root word of the table less 1
abbrev pub table_id : Table → ℕ
table_id t = 65536 * t.class + t.number

-- the bank has this table
abbrev pub IsTableIn : Shape → Table → Type 0
IsTableIn k t = IsClass t.class × (t.number < tables_in k t.class) × (t.number < 1024)

-- where the words of the table begin after its header, all inside the bank
abbrev pub IsPlaceOf : Shape → Table → ℕ → Type 0
IsPlaceOf k t start = (start ≡ at k (cell (table_id t) 0)) × (start + size (class_of (table_id t)) ≤ extent k)

-- the root that names the table, or no table
abbrev pub root_for : Option Table → ℕ
root_for None = 0
root_for (Some t) = suc (table_id t)

-- the words of the table that the pass has in hand, or of no table
abbrev pub words_for : Option Table → View → List ℕ
words_for None v = []
words_for (Some t) v = in_hand (table_id t) v

-- and what they read through boxes, for the container o
abbrev pub unboxed_for : ℕ → Option Table → View → List ℕ
unboxed_for o None v = []
unboxed_for o (Some t) v = hand_unboxed o (table_id t) v

-- where the tables of each class begin, from class c on
abbrev pub starts_from : Shape → ℕ → ℕ → List ℕ
starts_from k c zero = []
starts_from k c (suc n) = (far k + words_below k.tables c) ∷ starts_from k (suc c) n

-- how many words the tables of each class have, from class c on
abbrev pub sizes_from : ℕ → ℕ → List ℕ
sizes_from c zero = []
sizes_from c (suc n) = table_size c ∷ sizes_from (suc c) n
