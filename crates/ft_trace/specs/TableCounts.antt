-- How many tables of a class are in each place: free, current in a container, in the hand of a pass, retired.
use Rattle.std.specs.Prelude.{◌≡◌, ℕ, zero, suc, ◌+◌, ◌*◌, ◌%◌, ◌==◌, cond, List}
use Rattle.ft_model.specs.Classes.{IsClass}
use Rattle.ft_trace.specs.declared.Shape.{Shape}
use Rattle.ft_trace.specs.declared.View.{View}
use Rattle.ft_trace.specs.Acts.{stage}
use Rattle.ft_trace.specs.Addresses.{block, class_of, container_count, tables_in}
use Rattle.ft_trace.specs.Ages.{age}
use Rattle.ft_trace.specs.Sums.{sum_to}
use Rattle.ft_trace.specs.Counts.{word_bits}
use Rattle.ft_trace.specs.Entries.{total}
use Rattle.ft_trace.specs.Traces.{Event, run, word, Valid}

-- 1 where the root word names a table of the class
abbrev pub names_class : ℕ → ℕ → ℕ
names_class c zero = 0
names_class c (suc t) = cond (class_of t == c) 1 0

-- the containers whose roots name a table of the class
abbrev pub current_tables : Shape → List Event → ℕ → ℕ
current_tables k es c = sum_to (λ o. names_class c (word k es (block o 0))) (container_count k)

-- 1 where a pass has the table in its hand: it took it and has put it into no root, or took it out of a root and has
-- not retired it
abbrev pub is_in_hand : ℕ → ℕ
is_in_hand stage = cond (stage == 1) 1 (cond (stage == 3) 1 0)

-- the tables of the class that a pass has in its hand
abbrev pub tables_in_hand : Shape → ℕ → View → ℕ
tables_in_hand k c u = sum_to (λ i. is_in_hand (stage (65536 * c + i) u.log)) (tables_in k c)

-- the retired tables of the class: their ages say that they were retired and not given back since
abbrev pub is_retired : ℕ → ℕ
is_retired age = cond (age % 5 == 4) 1 0

abbrev pub retired_tables : Shape → List Event → ℕ → ℕ
retired_tables k es c = sum_to (λ i. is_retired (age es (65536 * c + i))) (tables_in k c)

-- at every moment the tables of a class whose bits are set, those that roots name, those in the hands of passes and the
-- retired ones are together all that the bank has of the class
abbrev pub TablesAddUp : Type 0
TablesAddUp =
    (k : Shape) (es : List Event) → Valid k es → (c : ℕ) → IsClass c
    → word_bits k es c + current_tables k es c + total (tables_in_hand k c) (run k es).views + retired_tables k es c
    ≡ tables_in k c
