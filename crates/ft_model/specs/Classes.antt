-- Classes of tables: how much a table of each class has room for, and which class a container grows into. (profile)
use Rattle.std.specs.Prelude.{ℕ, ◌+◌, ◌-◌, ◌*◌, ◌/◌, ◌^◌, ◌≤◌, nat_le}
use Rattle.std.specs.Option.{unwrap_or}
use Rattle.std.specs.List.{find, range_with_len}

-- ---- classes

abbrev pub least_class : ℕ
least_class = 3

abbrev pub greatest_class : ℕ
greatest_class = 16

-- how many classes there are
abbrev pub class_count : ℕ
class_count = 14

-- a class of tables
pub record IsClass (class : ℕ) : Type 0 where
  pub least : least_class ≤ class
  pub greatest : class ≤ greatest_class

-- ---- room: a table of class c has 2^c slots; a dict or set leaves some of them free, so that a search ends

-- how many entries or items a table of a class has
abbrev pub dict_entries : ℕ → ℕ
dict_entries class = 2 * 2 ^ class / 3

abbrev pub set_entries : ℕ → ℕ
set_entries class = 3 * 2 ^ class / 5

abbrev pub list_items : ℕ → ℕ
list_items class = 2 ^ class

-- how many pairs, elements or items a container has at most: what the largest table holds
abbrev pub most_pairs : ℕ
most_pairs = dict_entries greatest_class

abbrev pub most_elements : ℕ
most_elements = set_entries greatest_class

abbrev pub most_items : ℕ
most_items = list_items greatest_class

-- ---- growth

-- the smallest class of at least this many slots, and the greatest where that would be greater
abbrev pub class_for : ℕ → ℕ
class_for slots =
    unwrap_or
    (find (λ class. nat_le slots (2 ^ class))
    (range_with_len least_class (greatest_class - least_class))) greatest_class

-- the classes of new tables for that many pairs, elements or items
abbrev pub dict_class : ℕ → ℕ
dict_class count = class_for (3 * (count - 1))

abbrev pub set_class : ℕ → ℕ
set_class count = class_for (4 * (count - 1) + 1)

abbrev pub list_class : ℕ → ℕ
list_class count = class_for count
