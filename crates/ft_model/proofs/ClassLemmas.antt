-- Which class is taken for how much, and that a table of it has room for that.
use Rattle.std.proofs.Common.{◌≡◌, ℕ, suc, zero, ◌+◌, ◌-◌, ◌*◌, ◌/◌, ◌^◌, ◌<◌, ◌≤◌, Bool, true, false, cond, Option, Some, refl, sym, arith, subst, ◌⊎◌, inl, inr}
use Rattle.std.specs.Prelude.{nat_le}
use Rattle.std.specs.Option.{unwrap_or}
use Rattle.std.specs.List.{find, range_with_len}
use Rattle.std.proofs.lemmas.Bool.{lt-leb, cases_lt, false≢true}
use mathlib.Core.Logic.{dite}
use native.Mathlib.Decide.{ℕ_discrete}
use Rattle.std.proofs.lemmas.Bool.Decides.{leb_tells}
use Rattle.std.proofs.Math.Nat.{pow-le-pow_right}
use Rattle.ft_model.specs.Classes.{least_class, greatest_class, IsClass, dict_entries, set_entries, list_items, most_pairs, most_elements, most_items, class_for, dict_class, set_class}

-- past 2^15 slots it is the greatest class
pub class_for_much : (slots : ℕ) → 32768 < slots → class_for slots ≡ greatest_class
class_for_much slots much =
    rw (
      lt-leb slots 8 (omega arith),
      lt-leb slots 16 (omega arith),
      lt-leb slots 32 (omega arith),
      lt-leb slots 64 (omega arith),
      lt-leb slots 128 (omega arith),
      lt-leb slots 256 (omega arith),
      lt-leb slots 512 (omega arith),
      lt-leb slots 1024 (omega arith),
      lt-leb slots 2048 (omega arith),
      lt-leb slots 4096 (omega arith),
      lt-leb slots 8192 (omega arith),
      lt-leb slots 16384 (omega arith),
      lt-leb slots 32768 (omega arith),
    ) refl

-- a class is the first one that has as many slots, from one class on up to a last one, which is taken in any case
record IsFirst (slots from last class : ℕ) : Type 0 where
  least : from ≤ class
  greatest : class ≤ last
  room : slots ≤ 2 ^ last → slots ≤ 2 ^ class
  first : (other : ℕ) → from ≤ other → slots ≤ 2 ^ other → other < class → ⊥

is_first : (slots last from count : ℕ) → from + count ≡ last → IsFirst slots from last (unwrap_or (find (λ class. nat_le slots (2 ^ class)) (range_with_len from count)) last)
is_first slots last from zero end = record { least = omega (arith, end); greatest = omega arith; room = λ all. all; first = λ other low many less. omega (arith, end, low, less) }
is_first slots last from (suc count) end = by (nat_le slots (2 ^ from)) (leb_tells slots (2 ^ from)) (is_first slots last (from + 1) count (omega (arith, end)))
  where
    by : (b : Bool) → ((b ≡ true) × (slots ≤ 2 ^ from)) ⊎ ((b ≡ false) × (2 ^ from < slots)) → IsFirst slots (from + 1) last (unwrap_or (find (λ class. nat_le slots (2 ^ class)) (range_with_len (from + 1) count)) last) → IsFirst slots from last (unwrap_or (cond {A = Option ℕ} b (Some from) (find (λ class. nat_le slots (2 ^ class)) (range_with_len (from + 1) count))) last)
    by true (inl here) rest = record { least = omega arith; greatest = omega (arith, end); room = λ all. here.1; first = λ other low many less. omega (arith, low, less) }
    by true (inr over) rest = absurd (false≢true (sym over.0))
    by false (inl here) rest = absurd (false≢true here.0)
    by false (inr over) rest =
        record {
          least = let low = rest.least in omega (arith, low);
          greatest = rest.greatest;
          room = rest.room;
          first = λ other low many less. dite (ℕ_discrete other from) (λ same. let few : slots ≤ 2 ^ from = subst (λ (n : ℕ). slots ≤ 2 ^ n) same many in let more = over.1 in omega (arith, few, more)) (λ differ. rest.first other (omega (arith, low, differ)) many less);
        }

first_of : (slots : ℕ) → IsFirst slots least_class greatest_class (class_for slots)
first_of slots = is_first slots 16 3 13 refl

pub class_within : (slots : ℕ) → IsClass (class_for slots)
class_within slots = let is = first_of slots in record { least = is.least; greatest = is.greatest }

pub class_has_room : (slots : ℕ) → slots ≤ most_items → slots ≤ list_items (class_for slots)
class_has_room slots few = (first_of slots).room few

pub class_least : (slots class : ℕ) → IsClass class → slots ≤ list_items class → class_for slots ≤ class
class_least slots class is many =
    elim (cases_lt class (class_for slots)) [
      | inl less ↦ absurd ((first_of slots).first class is.least many less)
      | inr most ↦ most
    ]

-- ---- room for what a container has

-- a table of a class has eight slots at least
eight : (class : ℕ) → least_class ≤ class → 8 ≤ 2 ^ class
eight class low = pow-le-pow_right (omega arith) low

enough_pairs : (slots count : ℕ) → 8 ≤ slots → 3 * (count - 1) ≤ slots → count ≤ 2 * slots / 3
enough_pairs slots count low room = omega arith

enough_elements : (slots count : ℕ) → 8 ≤ slots → 4 * (count - 1) + 1 ≤ slots → count ≤ 3 * slots / 5
enough_elements slots count low room = omega arith

pub dict_has_room : (count : ℕ) → count ≤ most_pairs → count ≤ dict_entries (dict_class count)
dict_has_room count few =
    elim (cases_lt most_items (3 * (count - 1))) [
      | inl much ↦ subst (λ class. count ≤ dict_entries class) (sym (class_for_much (3 * (count - 1)) (omega (arith, much)))) few
      | inr room ↦ enough_pairs (2 ^ dict_class count) count (eight (dict_class count) (class_within (3 * (count - 1))).least) (class_has_room (3 * (count - 1)) room)
    ]

pub set_has_room : (count : ℕ) → count ≤ most_elements → count ≤ set_entries (set_class count)
set_has_room count few =
    elim (cases_lt most_items (4 * (count - 1) + 1)) [
      | inl much ↦ subst (λ class. count ≤ set_entries class) (sym (class_for_much (4 * (count - 1) + 1) (omega (arith, much)))) few
      | inr room ↦ enough_elements (2 ^ set_class count) count (eight (set_class count) (class_within (4 * (count - 1) + 1)).least) (class_has_room (4 * (count - 1) + 1) room)
    ]
