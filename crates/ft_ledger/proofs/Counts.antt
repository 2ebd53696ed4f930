-- Counts of tables by class, one more and one fewer, and what a collection does to them.
use Rattle.std.proofs.Common.{◌≡◌, ◌≢◌, ℕ, ◌+◌, ◌-◌, ◌≤◌, Bool, true, false, not, List, [], ◌∷◌, length, get_or, set, refl, sym, ap, ◌∙◌, arith, cond, inl, inr}
use Rattle.std.specs.Prelude.{All, ◌==◌, fold}
use Rattle.std.specs.List.{count_by}
use Rattle.std.proofs.lemmas.Bool.{both_ways}
use Rattle.std.proofs.lemmas.Bool.Decides.{eqb_tells}
use Rattle.std.proofs.lemmas.List.{length-set, get_or-set_same, get_or-set_other}
use Rattle.std.proofs.lemmas.List.Elements.{All-head, All-tail, All-filter}
use Rattle.std.proofs.lemmas.List.Filters.{sum_by-filter_both}
use Rattle.std.proofs.lemmas.List.Sums.{sum_by-cons}
use Rattle.ft_model.specs.Classes.{least_class, class_count, IsClass}
use Rattle.ft_model.specs.TableUses.{table_count}
use Rattle.ft_ledger.specs.Ledgers.{Ledger, Retired, one_more, one_fewer, is_due, due_of, collected, retired_tables}

-- 1 where the two classes are one
abbrev pub same_class : ℕ → ℕ → ℕ
same_class class other = cond (class == other) 1 0

-- the count of a class after that of some class was set
count_set : (counts : List ℕ) (class other n : ℕ) → IsClass class → IsClass other → length counts ≡ class_count → table_count (set counts (class - least_class) n) other ≡ cond (class == other) n (table_count counts other)
count_set counts class other n is and_is long =
    let low : 3 ≤ class = is.least in
    let high : class ≤ 16 = is.greatest in
    let other_low : 3 ≤ other = and_is.least in
    elim (eqb_tells class other) [
      | inl same ↦
          ap (λ c. get_or (set counts (class - 3) n) (c - 3) 0) (sym same.1)
          ∙ get_or-set_same counts (class - 3) n 0 (omega arith)
          ∙ ap (λ b. cond b n (table_count counts other)) (sym same.0)
      | inr differ ↦
          get_or-set_other counts (class - 3) (other - 3) n 0 (λ e. differ.1 (omega arith))
          ∙ ap (λ b. cond b n (table_count counts other)) (sym differ.0)
    ]

cond_count : (b : Bool) (n m : ℕ) → (b ≡ true → n ≡ m + 1) → cond b n m ≡ m + cond b 1 0
cond_count true n m more = more refl
cond_count false n m more = omega arith

pub count_more : (counts : List ℕ) (class other : ℕ) → IsClass class → IsClass other → length counts ≡ class_count → table_count (one_more counts class) other ≡ table_count counts other + same_class class other
count_more counts class other is and_is long =
    count_set counts class other (table_count counts class + 1) is and_is long
    ∙ cond_count (class == other) (table_count counts class + 1) (table_count counts other)
    (λ same. ap (λ c. table_count counts c + 1) (eqb_same same))
  where
    eqb_same : (class == other) ≡ true → class ≡ other
    eqb_same same = elim (eqb_tells class other) [ inl one ↦ one.1 | inr two ↦ absurd (both_ways (class == other) two.0 same) ]

pub count_fewer : (counts : List ℕ) (class other : ℕ) → IsClass class → IsClass other → length counts ≡ class_count → table_count counts class ≢ 0 → table_count (one_fewer counts class) other + same_class class other ≡ table_count counts other
count_fewer counts class other is and_is long some =
    let here = count_set counts class other (table_count counts class - 1) is and_is long in
    elim (eqb_tells class other) [
      | inl same ↦
          let value : table_count (one_fewer counts class) other ≡ table_count counts class - 1 = here ∙ ap (λ b. cond b (table_count counts class - 1) (table_count counts other)) same.0 in
          let one : same_class class other ≡ 1 = ap (λ b. cond {A = ℕ} b 1 0) same.0 in
          let count : table_count counts class ≡ table_count counts other = ap (table_count counts) same.1 in
          omega (arith, value, one, count)
      | inr differ ↦
          let value : table_count (one_fewer counts class) other ≡ table_count counts other = here ∙ ap (λ b. cond b (table_count counts class - 1) (table_count counts other)) differ.0 in
          let one : same_class class other ≡ 0 = ap (λ b. cond {A = ℕ} b 1 0) differ.0 in
          omega (arith, value, one)
    ]

-- ---- collections

abbrev pub AreClasses : List Retired → Type 0
AreClasses retired = All (λ (one : Retired). IsClass one.class) retired

pub long_free : (due : List Retired) (free : List ℕ) → length (fold (λ (ns : List ℕ) (one : Retired). one_more ns one.class) free due) ≡ length free
long_free [] free = refl
long_free (one ∷ due) free = long_free due (one_more free one.class) ∙ length-set free (one.class - least_class) (table_count free one.class + 1)

free_count : (due : List Retired) (free : List ℕ) (class : ℕ) → AreClasses due → IsClass class → length free ≡ class_count
    → table_count (fold (λ (ns : List ℕ) (one : Retired). one_more ns one.class) free due) class ≡ table_count free class + count_by (λ (one : Retired). one.class == class) due
free_count [] free class are is long = omega arith
free_count (one ∷ due) free class are is long =
    let head : IsClass one.class = All-head (λ (r : Retired). IsClass r.class) one due are in
    let rest = free_count due (one_more free one.class) class (All-tail (λ (r : Retired). IsClass r.class) one due are) is (length-set free (one.class - least_class) (table_count free one.class + 1) ∙ long) in
    let first = count_more free one.class class head is long in
    let sum = sum_by-cons (λ (r : Retired). cond (r.class == class) 1 0) one due in
    omega (arith, rest, first, sum)

pub collected_long : (thread : ℕ) (ledger : Ledger) → length (collected thread ledger).free ≡ length ledger.free
collected_long thread ledger = long_free (due_of thread ledger) ledger.free

pub collected_count : (thread : ℕ) (ledger : Ledger) (class : ℕ) → AreClasses ledger.retired → IsClass class → length ledger.free ≡ class_count
    → table_count (collected thread ledger).free class + retired_tables (collected thread ledger) class ≡ table_count ledger.free class + retired_tables ledger class
collected_count thread ledger class are is long =
    let due = is_due thread ledger.announced in
    let of_class = λ (one : Retired). cond {A = ℕ} (one.class == class) 1 0 in
    let free = free_count (due_of thread ledger) ledger.free class (All-filter due (λ (one : Retired). IsClass one.class) ledger.retired are) is long in
    let parts = sum_by-filter_both due (λ (one : Retired). not (due one)) (λ one. refl) of_class ledger.retired in
    omega (arith, free, parts)

-- a collection takes no free table away
pub collected_more : (thread : ℕ) (ledger : Ledger) (class : ℕ) → AreClasses ledger.retired → IsClass class → length ledger.free ≡ class_count → table_count ledger.free class ≤ table_count (collected thread ledger).free class
collected_more thread ledger class are is long =
    let free = free_count (due_of thread ledger) ledger.free class (All-filter (is_due thread ledger.announced) (λ (one : Retired). IsClass one.class) ledger.retired are) is long in
    omega (arith, free)
