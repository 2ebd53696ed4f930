-- A write takes one table at most, so that all classes together are taken no more often than there are writes.
use Rattle.ft_model.specs.declared.script.Start.{Start}
use Rattle.std.proofs.Common.{◌≡◌, ℕ, suc, zero, ◌+◌, ◌<◌, ◌≤◌, cond, List, [], ◌∷◌, length, Option, Some, None, refl, ap, arith, inl, inr}
use Rattle.std.specs.List.{count_by, sum_by, range_with_len}
use Rattle.std.proofs.lemmas.Bool.Decides.{eqb_tells}
use Rattle.std.proofs.lemmas.List.Sums.{sum_by-cons, count_by-le-length}
use Rattle.ft_model.specs.declared.call.Call.{Call}
use Rattle.ft_model.specs.Classes.{least_class, class_count}
use Rattle.ft_model.specs.TableUses.{StoredWorld, empty_stored, after_stored, takings, is_class, takes_by}

-- whether a class is the one that is taken, as a number
abbrev once : Option ℕ → ℕ → ℕ
once taking class = cond (is_class class taking) 1 0

sum_zero : (f : ℕ → ℕ) (xs : List ℕ) → ((x : ℕ) → f x ≡ 0) → sum_by f xs ≡ 0
sum_zero f [] none = refl
sum_zero f (x ∷ xs) none = omega (arith, sum_by-cons f x xs, none x, sum_zero f xs none)

pub sum_both : (f g h : ℕ → ℕ) (xs : List ℕ) → ((x : ℕ) → h x ≡ f x + g x) → sum_by h xs ≡ sum_by f xs + sum_by g xs
sum_both f g h [] both = refl
sum_both f g h (x ∷ xs) both = omega (arith, sum_by-cons f x xs, sum_by-cons g x xs, sum_by-cons h x xs, both x, sum_both f g h xs both)

-- of a row of classes at most one is the one that is taken, and none where all are greater
taken_once : (class from count : ℕ) → (sum_by (once (Some class)) (range_with_len from count) ≤ 1) × (class < from → sum_by (once (Some class)) (range_with_len from count) ≡ 0)
taken_once class from zero = (omega arith, λ low. refl)
taken_once class from (suc count) =
    let rest = taken_once class (from + 1) count in
    let cons = sum_by-cons (once (Some class)) from (range_with_len (from + 1) count) in
    elim (eqb_tells class from) [
      | inl same ↦
          let one : once (Some class) from ≡ 1 = ap (λ b. cond b 1 0) same.0 in
          let none = rest.1 (omega (arith, same.1)) in
          (omega (arith, cons, one, none), λ low. absurd (omega (arith, same.1)))
      | inr differ ↦
          let none : once (Some class) from ≡ 0 = ap (λ b. cond b 1 0) differ.0 in
          (omega (arith, cons, none, rest.0), λ low. omega (arith, cons, none, rest.1 (omega arith)))
    ]

one_taking : (taking : Option ℕ) (from count : ℕ) → sum_by (once taking) (range_with_len from count) ≤ 1
one_taking None from count = omega (arith, sum_zero (once None) (range_with_len from count) (λ x. refl))
one_taking (Some class) from count = (taken_once class from count).0

classes_taken : (takings : List (Option ℕ)) (from count : ℕ) → sum_by (λ class. count_by (is_class class) takings) (range_with_len from count) ≤ length takings
classes_taken [] from count = omega (arith, sum_zero (λ class. count_by (is_class class) []) (range_with_len from count) (λ x. refl))
classes_taken (taking ∷ takings) from count =
    let apart = sum_both (once taking) (λ class. count_by (is_class class) takings) (λ class. count_by (is_class class) (taking ∷ takings)) (range_with_len from count) (λ class. sum_by-cons (λ (o : Option ℕ). once o class) taking takings) in
    omega (arith, apart, one_taking taking from count, classes_taken takings from count)

length-takings : (stored : StoredWorld) (calls : List Call) → length (takings stored calls) ≡ length calls
length-takings stored [] = refl
length-takings stored (called ∷ calls) = ap suc (length-takings (after_stored stored called) calls)

pub takes_few : (kinds : List Start) (calls : List Call) → sum_by (λ class. takes_by kinds class calls) (range_with_len least_class class_count) ≤ length calls
takes_few kinds calls = omega (arith, classes_taken (takings (empty_stored kinds) calls) least_class class_count, length-takings (empty_stored kinds) calls)

pub takes_class_few : (kinds : List Start) (class : ℕ) (calls : List Call) → takes_by kinds class calls ≤ length calls
takes_class_few kinds class calls = omega (arith, count_by-le-length (is_class class) (takings (empty_stored kinds) calls), length-takings (empty_stored kinds) calls)
