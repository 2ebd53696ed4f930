-- What a try of a call asks for, beside what the machine takes for it.
use Rattle.std.proofs.Common.{◌≡◌, ℕ, ◌<◌, ◌≤◌, Bool, true, false, not, List, [], ◌∷◌, Option, None, Some, refl, sym, ap, subst, ◌∙◌, arith, inl, inr}
use Rattle.std.specs.Prelude.{◌⊎◌, IfSome, if◌then◌else◌, nat_lt}
use Rattle.std.specs.Option.{option_map}
use Rattle.std.proofs.lemmas.Bool.Decides.{nat_tests}
use Rattle.std.proofs.lemmas.Option.{none-some, same_Some}
use Rattle.ft_model.specs.declared.call.Call.{Call}
use Rattle.ft_model.specs.declared.call.Call.TheVariants as call
use Rattle.ft_model.specs.declared.cursor.Cursor.{Cursor}
use Rattle.ft_model.specs.Calls.{is_locked_dict, is_locked_list, is_locked_set, one_or_two, other_dict, other_list, other_set, other_deque, is_locked_deque}
use Rattle.ft_model.specs.Worlds.{container_of, cursor_at}
use Rattle.ft_trace.specs.declared.Shape.{Shape}
use Rattle.ft_trace.specs.Addresses.{container_count}
use Rattle.ft_section.specs.declared.answers.Objects.{Objects}
use Rattle.ft_section.specs.declared.answers.Objects.TheVariants.{One, Two}
use Rattle.ft_section.specs.LockTakings.{lower_of, upper_of}
use Rattle.ft_engine.specs.Callers.{AreOver}
use Rattle.ft_engine.specs.Contentions.{may_look}
use Rattle.ft_engine.specs.Flights.{objects_of}
use Rattle.ft_table_calls.specs.TriesUnderLocks.{objects_by}
use Rattle.ft_engine.specs.Asked.{IsCallIn}
use Rattle.ft_turns.specs.Orders.{cursor_containers, locks_taken, lower_first}
use Rattle.ft_turn_laws.specs.Placings.{pair_of}
use Rattle.ft_turn_laws.proofs.Needed.{begin_locked, dict_free, dict_locked, list_free, list_locked, one_pair, set_free, set_locked, two_pair, deque_free, deque_locked}

-- ---- which containers

pub objects_pair : (first : ℕ) (second : Option ℕ) → lower_first (one_or_two first second) ≡ pair_of (lower_of (objects_by first second)) (upper_of (objects_by first second))
objects_pair first None = one_pair first
objects_pair first (Some second) = two_pair first second

not_false : (b : Bool) → not b ≡ false → b ≡ true
not_false true h = refl
not_false false h = absurd cc

not_true : (b : Bool) → not b ≡ true → b ≡ false
not_true true h = absurd cc
not_true false h = refl

named : (first : ℕ) (second : Option ℕ) (objects : Objects) (taken : List ℕ) → Some (objects_by first second) ≡ Some objects → taken ≡ one_or_two first second → lower_first taken ≡ pair_of (lower_of objects) (upper_of objects)
named first second objects taken is takes =
    ap lower_first takes ∙ (objects_pair first second ∙ ap (λ (os : Objects). pair_of (lower_of os) (upper_of os)) (same_Some (objects_by first second) objects is))

-- the containers of a call that takes its locks
pub asks : (before : List Call) (hands : List (Option Cursor)) (called : Call) (objects : Objects)
    → ((number : ℕ) (walker : Cursor) → cursor_at hands number ≡ Some walker → cursor_containers before number ≡ container_of walker ∷ [])
    → objects_of hands called ≡ Some objects → may_look called ≡ false → lower_first (locks_taken before called) ≡ pair_of (lower_of objects) (upper_of objects)
asks before hands (call.Dict o c) objects walks is locked = named o (other_dict c) objects (locks_taken before (call.Dict o c)) is (dict_locked before o c (not_false (is_locked_dict c) locked))
asks before hands (call.List o c) objects walks is locked = named o (other_list c) objects (locks_taken before (call.List o c)) is (list_locked before o c (not_false (is_locked_list c) locked))
asks before hands (call.Set o c) objects walks is locked = named o (other_set c) objects (locks_taken before (call.Set o c)) is (set_locked before o c (not_false (is_locked_set c) locked))
asks before hands (call.Deque o c) objects walks is locked = named o (other_deque c) objects (locks_taken before (call.Deque o c)) is (deque_locked before o c (not_false (is_locked_deque c) locked))
asks before hands (call.Next number) objects walks is locked =
    elim (cursor_at hands number) as (λ o. cursor_at hands number ≡ o → option_map (λ walker. One (container_of walker)) o ≡ Some objects → lower_first (cursor_containers before number) ≡ pair_of (lower_of objects) (upper_of objects)) [
      | None ↦ λ none is_none. absurd (none-some objects is_none)
      | Some walker ↦ λ at is_one.
          ap lower_first (walks number walker at)
          ∙ (one_pair (container_of walker) ∙ ap (λ (os : Objects). pair_of (lower_of os) (upper_of os)) (same_Some (One (container_of walker)) objects is_one))
    ] refl is
asks before hands (call.Begin first second) objects walks is locked = named first second objects (locks_taken before (call.Begin first second)) is (begin_locked before first second)
asks before hands call.End objects walks is locked = absurd (none-some objects is)
asks before hands call.Quiesce objects walks is locked = absurd (none-some objects is)
asks before hands (call.Await thread index) objects walks is locked = absurd (none-some objects is)
asks before hands call.Dump objects walks is locked = absurd (none-some objects is)

-- a call that is looked first, or that names no container, takes none
pub asks_none : (before : List Call) (hands : List (Option Cursor)) (called : Call) → (may_look called ≡ true) ⊎ (objects_of hands called ≡ None)
    → ((number : ℕ) → called ≡ call.Next number → (objects_of hands called ≡ None) → ⊥) → locks_taken before called ≡ []
asks_none before hands (call.Dict o c) (inl looks) walks = dict_free before o c (not_true (is_locked_dict c) looks)
asks_none before hands (call.Dict o c) (inr none) walks = absurd (none-some (objects_by o (other_dict c)) (sym none))
asks_none before hands (call.List o c) (inl looks) walks = list_free before o c (not_true (is_locked_list c) looks)
asks_none before hands (call.List o c) (inr none) walks = absurd (none-some (objects_by o (other_list c)) (sym none))
asks_none before hands (call.Set o c) (inl looks) walks = set_free before o c (not_true (is_locked_set c) looks)
asks_none before hands (call.Deque o c) (inl looks) walks = deque_free before o c (not_true (is_locked_deque c) looks)
asks_none before hands (call.Set o c) (inr none) walks = absurd (none-some (objects_by o (other_set c)) (sym none))
asks_none before hands (call.Deque o c) (inr none) walks = absurd (none-some (objects_by o (other_deque c)) (sym none))
asks_none before hands (call.Next number) (inl looks) walks = absurd cc
asks_none before hands (call.Next number) (inr none) walks = absurd (walks number refl none)
asks_none before hands (call.Begin first second) (inl looks) walks = absurd cc
asks_none before hands (call.Begin first second) (inr none) walks = absurd (none-some (objects_by first second) (sym none))
asks_none before hands call.End which walks = refl
asks_none before hands call.Quiesce which walks = refl
asks_none before hands (call.Await thread index) which walks = refl
asks_none before hands call.Dump which walks = refl

-- ---- which are there

two_order : (a b : ℕ) (less : Bool) → nat_lt b a ≡ less → (if less then b else a) ≤ (if less then a else b)
two_order a b true is = grind (arith, nat_tests, is)
two_order a b false is = grind (arith, nat_tests, is)

pub in_order : (objects : Objects) → lower_of objects ≤ upper_of objects
in_order (One o) = omega arith
in_order (Two a b) = two_order a b (nat_lt b a) refl

two_low : (a b n : ℕ) (less : Bool) → a < n → b < n → (if less then a else b) < n
two_low a b n true below_a below_b = below_a
two_low a b n false below_a below_b = below_b

by_low : (first : ℕ) (second : Option ℕ) (objects : Objects) (n : ℕ) → Some (objects_by first second) ≡ Some objects → first < n → IfSome second (λ other. other < n) → upper_of objects < n
by_low first None objects n is low other = subst (λ (os : Objects). upper_of os < n) (same_Some (One first) objects is) low
by_low first (Some second) objects n is low other = subst (λ (os : Objects). upper_of os < n) (same_Some (Two first second) objects is) (two_low first second n (nat_lt second first) low other)

weaker : (other : Option ℕ) (P Q : ℕ → Type 0) → ((o : ℕ) → P o → Q o) → IfSome other P → IfSome other Q
weaker None P Q from holds = tt
weaker (Some o) P Q from holds = from o holds

-- the containers that a call names are there
pub are_low : (k : Shape) (hands : List (Option Cursor)) (called : Call) (objects : Objects) → IsCallIn k hands called → AreOver k hands → objects_of hands called ≡ Some objects → upper_of objects < container_count k
are_low k hands (call.Dict o c) objects names over is = by_low o (other_dict c) objects (container_count k) is names.0.0.0 (weaker (other_dict c) _ (λ p. p < container_count k) (λ p there. there.0) names.0.1)
are_low k hands (call.List o c) objects names over is = by_low o (other_list c) objects (container_count k) is names.0.0.0 (weaker (other_list c) _ (λ p. p < container_count k) (λ p there. there.0) names.0.1)
are_low k hands (call.Set o c) objects names over is = by_low o (other_set c) objects (container_count k) is names.0.0.0 (weaker (other_set c) _ (λ p. p < container_count k) (λ p there. there.0) names.0.1)
are_low k hands (call.Deque o c) objects names over is = absurd names
are_low k hands (call.Next number) objects names over is =
    elim (cursor_at hands number) as (λ o. cursor_at hands number ≡ o → option_map (λ walker. One (container_of walker)) o ≡ Some objects → upper_of objects < container_count k) [
      | None ↦ λ none is_none. absurd (none-some objects is_none)
      | Some walker ↦ λ at is_one. subst (λ (os : Objects). upper_of os < container_count k) (same_Some (One (container_of walker)) objects is_one) (over number walker at).0.0
    ] refl is
are_low k hands (call.Begin first second) objects names over is = by_low first second objects (container_count k) is names.0 names.1
are_low k hands call.End objects names over is = absurd (none-some objects is)
are_low k hands call.Quiesce objects names over is = absurd (none-some objects is)
are_low k hands (call.Await thread index) objects names over is = absurd (none-some objects is)
are_low k hands call.Dump objects names over is = absurd (none-some objects is)
