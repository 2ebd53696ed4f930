-- Which retired tables a collection takes off, and which stay.
use Rattle.std.proofs.Common.{◌≡◌, ◌↔◌, ℕ, Bool, true, not, List, length, take, Some, sym, ap, ◌∙◌, inl, inr}
use Rattle.std.specs.Prelude.{Contains, ◌==◌, ◌&&◌, nat_lt, filter, slice_get}
use Rattle.std.proofs.lemmas.Bool.{and_parts, and_from, and_left, and_right, not_from_true, eqb-false, eq-eqb, ltb-true, lt-ltb, ne_eqb, not-true, not_from_false, false≢true, cases_Bool, cases_eq}
use Rattle.std.proofs.lemmas.List.Elements.{All-contains, All-contains_itself, All-filter, filter_passes}
use Rattle.std.proofs.lemmas.List.Folds.{Any-from_list_any, list_any-from_Any}
use Rattle.std.proofs.lemmas.Option.{slice_get-get_or, slice_get_within, get_or_from_slice_get}
use Rattle.ft_history.proofs.FilteredParts.{passed_at}
use Rattle.ft_ledger.specs.Ledgers.{Ledger, Retired, is_held_back, is_due, collected}
use Rattle.ft_ledger.specs.LedgerLaws.{IsHeldBack}

-- an element passes and stands in the whole, or stands among those that pass
filter_contains : {X : Type 0} (p : X → Bool) (xs : List X) (x : X) → Contains (filter p xs) x ↔ (Contains xs x × (p x ≡ true))
filter_contains {X} p xs x = (
  λ there. (All-contains (Contains xs) (filter p xs) x (All-filter p (Contains xs) xs (All-contains_itself xs)) there, All-contains (λ (y : X). p y ≡ true) (filter p xs) x (filter_passes p xs) there),
  λ both. from both.0 both.1,
)
  where
    from : Contains xs x → p x ≡ true → Contains (filter p xs) x
    from there passes =
        let at : slice_get xs there.0 ≡ Some x = slice_get-get_or xs there.0 x there.1 ∙ ap Some there.2 in
        let k = length (filter p (take there.0 xs)) in
        let found : slice_get (filter p xs) k ≡ Some x = passed_at p xs there.0 x at passes in
        (k, slice_get_within (filter p xs) k x found, get_or_from_slice_get (filter p xs) k x x found)

abbrev HoldsBack : Retired → ℕ → Bool
HoldsBack one number = not (number == 0) && nat_lt number one.goal

pub held_back : (ledger : Ledger) (one : Retired) → is_held_back ledger.announced one ≡ true → IsHeldBack ledger one
held_back ledger one is =
    let found = Any-from_list_any (HoldsBack one) ledger.announced is in
    let parts = and_parts (not (found.1 == 0)) (nat_lt found.1 one.goal) found.4 in
    (found.0, found.1, found.2, found.3, (eqb-false found.1 0 (not-true (found.1 == 0) parts.0), ltb-true found.1 one.goal parts.1))

pub is_held : (ledger : Ledger) (one : Retired) → IsHeldBack ledger one → is_held_back ledger.announced one ≡ true
is_held ledger one held =
    list_any-from_Any (HoldsBack one) ledger.announced
    (held.0, held.1, held.2, held.3, and_from (not (held.1 == 0)) (nat_lt held.1 one.goal) (not_from_false (held.1 == 0) (ne_eqb held.1 0 held.4.0)) (lt-ltb held.1 one.goal held.4.1))

module _ (thread : ℕ) (ledger : Ledger) (one : Retired) where
  -- one that isn't due is another thread's, or held back
  pub not_due : not (is_due thread ledger.announced one) ≡ true → one.thread ≡ thread → IsHeldBack ledger one
  not_due stays own =
      elim (cases_Bool (is_held_back ledger.announced one)) [
        | inl held ↦ held_back ledger one held
        | inr free ↦ absurd (false≢true (sym (not-true (is_due thread ledger.announced one) stays) ∙ and_from (one.thread == thread) (not (is_held_back ledger.announced one)) (eq-eqb one.thread thread own) (not_from_false (is_held_back ledger.announced one) free)))
      ]

  due_not : (one.thread ≡ thread → IsHeldBack ledger one) → not (is_due thread ledger.announced one) ≡ true
  due_not why =
      not_from_false (is_due thread ledger.announced one)
      (elim (cases_eq one.thread thread) [
        | inl own ↦ and_right (one.thread == thread) (not (is_held_back ledger.announced one)) (not_from_true (is_held_back ledger.announced one) (is_held ledger one (why own)))
        | inr other ↦ and_left (one.thread == thread) (not (is_held_back ledger.announced one)) (ne_eqb one.thread thread other)
      ])

  pub collection_keeps : Contains (collected thread ledger).retired one ↔ (Contains ledger.retired one × (one.thread ≡ thread → IsHeldBack ledger one))
  collection_keeps =
      let both = filter_contains (λ (r : Retired). not (is_due thread ledger.announced r)) ledger.retired one in
      (λ there. ((both.0 there).0, not_due (both.0 there).1), λ here. both.1 (here.0, due_not here.1))
