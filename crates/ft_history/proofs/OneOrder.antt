-- Of one set of entries, no two of which are alike in the order, there is one list in that order.
use Rattle.std.proofs.Common.{◌≡◌, ◌≢◌, ℕ, zero, suc, ◌+◌, ◌<◌, ◌≤◌, Bool, true, false, not, List, [], ◌∷◌, ◌++◌, length, get_or, take, drop, Some, refl, sym, ap, ◌∙◌, arith, cond, ◌==◌}
use Rattle.std.specs.Prelude.{slice_get}
use Rattle.std.specs.List.{count_by, filter, AllPairs}
use Rattle.std.specs.List.Sorted.{IsSorted, IsPermutation}
use Rattle.std.specs.declared.cmp.Ordering.{Ordering}
use Rattle.std.specs.declared.cmp.Ordering.TheVariants.{Less, Equal, Greater}
use Rattle.std.specs.Ordering.{is_lt, ordering_reverse, ordering_then, nat_cmp, bool_cmp}
use Rattle.std.proofs.lemmas.Bool.{eq-eqb}
use Rattle.std.proofs.lemmas.Map.Lookups.{exact_unsigned}
use Rattle.std.proofs.lemmas.Option.{slice_get-get_or}
use Rattle.std.proofs.lemmas.List.{same_lists, get_or_default, length_push, length-append, take-take}
use Rattle.std.proofs.lemmas.List.Elements.{Contains-get_or}
use Rattle.std.proofs.lemmas.List.Sums.{sum_by-cons}
use Rattle.std.proofs.lemmas.List.Sorted.{sorted_far, sum_by-IsPermutation, IsPermutation-sym, length_permutation, Contains-permutation}
use Rattle.ft_model.specs.declared.entry.Entry.{Entry}
use Rattle.ft_model.specs.declared.entry.Rule.TheVariants as rule
use Rattle.ft_model.specs.declared.entry.Storage.{Storage}
use Rattle.ft_model.specs.declared.script.ScriptParts.{ScriptParts}
use Rattle.ft_model.specs.Histories.{history_cmp, entries_of, IsLegal}
use Rattle.ft_model.specs.Judging.{IsNext}
use Rattle.ft_history.proofs.HistoryPlaces.{filter_next, filter_parts}
use Rattle.ft_history.proofs.Unbroken.{unbroken_of_legal}
use Rattle.ft_history.proofs.HistoryOrder.{history_total, history_ranks}

-- ---- counts from the front and from the back

count_front : {X : Type 0} (p : X → Bool) (xs : List X) (n : ℕ) → n ≤ length xs → ((i : ℕ) (d : X) → i < n → p (get_or xs i d) ≡ true) → n ≤ count_by p xs
count_front p xs zero within pass = omega arith
count_front p [] (suc n) within pass = absurd (omega arith)
count_front p (x ∷ xs) (suc n) within pass =
    let rest : n ≤ count_by p xs = count_front p xs n (omega arith) (λ i d low. pass (suc i) d (omega arith)) in
    let first : cond {A = ℕ} (p x) 1 0 ≡ 1 = ap (λ b. cond b 1 0) (pass 0 x (omega arith)) in
    let total : count_by p (x ∷ xs) ≡ cond {A = ℕ} (p x) 1 0 + count_by p xs = sum_by-cons (λ y. cond (p y) 1 0) x xs in
    omega arith

count_back : {X : Type 0} (p : X → Bool) (xs : List X) (n : ℕ) → ((i : ℕ) (d : X) → n ≤ i → i < length xs → p (get_or xs i d) ≡ false) → count_by p xs ≤ n
count_back p [] n fail = omega arith
count_back p (x ∷ xs) zero fail =
    let rest : count_by p xs ≤ 0 = count_back p xs 0 (λ i d high low. fail (suc i) d (omega arith) (omega arith)) in
    let first : cond {A = ℕ} (p x) 1 0 ≡ 0 = ap (λ b. cond b 1 0) (fail 0 x (omega arith) (omega arith)) in
    let total : count_by p (x ∷ xs) ≡ cond {A = ℕ} (p x) 1 0 + count_by p xs = sum_by-cons (λ y. cond (p y) 1 0) x xs in
    omega arith
count_back p (x ∷ xs) (suc n) fail =
    let rest : count_by p xs ≤ n = count_back p xs n (λ i d high low. fail (suc i) d (omega arith) (omega arith)) in
    let first : cond {A = ℕ} (p x) 1 0 ≤ 1 = elim (p x) as (λ b. cond {A = ℕ} b 1 0 ≤ 1) [ true ↦ omega arith | false ↦ omega arith ] in
    let total : count_by p (x ∷ xs) ≡ cond {A = ℕ} (p x) 1 0 + count_by p xs = sum_by-cons (λ y. cond (p y) 1 0) x xs in
    omega arith

-- ---- lists in order

abbrev less : Entry → Entry → Bool
less a b = is_lt (history_cmp a b)

-- one that is not less than another, and not alike, is greater
less_from : (a b : Entry) → less b a ≡ false → history_cmp a b ≢ Equal → less a b ≡ true
less_from a b lower differ =
    let back : history_cmp b a ≡ ordering_reverse (history_cmp a b) = history_total.antisymm b a in
    elim (history_cmp a b) as (λ o. history_cmp a b ≡ o → is_lt o ≡ true) [
      | Less ↦ λ _. refl
      | Equal ↦ λ same. absurd (differ same)
      | Greater ↦ λ same. absurd (let yes : is_lt (history_cmp b a) ≡ true = ap is_lt (back ∙ ap ordering_reverse same) in cc)
    ] refl

module _ (one other : List Entry) (moved : IsPermutation one other) (rises : IsSorted history_cmp one) (rises' : IsSorted history_cmp other) (differ : AllPairs (λ a b. history_cmp a b ≢ Equal) one) where
  -- an entry of the second list has the same place in the first
  same_place : (j : ℕ) (d : Entry) → j < length other → get_or one j d ≡ get_or other j d
  same_place j d low =
      let x = get_or other j d in
      let found = Contains-permutation other one x (IsPermutation-sym one other moved) (Contains-get_or other j d low) in
      let k : ℕ = found.0 in
      let at : get_or one k x ≡ x = found.2 in
      let here : get_or one k d ≡ x = get_or_default one k d x found.1 ∙ at in
      let before : k ≤ count_by (λ e. less e x) one =
      count_front (λ e. less e x) one k (omega (arith, found.1)) (λ i e lt. ap (λ y. less (get_or one i e) y) (sym (get_or_default one k e x found.1 ∙ at)) ∙ less_from (get_or one i e) (get_or one k e) (sorted_far less history_ranks one rises i k e (omega arith) found.1) (differ i k e lt found.1)) in
      let up_to : count_by (λ e. not (less x e)) one ≤ k + 1 =
      count_back (λ e. not (less x e)) one (k + 1) (λ i e high lt. ap not (ap (λ y. less y (get_or one i e)) (sym (get_or_default one k e x found.1 ∙ at)) ∙ less_from (get_or one k e) (get_or one i e) (sorted_far less history_ranks one rises k i e (omega arith) lt) (differ k i e (omega arith) lt))) in
      let before' : count_by (λ e. less e x) other ≤ j =
      count_back (λ e. less e x) other j (λ i e high lt. ap (λ y. less (get_or other i e) y) (get_or_default other j d e low) ∙ sorted_far less history_ranks other rises' j i e high lt) in
      let up_to' : j + 1 ≤ count_by (λ e. not (less x e)) other =
      count_front (λ e. not (less x e)) other (j + 1) (omega arith) (λ i e lt. ap not (ap (λ y. less y (get_or other i e)) (get_or_default other j d e low) ∙ sorted_far less history_ranks other rises' i j e (omega arith) low)) in
      let same : k ≡ j = omega (arith, sum_by-IsPermutation (λ e. cond (less e x) 1 0) one other moved, sum_by-IsPermutation (λ e. cond (not (less x e)) 1 0) one other moved) in
      ap (λ n. get_or one n d) (sym same) ∙ here

  pub one_order : one ≡ other
  one_order = same_lists one other (sym (length_permutation one other moved)) (λ j d low. same_place j d (omega (arith, length_permutation one other moved)))

-- ---- legal histories

then_equal : (o p : Ordering) → ordering_then o p ≡ Equal → (o ≡ Equal) × (p ≡ Equal)
then_equal Less p h = absurd (let e : Less ≡ Equal = h in cc)
then_equal Equal p h = (refl, h)
then_equal Greater p h = absurd (let e : Greater ≡ Equal = h in cc)

same_place_of_thread : (a b : Entry) → history_cmp a b ≡ Equal → (a.thread ≡ b.thread) × (a.index ≡ b.index)
same_place_of_thread a b alike =
    let after_stamp = (then_equal (nat_cmp a.stamp b.stamp) _ alike).1 in
    let after_wrote = (then_equal (bool_cmp a.wrote b.wrote) _ after_stamp).1 in
    let both = then_equal (nat_cmp a.thread b.thread) (nat_cmp a.index b.index) after_wrote in
    (exact_unsigned a.thread b.thread both.0, exact_unsigned a.index b.index both.1)

-- no two entries of a whole history are alike in the order
apart : (script : ScriptParts) (entries : List Entry) → ((place : ℕ) (entry : Entry) → slice_get entries place ≡ Some entry → IsNext script entries place entry) → AllPairs (λ a b. history_cmp a b ≢ Equal) entries
apart script entries next i j d lt low alike =
    let a : Entry = get_or entries i d in
    let b : Entry = get_or entries j d in
    let at_a : slice_get entries i ≡ Some a = slice_get-get_or entries i d (omega arith) in
    let at_b : slice_get entries j ≡ Some b = slice_get-get_or entries j d low in
    let mine = λ (e : Entry). e.thread == a.thread in
    let same = same_place_of_thread a b alike in
    let one_more : length (filter mine (take (i + 1) entries)) ≡ length (filter mine (take i entries)) + 1 =
    ap length (filter_next entries i a at_a mine ∙ ap (λ t. filter mine (take i entries) ++ cond t (a ∷ []) []) (eq-eqb a.thread a.thread refl)) ∙ length_push (filter mine (take i entries)) a in
    let front : length (filter mine (take (i + 1) entries)) ≤ length (filter mine (take j entries)) =
    omega (arith, ap length (filter_parts mine (take j entries) (i + 1)), length-append (filter mine (take (i + 1) (take j entries))) (filter mine (drop (i + 1) (take j entries))), ap (λ es. length (filter mine es)) (take-take (i + 1) j entries (omega arith))) in
    let index_b : b.index ≡ length (filter mine (take j entries)) + 1 = (next j b at_b).index ∙ ap (λ t. length (entries_of t (take j entries)) + 1) (sym same.0) in
    omega (arith, (next i a at_a).index, index_b, same.1, one_more, front)

-- a legal history is the one list of its entries in the order
pub one_legal_order : (storage : Storage) (script : ScriptParts) (one other : List Entry) → IsLegal storage script one → IsPermutation one other → IsSorted history_cmp other → one ≡ other
one_legal_order storage script one other legal moved rises = one_order one other moved legal.order rises (apart script one (λ place entry at. (unbroken_of_legal storage script one legal place rule.Whole).entry entry at))
