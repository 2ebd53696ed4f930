-- Where each thread's entries stand in the order of a history, a list of the same entries in that order has them in the same order.
use Rattle.std.proofs.Common.{◌≡◌, ◌≢◌, ℕ, ◌+◌, ◌<◌, ◌≤◌, Bool, true, false, List, length, get_or, Some, sym, ap, subst, ◌∙◌, arith, map, ◌==◌}
use Rattle.std.specs.List.{AllPairs, Contains, filter, range_with_len}
use Rattle.std.specs.List.Sorted.{IsNonDecreasingBy, IsPermutation, IsSorted}
use Rattle.std.specs.Ordering.{is_lt}
use Rattle.std.specs.Prelude.{slice_get}
use Rattle.std.specs.declared.cmp.Ordering.TheVariants.{Equal}
use Rattle.std.proofs.lemmas.Bool.{eqb-true}
use Rattle.std.proofs.lemmas.Bool.Decides.{nat_tests}
use Rattle.std.proofs.lemmas.List.Elements.{All-get_or, filter_passes}
use Rattle.std.proofs.lemmas.List.Kept.{IsSortedBy-filter}
use Rattle.std.proofs.lemmas.List.Sorted.{Contains-permutation, IsPermutation-sym}
use Rattle.std.proofs.lemmas.Option.{get_or_from_slice_get, slice_get-get_or, slice_get_within}
use Rattle.ft_model.specs.declared.entry.Entry.{Entry}
use Rattle.ft_model.specs.declared.script.ScriptParts.{ScriptParts}
use Rattle.ft_model.specs.Histories.{history_cmp, entries_of, calls_of, IsWhole}
use Rattle.ft_history.proofs.FilteredParts.{key_at}
use Rattle.ft_history.proofs.HistoryOrder.{history_ranks}
use Rattle.ft_history.proofs.OneOrder.{one_order}
use Rattle.ft_history.proofs.Permutations.{IsPermutation-filter}
use Rattle.ft_history.proofs.SortedStamps.{rank}

not_before : (a b : Entry) → rank a ≤ rank b → a.thread ≡ b.thread → a.index ≤ b.index → is_lt (history_cmp b a) ≡ false
not_before a b le mine low = grind (arith, nat_tests)

same_index : (a b : Entry) → history_cmp a b ≡ Equal → a.index ≡ b.index
same_index a b is = grind (arith, nat_tests)

-- ---- the same entries in the order of a history

module _ (entries history : List Entry) (moved : IsPermutation entries history) (sorted : IsSorted history_cmp history) where
  -- what passes a test stands in one order, if it does so without ties
  pub same_passed : (p : Entry → Bool) → IsSorted history_cmp (filter p entries) → AllPairs (λ a b. history_cmp a b ≢ Equal) (filter p entries) → filter p entries ≡ filter p history
  same_passed p rises differ = one_order (filter p entries) (filter p history) (IsPermutation-filter p entries history moved) rises (IsSortedBy-filter (λ a b. is_lt (history_cmp a b)) history_ranks p history sorted) differ

  pub still_there : (place : ℕ) (entry : Entry) → slice_get history place ≡ Some entry → (there : ℕ) × (slice_get entries there ≡ Some entry)
  still_there place entry at =
      let low : place < length history = slice_get_within history place entry at in
      let held : Contains history entry = (place, low, get_or_from_slice_get history place entry entry at) in
      let found : Contains entries entry = Contains-permutation history entries entry (IsPermutation-sym entries history moved) held in
      (found.0, slice_get-get_or entries found.0 entry found.1 ∙ ap Some found.2)

-- ---- threads

module _ (script : ScriptParts) (entries : List Entry) (whole : IsWhole script entries) (thread : ℕ) where
  index_at : (k : ℕ) (d : Entry) → k < length (entries_of thread entries) → (get_or (entries_of thread entries) k d).index ≡ 1 + k
  index_at k d low = key_at (λ (e : Entry). e.index) (entries_of thread entries) 1 (whole.indexes thread) k d low

  thread_at : (k : ℕ) (d : Entry) → k < length (entries_of thread entries) → (get_or (entries_of thread entries) k d).thread ≡ thread
  thread_at k d low = eqb-true _ _ (All-get_or (λ (e : Entry). (e.thread == thread) ≡ true) (entries_of thread entries) k d low (filter_passes (λ (e : Entry). e.thread == thread) entries))

  thread_sorted : IsNonDecreasingBy rank (entries_of thread entries) → IsSorted history_cmp (entries_of thread entries)
  thread_sorted rises k d from within =
      not_before (get_or (entries_of thread entries) k d) (get_or (entries_of thread entries) (k + 1) d)
      (rises k (k + 1) d (omega arith) within)
      (thread_at k d (omega arith) ∙ sym (thread_at (k + 1) d within))
      (omega (arith, index_at k d (omega arith), index_at (k + 1) d within))

  thread_differs : AllPairs (λ a b. history_cmp a b ≢ Equal) (entries_of thread entries)
  thread_differs i j d low within same = absurd (omega (arith, index_at i d (omega arith), index_at j d within, same_index (get_or (entries_of thread entries) i d) (get_or (entries_of thread entries) j d) same))

module _ (script : ScriptParts) (entries history : List Entry) (whole : IsWhole script entries) (rises : (thread : ℕ) → IsNonDecreasingBy rank (entries_of thread entries)) (moved : IsPermutation entries history) (sorted : IsSorted history_cmp history) where
  pub same_threads : (thread : ℕ) → entries_of thread entries ≡ entries_of thread history
  same_threads thread = same_passed entries history moved sorted (λ (e : Entry). e.thread == thread) (thread_sorted script entries whole thread (rises thread)) (thread_differs script entries whole thread)

  pub still_whole : IsWhole script history
  still_whole =
      record {
        calls = λ thread. subst (λ (es : List Entry). map (λ (e : Entry). e.call) es ≡ calls_of script thread) (same_threads thread) (whole.calls thread);
        indexes = λ thread. subst (λ (es : List Entry). map (λ (e : Entry). e.index) es ≡ range_with_len 1 (length es)) (same_threads thread) (whole.indexes thread);
      }
