-- Entries with numbers whose ranks never fall are a chronicle, and its writes are the calls in the order of their numbers.
use Rattle.std.proofs.Common.{◌≡◌, ℕ, ◌<◌, true, List, length, take, get_or, Some, refl, sym, ap, subst, ◌∙◌, arith, inl, inr, map, ◌==◌}
use Rattle.std.specs.List.{All, count_by, range_with_len}
use Rattle.std.specs.List.Sorted.{IsNonDecreasingBy}
use Rattle.std.specs.Prelude.{slice_get}
use Rattle.std.proofs.lemmas.Bool.{eq-eqb}
use Rattle.std.proofs.lemmas.List.{get_or-map, length-map, same_lists}
use Rattle.std.proofs.lemmas.List.Elements.{All-contains, All-filter, filter_passes}
use Rattle.std.proofs.lemmas.List.FromFn.{length-range_with_len}
use Rattle.std.proofs.lemmas.List.Kept.{IsNonDecreasingBy-filter}
use Rattle.std.proofs.lemmas.Option.{get_or_from_slice_get, slice_get-get_or, slice_get_cases, slice_get_within}
use Rattle.ft_model.specs.declared.call.Call.{Call}
use Rattle.ft_model.specs.declared.entry.Entry.{Entry}
use Rattle.ft_model.specs.declared.entry.Storage.{Storage}
use Rattle.ft_model.specs.declared.script.ScriptParts.{ScriptParts}
use Rattle.ft_model.specs.Histories.{writes, entries_of, EachAt, IsAwaited, IsWhole, IsChronicle}
use Rattle.ft_model.specs.Numbers.{IsRightAfter, IsMarkedAfter, AreNumbered, AreFitting}
use Rattle.ft_history.proofs.RightEntries.{IsLegalAt, legal_at}
use Rattle.ft_history.proofs.KeysOnce.{count_both, keys_in_range}
use Rattle.ft_history.proofs.FilteredParts.{key_at, passed_at, passed_before}
use Rattle.ft_history.proofs.StampedLists.{written, AreStamped, count_writes}
use Rattle.ft_history.proofs.SortedStamps.{rank, sorted_stamped, stamp_below}

module _ (storage : Storage) (script : ScriptParts) (calls : List Call) (entries : List Entry) (is : AreNumbered storage script calls entries) (rises : IsNonDecreasingBy rank entries) where
  pub whole : IsWhole script entries
  whole = record { calls = λ thread. (is.done thread).made; indexes = λ thread. (is.threads thread).indexes }

  -- what holds of each entry of a thread, with those before it, holds of it among all
  among_all : (P : List Entry → Entry → Type 0) → ((thread : ℕ) → EachAt (entries_of thread entries) (λ k entry. P (take k (entries_of thread entries)) entry))
      → EachAt entries (λ place entry. P (entries_of entry.thread (take place entries)) entry)
  among_all P each place entry at =
      let k = length (entries_of entry.thread (take place entries)) in
      let there : slice_get (entries_of entry.thread entries) k ≡ Some entry = passed_at (λ (e : Entry). e.thread == entry.thread) entries place entry at (eq-eqb entry.thread entry.thread refl) in
      let before : take k (entries_of entry.thread entries) ≡ entries_of entry.thread (take place entries) = sym (passed_before (λ (e : Entry). e.thread == entry.thread) entries place) in
      subst (λ (es : List Entry). P es entry) before (each entry.thread k entry there)

  pub right_at : EachAt entries (λ place entry. IsRightAfter storage script calls (entries_of entry.thread (take place entries)) entry)
  right_at = among_all (IsRightAfter storage script calls) (λ thread. (is.threads thread).right)

  number_at : (place : ℕ) (entry : Entry) → slice_get entries place ≡ Some entry → entry.wrote ≡ true → slice_get calls entry.stamp ≡ Some entry.call
  number_at place entry at =
      let mine = entries_of entry.thread entries in
      let k = length (entries_of entry.thread (take place entries)) in
      let there : slice_get mine k ≡ Some entry = passed_at (λ (e : Entry). e.thread == entry.thread) entries place entry at (eq-eqb entry.thread entry.thread refl) in
      All-contains (λ (e : Entry). e.wrote ≡ true → slice_get calls e.stamp ≡ Some e.call) mine entry (is.threads entry.thread).numbers (k, slice_get_within mine k entry there, get_or_from_slice_get mine k entry entry there)

  numbers : All (λ x. slice_get calls x.stamp ≡ Some x.call) (written entries)
  numbers k d low =
      All-filter (λ (e : Entry). e.wrote) (λ x. x.wrote ≡ true → slice_get calls x.stamp ≡ Some x.call) entries
      (λ i e within. number_at i (get_or entries i e) (slice_get-get_or entries i e within)) k d low
      (filter_passes (λ (e : Entry). e.wrote) entries k d low)

  written_stamps : IsNonDecreasingBy (λ (e : Entry). e.stamp) (written entries)
  written_stamps i j d le within =
      stamp_below (get_or (written entries) i d) (get_or (written entries) j d) (IsNonDecreasingBy-filter rank (λ (e : Entry). e.wrote) entries rises i j d le within)

  once : (number : ℕ) → number < length calls → count_by (λ (e : Entry). e.stamp == number) (written entries) ≡ 1
  once number low = sym (count_both (λ (e : Entry). e.wrote) (λ (e : Entry). e.stamp == number) entries) ∙ is.once number low

  keys : map (λ (e : Entry). e.stamp) (written entries) ≡ range_with_len 0 (length calls)
  keys =
      keys_in_range (λ (e : Entry). e.stamp) (written entries) 0 (length calls) written_stamps (λ k d low. omega arith)
      (λ k d low. let within = slice_get_within calls (get_or (written entries) k d).stamp (get_or (written entries) k d).call (numbers k d low) in omega arith)
      (λ number low high. once number (omega arith))

  count_calls : length (written entries) ≡ length calls
  count_calls = sym (length-map (written entries) (λ (e : Entry). e.stamp)) ∙ ap length keys ∙ length-range_with_len 0 (length calls)

  stamp_at : (k : ℕ) (d : Entry) → k < length (written entries) → (get_or (written entries) k d).stamp ≡ k
  stamp_at k d low = key_at (λ (e : Entry). e.stamp) (written entries) 0 (keys ∙ ap (range_with_len 0) (sym count_calls)) k d low ∙ omega arith

  -- the writes are the calls, in the order of their numbers
  pub written_by_numbers : writes entries ≡ calls
  written_by_numbers =
      same_lists (writes entries) calls (count_writes entries ∙ count_calls) (λ k d low.
      let within : k < length (written entries) = omega (arith, count_writes entries) in
      elim (slice_get_cases (written entries) k).1 [
        | inl found ↦
            let x : Entry = found.0 in
            let here : get_or (written entries) k x ≡ x = found.3 in
            let stamp : x.stamp ≡ k = ap (λ (e : Entry). e.stamp) (sym here) ∙ stamp_at k x within in
            let number : slice_get calls x.stamp ≡ Some x.call = subst (λ (e : Entry). slice_get calls e.stamp ≡ Some e.call) here (numbers k x within) in
            get_or-map (λ (e : Entry). e.call) (written entries) k x d within ∙ ap (λ (e : Entry). e.call) here
            ∙ sym (get_or_from_slice_get calls k x.call d (ap (slice_get calls) (sym stamp) ∙ number))
        | inr past ↦ absurd (omega (arith, past.0))
      ])

  numbered : AreStamped entries
  numbered = sorted_stamped entries rises stamp_at (λ place entry at. omega (arith, count_calls, (right_at place entry at).within))

  each : EachAt entries (IsLegalAt storage script entries)
  each place entry at =
      let before = entries_of entry.thread (take place entries) in
      legal_at script entries whole numbered (λ place' entry' at'. (right_at place' entry' at').wrote) place entry at storage
      (subst (λ cs. IsRightAfter storage script cs before entry) (sym written_by_numbers) (right_at place entry at))
      (subst (λ cs. IsMarkedAfter script cs before entry) (sym written_by_numbers) (among_all (IsMarkedAfter script calls) (λ thread. (is.done thread).marked) place entry at))

  pub chronicle_by_numbers : EachAt entries (IsAwaited entries) → IsChronicle storage script entries
  chronicle_by_numbers awaited =
      record {
        whole = whole;
        awaited = awaited;
        answered = λ place entry at. (each place entry at).answered;
        marked = λ place entry at. (each place entry at).marked;
        kept = λ place entry at. (each place entry at).kept;
        counted = λ place entry at. (each place entry at).counted;
        earned = λ place entry at. (each place entry at).earned;
      }

  pub fitting_by_numbers : AreFitting storage script entries
  fitting_by_numbers place entry at = (each place entry at).fitting
