-- A chronicle that is put in the order of a history is a legal history.
use Rattle.std.proofs.Common.{◌≡◌, ◌≢◌, ℕ, ◌+◌, ◌<◌, ◌≤◌, false, List, length, take, get_or, Some, sym, ap, subst, ◌∙◌, arith, cond, map, ◌==◌}
use Rattle.std.specs.List.{AllPairs, range_with_len}
use Rattle.std.specs.List.Sorted.{IsNonDecreasingBy, IsPermutation, IsSorted}
use Rattle.std.specs.Ordering.{is_lt}
use Rattle.std.specs.Prelude.{slice_get}
use Rattle.std.specs.declared.cmp.Ordering.TheVariants.{Equal}
use Rattle.std.proofs.lemmas.Bool.Decides.{nat_tests}
use Rattle.std.proofs.lemmas.List.Kept.{IsNonDecreasingBy-filter}
use Rattle.std.proofs.lemmas.List.Sorted.{IsNonDecreasingBy-from_all_adjacent}
use Rattle.std.proofs.lemmas.Option.{slice_get-get_or}
use Rattle.ft_model.specs.declared.entry.Entry.{Entry}
use Rattle.ft_model.specs.declared.entry.Storage.{Storage}
use Rattle.ft_model.specs.declared.script.ScriptParts.{ScriptParts}
use Rattle.ft_model.specs.Answers.{is_write}
use Rattle.ft_model.specs.Scripts.{IsScript}
use Rattle.ft_model.specs.Histories.{history_cmp, writes, entries_of, EachAt, IsWhole, IsChronicle, IsLegal}
use Rattle.ft_history.proofs.Agreement.{Agree, chronicle_of_agreement}
use Rattle.ft_history.proofs.AwaitedPlaces.{AreKnown, known_alike, known_awaits, awaited_in_order}
use Rattle.ft_history.proofs.FilteredParts.{key_at}
use Rattle.ft_history.proofs.StampedLists.{written, AreStamped, count_writes}
use Rattle.ft_history.proofs.HistoryPlaces.{count_next}
use Rattle.ft_history.proofs.SortedStamps.{rank, at_most_one, count_parts, ranks_of_sorted, sorted_stamped}
use Rattle.ft_history.proofs.ThreadOrder.{same_passed, same_threads, still_there, still_whole}
use Rattle.ft_history.proofs.WriteNumbers.{write_numbers}

later : (a b : Entry) → a.stamp < b.stamp → is_lt (history_cmp b a) ≡ false
later a b lt = grind (arith, nat_tests)

same_stamp : (a b : Entry) → history_cmp a b ≡ Equal → a.stamp ≡ b.stamp
same_stamp a b is = grind (arith, nat_tests)

-- ---- lists in order

-- stamps that are right rise from reads to writes
ranks_rise : (entries : List Entry) → AreStamped entries → IsNonDecreasingBy rank entries
ranks_rise entries numbered =
    IsNonDecreasingBy-from_all_adjacent rank entries (λ k d within.
    let a = get_or entries k d in
    let b = get_or entries (k + 1) d in
    let at : slice_get entries k ≡ Some a = slice_get-get_or entries k d (omega arith) in
    let at' : slice_get entries (k + 1) ≡ Some b = slice_get-get_or entries (k + 1) d within in
    let before : a.stamp ≡ length (writes (take k entries)) = numbered k a at in
    let after : b.stamp ≡ length (writes (take k entries)) + cond a.wrote 1 0 = numbered (k + 1) b at' ∙ count_next entries k a at in
    let one : cond {A = ℕ} a.wrote 1 0 ≤ 1 = at_most_one a in
    let goal : rank a ≤ rank b = omega arith in goal)

module _ (entries : List Entry) (numbered : AreStamped entries) where
  written_keys : map (λ (e : Entry). e.stamp) (written entries) ≡ range_with_len 0 (length (written entries))
  written_keys = write_numbers entries numbered ∙ ap (range_with_len 0) (count_writes entries)

  stamp_at : (k : ℕ) (d : Entry) → k < length (written entries) → (get_or (written entries) k d).stamp ≡ 0 + k
  stamp_at k d low = key_at (λ (e : Entry). e.stamp) (written entries) 0 written_keys k d low

  written_sorted : IsSorted history_cmp (written entries)
  written_sorted k d from within = later (get_or (written entries) k d) (get_or (written entries) (k + 1) d) (omega (arith, stamp_at k d (omega arith), stamp_at (k + 1) d within))

  written_differ : AllPairs (λ a b. history_cmp a b ≢ Equal) (written entries)
  written_differ i j d low within same = absurd (omega (arith, stamp_at i d (omega arith), stamp_at j d within, same_stamp (get_or (written entries) i d) (get_or (written entries) j d) same))

  thread_ranks : (thread : ℕ) → IsNonDecreasingBy rank (entries_of thread entries)
  thread_ranks thread = IsNonDecreasingBy-filter rank (λ (e : Entry). e.thread == thread) entries (ranks_rise entries numbered)

-- ---- a chronicle and the same entries in the order of a history

pub same_written : (script : ScriptParts) (chronicle history : List Entry) → IsWhole script chronicle → AreStamped chronicle → IsPermutation chronicle history → IsSorted history_cmp history → written chronicle ≡ written history
same_written script chronicle history whole numbered moved sorted = same_passed chronicle history moved sorted (λ (e : Entry). e.wrote) (written_sorted chronicle numbered) (written_differ chronicle numbered)

module _ (storage : Storage) (script : ScriptParts) (chronicle history : List Entry) (rule : IsScript script) (is : IsChronicle storage script chronicle) (moved : IsPermutation chronicle history) (sorted : IsSorted history_cmp history) where
  stamps_right : AreStamped chronicle
  stamps_right place entry at = (is.answered place entry at).stamp

  written_stay : written chronicle ≡ written history
  written_stay = same_written script chronicle history is.whole stamps_right moved sorted

  history_stamp_at : (k : ℕ) (d : Entry) → k < length (written history) → (get_or (written history) k d).stamp ≡ k
  history_stamp_at k d low =
      ap (λ (es : List Entry). (get_or es k d).stamp) (sym written_stay) ∙ stamp_at chronicle stamps_right k d (subst (λ (es : List Entry). k < length es) (sym written_stay) low) ∙ omega arith

  history_bound : (place : ℕ) (entry : Entry) → slice_get history place ≡ Some entry → entry.stamp ≤ length (written history)
  history_bound place entry at =
      let there = still_there chronicle history moved sorted place entry at in
      omega (arith, stamps_right there.0 entry there.1, count_writes (take there.0 chronicle), count_parts chronicle there.0, ap length written_stay)

  agreement : Agree script chronicle history
  agreement =
      record {
        one_whole = is.whole;
        other_whole = still_whole script chronicle history is.whole (thread_ranks chronicle stamps_right) moved sorted;
        one_numbered = stamps_right;
        other_numbered = sorted_stamped history (ranks_of_sorted history sorted) history_stamp_at history_bound;
        same_writes = written_stay;
        same_threads = same_threads script chronicle history is.whole (thread_ranks chronicle stamps_right) moved sorted;
        found = still_there chronicle history moved sorted;
      }

  pub legal_when_sorted : IsLegal storage script history
  legal_when_sorted =
      let known : AreKnown chronicle = known_awaits script chronicle is.whole stamps_right is.awaited in
      let still : AreKnown history = λ place entry at.
      let there = still_there chronicle history moved sorted place entry at in
      known_alike chronicle history agreement.same_threads entry (known there.0 entry there.1) in
      let wrote : EachAt history (λ place entry. entry.wrote ≡ is_write entry.call entry.reply) = λ place entry at.
      let there = still_there chronicle history moved sorted place entry at in
      (is.answered there.0 entry there.1).wrote in
      record { order = sorted; chronicle = chronicle_of_agreement storage script chronicle history agreement (awaited_in_order script history agreement.other_whole rule sorted wrote still) is }
