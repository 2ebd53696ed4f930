-- Entries with numbers, put in the order of a history, are a legal history; and each legal history is one of entries with numbers.
use Rattle.std.proofs.Common.{◌≡◌, ℕ, true, List, length, take, get_or, Some, ap, subst, ◌∙◌, arith, cond, ◌==◌}
use Rattle.std.specs.List.Sorted.{IsNonDecreasingBy, IsPermutation, IsSorted}
use Rattle.std.specs.Prelude.{slice_get}
use Rattle.std.proofs.lemmas.Bool.{eqb-true}
use Rattle.std.proofs.lemmas.List.Elements.{All-filter, filter_passes}
use Rattle.std.proofs.lemmas.List.Sorted.{sum_by-IsPermutation}
use Rattle.std.proofs.lemmas.Option.{get_or_from_slice_get, slice_get-get_or, slice_get_within}
use Rattle.ft_model.specs.declared.call.Call.{Call}
use Rattle.ft_model.specs.declared.entry.Entry.{Entry}
use Rattle.ft_model.specs.declared.entry.Storage.{Storage}
use Rattle.ft_model.specs.declared.script.ScriptParts.{ScriptParts}
use Rattle.ft_model.specs.Answers.{is_write}
use Rattle.ft_model.specs.Scripts.{IsScript}
use Rattle.ft_model.specs.Histories.{history_cmp, writes, entries_of, EachAt, IsAwaited, IsWhole, IsLegal}
use Rattle.ft_model.specs.Numbers.{is_number, IsRightAfter, IsMarkedAfter, IsNumberedThread, IsDone, AreNumbered, AreFitting, IsHistoryOf}
use Rattle.ft_history.proofs.RightEntries.{IsLegalAt, call_at, marked_after, passed_from, right_after}
use Rattle.ft_history.proofs.AwaitedPlaces.{known_all, known_alike, known_awaits, awaited_in_order}
use Rattle.ft_history.proofs.KeysOnce.{count_both, counted_once}
use Rattle.ft_history.proofs.FilteredParts.{passed_before}
use Rattle.ft_history.proofs.StampedLists.{written, AreStamped}
use Rattle.ft_history.proofs.NumberedChronicles.{whole, right_at, chronicle_by_numbers, fitting_by_numbers, written_by_numbers}
use Rattle.ft_history.proofs.SortedStamps.{rank, ranks_of_rising, ranks_of_sorted}
use Rattle.ft_history.proofs.ThreadOrder.{same_threads, still_there}
use Rattle.ft_history.proofs.WriteNumbers.{write_numbers}

-- ---- from entries with numbers

module _ (storage : Storage) (script : ScriptParts) (calls : List Call) (entries history : List Entry) (rule : IsScript script) (is : AreNumbered storage script calls entries) (moved : IsPermutation entries history) (sorted : IsSorted history_cmp history) where
  was_whole : IsWhole script entries
  was_whole = record { calls = λ thread. (is.done thread).made; indexes = λ thread. (is.threads thread).indexes }

  thread_ranks : (thread : ℕ) → IsNonDecreasingBy rank (entries_of thread entries)
  thread_ranks thread = ranks_of_rising (entries_of thread entries) (λ place entry at. ((is.threads thread).right place entry at).rises)

  mine_same : (thread : ℕ) → entries_of thread entries ≡ entries_of thread history
  mine_same = same_threads script entries history was_whole thread_ranks moved sorted

  still_numbered : AreNumbered storage script calls history
  still_numbered =
      record {
        threads = λ thread. subst (IsNumberedThread storage script calls thread) (mine_same thread) (is.threads thread);
        once = λ number low. sum_by-IsPermutation (λ (e : Entry). cond (is_number number e) 1 0) entries history moved ∙ is.once number low;
        done = λ thread. subst (IsDone script calls thread) (mine_same thread) (is.done thread);
        known = λ k d low.
            let entry : Entry = get_or history k d in
            let there = still_there entries history moved sorted k entry (slice_get-get_or history k d low) in
            known_alike entries history mine_same entry (known_all entries is.known there.0 entry there.1);
      }

  rises : IsNonDecreasingBy rank history
  rises = ranks_of_sorted history sorted

  wrote_by_numbers : EachAt history (λ place entry. entry.wrote ≡ is_write entry.call entry.reply)
  wrote_by_numbers place entry at = (right_at storage script calls history still_numbered rises place entry at).wrote

  awaited_by_numbers : EachAt history (IsAwaited history)
  awaited_by_numbers =
      awaited_in_order script history (whole storage script calls history still_numbered rises) rule sorted wrote_by_numbers
      (known_all history still_numbered.known)

  pub history_by_numbers : IsHistoryOf storage script calls history
  history_by_numbers =
      record {
        legal = record { order = sorted; chronicle = chronicle_by_numbers storage script calls history still_numbered rises awaited_by_numbers };
        fitting = fitting_by_numbers storage script calls history still_numbered rises;
        written = written_by_numbers storage script calls history still_numbered rises;
      }

-- ---- from a legal history

module _ (storage : Storage) (script : ScriptParts) (history : List Entry) (legal : IsLegal storage script history) (fits : AreFitting storage script history) where
  stamped : AreStamped history
  stamped place entry at = (legal.chronicle.answered place entry at).stamp

  legal_each : EachAt history (IsLegalAt storage script history)
  legal_each place entry at =
      record {
        answered = legal.chronicle.answered place entry at;
        marked = legal.chronicle.marked place entry at;
        kept = legal.chronicle.kept place entry at;
        counted = legal.chronicle.counted place entry at;
        earned = legal.chronicle.earned place entry at;
        fitting = fits place entry at;
      }

  -- what holds of each entry of the history, with those of its thread before it, holds of it among those
  among_mine : (P : List Entry → Entry → Type 0) → EachAt history (λ place entry. P (entries_of entry.thread (take place history)) entry)
      → (thread : ℕ) → EachAt (entries_of thread history) (λ k entry. P (take k (entries_of thread history)) entry)
  among_mine P each thread k entry at =
      let mine = λ (e : Entry). e.thread == thread in
      let origin = passed_from mine history k entry at in
      let own : entry.thread ≡ thread =
      eqb-true entry.thread thread (subst (λ (e : Entry). (e.thread == thread) ≡ true) (get_or_from_slice_get (entries_of thread history) k entry entry at) (filter_passes mine history k entry (slice_get_within (entries_of thread history) k entry at))) in
      let before : entries_of entry.thread (take origin.0 history) ≡ take k (entries_of thread history) =
      ap (λ t. entries_of t (take origin.0 history)) own ∙ passed_before mine history origin.0 ∙ ap (λ n. take n (entries_of thread history)) origin.2 in
      subst (λ (es : List Entry). P es entry) before (each origin.0 entry origin.1)

  wrote : EachAt history (λ place entry. entry.wrote ≡ is_write entry.call entry.reply)
  wrote place entry at = (legal.chronicle.answered place entry at).wrote

  numbers_of_legal : AreNumbered storage script (writes history) history
  numbers_of_legal =
      record {
        threads = λ thread.
            record {
              own = λ k d low. eqb-true (get_or (entries_of thread history) k d).thread thread (filter_passes (λ (e : Entry). e.thread == thread) history k d low);
              indexes = legal.chronicle.whole.indexes thread;
              numbers = All-filter (λ (e : Entry). e.thread == thread) (λ (e : Entry). e.wrote ≡ true → slice_get (writes history) e.stamp ≡ Some e.call) history (λ k d low. call_at history stamped k (get_or history k d) (slice_get-get_or history k d low));
              right = among_mine (IsRightAfter storage script (writes history)) (λ place entry at. right_after script history legal.chronicle.whole stamped wrote place entry at storage (legal_each place entry at)) thread;
            };
        once = λ number low.
            count_both (λ (e : Entry). e.wrote) (λ (e : Entry). e.stamp == number) history
            ∙ counted_once (λ (e : Entry). e.stamp) (written history) 0 (length (writes history)) (write_numbers history stamped) number (omega arith) (omega arith);
        done = λ thread.
            record {
              made = legal.chronicle.whole.calls thread;
              marked = among_mine (IsMarkedAfter script (writes history)) (λ place entry at. marked_after script history legal.chronicle.whole stamped wrote place entry at (legal.chronicle.marked place entry at)) thread;
            };
        known = λ k d low. known_awaits script history legal.chronicle.whole stamped legal.chronicle.awaited k (get_or history k d) (slice_get-get_or history k d low);
      }

pub numbers_of_history : (storage : Storage) (script : ScriptParts) (calls : List Call) (history : List Entry) → IsHistoryOf storage script calls history → AreNumbered storage script calls history
numbers_of_history storage script calls history is = subst (λ cs. AreNumbered storage script cs history) is.written (numbers_of_legal storage script history is.legal is.fitting)
