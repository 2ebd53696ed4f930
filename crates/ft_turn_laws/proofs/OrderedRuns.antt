-- Entries with numbers in the order in which the machine of turns has their answers are a run in that order.
use Rattle.std.proofs.Common.{◌≡◌, ℕ, zero, suc, ◌+◌, ◌<◌, ◌≤◌, Bool, true, false, List, [], ◌∷◌, ◌++◌, get_or, length, map, take, Option, None, Some, refl, sym, ap, subst, ◌∙◌, arith, cond, inl, inr, ◌==◌}
use Rattle.std.specs.List.{All, filter, flat_map, range_with_len}
use Rattle.std.specs.List.Sorted.{IsPermutation}
use Rattle.std.specs.Option.{option_map, option_map_or}
use Rattle.std.specs.Prelude.{◌⊎◌, slice_get, slice_index_or}
use Rattle.std.proofs.lemmas.Bool.{cases_lt, eq-eqb, eqb-true, ne_eqb}
use Rattle.std.proofs.lemmas.List.{get_or-map, get_or-take, get_or_past, length-map, length-take}
use Rattle.std.proofs.lemmas.List.Elements.{All-head, All-tail, filter_passes}
use Rattle.std.proofs.lemmas.List.FromFn.{fill_by_all, get_or-range_with_len, length-range_with_len}
use Rattle.std.proofs.lemmas.List.Sorted.{IsPermutation-trans, sum_by-IsPermutation}
use Rattle.std.proofs.lemmas.Option.{get_or_from_slice_get, none-some, same_Some, slice_get-get_or, slice_get-map, slice_get_past, slice_get_within}
use Rattle.ft_model.specs.declared.call.Call.{Call}
use Rattle.ft_model.specs.declared.entry.Entry.{Entry}
use Rattle.ft_model.specs.declared.entry.Storage.{Storage}
use Rattle.ft_model.specs.declared.script.ScriptParts.{ScriptParts}
use Rattle.ft_model.specs.declared.script.Thread.{Thread}
use Rattle.ft_model.specs.Histories.{calls_of, entries_of, IsWhole}
use Rattle.ft_model.specs.Numbers.{AreDone, AreNumbered, AreNumberedLists, IsDone, IsNumberedThread, KnowsAwaited, is_number, number_after}
use Rattle.ft_model.specs.Scripts.{IsScript}
use Rattle.ft_history.proofs.FilteredParts.{key_at, passed_at}
use Rattle.ft_history.proofs.ThreadLists.{no_entries}
use Rattle.ft_turns.specs.Orders.{IsOrderRun, Machine, last_machine, order_of, ordered_entry, ordered_in, start_machine, thread_at, turns_of}
use Rattle.ft_turns.specs.Ends.{places_of}
use Rattle.ft_turns.proofs.AllCallsFinish.{turns_go_on}
use Rattle.ft_turns.proofs.AwaitedFirst.{awaited_in_turns}
use Rattle.ft_turns.proofs.MachineSteps.{IsKeptBySteps, there, turns_keep}
use Rattle.ft_turn_laws.specs.RisingEntries.{AreRising}
use Rattle.ft_turn_laws.specs.Runs.{AnsweredEntriesAreOrderRuns, AreAnsweredBy, entry_answered, no_entry}
use Rattle.ft_turn_laws.proofs.Grouped.{filter_same, of_lists}
use Rattle.ft_turn_laws.proofs.RisingEntries.{rising_entries}

-- ---- lists

filter_of_map : {X Y : Type 0} (p : Y → Bool) (f : X → Y) (xs : List X) → filter p (map f xs) ≡ map f (filter (λ x. p (f x)) xs)
filter_of_map p f [] = refl
filter_of_map p f (x ∷ xs) =
    elim (p (f x)) as (λ b. cond b (f x ∷ filter p (map f xs)) (filter p (map f xs)) ≡ map f (cond b (x ∷ filter (λ y. p (f y)) xs) (filter (λ y. p (f y)) xs))) [
      | true ↦ ap (λ ys. f x ∷ ys) (filter_of_map p f xs)
      | false ↦ filter_of_map p f xs
    ]

map_same : {X Y : Type 0} (f g : X → Y) (xs : List X) → All (λ x. f x ≡ g x) xs → map f xs ≡ map g xs
map_same f g [] same = refl
map_same f g (x ∷ xs) same = ap (λ y. y ∷ map f xs) (All-head (λ y. f y ≡ g y) x xs same) ∙ ap (λ ys. g x ∷ ys) (map_same f g xs (All-tail (λ y. f y ≡ g y) x xs same))

map_map : {X Y Z : Type 0} (g : Y → Z) (f : X → Y) (xs : List X) → map g (map f xs) ≡ map (λ x. g (f x)) xs
map_map g f [] = refl
map_map g f (x ∷ xs) = ap (λ ys. g (f x) ∷ ys) (map_map g f xs)

filter_none : {X : Type 0} (p : X → Bool) (xs : List X) → All (λ x. p x ≡ false) xs → filter p xs ≡ []
filter_none p [] fail = refl
filter_none p (x ∷ xs) fail =
    ap (λ b. cond b (x ∷ filter p xs) (filter p xs)) (All-head (λ y. p y ≡ false) x xs fail) ∙ filter_none p xs (All-tail (λ y. p y ≡ false) x xs fail)

-- what holds at each place holds of all
all_at : {X : Type 0} (P : X → Type 0) (xs : List X) → ((place : ℕ) (x : X) → slice_get xs place ≡ Some x → P x) → All P xs
all_at P xs each k d within = each k (get_or xs k d) (slice_get-get_or xs k d within)

-- ---- the threads of the answers

-- the answers are of threads of the script
abbrev AreThreads : ScriptParts → Machine → Type 0
AreThreads script machine = (place : ℕ) (one : ℕ × ℕ) → slice_get machine.answered place ≡ Some one → one.0 < length script.threads

-- the element at a place of a list that one was appended to
pub push_cases : {X : Type 0} (xs : List X) (x one : X) (place : ℕ) → slice_get (xs ++ x ∷ []) place ≡ Some one → (slice_get xs place ≡ Some one) ⊎ ((place ≡ length xs) × (x ≡ one))
push_cases [] x one zero at = inr (refl, same_Some x one at)
push_cases [] x one (suc place) at = absurd (none-some one at)
push_cases (y ∷ ys) x one zero at = inl at
push_cases (y ∷ ys) x one (suc place) at = elim (push_cases ys x one place at) [ inl before ↦ inl before | inr last ↦ inr (ap suc last.0, last.1) ]

pushed : (n : ℕ) (xs : List (ℕ × ℕ)) (x : ℕ × ℕ) → x.0 < n → ((place : ℕ) (one : ℕ × ℕ) → slice_get xs place ≡ Some one → one.0 < n) → (place : ℕ) (one : ℕ × ℕ) → slice_get (xs ++ x ∷ []) place ≡ Some one → one.0 < n
pushed n xs x low each place one at =
    elim (push_cases xs x one place at) [
      | inl before ↦ each place one before
      | inr last ↦ subst (λ (a : ℕ × ℕ). a.0 < n) last.1 low
    ]

pub threads_keep : (script : ScriptParts) → IsKeptBySteps script (AreThreads script)
threads_keep script = record {
  waits = λ machine thread called fixed containers found try finds are. are;
  answers = λ machine thread called containers try finds are. pushed (length script.threads) machine.answered (thread, length (thread_at machine thread).marks) (there script thread (thread_at machine thread) called try.next) are;
  finishes = λ machine thread called containers try finds are. are;
}

-- ---- the entries of the answers

module _ (storage : Storage) (script : ScriptParts) (calls : List Call) (lists : List (List Entry)) (history : List Entry) (rule : IsScript script)
    (is : AreNumberedLists storage script calls lists) (done : AreDone script calls lists) (answered : AreAnsweredBy (last_machine script) lists)
    (moved : IsPermutation (flat_map (λ (mine : List Entry). mine) lists) history) where
  abbrev order : List (ℕ × ℕ)
  order = (last_machine script).answered

  abbrev at_place : ℕ × ℕ → Entry
  at_place = entry_answered lists

  abbrev list_of : ℕ → List Entry
  list_of thread = get_or lists thread []

  abbrev ThreadIs : ℕ × ℕ → ℕ → Type 0
  ThreadIs one thread = one.0 ≡ thread

  low_threads : AreThreads script (last_machine script)
  low_threads = turns_keep script (AreThreads script) (threads_keep script) (start_machine script) (turns_of script) (λ place one at. absurd (none-some one at))

  mine_at : (thread : ℕ) → thread < length script.threads → slice_get lists thread ≡ Some (list_of thread)
  mine_at thread low = slice_get-get_or lists thread [] (let count = is.count in omega arith)

  mine_length : (thread : ℕ) → thread < length script.threads → length (list_of thread) ≡ length (calls_of script thread)
  mine_length thread low = sym (length-map (list_of thread) (λ (e : Entry). e.call)) ∙ ap length (done.threads thread (list_of thread) (mine_at thread low)).made

  -- each answer has its entry
  place_low : (place : ℕ) (one : ℕ × ℕ) → slice_get order place ≡ Some one → one.1 < length (list_of one.0)
  place_low place one at =
      let low = low_threads place one at in
      let count = length (calls_of script one.0) in
      let k = length (filter (λ (a : ℕ × ℕ). a.0 == one.0) (take place order)) in
      let here : slice_get (filter (λ (a : ℕ × ℕ). a.0 == one.0) order) k ≡ Some one = passed_at (λ (a : ℕ × ℕ). a.0 == one.0) order place one at (eq-eqb one.0 one.0 refl) in
      let there : slice_get (places_of one.0 order) k ≡ Some one.1 = slice_get-map (λ (a : ℕ × ℕ). a.1) (filter (λ (a : ℕ × ℕ). a.0 == one.0) order) k ∙ ap (option_map (λ (a : ℕ × ℕ). a.1)) here in
      let in_range : slice_get (range_with_len 0 count) k ≡ Some one.1 = ap (λ (ns : List ℕ). slice_get ns k) (sym ((turns_go_on script rule).answered one.0 low)) ∙ there in
      let below : k < length (range_with_len 0 count) = slice_get_within (range_with_len 0 count) k one.1 in_range in
      let within : k < count = omega (arith, length-range_with_len 0 count) in
      let number : one.1 ≡ 0 + k = sym (get_or_from_slice_get (range_with_len 0 count) k one.1 0 in_range) ∙ get_or-range_with_len 0 count k 0 within in
      omega (arith, mine_length one.0 low)

  thread_is : (place : ℕ) (one : ℕ × ℕ) → slice_get order place ≡ Some one → (at_place one).thread ≡ one.0
  thread_is place one at = (is.threads one.0 (list_of one.0) (mine_at one.0 (low_threads place one at))).own one.1 no_entry (place_low place one at)

  abbrev chronicle : List Entry
  chronicle = map at_place order

  -- the entries of a thread are its list
  pub entries_are : (thread : ℕ) → thread < length script.threads → entries_of thread chronicle ≡ list_of thread
  entries_are thread low =
      let mine = filter (λ (a : ℕ × ℕ). a.0 == thread) order in
      let count = length (calls_of script thread) in
      filter_of_map (λ (e : Entry). e.thread == thread) at_place order
      ∙ (ap (map at_place) (filter_same (λ (a : ℕ × ℕ). (at_place a).thread == thread) (λ (a : ℕ × ℕ). a.0 == thread) order (all_at (λ (a : ℕ × ℕ). ((at_place a).thread == thread) ≡ (a.0 == thread)) order (λ place one at. ap (λ n. n == thread) (thread_is place one at))))
      ∙ (map_same at_place (λ (a : ℕ × ℕ). at_place (thread, a.1)) mine (λ k d within. ap (λ n. at_place (n, (get_or mine k d).1)) (eqb-true (get_or mine k d).0 thread (filter_passes (λ (a : ℕ × ℕ). a.0 == thread) order k d within)))
      ∙ (sym (map_map (λ i. at_place (thread, i)) (λ (a : ℕ × ℕ). a.1) mine)
      ∙ (ap (map (λ i. at_place (thread, i))) ((turns_go_on script rule).answered thread low)
      ∙ sym (fill_by_all (λ i. at_place (thread, i)) (list_of thread) count no_entry (mine_length thread low) (λ k within. refl))))))

  keys_low : All (λ (e : Entry). e.thread < length lists) chronicle
  keys_low k d within =
      let low : k < length order = omega (arith, length-map order at_place) in
      let at : slice_get order k ≡ Some (get_or order k (0, 0)) = slice_get-get_or order k (0, 0) low in
      let one = get_or order k (0, 0) in
      let here : get_or chronicle k d ≡ at_place one = get_or-map at_place order k (0, 0) d low in
      let thread : (get_or chronicle k d).thread ≡ one.0 = ap (λ (e : Entry). e.thread) here ∙ thread_is k one at in
      let count = is.count in
      let below = low_threads k one at in
      omega arith

  to_lists : IsPermutation chronicle (flat_map (λ (mine : List Entry). mine) lists)
  to_lists = of_lists (λ (e : Entry). e.thread) chronicle lists keys_low (λ thread low. entries_are thread (let count = is.count in omega arith))

  none_past : (thread : ℕ) → length script.threads ≤ thread → entries_of thread chronicle ≡ []
  none_past thread past =
      filter_none (λ (e : Entry). e.thread == thread) chronicle (λ k d within.
      let low : (get_or chronicle k d).thread < length lists = keys_low k d within in
      let count = is.count in
      ne_eqb (get_or chronicle k d).thread thread (λ same. absurd (omega arith)))

  lists_are : ◌≡◌ {A = ℕ → List Entry} (λ thread. get_or lists thread []) (λ thread. entries_of thread chronicle)
  lists_are = λ i thread. each thread i
    where
      each : (thread : ℕ) → get_or lists thread [] ≡ entries_of thread chronicle
      each thread =
          elim (cases_lt thread (length script.threads)) [
            | inl low ↦ sym (entries_are thread low)
            | inr past ↦ get_or_past lists thread [] (let count = is.count in omega arith) ∙ sym (none_past thread past)
          ]

  -- what holds of each list, and of none, holds of each thread's entries
  of_thread : (P : ℕ → List Entry → Type 0) → ((thread : ℕ) (mine : List Entry) → slice_get lists thread ≡ Some mine → P thread mine) → ((thread : ℕ) → length script.threads ≤ thread → P thread []) → (thread : ℕ) → P thread (entries_of thread chronicle)
  of_thread P each none thread =
      elim (cases_lt thread (length script.threads)) [
        | inl low ↦ subst (P thread) (sym (entries_are thread low)) (each thread (list_of thread) (mine_at thread low))
        | inr past ↦ subst (P thread) (sym (none_past thread past)) (none thread past)
      ]

  numbered : AreNumbered storage script calls chronicle
  numbered =
      record {
        threads = of_thread (IsNumberedThread storage script calls) is.threads (λ thread past. no_entries storage script calls thread);
        once = λ number low. sym (sum_by-IsPermutation (λ (e : Entry). cond (is_number number e) 1 0) chronicle (flat_map (λ (mine : List Entry). mine) lists) to_lists) ∙ is.once number low;
        done = of_thread (IsDone script calls) done.threads (λ thread past.
            record {
              made = sym (ap (λ (o : Option Thread). option_map_or (λ (found : Thread). found.calls) o []) (slice_get_past script.threads thread past));
              marked = λ k entry at. absurd (none-some entry at);
            });
        known = λ k d within.
            let low : k < length order = omega (arith, within, length-map order at_place) in
            let one = get_or order k (0, 0) in
            let at : slice_get order k ≡ Some one = slice_get-get_or order k (0, 0) low in
            let here : get_or chronicle k d ≡ at_place one = get_or-map at_place order k (0, 0) d low in
            let listed : one.0 < length lists = (let count = is.count in let below = low_threads k one at in omega arith) in
            let knows : KnowsAwaited (λ thread. get_or lists thread []) (at_place one) (at_place one).call = done.known one.0 [] listed one.1 no_entry (place_low k one at) in
            subst (λ (e : Entry). KnowsAwaited (λ thread. entries_of thread chronicle) e e.call) (sym here)
            (subst (λ (made : ℕ → List Entry). KnowsAwaited made (at_place one) (at_place one).call) lists_are knows);
      }

  rising : AreRising chronicle
  rising place entry at k d within =
      let low : place < length order = omega (arith, slice_get_within chronicle place entry at, length-map order at_place) in
      let before : k < place = omega (arith, within, length-take place chronicle) in
      let earlier = get_or order k (0, 0) in
      let later = get_or order place (0, 0) in
      let first : get_or (take place chronicle) k d ≡ at_place earlier = get_or-take place chronicle k d before ∙ get_or-map at_place order k (0, 0) d (omega arith) in
      let second : entry ≡ at_place later = sym (get_or_from_slice_get chronicle place entry entry at) ∙ get_or-map at_place order place (0, 0) entry low in
      subst (λ (e : Entry). number_after e ≤ entry.stamp) (sym first)
      (subst (λ (e : Entry). number_after (at_place earlier) ≤ e.stamp) (sym second)
      (answered.rising k place earlier later before (slice_get-get_or order k (0, 0) (omega arith)) (slice_get-get_or order place (0, 0) low)))

  same_order : map ordered_entry chronicle ≡ order_of script
  same_order =
      map_map ordered_entry at_place order
      ∙ map_same (λ one. ordered_entry (at_place one)) (ordered_in (last_machine script)) order (all_at (λ one. ordered_entry (at_place one) ≡ ordered_in (last_machine script) one) order ordered)
    where
      ordered : (place : ℕ) (one : ℕ × ℕ) → slice_get order place ≡ Some one → ordered_entry (at_place one) ≡ ordered_in (last_machine script) one
      ordered place one at =
          let mine = list_of one.0 in
          let here = mine_at one.0 (low_threads place one at) in
          let low = place_low place one at in
          let thread = thread_is place one at in
          let index : (at_place one).index ≡ one.1 + 1 = key_at (λ (e : Entry). e.index) mine 1 (is.threads one.0 mine here).indexes one.1 no_entry low ∙ omega arith in
          let waited : (at_place one).waited ≡ slice_index_or (thread_at (last_machine script) one.0).marks one.1 None =
          sym (get_or-map (λ (e : Entry). e.waited) mine one.1 no_entry None low) ∙ ap (λ marks. slice_index_or marks one.1 None) (answered.marks one.0 mine here) in
          cc

  whole : IsWhole script chronicle
  whole = record { calls = λ thread. (numbered.done thread).made; indexes = λ thread. (numbered.threads thread).indexes }

  run_in_order : IsOrderRun storage script history
  run_in_order =
      record {
        chronicle = chronicle;
        same = IsPermutation-trans chronicle (flat_map (λ (mine : List Entry). mine) lists) history to_lists moved;
        order = same_order;
        chronicled = rising_entries storage script calls chronicle numbered rising (awaited_in_turns script rule chronicle whole same_order);
      }

pub order_runs : AnsweredEntriesAreOrderRuns
order_runs = run_in_order
