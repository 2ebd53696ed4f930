-- Entries whose calls are the script's are no more than the script's calls, and leave room for serials.
use Rattle.std.proofs.Common.{◌≡◌, ℕ, suc, zero, ◌+◌, ◌<◌, ◌≤◌, true, false, cond, List, [], ◌∷◌, ◌++◌, map, length, take, Option, Some, refl, sym, ap, subst, ◌∙◌, arith, inl, inr}
use Rattle.std.specs.Prelude.{◌==◌, All, filter, slice_get, sum}
use Rattle.std.specs.Option.{option_map_or}
use Rattle.std.specs.List.{sum_by, range_with_len}
use Rattle.std.proofs.lemmas.Bool.{eq-eqb}
use Rattle.std.proofs.lemmas.Bool.Decides.{eqb_tells}
use Rattle.std.proofs.lemmas.List.{length-append, length-take-le}
use Rattle.std.proofs.lemmas.List.Elements.{All-nil, All-cons}
use Rattle.std.proofs.lemmas.List.Sums.{sum_by-cons, sum-map}
use Rattle.std.proofs.lemmas.Option.{slice_get_within, slice_get_cases}
use Rattle.ft_model.specs.declared.entry.Entry.{Entry}
use Rattle.ft_model.specs.declared.entry.Rule.TheVariants as rule
use Rattle.ft_model.specs.declared.entry.Storage.{Storage}
use Rattle.ft_model.specs.declared.script.Thread.{Thread}
use Rattle.ft_model.specs.declared.script.ScriptParts.{ScriptParts}
use Rattle.ft_model.specs.Scripts.{IsScript}
use Rattle.ft_model.specs.declared.call.Call.{Call}
use Rattle.ft_model.specs.declared.content.Content.{Content}
use Rattle.ft_model.specs.declared.cursor.Cursor.{Cursor}
use Rattle.ft_model.specs.Worlds.{starts_of, IsDeclared, HasRoom}
use Rattle.ft_model.specs.Answers.{world_by}
use Rattle.ft_model.specs.Histories.{writes, entries_of, calls_of}
use Rattle.ft_model.specs.Judging.{IsNext}
use Rattle.ft_model.proofs.FewSerials.{serials_by, room_for}
use Rattle.ft_model.proofs.Takings.{sum_both}
use Rattle.ft_history.specs.Internal.States.{world_before}
use Rattle.ft_history.specs.Internal.Steps.{IsUnbrokenBefore}
use Rattle.ft_history.proofs.HistoryPlaces.{by_places, filter_next}
use Rattle.ft_history.proofs.GoesAfterLemmas.{few_writes}

-- ---- sums over the threads of a script

pub sum_le : (f g : ℕ → ℕ) (xs : List ℕ) → ((x : ℕ) → f x ≤ g x) → sum_by f xs ≤ sum_by g xs
sum_le f g [] each = omega arith
sum_le f g (x ∷ xs) each = omega (arith, sum_by-cons f x xs, sum_by-cons g x xs, each x, sum_le f g xs each)

-- a number of a row is one of them
abbrev pub one_at : ℕ → ℕ → ℕ
one_at thread other = cond (thread == other) 1 0

one_of_row : (thread from count : ℕ) → from ≤ thread → thread < from + count → 1 ≤ sum_by (one_at thread) (range_with_len from count)
one_of_row thread from zero low high = absurd (omega arith)
one_of_row thread from (suc count) low high =
    let cons = sum_by-cons (one_at thread) from (range_with_len (from + 1) count) in
    elim (eqb_tells thread from) [
      | inl same ↦ let one : one_at thread from ≡ 1 = ap (λ b. cond b 1 0) same.0 in omega (arith, cons, one)
      | inr differ ↦ let apart = differ.1 in omega (arith, cons, one_of_row thread (from + 1) count (later thread from low apart) (omega arith))
    ]
  where
    later : (thread from : ℕ) → from ≤ thread → (thread ≡ from → ⊥) → from + 1 ≤ thread
    later thread from le apart = omega (arith, apart)

pub length-entries_of : (thread : ℕ) (entry : Entry) (entries : List Entry) → length (entries_of thread (entry ∷ entries)) ≡ one_at entry.thread thread + length (entries_of thread entries)
length-entries_of thread entry entries =
    elim (entry.thread == thread) as (λ b. length (cond b (entry ∷ filter (λ e. e.thread == thread) entries) (filter (λ e. e.thread == thread) entries)) ≡ cond b 1 0 + length (filter (λ (e : Entry). e.thread == thread) entries)) [
      | true ↦ omega arith
      | false ↦ omega arith
    ]

-- each entry is one of its thread's
pub all_counted : (entries : List Entry) (count : ℕ) → All (λ entry. entry.thread < count) entries → length entries ≤ sum_by (λ thread. length (entries_of thread entries)) (range_with_len 0 count)
all_counted [] count each = omega arith
all_counted (entry ∷ entries) count each =
    let one = one_of_row entry.thread 0 count (omega arith) (let low = each zero entry (omega arith) in omega arith) in
    let rest = all_counted entries count (λ k d low. each (suc k) d (omega arith)) in
    let both = sum_both (one_at entry.thread) (λ thread. length (entries_of thread entries)) (λ thread. length (entries_of thread (entry ∷ entries))) (range_with_len 0 count) (λ thread. length-entries_of thread entry entries) in
    omega (arith, one, rest, both)

-- a row of numbers over a list's places
pub sum_places : {X : Type 0} (f : X → ℕ) (g : ℕ → ℕ) (xs : List X) (from : ℕ) → ((k : ℕ) (x : X) → slice_get xs k ≡ Some x → g (from + k) ≡ f x) → sum_by g (range_with_len from (length xs)) ≡ sum_by f xs
sum_places f g [] from at = refl
sum_places f g (x ∷ xs) from at =
    let first : g from ≡ f x = ap g (let same : from ≡ from + 0 = omega arith in same) ∙ at zero x refl in
    let rest = sum_places f g xs (from + 1) (λ k y is. ap g (let same : from + 1 + k ≡ from + suc k = omega arith in same) ∙ at (suc k) y is) in
    omega (arith, first, rest, sum_by-cons g from (range_with_len (from + 1) (length xs)), sum_by-cons f x xs)

calls_in_all : (script : ScriptParts) → sum_by (λ thread. length (calls_of script thread)) (range_with_len 0 (length script.threads)) ≡ sum (map (λ thread. length thread.calls) script.threads)
calls_in_all script =
    sum_places (λ (thread : Thread). length thread.calls) (λ thread. length (calls_of script thread)) script.threads 0
    (λ k found at. ap (λ (n : ℕ). length (calls_of script n)) (let same : 0 + k ≡ k = omega arith in same) ∙ ap (λ (o : Option Thread). length (option_map_or (λ (f : Thread). f.calls) o [])) at)
    ∙ sym (sum-map (λ (thread : Thread). length thread.calls) script.threads)

-- ---- the entries before a place

-- where no thread has more entries than calls, each entry is of a thread of the script
pub threads_low : (script : ScriptParts) (entries : List Entry) → ((thread : ℕ) → length (entries_of thread entries) ≤ length (calls_of script thread)) → All (λ entry. entry.thread < length script.threads) entries
threads_low script [] few = All-nil _
threads_low script (entry ∷ entries) few =
    All-cons (λ (e : Entry). e.thread < length script.threads) entry entries
    (elim (slice_get_cases script.threads entry.thread).1 [
      | inl found ↦ slice_get_within script.threads entry.thread found.0 found.2
      | inr past ↦
          let none : length (calls_of script entry.thread) ≡ 0 = ap (λ (o : Option Thread). length (option_map_or (λ (f : Thread). f.calls) o [])) past.1 in
          let one : one_at entry.thread entry.thread ≡ 1 = ap (λ b. cond b 1 0) (eq-eqb entry.thread entry.thread refl) in
          absurd (omega (arith, none, one, few entry.thread, length-entries_of entry.thread entry entries))
    ])
    (threads_low script entries (λ thread. omega (arith, few thread, length-entries_of thread entry entries)))

-- a script's calls are few, and so are entries of them
pub few_of_script : (script : ScriptParts) (entries : List Entry) → IsScript script → ((thread : ℕ) → length (entries_of thread entries) ≤ length (calls_of script thread)) → length entries ≤ 500000
few_of_script script entries is few =
    let counted = all_counted entries (length script.threads) (threads_low script entries few) in
    let total = sum_le (λ thread. length (entries_of thread entries)) (λ thread. length (calls_of script thread)) (range_with_len 0 (length script.threads)) few in
    omega (arith, counted, total, calls_in_all script, is.few_calls)

-- no thread has more entries than calls
abbrev AreFew : ScriptParts → List Entry → Type 0
AreFew script entries = (thread : ℕ) → length (entries_of thread entries) ≤ length (calls_of script thread)

few_next : (script : ScriptParts) (entries : List Entry) (place : ℕ) (entry : Entry) → slice_get entries place ≡ Some entry → IsNext script entries place entry → AreFew script (take place entries) → AreFew script (take (place + 1) entries)
few_next script entries place entry at next few =
    λ thread.
    let before = few thread in
    let mine = filter_next entries place entry at (λ (e : Entry). e.thread == thread) in
    elim (eqb_tells entry.thread thread) [
      | inl same ↦
          let there : length (entries_of thread (take place entries)) < length (calls_of script thread) = subst (λ t. length (entries_of t (take place entries)) < length (calls_of script t)) same.1 (slice_get_within (calls_of script entry.thread) _ entry.call next.call) in
          let more : length (entries_of thread (take (place + 1) entries)) ≡ length (entries_of thread (take place entries)) + 1 = ap length (mine ∙ ap (λ b. entries_of thread (take place entries) ++ cond b (entry ∷ []) []) same.0) ∙ length-append (entries_of thread (take place entries)) (entry ∷ []) in
          omega arith
      | inr differ ↦
          let still : length (entries_of thread (take (place + 1) entries)) ≡ length (entries_of thread (take place entries)) + 0 = ap length (mine ∙ ap (λ b. entries_of thread (take place entries) ++ cond b (entry ∷ []) []) differ.0) ∙ length-append (entries_of thread (take place entries)) [] in
          omega arith
    ]

few_before : (storage : Storage) (script : ScriptParts) (entries : List Entry) (place : ℕ) → IsUnbrokenBefore storage script entries place → (n : ℕ) → n ≤ length entries → n ≤ place → AreFew script (take n entries)
few_before storage script entries place unbroken =
    by_places (λ n. n ≤ place → AreFew script (take n entries)) entries
    (λ low thread. omega arith)
    (λ n entry at before low. few_next script entries n entry at ((unbroken n rule.Whole (omega arith)).entry entry at) (before (omega arith)))

-- no more entries come before the first broken rule than the script has calls
pub few_entries : (storage : Storage) (script : ScriptParts) (entries : List Entry) (place : ℕ) → IsScript script → IsUnbrokenBefore storage script entries place → place ≤ length entries → place ≤ 500000
few_entries storage script entries place is unbroken within = omega (arith, few_of_script script (take place entries) is (few_before storage script entries place unbroken place within (omega arith)), length-take-le place entries within)

-- the next call has room for its serials
pub room_before : (script : ScriptParts) (entries : List Entry) (place : ℕ) (world : List Content) (hands : List (Option Cursor)) (called : Call) → place ≤ length entries → place ≤ 500000 → world ≡ world_before script entries place → IsDeclared world hands called → HasRoom world called
room_before script entries place world hands called within few is declared =
    let calls = writes (take place entries) in
    let count = few_writes entries place within in
    subst (λ w. HasRoom w called) (sym is) (room_for (world_by (starts_of script.containers) calls) hands (length calls) called (omega arith) (serials_by (starts_of script.containers) calls) (subst (λ w. IsDeclared w hands called) is declared))
