-- Entries with numbers, one more at a time.
use Rattle.std.proofs.Common.{◌≡◌, ◌≢◌, ℕ, zero, suc, ◌+◌, ◌<◌, ◌≤◌, Bool, true, false, ◌&&◌, List, [], ◌∷◌, ◌++◌, length, take, replicate, get_or, Some, None, refl, sym, ap, subst, ◌∙◌, arith, cond, inl, inr, set, ◌==◌}
use Rattle.std.specs.List.{All, count_by, range_with_len}
use Rattle.std.specs.Prelude.{slice_get, ◌⊎◌}
use Rattle.std.proofs.lemmas.Bool.{cases_order, eq-eqb, ne_eqb}
use Rattle.std.proofs.lemmas.List.{get_or-replicate, length-replicate, length-set, length_push, map_push, take-append-le, take_at}
use Rattle.std.proofs.lemmas.List.Elements.{All-append, All-nil, All-push, All-weaker}
use Rattle.std.proofs.lemmas.List.Sums.{sum_by-append, sum_by_push}
use Rattle.std.proofs.lemmas.Option.{get_or_from_slice_get, slice_get_within}
use Rattle.ft_model.specs.declared.call.Call.{Call}
use Rattle.ft_model.specs.declared.entry.Entry.{Entry}
use Rattle.ft_model.specs.declared.entry.Storage.{Storage}
use Rattle.ft_model.specs.declared.script.ScriptParts.{ScriptParts}
use Rattle.ft_model.specs.Numbers.{is_number, calls_after, IsRightAfter, IsNumberedThread, AreNumberedLists, IsNextEntry}
use Rattle.ft_history.proofs.KeysOnce.{none_counted}
use Rattle.ft_history.proofs.LaterNumbers.{right_stays}
use Rattle.ft_history.proofs.HistoryPlaces.{slice_get_at, slice_get_left, slice_get_push}
use Rattle.ft_history.proofs.ThreadLists.{flat, no_entries}
use Rattle.ft_history.proofs.Unbroken.{range_push}

-- ---- lists

slice_get-set : {X : Type 0} (xs : List X) (i : ℕ) (y : X) (k : ℕ) (x : X) → slice_get (set xs i y) k ≡ Some x → ((k ≡ i) × (y ≡ x)) ⊎ ((k ≢ i) × (slice_get xs k ≡ Some x))
slice_get-set [] i y k x at = absurd (let none : None ≡ Some x = at in cc)
slice_get-set (z ∷ xs) zero y zero x at = inl (refl, let same : y ≡ x = cc in same)
slice_get-set (z ∷ xs) zero y (suc k) x at = inr (λ is. omega arith, at)
slice_get-set (z ∷ xs) (suc i) y zero x at = inr (λ is. omega arith, at)
slice_get-set (z ∷ xs) (suc i) y (suc k) x at = elim (slice_get-set xs i y k x at) [
  | inl same ↦ inl (ap suc same.0, same.1)
  | inr other ↦ inr (λ is. other.0 (omega arith), other.1)
]

-- one more entry in one of the lists
count_more : (p : Entry → Bool) (lists : List (List Entry)) (thread : ℕ) (mine : List Entry) (entry : Entry) → slice_get lists thread ≡ Some mine
    → count_by p (flat (set lists thread (mine ++ entry ∷ []))) ≡ count_by p (flat lists) + cond {A = ℕ} (p entry) 1 0
count_more p [] thread mine entry at = absurd (let none : None ≡ Some mine = at in cc)
count_more p (first ∷ lists) zero mine entry at =
    let same : first ≡ mine = cc in
    let old : count_by p (first ++ flat lists) ≡ count_by p first + count_by p (flat lists) = sum_by-append (λ e. cond (p e) 1 0) first (flat lists) in
    let new : count_by p ((mine ++ entry ∷ []) ++ flat lists) ≡ count_by p (mine ++ entry ∷ []) + count_by p (flat lists) = sum_by-append (λ e. cond (p e) 1 0) (mine ++ entry ∷ []) (flat lists) in
    omega (arith, old, new, sum_by_push (λ e. cond (p e) 1 0) mine entry, ap (count_by p) same)
count_more p (first ∷ lists) (suc thread) mine entry at =
    let old : count_by p (first ++ flat lists) ≡ count_by p first + count_by p (flat lists) = sum_by-append (λ e. cond (p e) 1 0) first (flat lists) in
    let new : count_by p (first ++ flat (set lists thread (mine ++ entry ∷ []))) ≡ count_by p first + count_by p (flat (set lists thread (mine ++ entry ∷ []))) = sum_by-append (λ e. cond (p e) 1 0) first (flat (set lists thread (mine ++ entry ∷ []))) in
    omega (arith, old, new, count_more p lists thread mine entry at)

all_flat : (P : Entry → Type 0) (lists : List (List Entry)) → ((k : ℕ) (mine : List Entry) → slice_get lists k ≡ Some mine → All P mine) → All P (flat lists)
all_flat P [] each = All-nil P
all_flat P (mine ∷ lists) each = All-append P mine (flat lists) (each 0 mine refl) (all_flat P lists (λ k other at. each (suc k) other at))

-- ---- more writes

module _ (storage : Storage) (script : ScriptParts) (calls : List Call) (entry : Entry) where
  right_after_more : (before : List Entry) (other : Entry) → IsRightAfter storage script calls before other → IsRightAfter storage script (calls_after calls entry) before other
  right_after_more before other right =
      elim entry.wrote as (λ b. IsRightAfter storage script (cond b (calls ++ entry.call ∷ []) calls) before other) [
        | true ↦ right_stays storage script calls (entry.call ∷ []) before other right
        | false ↦ right
      ]

  count_after : length (calls_after calls entry) ≡ length calls + cond {A = ℕ} entry.wrote 1 0
  count_after = elim entry.wrote as (λ b. length (cond b (calls ++ entry.call ∷ []) calls) ≡ length calls + cond {A = ℕ} b 1 0) [ true ↦ length_push calls entry.call | false ↦ omega arith ]

  numbers_stay : (e : Entry) → (e.wrote ≡ true → slice_get calls e.stamp ≡ Some e.call) → e.wrote ≡ true → slice_get (calls_after calls entry) e.stamp ≡ Some e.call
  numbers_stay e is write =
      elim entry.wrote as (λ b. slice_get (cond b (calls ++ entry.call ∷ []) calls) e.stamp ≡ Some e.call) [
        | true ↦ slice_get_left calls (entry.call ∷ []) e.stamp (slice_get_within calls e.stamp e.call (is write)) ∙ is write
        | false ↦ is write
      ]

  next_number : (entry.wrote ≡ true → entry.stamp ≡ length calls) → entry.wrote ≡ true → slice_get (calls_after calls entry) entry.stamp ≡ Some entry.call
  next_number is write = ap (λ b. slice_get (cond b (calls ++ entry.call ∷ []) calls) entry.stamp) write ∙ ap (slice_get (calls ++ entry.call ∷ [])) (is write) ∙ slice_get_at calls [] entry.call

  abbrev HasNumber : List Call → Entry → Type 0
  HasNumber writes e = e.wrote ≡ true → slice_get writes e.stamp ≡ Some e.call

  thread_stays : (thread : ℕ) (mine : List Entry) → IsNumberedThread storage script calls thread mine → IsNumberedThread storage script (calls_after calls entry) thread mine
  thread_stays thread mine is = record { own = is.own; indexes = is.indexes; numbers = All-weaker (HasNumber calls) (HasNumber (calls_after calls entry)) numbers_stay mine is.numbers; right = λ place other at. right_after_more (take place mine) other (is.right place other at) }

  thread_grows : (thread : ℕ) (mine : List Entry) → IsNumberedThread storage script calls thread mine → IsNextEntry storage script calls thread mine entry → IsNumberedThread storage script (calls_after calls entry) thread (mine ++ entry ∷ [])
  thread_grows thread mine is next =
      record {
        own = All-push (λ (e : Entry). e.thread ≡ thread) mine entry is.own next.own;
        indexes =
            map_push (λ (e : Entry). e.index) mine entry ∙ ap (λ (ks : List ℕ). ks ++ entry.index ∷ []) is.indexes
            ∙ ap (λ k. range_with_len 1 (length mine) ++ k ∷ []) (let e : entry.index ≡ 1 + length mine = omega (arith, next.index) in e)
            ∙ sym (range_push 1 (length mine)) ∙ ap (range_with_len 1) (sym (length_push mine entry));
        numbers = All-push (HasNumber (calls_after calls entry)) mine entry (All-weaker (HasNumber calls) (HasNumber (calls_after calls entry)) numbers_stay mine is.numbers) (next_number next.number);
        right = λ place other at.
            elim (slice_get_push mine entry place other at) [
              | inl there ↦
                  let low : place < length mine = slice_get_within mine place other there in
                  subst (λ (es : List Entry). IsRightAfter storage script (calls_after calls entry) es other) (sym (take-append-le place mine (entry ∷ []) (omega arith)))
                  (right_after_more (take place mine) other (is.right place other there))
              | inr end ↦
                  subst (λ (e : Entry). IsRightAfter storage script (calls_after calls entry) (take place (mine ++ entry ∷ [])) e) end.1
                  (subst (λ (es : List Entry). IsRightAfter storage script (calls_after calls entry) es entry) (sym (take_at mine (entry ∷ []) place (sym end.0))) (right_after_more mine entry next.right))
            ];
      }

-- ---- one list for each thread

module _ (storage : Storage) (script : ScriptParts) where
  pub none_yet : AreNumberedLists storage script [] (replicate (length script.threads) [])
  none_yet =
      record {
        count = length-replicate (length script.threads) [];
        threads = λ thread mine at.
            let nothing : List Entry = [] in
            let low : thread < length script.threads = omega (arith, slice_get_within (replicate (length script.threads) []) thread mine at, length-replicate (length script.threads) nothing) in
            let none : [] ≡ mine = sym (get_or-replicate (length script.threads) thread [] [] low) ∙ get_or_from_slice_get (replicate (length script.threads) []) thread mine [] at in
            subst (IsNumberedThread storage script [] thread) none (no_entries storage script [] thread);
        once = λ number low. absurd (omega arith);
      }

  module _ (calls : List Call) (lists : List (List Entry)) (thread : ℕ) (mine : List Entry) (entry : Entry) (is : AreNumberedLists storage script calls lists) (at : slice_get lists thread ≡ Some mine) (next : IsNextEntry storage script calls thread mine entry) where
    no_later : (number : ℕ) → length calls ≤ number → count_by (is_number number) (flat lists) ≡ 0
    no_later number past =
        none_counted (is_number number) (flat lists)
        (all_flat (λ (e : Entry). is_number number e ≡ false) lists (λ k other there i d low.
        let e : Entry = get_or other i d in
        elim e.wrote as (λ b. e.wrote ≡ b → (b && (e.stamp == number)) ≡ false) [
          | true ↦ λ write. ne_eqb e.stamp number (λ same. omega (arith, slice_get_within calls e.stamp e.call ((is.threads k other there).numbers i d low write)))
          | false ↦ λ read. refl
        ] refl))

    own_number : (number : ℕ) → cond {A = ℕ} (is_number number entry) 1 0 ≡ cond {A = ℕ} (entry.wrote && (length calls == number)) 1 0
    own_number number =
        elim entry.wrote as (λ b. entry.wrote ≡ b → cond {A = ℕ} (b && (entry.stamp == number)) 1 0 ≡ cond {A = ℕ} (b && (length calls == number)) 1 0) [
          | true ↦ λ write. ap (λ n. cond {A = ℕ} (n == number) 1 0) (next.number write)
          | false ↦ λ read. refl
        ] refl

    once : (number : ℕ) → number < length (calls_after calls entry) → count_by (is_number number) (flat (set lists thread (mine ++ entry ∷ []))) ≡ 1
    once number low =
        let more : count_by (is_number number) (flat (set lists thread (mine ++ entry ∷ []))) ≡ count_by (is_number number) (flat lists) + cond {A = ℕ} (is_number number entry) 1 0 = count_more (is_number number) lists thread mine entry at in
        let most : cond {A = ℕ} entry.wrote 1 0 ≤ 1 = elim entry.wrote as (λ b. cond {A = ℕ} b 1 0 ≤ 1) [ true ↦ omega arith | false ↦ omega arith ] in
        elim (cases_order number (length calls)) [
          | inl same ↦
              let one : cond {A = ℕ} entry.wrote 1 0 ≡ cond {A = ℕ} (entry.wrote && (length calls == number)) 1 0 =
              elim entry.wrote as (λ b. cond {A = ℕ} b 1 0 ≡ cond {A = ℕ} (b && (length calls == number)) 1 0) [ true ↦ ap (λ b. cond {A = ℕ} b 1 0) (sym (eq-eqb (length calls) number (sym same))) | false ↦ refl ] in
              omega (arith, more, no_later number (omega arith), own_number number, count_after storage script calls entry, low)
          | inr differ ↦ elim differ [
            | inl less ↦
                let none : cond {A = ℕ} (entry.wrote && (length calls == number)) 1 0 ≡ 0 =
                elim entry.wrote as (λ b. cond {A = ℕ} (b && (length calls == number)) 1 0 ≡ 0) [ true ↦ ap (λ b. cond {A = ℕ} b 1 0) (ne_eqb (length calls) number (λ is. omega arith)) | false ↦ refl ] in
                omega (arith, more, own_number number, is.once number less)
            | inr past ↦
                absurd (omega (arith, count_after storage script calls entry, low))
          ]
        ]

    pub one_more : AreNumberedLists storage script (calls_after calls entry) (set lists thread (mine ++ entry ∷ []))
    one_more =
        record {
          count = length-set lists thread (mine ++ entry ∷ []) ∙ is.count;
          threads = λ k other there.
              elim (slice_get-set lists thread (mine ++ entry ∷ []) k other there) [
                | inl same ↦
                    subst (λ t. IsNumberedThread storage script (calls_after calls entry) t other) (sym same.0)
                    (subst (IsNumberedThread storage script (calls_after calls entry) thread) same.1 (thread_grows storage script calls entry thread mine (is.threads thread mine at) next))
                | inr apart ↦ thread_stays storage script calls entry k other (is.threads k other apart.1)
              ];
          once = once;
        }
