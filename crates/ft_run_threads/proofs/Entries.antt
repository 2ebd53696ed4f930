-- Each thread's entries of the history are those of its pass in the closed bank.
use Rattle.std.proofs.Common.{◌≡◌, ◌≢◌, ℕ, zero, suc, ◌+◌, ◌<◌, Bool, true, false, List, [], ◌∷◌, ◌++◌, length, map, reverse, get_or, refl, sym, ap, ◌∙◌, subst, arith, cond, ◌==◌}
use Rattle.std.specs.List.{All, Contains, filter, flat_map, range_with_len}
use Rattle.std.specs.List.Sorted.{IsPermutation}
use Rattle.std.proofs.Math.Logic.{∥∥₁_elim}
use Rattle.std.proofs.Math.Nat.{ℕ_set}
use Rattle.std.proofs.lemmas.Bool.{eq-eqb, ne_eqb}
use Rattle.std.proofs.lemmas.List.{append-nil, get_or_default, same_lists}
use Rattle.std.proofs.lemmas.List.Elements.{All-head, All-tail, filter-append}
use Rattle.std.proofs.lemmas.List.Sorted.{Contains-permutation, IsPermutation-sym, length_permutation}
use Rattle.ft_model.specs.declared.call.Call.{Call}
use Rattle.ft_model.specs.declared.entry.Entry.{Entry as NamedEntry}
use Rattle.ft_model.specs.declared.entry.Storage.TheVariants as storage
use Rattle.ft_model.specs.declared.script.ScriptParts.{ScriptParts}
use Rattle.ft_model.specs.Histories.{entries_of}
use Rattle.ft_model.specs.Numbers.{IsHistoryOf}
use Rattle.ft_history.proofs.FilteredParts.{key_at}
use Rattle.ft_history.proofs.Permutations.{IsPermutation-filter}
use Rattle.ft_trace.specs.declared.Entry.{Entry}
use Rattle.ft_trace.specs.declared.Owner.{Owner}
use Rattle.ft_trace.specs.declared.Told.{Told}
use Rattle.ft_trace.specs.OwnCursors.{plain_entry}
use Rattle.ft_bank_history.specs.Numbering.{HaveNamedEntries}
use Rattle.ft_engine.specs.DoneCallers.{IsLegalFor}

-- ---- what was kept

kept_same : (from : ℕ) (lists : List (List NamedEntry)) (passes : List (List Entry)) (had found : List Owner) (told : List Told) → HaveNamedEntries from lists passes had found told → (k : ℕ) → map plain_entry (get_or lists k []) ≡ reverse (get_or passes k [])
kept_same from [] [] had found told are k = refl
kept_same from [] (own ∷ passes) had found told are k = absurd are
kept_same from (mine ∷ lists) [] had found told are k = absurd are
kept_same from (mine ∷ lists) (own ∷ passes) had found told are zero = are.0.same
kept_same from (mine ∷ lists) (own ∷ passes) had found told are (suc k) = kept_same (suc from) lists passes had found told are.1 k

kept_indexes : (from : ℕ) (lists : List (List NamedEntry)) (passes : List (List Entry)) (had found : List Owner) (told : List Told) → HaveNamedEntries from lists passes had found told → (k : ℕ) → map (λ e. e.index) (get_or lists k []) ≡ range_with_len 1 (length (get_or lists k []))
kept_indexes from [] [] had found told are k = refl
kept_indexes from [] (own ∷ passes) had found told are k = absurd are
kept_indexes from (mine ∷ lists) [] had found told are k = absurd are
kept_indexes from (mine ∷ lists) (own ∷ passes) had found told are zero = are.0.indexes
kept_indexes from (mine ∷ lists) (own ∷ passes) had found told are (suc k) = kept_indexes (suc from) lists passes had found told are.1 k

-- ---- each thread's entries of all lists

module _ (p : NamedEntry → Bool) where
  filter_all : (l : List NamedEntry) → All (λ e. p e ≡ true) l → filter p l ≡ l
  filter_all [] pass = refl
  filter_all (e ∷ l) pass = ap (λ b. cond b (e ∷ filter p l) (filter p l)) (All-head (λ x. p x ≡ true) e l pass) ∙ ap (λ (es : List NamedEntry). e ∷ es) (filter_all l (All-tail (λ x. p x ≡ true) e l pass))

  filter_none : (l : List NamedEntry) → All (λ e. p e ≡ false) l → filter p l ≡ []
  filter_none [] fail = refl
  filter_none (e ∷ l) fail = ap (λ b. cond b (e ∷ filter p l) (filter p l)) (All-head (λ x. p x ≡ false) e l fail) ∙ filter_none l (All-tail (λ x. p x ≡ false) e l fail)

abbrev flat : List (List NamedEntry) → List NamedEntry
flat lists = flat_map (λ (own : List NamedEntry). own) lists

-- the entries of one thread are none of another's
others_none : (from thread : ℕ) (mine : List NamedEntry) → All (λ e. e.thread ≡ from) mine → (from ≢ thread) → entries_of thread mine ≡ []
others_none from thread mine own other = filter_none (λ (e : NamedEntry). e.thread == thread) mine (λ i d low. ne_eqb (get_or mine i d).thread thread (λ is. other (sym (own i d low) ∙ is)))

none_before : (from : ℕ) (lists : List (List NamedEntry)) (passes : List (List Entry)) (had found : List Owner) (told : List Told) → HaveNamedEntries from lists passes had found told → (thread : ℕ) → thread < from → entries_of thread (flat lists) ≡ []
none_before from [] passes had found told are thread low = refl
none_before from (mine ∷ lists) [] had found told are thread low = absurd are
none_before from (mine ∷ lists) (own ∷ passes) had found told are thread low =
    filter-append (λ (e : NamedEntry). e.thread == thread) mine (flat lists)
    ∙ (ap (λ (es : List NamedEntry). es ++ entries_of thread (flat lists)) (others_none from thread mine are.0.own (λ is. omega (arith, is, low)))
    ∙ none_before (suc from) lists passes had found told are.1 thread (omega (arith, low)))

kept_own : (from : ℕ) (lists : List (List NamedEntry)) (passes : List (List Entry)) (had found : List Owner) (told : List Told) → HaveNamedEntries from lists passes had found told → (k : ℕ) → entries_of (from + k) (flat lists) ≡ get_or lists k []
kept_own from [] passes had found told are k = refl
kept_own from (mine ∷ lists) [] had found told are k = absurd are
kept_own from (mine ∷ lists) (own ∷ passes) had found told are zero =
    let here : from ≡ from + 0 = omega arith in
    filter-append (λ (e : NamedEntry). e.thread == (from + 0)) mine (flat lists)
    ∙ (ap (λ (es : List NamedEntry). es ++ entries_of (from + 0) (flat lists)) (filter_all (λ (e : NamedEntry). e.thread == (from + 0)) mine (λ i d low. eq-eqb (get_or mine i d).thread (from + 0) (are.0.own i d low ∙ here)))
    ∙ (ap (λ (es : List NamedEntry). mine ++ es) (none_before (suc from) lists passes had found told are.1 (from + 0) (omega arith))
    ∙ append-nil mine))
kept_own from (mine ∷ lists) (own ∷ passes) had found told are (suc k) =
    filter-append (λ (e : NamedEntry). e.thread == (from + suc k)) mine (flat lists)
    ∙ (ap (λ (es : List NamedEntry). es ++ entries_of (from + suc k) (flat lists)) (others_none from (from + suc k) mine are.0.own (λ is. omega (arith, is)))
    ∙ (ap (λ t. entries_of t (flat lists)) (let e : from + suc k ≡ suc from + k = omega arith in e)
    ∙ kept_own (suc from) lists passes had found told are.1 k))

-- ---- the history

module _ (script : ScriptParts) (lists : List (List NamedEntry)) (passes : List (List Entry)) (had found : List Owner) (told : List Told) (history : List NamedEntry) (are : HaveNamedEntries 0 lists passes had found told) (legal : IsLegalFor script history) (moved : IsPermutation (flat_map (λ mine. mine) lists) history) (thread : ℕ) where
  abbrev mine : List NamedEntry
  mine = get_or lists thread []

  abbrev there : List NamedEntry
  there = entries_of thread history

  permuted : IsPermutation mine there
  permuted =
      subst (λ (es : List NamedEntry). IsPermutation es there)
      (ap (λ (t : ℕ). entries_of t (flat lists)) (let e : thread ≡ 0 + thread = omega arith in e) ∙ kept_own 0 lists passes had found told are thread)
      (IsPermutation-filter (λ (e : NamedEntry). e.thread == thread) (flat_map (λ (own : List NamedEntry). own) lists) history moved)

  index_mine : (k : ℕ) (d : NamedEntry) → k < length mine → (get_or mine k d).index ≡ 1 + k
  index_mine k d low = key_at (λ (e : NamedEntry). e.index) mine 1 (kept_indexes 0 lists passes had found told are thread) k d low

  index_there : (k : ℕ) (d : NamedEntry) → k < length there → (get_or there k d).index ≡ 1 + k
  index_there k d low =
      ∥∥₁_elim {P = (get_or there k d).index ≡ 1 + k} legal (ℕ_set _ _)
      (λ (x : (calls : List Call) × IsHistoryOf storage.Tables script calls history). key_at (λ (e : NamedEntry). e.index) there 1 (x.1.legal.chronicle.whole.indexes thread) k d low)

  same_at : (k : ℕ) (d : NamedEntry) → k < length there → get_or there k d ≡ get_or mine k d
  same_at k d low =
      let x = get_or there k d in
      let held : Contains there x = (k, low, get_or_default there k x d low) in
      let found : Contains mine x = Contains-permutation there mine x (IsPermutation-sym mine there permuted) held in
      let number : x.index ≡ 1 + k = index_there k d low in
      let place : (get_or mine found.0 x).index ≡ 1 + found.0 = index_mine found.0 x found.1 in
      let is : (get_or mine found.0 x).index ≡ x.index = ap (λ (e : NamedEntry). e.index) found.2 in
      let here : found.0 ≡ k = omega (arith, number, place, is) in
      let within : k < length mine = let w = found.1 in omega (arith, w, here) in
      sym found.2 ∙ (ap (λ (n : ℕ). get_or mine n x) here ∙ get_or_default mine k x d within)

  pub pass_entries : map plain_entry there ≡ reverse (get_or passes thread [])
  pass_entries =
      ap (map plain_entry) (same_lists there mine (length_permutation mine there permuted) same_at)
      ∙ kept_same 0 lists passes had found told are thread
