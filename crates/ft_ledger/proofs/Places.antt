-- What an entry of all calls of a script says of its thread: how many calls the thread has made before it.
use Rattle.std.proofs.Common.{◌≡◌, ℕ, ◌+◌, ◌<◌, ◌≤◌, List, [], ◌∷◌, length, take, drop, Some, sym, ap, ◌∙◌, arith, cond, true, false, refl}
use Rattle.std.specs.Prelude.{slice_get, filter, ◌==◌, if◌then◌else◌}
use Rattle.std.specs.Option.{option_map}
use Rattle.std.proofs.lemmas.Bool.{eq-eqb}
use Rattle.std.proofs.lemmas.List.{length-append, length-map}
use Rattle.std.proofs.lemmas.Option.{slice_get-map, slice_get_within}
use Rattle.ft_model.specs.declared.call.Call.{Call}
use Rattle.ft_model.specs.declared.entry.Entry.{Entry}
use Rattle.ft_model.specs.declared.script.ScriptParts.{ScriptParts}
use Rattle.ft_model.specs.Histories.{calls_of, entries_of, IsWhole}
use Rattle.ft_history.proofs.FilteredParts.{passed_at}
use Rattle.ft_history.proofs.HistoryPlaces.{filter_next, filter_parts}
use Rattle.ft_history.proofs.Unbroken.{range_at}

-- how many calls a thread has made before a place
abbrev pub made_before : List Entry → ℕ → ℕ → ℕ
made_before entries place thread = length (entries_of thread (take place entries))

module _ (script : ScriptParts) (entries : List Entry) (whole : IsWhole script entries) where
  pub few_made : (place thread : ℕ) → made_before entries place thread ≤ length (calls_of script thread)
  few_made place thread =
      let mine = λ (e : Entry). e.thread == thread in
      let parts = ap (λ (es : List Entry). length es) (filter_parts mine entries place) in
      let sum = length-append (filter mine (take place entries)) (filter mine (drop place entries)) in
      let all = ap (λ (cs : List Call). length cs) (whole.calls thread) in
      let same = length-map (filter mine entries) (λ (e : Entry). e.call) in
      omega (arith, parts, sum, all, same)

  module _ (place : ℕ) (entry : Entry) (at : slice_get entries place ≡ Some entry) where
    there : slice_get (entries_of entry.thread entries) (made_before entries place entry.thread) ≡ Some entry
    there = passed_at (λ (e : Entry). e.thread == entry.thread) entries place entry at (eq-eqb entry.thread entry.thread refl)

    pub call_there : slice_get (calls_of script entry.thread) (made_before entries place entry.thread) ≡ Some entry.call
    call_there =
        let k = made_before entries place entry.thread in
        ap (λ (cs : List Call). slice_get cs k) (sym (whole.calls entry.thread)) ∙ slice_get-map (λ (e : Entry). e.call) (entries_of entry.thread entries) k ∙ ap (option_map (λ (e : Entry). e.call)) there

    pub made_less : made_before entries place entry.thread < length (calls_of script entry.thread)
    made_less = slice_get_within (calls_of script entry.thread) (made_before entries place entry.thread) entry.call call_there

    pub index_there : entry.index ≡ made_before entries place entry.thread + 1
    index_there =
        let k = made_before entries place entry.thread in
        let mine = entries_of entry.thread entries in
        let low : k < length mine = slice_get_within mine k entry there in
        let by_range : Some entry.index ≡ Some (1 + k) =
        sym (slice_get-map (λ (e : Entry). e.index) mine k ∙ ap (option_map (λ (e : Entry). e.index)) there)
        ∙ ap (λ (ks : List ℕ). slice_get ks k) (whole.indexes entry.thread) ∙ range_at 1 (length mine) k low in
        let same : entry.index ≡ 1 + k = cc in
        omega arith

    pub made_next : (thread : ℕ) → made_before entries (place + 1) thread ≡ made_before entries place thread + (if entry.thread == thread then 1 else 0)
    made_next thread =
        let mine = λ (e : Entry). e.thread == thread in
        let front = filter mine (take place entries) in
        ap (λ (es : List Entry). length es) (filter_next entries place entry at mine)
        ∙ length-append front (cond (entry.thread == thread) (entry ∷ []) [])
        ∙ ap (λ n. length front + n) (elim (entry.thread == thread) as (λ b. length (cond b (entry ∷ []) []) ≡ (if b then 1 else 0)) [ true ↦ refl | false ↦ refl ])
