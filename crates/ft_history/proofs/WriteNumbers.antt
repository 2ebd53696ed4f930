-- The numbers of the writes of a legal history.
use Rattle.std.proofs.Common.{◌≡◌, ℕ, ◌+◌, true, false, List, [], ◌∷◌, ◌++◌, map, length, take, Some, refl, sym, ap, subst, ◌∙◌, arith, cond}
use Rattle.std.specs.List.{filter, range_with_len}
use Rattle.std.specs.Prelude.{slice_get}
use Rattle.std.proofs.lemmas.List.{map_push, append-nil, take_all}
use Rattle.ft_model.specs.declared.entry.Entry.{Entry}
use Rattle.ft_model.specs.Histories.{writes}
use Rattle.ft_history.proofs.HistoryPlaces.{filter_next, count_next, by_places}
use Rattle.ft_history.proofs.Unbroken.{range_push}

module _ (entries : List Entry) (stamped : (place : ℕ) (entry : Entry) → slice_get entries place ≡ Some entry → entry.stamp ≡ length (writes (take place entries))) where
  abbrev numbers : List Entry → List ℕ
  numbers es = map (λ (e : Entry). e.stamp) (filter (λ (e : Entry). e.wrote) es)

  numbers_next : (n : ℕ) (entry : Entry) → slice_get entries n ≡ Some entry → numbers (take n entries) ≡ range_with_len 0 (length (writes (take n entries))) → numbers (take (n + 1) entries) ≡ range_with_len 0 (length (writes (take (n + 1) entries)))
  numbers_next n entry at so_far =
      let front = filter (λ (e : Entry). e.wrote) (take n entries) in
      let done = length (writes (take n entries)) in
      ap (map (λ (e : Entry). e.stamp)) (filter_next entries n entry at (λ (e : Entry). e.wrote)) ∙
      elim entry.wrote as (λ b. map (λ (e : Entry). e.stamp) (front ++ cond b (entry ∷ []) []) ≡ range_with_len 0 (done + cond b 1 0)) [
        | true ↦ map_push (λ (e : Entry). e.stamp) front entry ∙ ap (λ (ks : List ℕ). ks ++ entry.stamp ∷ []) so_far ∙ ap (λ k. range_with_len 0 done ++ k ∷ []) (let e : entry.stamp ≡ 0 + done = omega (arith, stamped n entry at) in e) ∙ sym (range_push 0 done)
        | false ↦ ap (map (λ (e : Entry). e.stamp)) (append-nil front) ∙ so_far ∙ ap (range_with_len 0) (omega arith)
      ]
      ∙ ap (range_with_len 0) (sym (count_next entries n entry at))

  pub write_numbers : map (λ (e : Entry). e.stamp) (filter (λ (e : Entry). e.wrote) entries) ≡ range_with_len 0 (length (writes entries))
  write_numbers =
      subst (λ es. numbers es ≡ range_with_len 0 (length (writes es))) (take_all (length entries) entries (omega arith))
      (by_places (λ m. numbers (take m entries) ≡ range_with_len 0 (length (writes (take m entries)))) entries refl numbers_next (length entries) (omega arith))
