-- A list of entries whose ranks never fall, as in the order of a history, and whose writes have the numbers 0, 1, 2 and so on: each stamp in it is the number of writes before it.
use Rattle.std.proofs.Common.{◌≡◌, ℕ, ◌+◌, ◌-◌, ◌*◌, ◌<◌, ◌≤◌, true, false, List, length, take, drop, get_or, Some, refl, sym, ap, subst, ◌∙◌, arith, cond, inl, inr}
use Rattle.std.specs.List.{All}
use Rattle.std.specs.List.Sorted.{IsNonDecreasingBy, IsSorted}
use Rattle.std.specs.Ordering.{is_lt}
use Rattle.std.specs.Prelude.{slice_get}
use Rattle.std.proofs.lemmas.Bool.{cases_order}
use Rattle.std.proofs.lemmas.Bool.Decides.{nat_tests}
use Rattle.std.proofs.lemmas.List.{get_or-append-add, get_or-drop, get_or-take, length-append, length-drop, length-take, length-take-le}
use Rattle.std.proofs.lemmas.List.Elements.{All-filter, filter_passes}
use Rattle.std.proofs.lemmas.List.Sorted.{IsNonDecreasingBy-from_all_adjacent}
use Rattle.std.proofs.lemmas.Option.{get_or_from_slice_get, slice_get-get_or, slice_get_within}
use Rattle.ft_model.specs.declared.entry.Entry.{Entry}
use Rattle.ft_model.specs.Histories.{history_cmp, writes, EachAt}
use Rattle.ft_model.specs.Numbers.{number_after}
use Rattle.ft_history.proofs.FilteredParts.{passed_at, passed_before}
use Rattle.ft_history.proofs.StampedLists.{written, count_writes}
use Rattle.ft_history.proofs.HistoryPlaces.{filter_parts}

-- ---- the order, in numbers

-- rises from the reads of a stamp to the write of that number, and from there to the reads of the next stamp
abbrev pub rank : Entry → ℕ
rank entry = 2 * entry.stamp + cond entry.wrote 1 0

no_lower : (a b : Entry) → is_lt (history_cmp b a) ≡ false → rank a ≤ rank b
no_lower a b is = grind (arith, nat_tests)

pub at_most_one : (entry : Entry) → cond {A = ℕ} entry.wrote 1 0 ≤ 1
at_most_one entry = elim entry.wrote as (λ v. cond {A = ℕ} v 1 0 ≤ 1) [ true ↦ omega arith | false ↦ omega arith ]

pub stamp_below : (a b : Entry) → rank a ≤ rank b → a.stamp ≤ b.stamp
stamp_below a b le = omega (arith, le, at_most_one a, at_most_one b)

after_rank : (a b : Entry) → number_after a ≤ b.stamp → rank a ≤ rank b
after_rank a b low =
    elim a.wrote as (λ v. cond {A = ℕ} v (a.stamp + 1) a.stamp ≤ b.stamp → 2 * a.stamp + cond {A = ℕ} v 1 0 ≤ rank b) [
      | true ↦ λ is. omega arith
      | false ↦ λ is. omega arith
    ] low

-- where each entry knows of all writes that there were after each earlier one, ranks never fall
pub ranks_of_rising : (entries : List Entry) → EachAt entries (λ place entry. All (λ earlier. number_after earlier ≤ entry.stamp) (take place entries)) → IsNonDecreasingBy rank entries
ranks_of_rising entries rising =
    IsNonDecreasingBy-from_all_adjacent rank entries (λ k d within.
    let a = get_or entries k d in
    let b = get_or entries (k + 1) d in
    let there : get_or (take (k + 1) entries) k d ≡ a = get_or-take (k + 1) entries k d (omega arith) in
    after_rank a b (subst (λ (e : Entry). number_after e ≤ b.stamp) there
    (rising (k + 1) b (slice_get-get_or entries (k + 1) d within) k d (omega (arith, length-take (k + 1) entries)))))

-- nor in the order of a history
pub ranks_of_sorted : (entries : List Entry) → IsSorted history_cmp entries → IsNonDecreasingBy rank entries
ranks_of_sorted entries sorted =
    IsNonDecreasingBy-from_all_adjacent rank entries (λ k d within. no_lower (get_or entries k d) (get_or entries (k + 1) d) (sorted k d (omega arith) within))

pub count_parts : (entries : List Entry) (place : ℕ) → length (written entries) ≡ length (written (take place entries)) + length (written (drop place entries))
count_parts entries place = ap length (filter_parts (λ (e : Entry). e.wrote) entries place) ∙ length-append (written (take place entries)) (written (drop place entries))

-- ---- stamps

module _ (entries : List Entry) (rises : IsNonDecreasingBy rank entries)
    -- the number of a write is its stamp
    (stamp_at : (k : ℕ) (d : Entry) → k < length (written entries) → (get_or (written entries) k d).stamp ≡ k)
    -- and no stamp is greater than their number
    (bound : (place : ℕ) (entry : Entry) → slice_get entries place ≡ Some entry → entry.stamp ≤ length (written entries))
    (place : ℕ) (entry : Entry) (at : slice_get entries place ≡ Some entry) where
  low : place < length entries
  low = slice_get_within entries place entry at

  no_higher : All (λ x. rank x ≤ rank entry) (written (take place entries))
  no_higher =
      All-filter (λ (e : Entry). e.wrote) (λ x. rank x ≤ rank entry) (take place entries) (λ k d below.
      let before : k < place = omega (arith, below, length-take-le place entries (omega (arith, low))) in
      subst (λ (x : Entry). rank x ≤ rank entry) (sym (get_or-take place entries k d before))
      (subst (λ (x : Entry). rank (get_or entries k d) ≤ rank x) (get_or_from_slice_get entries place entry d at) (rises k place d (omega arith) low)))

  no_lower_after : All (λ x. rank entry ≤ rank x) (written (drop place entries))
  no_lower_after =
      All-filter (λ (e : Entry). e.wrote) (λ x. rank entry ≤ rank x) (drop place entries) (λ k d below.
      subst (λ (x : Entry). rank entry ≤ rank x) (sym (get_or-drop place entries k d))
      (subst (λ (x : Entry). rank x ≤ rank (get_or entries (place + k) d)) (get_or_from_slice_get entries place entry d at) (rises place (place + k) d (omega arith) (omega (arith, below, length-drop place entries)))))

  write_stamped : entry.wrote ≡ true → entry.stamp ≡ length (written (take place entries))
  write_stamped write =
      let n = length (written (take place entries)) in
      let there : slice_get (written entries) n ≡ Some entry = passed_at (λ (e : Entry). e.wrote) entries place entry at write in
      ap (λ (e : Entry). e.stamp) (sym (get_or_from_slice_get (written entries) n entry entry there)) ∙ stamp_at n entry (slice_get_within (written entries) n entry there)

  -- the writes before it have lower numbers than a read's stamp
  read_not_before : entry.wrote ≡ false → entry.stamp < length (written (take place entries)) → ⊥
  read_not_before read less =
      let n = length (written (take place entries)) in
      let last = get_or (written (take place entries)) (n - 1) entry in
      let in_all : last ≡ get_or (written entries) (n - 1) entry =
      ap (λ (es : List Entry). get_or es (n - 1) entry) (passed_before (λ (e : Entry). e.wrote) entries place) ∙ get_or-take n (written entries) (n - 1) entry (omega arith) in
      let number : last.stamp ≡ n - 1 = ap (λ (e : Entry). e.stamp) in_all ∙ stamp_at (n - 1) entry (omega (arith, count_parts entries place)) in
      let wrote : cond {A = ℕ} last.wrote 1 0 ≡ 1 = ap (λ v. cond {A = ℕ} v 1 0) (filter_passes (λ (e : Entry). e.wrote) (take place entries) (n - 1) entry (omega arith)) in
      let none : cond {A = ℕ} entry.wrote 1 0 ≡ 0 = ap (λ v. cond {A = ℕ} v 1 0) read in
      let high : rank last ≤ rank entry = no_higher (n - 1) entry (omega arith) in
      omega arith

  -- and those after it no lower one
  not_after : length (written (take place entries)) < entry.stamp → ⊥
  not_after less =
      let n = length (written (take place entries)) in
      let some : 0 < length (written (drop place entries)) = omega (arith, bound place entry at, count_parts entries place) in
      let next = get_or (written (drop place entries)) 0 entry in
      let in_all : get_or (written entries) (n + 0) entry ≡ next =
      ap (λ (es : List Entry). get_or es (n + 0) entry) (filter_parts (λ (e : Entry). e.wrote) entries place) ∙ get_or-append-add (written (take place entries)) (written (drop place entries)) 0 entry in
      let number : next.stamp ≡ n + 0 = ap (λ (e : Entry). e.stamp) (sym in_all) ∙ stamp_at (n + 0) entry (omega (arith, count_parts entries place)) in
      let high : rank entry ≤ rank next = no_lower_after 0 entry some in
      let one : cond {A = ℕ} next.wrote 1 0 ≤ 1 = at_most_one next in
      omega arith

  read_stamped : entry.wrote ≡ false → entry.stamp ≡ length (written (take place entries))
  read_stamped read = elim (cases_order entry.stamp (length (written (take place entries)))) [
    | inl same ↦ same
    | inr differ ↦ elim differ [ inl less ↦ absurd (read_not_before read less) | inr more ↦ absurd (not_after more) ]
  ]

  pub sorted_stamped : entry.stamp ≡ length (writes (take place entries))
  sorted_stamped =
      elim entry.wrote as (λ v. entry.wrote ≡ v → entry.stamp ≡ length (written (take place entries))) [ true ↦ write_stamped | false ↦ read_stamped ] refl
      ∙ sym (count_writes (take place entries))
