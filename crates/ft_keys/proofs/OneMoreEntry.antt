-- A table with one entry more.
use Rattle.std.proofs.Common.{◌≡◌, ◌≢◌, ℕ, ◌+◌, ◌^◌, ◌<◌, ◌≤◌, ◌⊎◌, inl, inr, ⊎_elim, List, [], ◌∷◌, ◌++◌, Option, Some, None, length, filter, All, AllPairs, Contains, get_or, refl, sym, ap, ◌∙◌, subst, arith, length-append}
use Rattle.std.specs.Prelude.{slice_index, slice_index_or, slice_set}
use Rattle.std.proofs.lemmas.Bool.{cases_eq, cases_lt}
use Rattle.std.proofs.lemmas.List.{get_or_append_left}
use Rattle.std.proofs.Math.Seq.{get_or-append_seam}
use Rattle.std.proofs.lemmas.List.Elements.{All-contains, Contains-append_right, filter-append}
use Rattle.std.proofs.lemmas.List.Quantifiers.{all_pairs_push}
use Rattle.ft_hash.specs.Probes.{IsMask}
use Rattle.ft_layout.specs.declared.slot.Pair.{Pair}
use Rattle.ft_layout.specs.declared.slot.Slot.{Slot}
use Rattle.ft_layout.specs.declared.slot.Slot.TheVariants.{Never}
use Rattle.ft_layout.specs.Words.{FitsPair, IsEntry, entry_words}
use Rattle.ft_layout.specs.Tables.{UsedEntry, is_live, hash_of, slot_of, dict_room, index_at, index_word, entry_word, Meets}
use Rattle.ft_keys.specs.declared.walk.Way.{Way}
use Rattle.ft_keys.specs.Ways.{walk_slots, room, IsTableOf}
use Rattle.ft_keys.specs.TableChanges.{FirstFree, placed_in, Placed, entry_of_pair, AddsPair}
use Rattle.ft_keys.proofs.Reaching.{walk-within}
use Rattle.ft_keys.proofs.Finding.{room-low, not-all-used}
use Rattle.ft_keys.proofs.Written.{with_entry, entry-put, same-words, changed-long, changed-head, changed-named, changed-index, changed-entry, changed-spare, changed-word}

module _ (way : Way) (mask : ℕ) (texts words : List ℕ) (used : List UsedEntry) (pair : Pair) (slot : ℕ) (passed rest : List ℕ)
    (table : IsTableOf way texts mask used words) (fits : FitsPair pair) (low : length used < room way mask) (hashed : pair.hash ≡ hash_of texts pair.key)
    (whole : walk_slots way pair.hash mask ≡ passed ++ slot ∷ rest) (passes : All (λ other. index_word words other ≢ 0) passed) (free : index_word words slot ≡ 0) where
  abbrev place : ℕ
  place = length used

  abbrev entry : List ℕ
  entry = entry_words pair

  abbrev after : List ℕ
  after = slice_set (with_entry mask place entry words) (index_at slot) (place + 1)

  abbrev new : UsedEntry
  new = entry_of_pair pair

  low-room : place < dict_room mask
  low-room = let most = room-low way mask in omega arith

  inside : slot ≤ mask
  inside = All-contains (λ s. s ≤ mask) (walk_slots way pair.hash mask) slot (walk-within way pair.hash mask)
      (subst (λ (w : List ℕ). Contains w slot) (sym whole) (Contains-append_right passed (slot ∷ rest) slot (0, omega arith, refl)))

  used-more : length (used ++ new ∷ []) ≡ place + 1
  used-more = length-append used (new ∷ []) ∙ omega arith

  other-entry : (at : ℕ) → at ≢ place → (word : ℕ) → word < 8 → entry_word mask words at word ≡ entry_word mask after at word
  other-entry at differs word small = sym (changed-entry mask place entry slot words table.size low-room inside at word differs small)

  kept-entry : (at : ℕ) → at ≢ place → (said : Slot) → IsEntry (entry_word mask words at) said → IsEntry (entry_word mask after at) said
  kept-entry at differs =
      let kept = other-entry at differs in
      same-words (entry_word mask words at) (entry_word mask after at) (kept 1 (omega arith)) (kept 2 (omega arith)) (kept 3 (omega arith)) (kept 4 (omega arith)) (kept 5 (omega arith)) (kept 6 (omega arith))

  new-entry : IsEntry (entry_word mask after place) (slot_of texts new)
  new-entry =
      let at : (word : ℕ) → 1 ≤ word → word ≤ 6 → entry_word mask after place word ≡ slice_index entry word = changed-word mask place entry slot words table.size low-room inside in
      record {
        hash = at 1 (omega arith) (omega arith) ∙ hashed;
        key = record { fits = fits.0; kind_is = at 2 (omega arith) (omega arith); payload_is = at 3 (omega arith) (omega arith) };
        value = record { fits = fits.1; kind_is = at 4 (omega arith) (omega arith); payload_is = at 5 (omega arith) (omega arith) };
        serial = at 6 (omega arith) (omega arith);
      }

  -- each entry by its place: one of the old ones, or the new one
  by-place : (P : ℕ → UsedEntry → Type 0) → ((at : ℕ) (any : UsedEntry) → at < length used → P at (slice_index_or used at any)) → P place new →
      (at : ℕ) (any : UsedEntry) → at < length (used ++ new ∷ []) → P at (slice_index_or (used ++ new ∷ []) at any)
  by-place P old here at any less =
      let all = used-more in
      ⊎_elim
      (λ (before : at < length used). subst (P at) (sym (get_or_append_left used (new ∷ []) any at before)) (old at any before))
      (λ (after : length used ≤ at).
      let same : length used ≡ at = omega arith in
      subst (λ (n : ℕ). P n (slice_index_or (used ++ new ∷ []) n any)) same (subst (P place) (sym (get_or-append_seam used new [] any)) here))
      (cases_lt at (length used))

  -- each index word: the new one, or an old one
  index-of : (other : ℕ) → other ≤ mask → ((other ≡ slot) × (index_word after other ≡ place + 1)) ⊎ ((other ≢ slot) × (index_word after other ≡ index_word words other))
  index-of other within = ⊎_elim
      (λ (same : other ≡ slot). inl (same, ap (index_word after) same ∙ changed-named mask place entry slot words table.size low-room inside))
      (λ (differs : other ≡ slot → ⊥). inr (differs, changed-index mask place entry slot words table.size low-room inside other within differs))
      (cases_eq other slot)

  -- no index word becomes 0
  stays : (other : ℕ) → other ≤ mask → index_word words other ≢ 0 → index_word after other ≢ 0
  stays other within some none = ⊎_elim (λ same. let is = same.1 in omega arith) (λ kept. some (sym kept.1 ∙ none)) (index-of other within)

  old-met : (hash at : ℕ) → Meets words (walk_slots way hash mask) at → Meets after (walk_slots way hash mask) at
  old-met hash at meets =
      let within = walk-within way hash mask in
      record {
        step = meets.step;
        low = meets.low;
        here = ⊎_elim
            (λ same. let zero : index_word words (slice_index (walk_slots way hash mask) meets.step) ≡ 0 = ap (index_word words) same.0 ∙ free in let here = meets.here in absurd (omega arith))
            (λ kept. kept.1 ∙ meets.here)
            (index-of (slice_index (walk_slots way hash mask) meets.step) (within meets.step 0 meets.low));
        before = λ j less. let low = meets.low in stays (slice_index (walk_slots way hash mask) j) (within j 0 (omega arith)) (meets.before j less);
      }

  new-met : Meets after (walk_slots way pair.hash mask) place
  new-met =
      let seam = get_or-append_seam passed slot rest 0 in
      let long = length-append passed (slot ∷ rest) in
      let within = walk-within way pair.hash mask in
      subst (λ (w : List ℕ). Meets after w place) (sym whole) (record {
        step = length passed;
        low = omega arith;
        here = ap (index_word after) seam ∙ changed-named mask place entry slot words table.size low-room inside;
        before = λ j less.
            let at = get_or_append_left passed (slot ∷ rest) 0 j less in
            let all = ap length whole in
            let low-slot : get_or passed j 0 ≤ mask = subst (λ (s : ℕ). s ≤ mask) (ap (λ w. get_or w j 0) whole ∙ at) (within j 0 (omega arith)) in
            subst (λ (s : ℕ). index_word after s ≢ 0) (sym at) (stays (get_or passed j 0) low-slot (passes j 0 less));
      })

  pub added : All (λ e. e.key ≢ pair.key) (filter is_live used) → All (λ e. e.serial < pair.serial) used → IsTableOf way texts mask (used ++ new ∷ []) after
  added absent rises = record {
    size = changed-long mask place entry slot words table.size low-room inside ∙ table.size;
    head = changed-head mask place entry slot words table.size low-room inside ∙ table.head;
    spare = λ at less. ⊎_elim
        (λ (same : at ≡ place).
        let old = table.spare place low in
        subst (λ (n : ℕ). entry_word mask after n 7 ≡ 0) (sym same)
        (changed-spare mask place entry slot words table.size low-room inside 7 (inr refl) ∙ old))
        (λ (differs : at ≡ place → ⊥).
        let old = table.spare at less in
        sym (other-entry at differs 7 (omega arith)) ∙ old)
        (cases_eq at place);
    fill = let all = used-more in omega arith;
    entries = by-place (λ at e. IsEntry (entry_word mask after at) (slot_of texts e))
        (λ at any less. kept-entry at (λ e. omega arith) (slot_of texts (slice_index_or used at any)) (table.entries at any less))
        new-entry;
    unused = λ at least less.
        let all = used-more in
        kept-entry at (λ e. omega arith) Never (table.unused at (omega arith) less);
    hashes = by-place (λ at e. entry_word mask after at 1 ≡ hash_of texts e.key)
        (λ at any less. sym (other-entry at (λ e. omega arith) 1 (omega arith)) ∙ table.hashes at any less)
        (changed-word mask place entry slot words table.size low-room inside 1 (omega arith) (omega arith) ∙ hashed);
    distinct = subst (AllPairs (λ a b. a.key ≢ b.key)) (sym (filter-append is_live used (new ∷ [])))
        (all_pairs_push (λ (a b : UsedEntry). a.key ≢ b.key) (filter is_live used) new table.distinct absent);
    rising = all_pairs_push (λ (a b : UsedEntry). a.serial < b.serial) used new table.rising rises;
    names = λ other within.
        let all = used-more in
        ⊎_elim (λ same. let is = same.1 in omega arith) (λ kept. let is = kept.1 in let old = table.names other within in omega arith) (index-of other within);
    once = λ one other in-one in-other some same. ⊎_elim
        (λ first. ⊎_elim
        (λ second. first.0 ∙ sym second.0)
        (λ second. let old = table.names other in-other in let a = first.1 in let b = second.1 in absurd (omega arith))
        (index-of other in-other))
        (λ first. ⊎_elim
        (λ second. let old = table.names one in-one in let a = first.1 in let b = second.1 in absurd (omega arith))
        (λ second. table.once one other in-one in-other (λ none. some (first.1 ∙ none)) (sym first.1 ∙ same ∙ second.1))
        (index-of other in-other))
        (index-of one in-one);
    met = by-place (λ at e. Meets after (walk_slots way (hash_of texts e.key) mask) at)
        (λ at any less. old-met (hash_of texts (slice_index_or used at any).key) at (table.met at any less))
        (subst (λ (h : ℕ). Meets after (walk_slots way h mask) place) hashed new-met);
  }

-- what was placed so is the table with one entry more
pub adds : (way : Way) (mask fill : ℕ) (pair : Pair) (before after : List ℕ) → IsMask mask → pair.hash < 2 ^ 64 → FitsPair pair → fill < room way mask → Placed way mask fill (entry_words pair) before after → AddsPair way mask fill pair before after
adds way mask fill pair before after is small fits low placed texts used table filled hashed absent rises = add-to placed.0 placed.1 placed.2
  where
    add-to : (free : Option ℕ) → FirstFree before (walk_slots way pair.hash mask) free → after ≡ placed_in mask fill (entry_words pair) before free → IsTableOf way texts mask (used ++ entry_of_pair pair ∷ []) after
    add-to None all is-after = absurd (not-all-used way mask texts before used table pair.hash is small all)
    add-to (Some slot) free is-after =
        let unused = table.unused fill (omega arith) low in
        let put = entry-put mask fill (entry_words pair) before unused.payload unused.value.kind_is unused.value.payload_is in
        let made : slice_set (with_entry mask (length used) (entry_words pair) before) (index_at slot) (length used + 1) ≡ after =
        ap (λ n. slice_set (with_entry mask n (entry_words pair) before) (index_at slot) (n + 1)) filled ∙ (ap (λ later. slice_set later (index_at slot) (fill + 1)) (sym put) ∙ sym is-after) in
        subst (IsTableOf way texts mask (used ++ entry_of_pair pair ∷ [])) made
        (added way mask texts before used pair slot free.0 free.1 table fits (omega arith) hashed free.2 free.3 free.4 absent rises)
