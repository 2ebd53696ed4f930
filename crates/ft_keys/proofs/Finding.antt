-- What a search found in the words of a table.
use Rattle.std.proofs.Common.{◌≡◌, ◌≢◌, ℕ, suc, ◌+◌, ◌-◌, ◌^◌, ◌<◌, ◌≤◌, ⊎_elim, Bool, true, false, cond, List, [], ◌∷◌, ◌++◌, Option, Some, None, map, filter, length, All, AllPairs, Contains, IsTrue, get_or, refl, sym, ap, ◌∙◌, subst, arith}
use Rattle.std.specs.Prelude.{is_some, slice_index, slice_index_or}
use Rattle.std.specs.List.{range_with_len}
use Rattle.std.proofs.lemmas.List.Elements.{All-nil, All-cons, All-contains, All-weaker, Contains-append_right}
use Rattle.std.proofs.lemmas.List.{get_or_append_left}
use Rattle.std.proofs.Math.Seq.{get_or-append_seam}
use Rattle.std.proofs.lemmas.List.FromFn.{length-map-range_with_len, get_or-map-range_with_len}
use Rattle.std.proofs.lemmas.Bool.{cases_eq, cases_lt}
use Rattle.ft_model.specs.declared.data.Key.{Key}
use Rattle.ft_hash.specs.Probes.{IsMask}
use Rattle.ft_layout.specs.declared.slot.Stored.{Stored}
use Rattle.ft_layout.specs.Words.{FitsKey, key_kind, gone_kind, key_payload, IsEntry}
use Rattle.ft_layout.specs.Tables.{UsedEntry, is_live, hash_of, slot_with, dict_room, index_word, entry_word, Meets}
use Rattle.ft_layout.proofs.WordLaws.{key_is_one, gone_key_is_one, gone_is, kind_range}
use Rattle.ft_keys.specs.declared.walk.Way.{Way}
use Rattle.ft_keys.specs.declared.walk.Way.TheVariants.{Dict, Set}
use Rattle.ft_keys.specs.declared.search.Found.{Found}
use Rattle.ft_keys.specs.declared.search.Found.TheVariants.{At, Was, Free, Spent}
use Rattle.ft_keys.specs.Ways.{walk_slots, room, IsTableOf}
use Rattle.ft_keys.specs.Searches.{HasKey, HadKey, Passes, EndsAt, Finds}
use Rattle.ft_keys.proofs.Distinct.{few-distinct}
use Rattle.ft_keys.proofs.Reaching.{walk-within, walk-reaches}

pub room-low : (way : Way) (mask : ℕ) → room way mask ≤ dict_room mask
room-low Dict mask = omega arith
room-low Set mask = omega arith

pub room-less : (way : Way) (mask : ℕ) → room way mask < mask + 1
room-less Dict mask = omega arith
room-less Set mask = omega arith

-- an entry with the words of a key that is there has this key, and is there
same-entry : (word : ℕ → ℕ) (hash serial : ℕ) (key other : Key) (stored : Option Stored) → FitsKey key → IsEntry word (slot_with hash other serial stored) →
    word 2 ≡ key_kind key → word 3 ≡ key_payload key → (other ≡ key) × IsTrue (is_some stored)
same-entry word hash serial key other (Some stored) fits entry kind payload = (key_is_one (word 2) (word 3) other key entry.key (record { fits = fits; kind_is = kind; payload_is = payload }), refl)
same-entry word hash serial key other None fits entry kind payload =
    absurd (let gone = entry.key_is.kind_is in let three = gone_is other in let low = kind_range key in let high = kind_range other in omega arith)

-- an entry with the words of a key that was deleted had this key, and isn't there
gone-entry : (word : ℕ → ℕ) (hash serial : ℕ) (key other : Key) (stored : Option Stored) → FitsKey key → IsEntry word (slot_with hash other serial stored) →
    word 2 ≡ gone_kind key → word 3 ≡ key_payload key → (other ≡ key) × (is_some stored ≡ false)
gone-entry word hash serial key other None fits entry kind payload = (gone_key_is_one (word 2) (word 3) other key entry.key_is (record { fits = fits; kind_is = kind; payload_is = payload }), refl)
gone-entry word hash serial key other (Some stored) fits entry kind payload =
    absurd (let there = entry.key.kind_is in let three = gone_is key in let low = kind_range key in let high = kind_range other in omega arith)

-- an entry that is there has the words of its key
live-entry : (word : ℕ → ℕ) (hash serial : ℕ) (key : Key) (stored : Option Stored) → IsTrue (is_some stored) → IsEntry word (slot_with hash key serial stored) →
    (word 2 ≡ key_kind key) × (word 3 ≡ key_payload key)
live-entry word hash serial key (Some stored) live entry = (entry.key.kind_is, entry.key.payload_is)
live-entry word hash serial key None live entry = absurd cc

-- what holds of each item that passes a test holds of all that the filter keeps
kept-one : {X : Type 0} (p : X → Bool) (P : X → Type 0) (x : X) (rest : List X) (b : Bool) → (b ≡ true → P x) → All P rest → All P (cond b (x ∷ rest) rest)
kept-one p P x rest true here all = All-cons P x rest (here refl) all
kept-one p P x rest false here all = all

all-kept : {X : Type 0} (p : X → Bool) (P : X → Type 0) (xs : List X) → ((k : ℕ) (d : X) → k < length xs → p (slice_index_or xs k d) ≡ true → P (slice_index_or xs k d)) → All P (filter p xs)
all-kept p P [] each = All-nil P
all-kept p P (x ∷ xs) each =
    kept-one p P x (filter p xs) (p x) (λ passes. each 0 x (omega arith) passes)
    (all-kept p P xs (λ k d low passes. each (suc k) d (omega arith) passes))

-- a table has a slot never used, and each walk of all slots meets it
pub not-all-used : (way : Way) (mask : ℕ) (texts words : List ℕ) (used : List UsedEntry) → IsTableOf way texts mask used words → (hash : ℕ) → IsMask mask → hash < 2 ^ 64 →
    ¬ All (λ slot. index_word words slot ≢ 0) (walk_slots way hash mask)
not-all-used way mask texts words used table hash is small all =
    let named : ℕ → ℕ = λ slot. index_word words slot - 1 in
    let used-slot : (slot : ℕ) → slot ≤ mask → index_word words slot ≢ 0 = λ slot low. All-contains (λ s. index_word words s ≢ 0) (walk_slots way hash mask) slot all (walk-reaches way hash mask slot small is low) in
    let long = length-map-range_with_len named 0 (mask + 1) in
    let at : (k d : ℕ) → k < mask + 1 → get_or (map named (range_with_len 0 (mask + 1))) k d ≡ named k = λ k d low. get_or-map-range_with_len named 0 (mask + 1) k k d low (omega arith) in
    let distinct : AllPairs (λ a b. a ≢ b) (map named (range_with_len 0 (mask + 1))) = λ i j d less inside same.
    let one : named i ≡ named j = sym (at i d (omega arith)) ∙ same ∙ at j d (omega arith) in
    let first = used-slot i (omega arith) in
    let second = used-slot j (omega arith) in
    let equal : index_word words i ≡ index_word words j = omega arith in
    let twice : i ≡ j = table.once i j (omega arith) (omega arith) first equal in
    omega arith in
    let below : All (λ n. n < room way mask) (map named (range_with_len 0 (mask + 1))) = λ k d inside.
    let here = at k d (omega arith) in
    let first = used-slot k (omega arith) in
    let most = table.names k (omega arith) in
    let fill = table.fill in
    omega arith in
    let few = few-distinct (room way mask) (map named (range_with_len 0 (mask + 1))) distinct below in
    let less = room-less way mask in
    omega arith

module _ (way : Way) (mask : ℕ) (texts words : List ℕ) (used : List UsedEntry) (key : Key) (table : IsTableOf way texts mask used words) (fits : FitsKey key) where
  found-at : (slot place : ℕ) → slot ≤ mask → index_word words slot ≡ place + 1 → HasKey mask words place key → Finds used key (At slot place)
  found-at slot place inside here has =
      let named = table.names slot inside in
      let low : place < length used = omega arith in (
        low,
        λ any.
            let e = slice_index_or used place any in
            same-entry (entry_word mask words place) (hash_of texts e.key) e.serial key e.key e.stored fits (table.entries place any low) has.0 has.1,
      )

  found-gone : (slot place : ℕ) → slot ≤ mask → index_word words slot ≡ place + 1 → HadKey mask words place key → Finds used key (Was slot place)
  found-gone slot place inside here had =
      let named = table.names slot inside in
      let low : place < length used = omega arith in (
        low,
        λ any.
            let e = slice_index_or used place any in
            gone-entry (entry_word mask words place) (hash_of texts e.key) e.serial key e.key e.stored fits (table.entries place any low) had.0 had.1,
      )

  -- a slot on the walk is one of the table
  on-walk : (first passed left : List ℕ) (slot : ℕ) → first ≡ passed ++ slot ∷ left → first ≡ walk_slots way (hash_of texts key) mask → slot ≤ mask
  on-walk first passed left slot split whole =
      let here : Contains (passed ++ slot ∷ left) slot = Contains-append_right passed (slot ∷ left) slot (0, omega arith, refl) in
      All-contains (λ s. s ≤ mask) (walk_slots way (hash_of texts key) mask) slot (walk-within way (hash_of texts key) mask) (subst (λ (w : List ℕ). Contains w slot) (sym split ∙ whole) here)

  -- the slot that names the entry of a key that is there isn't passed
  not-passed : (slot place : ℕ) (any : UsedEntry) → place < length used → is_live (slice_index_or used place any) ≡ true → (slice_index_or used place any).key ≡ key →
      index_word words slot ≡ place + 1 → ¬ Passes mask words key slot
  not-passed slot place any low live same here passes =
      let e = slice_index_or used place any in
      let has = live-entry (entry_word mask words place) (hash_of texts e.key) e.serial e.key e.stored live (table.entries place any low) in
      let fill = table.fill in
      let most = room-low way mask in
      passes.other (place, omega arith, here, (has.0 ∙ ap key_kind same, has.1 ∙ ap key_payload same))

  not-met : (passed rest : List ℕ) (slot place : ℕ) (any : UsedEntry) → place < length used → is_live (slice_index_or used place any) ≡ true → (slice_index_or used place any).key ≡ key →
      All (Passes mask words key) passed → index_word words slot ≡ 0 → ¬ Meets words (passed ++ slot ∷ rest) place
  not-met passed rest slot place any low live same passes none meets =
      let seam = get_or-append_seam passed slot rest 0 in
      ⊎_elim
      (λ (less : meets.step < length passed).
      let there = get_or_append_left passed (slot ∷ rest) 0 meets.step less in
      not-passed (get_or passed meets.step 0) place any low live same (ap (index_word words) (sym there) ∙ meets.here) (passes meets.step 0 less))
      (λ (more : length passed ≤ meets.step).
      ⊎_elim
      (λ (at : length passed ≡ meets.step).
      let zero : place + 1 ≡ 0 = sym meets.here ∙ ap (λ k. index_word words (slice_index (passed ++ slot ∷ rest) k)) (sym at) ∙ ap (index_word words) seam ∙ none in
      omega arith)
      (λ (other : length passed ≡ meets.step → ⊥).
      meets.before (length passed) (omega arith) (ap (index_word words) seam ∙ none))
      (cases_eq (length passed) meets.step))
      (cases_lt meets.step (length passed))

  found-free : (passed rest : List ℕ) (slot : ℕ) → passed ++ slot ∷ rest ≡ walk_slots way (hash_of texts key) mask → All (Passes mask words key) passed → index_word words slot ≡ 0 → Finds used key (Free slot)
  found-free passed rest slot whole passes none = all-kept is_live (λ e. e.key ≢ key) used (λ place any low live same.
      let walk : walk_slots way (hash_of texts (slice_index_or used place any).key) mask ≡ passed ++ slot ∷ rest = ap (λ k. walk_slots way (hash_of texts k) mask) same ∙ sym whole in
      not-met passed rest slot place any low live same passes none (subst (λ (w : List ℕ). Meets words w place) walk (table.met place any low)))

  found-unspent : (hash : ℕ) → IsMask mask → hash < 2 ^ 64 → ¬ All (Passes mask words key) (walk_slots way hash mask)
  found-unspent hash is small passes =
      not-all-used way mask texts words used table hash is small (All-weaker (Passes mask words key) (λ slot. index_word words slot ≢ 0) (λ slot p. p.was_used) (walk_slots way hash mask) passes)

  pub finds-rightly : (first left : List ℕ) (found : Found) → EndsAt mask words key first left found → IsMask mask → hash_of texts key < 2 ^ 64 → first ≡ walk_slots way (hash_of texts key) mask → Finds used key found
  finds-rightly first left (At slot place) ends is small whole = found-at slot place (on-walk first ends.0 left slot ends.1 whole) ends.3 ends.4
  finds-rightly first left (Was slot place) ends is small whole = found-gone slot place (on-walk first ends.0 left slot ends.1 whole) ends.3 ends.4
  finds-rightly first left (Free slot) ends is small whole =
      found-free ends.0 ends.1 slot (ap (λ l. ends.0 ++ l) (sym ends.3) ∙ sym ends.2 ∙ whole) ends.4 ends.5
  finds-rightly first left Spent ends is small whole =
      found-unspent (hash_of texts key) is small (subst (All (Passes mask words key)) whole ends.1)
