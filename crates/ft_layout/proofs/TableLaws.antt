-- What a blank table holds, and one in which an entry changed.
use Rattle.std.proofs.Common.{◌≡◌, ◌≢◌, ℕ, ◌<◌, ◌≤◌, List, [], length, get_or, set, refl, sym, ◌∙◌, subst, inl, inr, arith}
use Rattle.std.specs.Prelude.{All, IsTrue, slice_index}
use Rattle.std.proofs.lemmas.Bool.{cases_lt, cases_eq}
use Rattle.std.proofs.lemmas.List.{length-set, get_or-set_same, get_or-set_other}
use Rattle.ft_model.specs.declared.data.Key.{Key}
use Rattle.ft_layout.specs.declared.slot.Stored.{Stored}
use Rattle.ft_layout.specs.declared.slot.Stored.TheVariants.{Empty}
use Rattle.ft_layout.specs.declared.slot.Slot.{Slot}
use Rattle.ft_layout.specs.declared.slot.Slot.TheVariants.{Never, Live, Gone}
use Rattle.ft_layout.specs.Words.{IsStored, IsEntry}
use Rattle.ft_layout.specs.Tables.{index_at, entry_at, index_word, entry_word, UsedEntry, is_live, hash_of, slot_of, Meets, IsTable}
use Rattle.ft_layout.proofs.LiveLaws.{distinct-live, distinct-used}
use Rattle.ft_layout.specs.WordChanges.{IsBlankTable, KeepsKey, ChangesEntry, SaysUsed}

-- ---- words that are the same say the same: those of an entry but the first and the last

module _ (f g : ℕ → ℕ) (same : (w : ℕ) → 1 ≤ w → w < 7 → f w ≡ g w) where
  stored_moves : (s : Stored) → IsStored (f 4) (f 5) s → IsStored (g 4) (g 5) s
  stored_moves s is = record { fits = is.fits; kind_is = sym (same 4 (omega arith) (omega arith)) ∙ is.kind_is; payload_is = sym (same 5 (omega arith) (omega arith)) ∙ is.payload_is }

  pub entry_moves : (s : Slot) → IsEntry f s → IsEntry g s
  entry_moves Never is = record {
    kind = sym (same 2 (omega arith) (omega arith)) ∙ is.kind;
    payload = sym (same 3 (omega arith) (omega arith)) ∙ is.payload;
    value = stored_moves Empty is.value;
  }
  entry_moves (Live pair) is = record {
    hash = sym (same 1 (omega arith) (omega arith)) ∙ is.hash;
    key = record { fits = is.key.fits; kind_is = sym (same 2 (omega arith) (omega arith)) ∙ is.key.kind_is; payload_is = sym (same 3 (omega arith) (omega arith)) ∙ is.key.payload_is };
    value = stored_moves pair.value is.value;
    serial = sym (same 6 (omega arith) (omega arith)) ∙ is.serial;
  }
  entry_moves (Gone key serial) is = record {
    key_is = record { fits = is.key_is.fits; kind_is = sym (same 2 (omega arith) (omega arith)) ∙ is.key_is.kind_is; payload_is = sym (same 3 (omega arith) (omega arith)) ∙ is.key_is.payload_is };
    left = is.left;
    value = stored_moves is.left is.value;
    serial_is = sym (same 6 (omega arith) (omega arith)) ∙ is.serial_is;
  }

-- ---- an empty table

-- where all words but the goal are 0, no entry was used
module _ (walk : ℕ → List ℕ) (room : ℕ) (texts : List ℕ) (mask : ℕ) (words : List ℕ) (blank : IsBlankTable mask words) where
  pub empty_table : IsTable walk room texts mask [] words
  empty_table = record {
    size = blank.size;
    head = blank.zeros 0 (inl (omega arith));
    spare = λ place low. blank.zeros (entry_at mask place 7) (inr (omega arith));
    fill = omega arith;
    entries = λ place any low. absurd (omega arith);
    unused = λ place past low. record {
      kind = blank.zeros (entry_at mask place 2) (inr (omega arith));
      payload = blank.zeros (entry_at mask place 3) (inr (omega arith));
      value = record { fits = tt; kind_is = blank.zeros (entry_at mask place 4) (inr (omega arith)); payload_is = blank.zeros (entry_at mask place 5) (inr (omega arith)) };
    };
    hashes = λ place any low. absurd (omega arith);
    distinct = λ i j d less low. absurd (omega arith);
    rising = λ i j d less low. absurd (omega arith);
    names = λ slot low. let z = blank.zeros (index_at slot) (inr (omega arith)) in omega arith;
    once = λ slot other low less used same. absurd (used (blank.zeros (index_at slot) (inr (omega arith))));
    met = λ place any low. absurd (omega arith);
  }

-- a walk within the table meets what it met, where the slots that were used stay
module _ (mask : ℕ) (words news : List ℕ) (stays : (s : ℕ) → s ≤ mask → index_word words s ≢ 0 → index_word news s ≡ index_word words s) where
  pub meets_moves : (slots : List ℕ) (place : ℕ) → All (λ s. s ≤ mask) slots → Meets words slots place → Meets news slots place
  meets_moves slots place within m =
      let at : (j : ℕ) → j ≤ m.step → index_word words (slice_index slots j) ≢ 0 → index_word news (slice_index slots j) ≡ index_word words (slice_index slots j) = λ j low. stays (slice_index slots j) (within j 0 (let l = m.low in omega arith)) in
      record {
        step = m.step;
        low = m.low;
        here = at m.step (omega arith) (λ none. let h = m.here in omega arith) ∙ m.here;
        before = λ j less none. m.before j less (sym (at j (omega arith) (m.before j less)) ∙ none);
      }

-- ---- one entry changes

module _ (walk : ℕ → List ℕ) (room : ℕ) (texts : List ℕ) (mask : ℕ) (in_walk : (hash : ℕ) → All (λ s. s ≤ mask) (walk hash)) (used : List UsedEntry) (words news : List ℕ) (table : IsTable walk room texts mask used words) (place : ℕ) (low : place < length used) (entry : UsedEntry) (changes : ChangesEntry mask place words news)
    (stays : (any : UsedEntry) → KeepsKey (get_or used place any) entry) (now : SaysUsed texts mask news place entry) where
  abbrev changed : List UsedEntry
  changed = set used place entry

  still : (p w : ℕ) → p ≢ place → w < 8 → entry_word mask news p w ≡ entry_word mask words p w
  still p w ne small =
      changes.rest (entry_at mask p w)
      (elim (cases_lt p place) [
        | inl before ↦ inl (omega arith)
        | inr past ↦ inr (omega arith)
      ])

  index_still : (s : ℕ) → s ≤ mask → index_word news s ≡ index_word words s
  index_still s small = changes.rest (index_at s) (inl (omega arith))

  as_long : length changed ≡ length used
  as_long = length-set used place entry

  -- what holds of the old entry at each place and of the new one
  at_each : (P : ℕ → UsedEntry → Type 0) → P place entry → ((p : ℕ) (any : UsedEntry) → p ≢ place → p < length used → P p (get_or used p any)) → (p : ℕ) (any : UsedEntry) → p < length used → P p (get_or changed p any)
  at_each P new old p any less =
      elim (cases_eq p place) [
        | inl same ↦ rw (same, get_or-set_same used place entry any low) new
        | inr differ ↦ rw (get_or-set_other used place p entry any differ) (old p any differ less)
      ]

  -- no key, no serial changed, and no deleted entry came back
  keeps : (p : ℕ) (any : UsedEntry) → p < length used → ((get_or changed p any).key ≡ (get_or used p any).key) × ((get_or changed p any).serial ≡ (get_or used p any).serial) × (IsTrue (is_live (get_or changed p any)) → IsTrue (is_live (get_or used p any)))
  keeps p any less =
      elim (cases_eq p place) [
        | inl same ↦ rw (same, get_or-set_same used place entry any low) ((stays any).key, (stays any).serial, (stays any).live)
        | inr differ ↦ rw (get_or-set_other used place p entry any differ) (refl, refl, λ is. is)
      ]

  pub changed_table : IsTable walk room texts mask changed news
  changed_table = record {
    size = changes.size ∙ table.size;
    head = changes.rest 0 (inl (omega arith)) ∙ table.head;
    spare = λ p less. elim (cases_eq p place) [
      | inl same ↦ rw same now.spare
      | inr differ ↦ still p 7 differ (omega arith) ∙ table.spare p less
    ];
    fill = let f = table.fill in omega (arith, as_long);
    entries = λ p any less. at_each (λ q u. IsEntry (entry_word mask news q) (slot_of texts u)) now.says (λ q d differ small. entry_moves (entry_word mask words q) (entry_word mask news q) (λ w _ few. sym (still q w differ (omega (arith, few)))) (slot_of texts (get_or used q d)) (table.entries q d small)) p any (omega (arith, as_long));
    unused = λ p past less. entry_moves (entry_word mask words p) (entry_word mask news p) (λ w _ few. sym (still p w (omega (arith, as_long)) (omega (arith, few)))) Never (table.unused p (omega (arith, as_long)) less);
    hashes = λ p any less. at_each (λ q u. entry_word mask news q 1 ≡ hash_of texts u.key) now.hash (λ q d differ small. still q 1 differ (omega arith) ∙ table.hashes q d small) p any (omega (arith, as_long));
    distinct = distinct-live changed (λ i j d less small a b same.
        let x = keeps i d (omega (arith, as_long)) in
        let y = keeps j d (omega (arith, as_long)) in
        distinct-used used table.distinct i j d less (omega (arith, as_long)) (x.2 a) (y.2 b) (sym x.0 ∙ (same ∙ y.0)));
    rising = λ i j d less small.
        let x = keeps i d (omega (arith, as_long)) in
        let y = keeps j d (omega (arith, as_long)) in
        let old = table.rising i j d less (omega (arith, as_long)) in
        rw (x.1, y.1) old;
    names = λ s less. let n = table.names s less in let e = index_still s less in omega (arith, as_long);
    once = λ s t less small used_now same.
        table.once s t less small (λ none. used_now (index_still s less ∙ none)) (sym (index_still s less) ∙ (same ∙ index_still t small));
    met = λ p any less.
        let x = keeps p any (omega (arith, as_long)) in
        let m : Meets words (walk (hash_of texts (get_or changed p any).key)) p = subst (λ (k : Key). Meets words (walk (hash_of texts k)) p) (sym x.0) (table.met p any (omega (arith, as_long))) in
        meets_moves mask words news (λ s small _. index_still s small) (walk (hash_of texts (get_or changed p any).key)) p (in_walk (hash_of texts (get_or changed p any).key)) m;
  }
