-- A search on the words that a pass knows of a table ended as it does on what they read: no value's word tells it
-- anything.
use Rattle.std.proofs.Common.{◌≡◌, ◌≢◌, ◌⊎◌, ℕ, suc, ◌+◌, ◌<◌, ◌≤◌, true, List, ◌∷◌, ◌++◌, length, All, Contains, get_or, refl, sym, ap, ◌∙◌, subst, inl, inr, ⊎_elim, arith}
use Rattle.std.specs.Prelude.{slice_index}
use Rattle.std.proofs.lemmas.Bool.{cases_lt}
use Rattle.std.proofs.lemmas.List.{get_or_append_left, length-append}
use Rattle.std.proofs.lemmas.List.Elements.{All-contains, Contains-append_right}
use Rattle.ft_hash.specs.Probes.{IsMask}
use Rattle.ft_layout.specs.Containers.{class_mask}
use Rattle.ft_layout.specs.Tables.{index_word, entry_word}
use Rattle.ft_layout.specs.Words.{FitsKey}
use Rattle.ft_model.specs.declared.data.Key.{Key}
use Rattle.ft_model.specs.declared.script.Kind.{Kind}
use Rattle.ft_keys.specs.declared.search.Found.{Found}
use Rattle.ft_keys.specs.declared.search.Found.TheVariants.{At, Was, Free, Spent}
use Rattle.ft_keys.specs.declared.walk.Way.{Way}
use Rattle.ft_keys.specs.declared.walk.Way.TheVariants as way
use Rattle.ft_keys.specs.Searches.{EndsAt, HasKey, HadKey, Passes, Searched}
use Rattle.ft_keys.specs.Ways.{walk_slots}
use Rattle.ft_keys.proofs.Finding.{finds-rightly}
use Rattle.ft_keys.proofs.Reaching.{walk-within}
use Rattle.ft_trace.specs.declared.Shape.{Shape}
use Rattle.ft_trace.specs.declared.View.{View}
use Rattle.ft_trace.specs.Acts.{has_lock}
use Rattle.ft_trace.specs.Addresses.{class_of, container_count, slots}
use Rattle.ft_trace.specs.Boxes.{value_at, known_box_word}
use Rattle.ft_trace.specs.ContainerStates.{kind_in}
use Rattle.ft_trace.specs.Holds.{held_words, held_unboxed}
use Rattle.ft_trace.specs.Kinds.{rows, IsKeyed}
use Rattle.ft_trace.specs.Pictures.{root_in, entry_offset}
use Rattle.ft_trace.specs.Traces.{IsReachable}
use Rattle.ft_trace.proofs.PlainPuts.{by_root}
use Rattle.ft_trace.proofs.ReadTables.{read_index, rows_else, value_low}
use Rattle.ft_bank.specs.declared.table.Table.{Table}
use Rattle.ft_bank.specs.BoxSteps.{kind_read, payload_read}
use Rattle.ft_bank.specs.TableNames.{table_id, IsTableIn}
use Rattle.ft_bank.proofs.NamedBoxes.{named_is_box, named_is_known}
use Rattle.ft_search.specs.Boxed.{IsKnownBox}
use Rattle.ft_search.specs.Rounds.{kind_by}
use Rattle.ft_search.proofs.KnownTableWords.{after_header, entry_after_header}
use Rattle.ft_search.proofs.Puts.{entry_reads, keyed_value, table_class}
use Rattle.ft_search.proofs.Unboxing.{raw_table_long, reads_plain, row_reads}
use Rattle.ft_search.proofs.WordPlaces.{entry_is, mask_is, slots_is}

module _ (mask : ℕ) (raw read : List ℕ) (key : Key) (index : (s : ℕ) → s ≤ mask → index_word read s ≡ index_word raw s) (entry : (p w : ℕ) → (w ≡ 2) ⊎ (w ≡ 3) → entry_word mask read p w ≡ entry_word mask raw p w) where
  has_there : (p : ℕ) → HasKey mask raw p key → HasKey mask read p key
  has_there p h = (entry p 2 (inl refl) ∙ h.0, entry p 3 (inr refl) ∙ h.1)

  had_there : (p : ℕ) → HadKey mask raw p key → HadKey mask read p key
  had_there p h = (entry p 2 (inl refl) ∙ h.0, entry p 3 (inr refl) ∙ h.1)

  passes_there : (s : ℕ) → s ≤ mask → Passes mask raw key s → Passes mask read key s
  passes_there s low p = record {
    was_used = λ z. p.was_used (sym (index s low) ∙ z);
    other = λ n. p.other (n.0, n.1, sym (index s low) ∙ n.2, (sym (entry n.0 2 (inl refl)) ∙ n.3.0, sym (entry n.0 3 (inr refl)) ∙ n.3.1));
  }

  all_there : (l : List ℕ) → All (λ s. s ≤ mask) l → All (Passes mask raw key) l → All (Passes mask read key) l
  all_there l low all i any less = passes_there (get_or l i any) (low i any less) (all i any less)

  -- the slots of a walk lie in the index, and so do those passed on it
  passed_low : (first passed rest : List ℕ) → first ≡ passed ++ rest → All (λ s. s ≤ mask) first → All (λ s. s ≤ mask) passed
  passed_low first passed rest split low i any less =
      let long = length-append passed rest in
      let whole : All (λ s. s ≤ mask) (passed ++ rest) = subst (λ (l : List ℕ). All (λ s. s ≤ mask) l) split low in
      subst (λ (s : ℕ). s ≤ mask) (get_or_append_left passed rest any i less) (whole i any (omega (arith, long, less)))

  slot_low : (first passed rest : List ℕ) (slot : ℕ) → first ≡ passed ++ slot ∷ rest → All (λ s. s ≤ mask) first → slot ≤ mask
  slot_low first passed rest slot split low =
      let here : Contains (passed ++ slot ∷ rest) slot = Contains-append_right passed (slot ∷ rest) slot (0, omega arith, refl) in
      All-contains (λ s. s ≤ mask) (passed ++ slot ∷ rest) slot (subst (λ (l : List ℕ). All (λ s. s ≤ mask) l) split low) here

  ends_there : (first left : List ℕ) (found : Found) → All (λ s. s ≤ mask) first → EndsAt mask raw key first left found → EndsAt mask read key first left found
  ends_there first left (At slot place) low e =
      (e.0, e.1, all_there e.0 (passed_low first e.0 (slot ∷ left) e.1 low) e.2, index slot (slot_low first e.0 left slot e.1 low) ∙ e.3, has_there place e.4)
  ends_there first left (Was slot place) low e =
      (e.0, e.1, all_there e.0 (passed_low first e.0 (slot ∷ left) e.1 low) e.2, index slot (slot_low first e.0 left slot e.1 low) ∙ e.3, had_there place e.4)
  ends_there first left (Free slot) low e =
      let split : first ≡ e.0 ++ slot ∷ e.1 = e.2 ∙ ap (λ (l : List ℕ). e.0 ++ l) e.3 in
      (e.0, e.1, e.2, e.3, all_there e.0 (passed_low first e.0 left e.2 low) e.4, index slot (slot_low first e.0 e.1 slot split low) ∙ e.5)
  ends_there first left Spent low e = (e.0, all_there first low e.1)

  pub searched_there : (first left : List ℕ) (found : Found) → IsMask mask → FitsKey key → All (λ s. s ≤ mask) first → Searched mask raw key first left found → Searched mask read key first left found
  searched_there first left found is fits low s =
      let ends = ends_there first left found low s.ends in
      record { ends = ends; finds = λ way texts used table small whole. finds-rightly way mask texts read used key table fits first left found ends is small whole }

-- of a table that the root of a container names
pub searched_reads : (v : View) (o : ℕ) (k : Shape) (table : Table) (mask hash : ℕ) (way : Way) (key : Key) (left : List ℕ) (found : Found) → IsKeyed (kind_in v.shape.starts o) → IsTableIn k table → mask ≡ class_mask table.class → root_in (held_words o v) ≡ suc (table_id table) → FitsKey key → Searched mask (0 ∷ 0 ∷ (held_words o v).table) key (walk_slots way hash mask) left found → Searched mask (0 ∷ 0 ∷ (held_unboxed o v).table) key (walk_slots way hash mask) left found
searched_reads v o k table mask hash way key left found keyed in_bank last names fits s =
    let t = table_id table in
    let T = (held_words o v).table in
    let R = (held_unboxed o v).table in
    let box : ℕ → ℕ → ℕ = λ b i. known_box_word v.shape b i v.log in
    let kd : Kind = kind_in v.shape.starts o in
    let index : (z : ℕ) → z ≤ mask → index_word (0 ∷ 0 ∷ R) z ≡ index_word (0 ∷ 0 ∷ T) z = λ z low.
    let few = slots_is k table mask in_bank last in
    after_header R z
    ∙ ((ap (λ (l : List ℕ). slice_index l z) (by_root box kd (root_in (held_words o v)) t T names) ∙ read_index box (class_of t) (rows kd (class_of t)) T kd keyed z (omega (arith, few, low)))
    ∙ sym (after_header T z)) in
    let field : (p w : ℕ) → w < 8 → w ≢ 4 → w ≢ 5 → entry_word mask (0 ∷ 0 ∷ R) p w ≡ entry_word mask (0 ∷ 0 ∷ T) p w = λ p w few n4 n5.
    let at = entry_is k table mask p w in_bank last in
    entry_after_header R mask p w
    ∙ (ap (slice_index R) at ∙ (entry_reads v o t p w keyed names few n4 n5 ∙ (ap (slice_index T) (sym at) ∙ sym (entry_after_header T mask p w)))) in
    let entry : (p w : ℕ) → (w ≡ 2) ⊎ (w ≡ 3) → entry_word mask (0 ∷ 0 ∷ R) p w ≡ entry_word mask (0 ∷ 0 ∷ T) p w = λ p w which.
    field p w (⊎_elim (λ e. omega (arith, e)) (λ e. omega (arith, e)) which)
    (λ z. ⊎_elim (λ e. omega (arith, e, z)) (λ e. omega (arith, e, z)) which)
    (λ z. ⊎_elim (λ e. omega (arith, e, z)) (λ e. omega (arith, e, z)) which) in
    searched_there mask (0 ∷ 0 ∷ T) (0 ∷ 0 ∷ R) key index entry (walk_slots way hash mask) left found (mask_is table.class mask in_bank.0 last) fits (walk-within way hash mask) s

-- dicts and sets are searched
pub way_keyed : (w : Way) → IsKeyed (kind_by w)
way_keyed way.Dict = tt
way_keyed way.Set = tt

-- ---- the value of the entry at which a search ended

module _ (v : View) (o : ℕ) (k : Shape) (table : Table) (mask place : ℕ) (keyed : IsKeyed (kind_in v.shape.starts o)) (in_bank : IsTableIn k table) (last : mask ≡ class_mask table.class) (names : root_in (held_words o v) ≡ suc (table_id table)) where
  abbrev t : ℕ
  t = table_id table

  abbrev T : List ℕ
  T = (held_words o v).table

  abbrev R : List ℕ
  R = (held_unboxed o v).table

  abbrev kd : Kind
  kd = kind_in v.shape.starts o

  abbrev at4 : ℕ
  at4 = entry_offset (slots (class_of t)) place 4

  abbrev at5 : ℕ
  at5 = entry_offset (slots (class_of t)) place 5

  next_is : at4 + 1 ≡ at5
  next_is = omega arith

  -- a word of an entry, after the header
  pub word_at : (l : List ℕ) (w : ℕ) → entry_word mask (0 ∷ 0 ∷ l) place w ≡ slice_index l (entry_offset (slots (class_of t)) place w)
  word_at l w = entry_after_header l mask place w ∙ ap (slice_index l) (entry_is k table mask place w in_bank last)

  -- an entry of the table
  module _ (low : place < rows kd (class_of t)) where
    pub row_is : (slice_index R at4 ≡ kind_read v (slice_index T at4) (slice_index T at5)) × (slice_index R at5 ≡ payload_read v (slice_index T at4) (slice_index T at5))
    row_is =
        let is = sym (keyed_value kd keyed (class_of t) place) in
        let inside = value_low kd (class_of t) place (table_class k table in_bank) low in
        let whole = raw_table_long v o t names in
        let long : at4 + 1 < length T = omega (arith, inside, is, whole) in
        let r = row_reads v o t at4 place names low is long in
        (r.0 ∙ (λ d. kind_read v (slice_index T at4) (slice_index T (next_is d))), ap (slice_index R) (sym next_is) ∙ (r.1 ∙ (λ d. payload_read v (slice_index T at4) (slice_index T (next_is d)))))

    -- the box that its value names is known
    pub known_there : ∥ IsReachable v ∥₁ → o < container_count v.shape → has_lock o v.log ≡ true → slice_index T at4 ≡ 4 → IsKnownBox v (slice_index T at5)
    known_there possible here mine four =
        let is = keyed_value kd keyed (class_of t) place in
        let stands : slice_index T (value_at kd (class_of t) place) ≡ 4 = ap (slice_index T) is ∙ four in
        let next : suc (value_at kd (class_of t) place) ≡ at5 = omega (arith, is) in
        let name = named_is_box v o t place possible here mine names low stands in
        let known = named_is_known v o t place possible here mine names low stands in
        subst (λ (i : ℕ). IsKnownBox v (slice_index T i)) next (name, known.0, known.1)

  -- a place past the entries
  past_rows : rows kd (class_of t) ≤ place → (w : ℕ) → w < 8 → slice_index R (entry_offset (slots (class_of t)) place w) ≡ slice_index T (entry_offset (slots (class_of t)) place w)
  past_rows far w few =
      let box : ℕ → ℕ → ℕ = λ b i. known_box_word v.shape b i v.log in
      ap (λ (l : List ℕ). slice_index l (entry_offset (slots (class_of t)) place w)) (by_root box kd (root_in (held_words o v)) t T names)
      ∙ rows_else box kd (class_of t) (rows kd (class_of t)) (entry_offset (slots (class_of t)) place w) T
      (λ q less. let e = keyed_value kd keyed (class_of t) q in ((λ z. omega (arith, z, e, less, far)), (λ z. omega (arith, z, e, less, far))))

  pub stands_past : rows kd (class_of t) ≤ place → (slice_index T at4 ≡ entry_word mask (0 ∷ 0 ∷ R) place 4) × (slice_index T at5 ≡ entry_word mask (0 ∷ 0 ∷ R) place 5)
  stands_past far = (sym (word_at R 4 ∙ past_rows far 4 (omega arith)), sym (word_at R 5 ∙ past_rows far 5 (omega arith)))

  -- a value in place
  pub stands_plain : slice_index T at4 ≢ 4 → (slice_index T at4 ≡ entry_word mask (0 ∷ 0 ∷ R) place 4) × (slice_index T at5 ≡ entry_word mask (0 ∷ 0 ∷ R) place 5)
  stands_plain ne =
      ⊎_elim
      (λ (low : place < rows kd (class_of t)).
      let r = row_is low in
      let p = reads_plain v (slice_index T at4) (slice_index T at5) ne in
      (sym (word_at R 4 ∙ (r.0 ∙ p.0)), sym (word_at R 5 ∙ (r.1 ∙ p.1))))
      (λ (far : rows kd (class_of t) ≤ place). stands_past far)
      (cases_lt place (rows kd (class_of t)))

  pub stands_boxed : place < rows kd (class_of t) → (kind_read v (slice_index T at4) (slice_index T at5) ≡ entry_word mask (0 ∷ 0 ∷ R) place 4) × (payload_read v (slice_index T at4) (slice_index T at5) ≡ entry_word mask (0 ∷ 0 ∷ R) place 5)
  stands_boxed low = let r = row_is low in (sym (word_at R 4 ∙ r.0), sym (word_at R 5 ∙ r.1))
