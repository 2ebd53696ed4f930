-- From the words of the entry that a search found to the pair that they say, its value read through its box.
use Rattle.std.proofs.Common.{◌≡◌, ◌≢◌, ◌⊎◌, ◌<◌, ◌≤◌, ℕ, suc, true, List, [], ◌∷◌, Option, Some, None, sym, ap, ◌∙◌, subst, ⊎_elim, arith}
use Rattle.std.specs.Prelude.{◌↔◌, slice_index}
use Rattle.ft_layout.specs.declared.slot.Pair.{Pair}
use Rattle.ft_layout.specs.declared.slot.Slot.TheVariants.{Live}
use Rattle.ft_layout.specs.Containers.{class_mask}
use Rattle.ft_layout.specs.Tables.{entry_word}
use Rattle.ft_trace.specs.declared.Shape.{Shape}
use Rattle.ft_trace.specs.declared.View.{View}
use Rattle.ft_trace.specs.Acts.{has_lock}
use Rattle.ft_trace.specs.Addresses.{class_of, container_count, slots}
use Rattle.ft_trace.specs.ContainerStates.{kind_in}
use Rattle.ft_trace.specs.Holds.{held_words, held_unboxed}
use Rattle.ft_trace.specs.Kinds.{IsKeyed, rows}
use Rattle.ft_trace.specs.Pictures.{ContainerWords, entry_offset, root_in}
use Rattle.ft_trace.specs.Traces.{IsReachable}
use Rattle.ft_bank.specs.declared.table.Table.{Table}
use Rattle.ft_bank.specs.BoxSteps.{kind_read, payload_read}
use Rattle.ft_bank.specs.TableNames.{table_id, IsTableIn}
use Rattle.ft_bank.specs.Whole.{OnlyLoaded}
use Rattle.ft_bank.proofs.KnownAfterWrites.{loaded_held}
use Rattle.ft_keys.proofs.Written.{same-words}
use Rattle.ft_search.specs.Boxed.{IsKnownBox}
use Rattle.ft_search.specs.Held.{KnowsTable}
use Rattle.ft_search.proofs.Puts.{entry_reads}
use Rattle.ft_search.proofs.SearchedReads.{word_at, known_there, stands_boxed}
use Rattle.ft_iter.specs.declared.pairs.PairWords.{PairWords}
use Rattle.ft_iter.specs.Seeking.{SameMarks, FindsWords, SaysEntry, GivesPair}
use Rattle.ft_iter.proofs.Giving.{gives-pair, gives-none}

module _ (v : View) (o : ℕ) (k : Shape) (table : Table) (mask fill : ℕ) (last : Option ℕ) (keyed : IsKeyed (kind_in v.shape.starts o)) (in_bank : IsTableIn k table) (is : mask ≡ class_mask table.class) (names : root_in (held_words o v) ≡ suc (table_id table)) where
  abbrev t : ℕ
  t = table_id table

  abbrev T : List ℕ
  T = (held_words o v).table

  abbrev R : List ℕ
  R = (held_unboxed o v).table

  -- a word of an entry that is no value's
  stands : (place w : ℕ) → w < 8 → w ≢ 4 → w ≢ 5 → entry_word mask (0 ∷ 0 ∷ R) place w ≡ entry_word mask (0 ∷ 0 ∷ T) place w
  stands place w few n4 n5 =
      word_at v o k table mask place keyed in_bank is names R w
      ∙ (entry_reads v o t place w keyed names few n4 n5 ∙ sym (word_at v o k table mask place keyed in_bank is names T w))

  marks : SameMarks mask (0 ∷ 0 ∷ T) (0 ∷ 0 ∷ R)
  marks place w which =
      stands place w (⊎_elim (λ e. omega (arith, e)) (λ e. omega (arith, e)) which)
      (λ z. ⊎_elim (λ e. omega (arith, e, z)) (λ e. omega (arith, e, z)) which)
      (λ z. ⊎_elim (λ e. omega (arith, e, z)) (λ e. omega (arith, e, z)) which)

  pub none-given : FindsWords mask (0 ∷ 0 ∷ T) fill last None → GivesPair mask (0 ∷ 0 ∷ R) fill last None
  none-given seeks = gives-none mask (0 ∷ 0 ∷ T) (0 ∷ 0 ∷ R) fill last marks seeks

  module _ (few : fill ≤ rows (kind_in v.shape.starts o) (class_of t)) (found : PairWords) (finds : FindsWords mask (0 ∷ 0 ∷ T) fill last (Some found)) where
    abbrev place : ℕ
    place = finds.0

    low : place < rows (kind_in v.shape.starts o) (class_of t)
    low = let less = finds.1 in omega (arith, less, few)

    at4 : found.value_kind ≡ slice_index T (entry_offset (slots (class_of t)) place 4)
    at4 = finds.3.3 ∙ word_at v o k table mask place keyed in_bank is names T 4

    at5 : found.value ≡ slice_index T (entry_offset (slots (class_of t)) place 5)
    at5 = finds.3.4 ∙ word_at v o k table mask place keyed in_bank is names T 5

    -- the pass knows the box that its value names
    pub box-known : ∥ IsReachable v ∥₁ → o < container_count v.shape → has_lock o v.log ≡ true → found.value_kind ≡ 4 → IsKnownBox v found.value
    box-known possible here mine four =
        subst (IsKnownBox v) (sym at5) (known_there v o k table mask place keyed in_bank is names low possible here mine (sym at4 ∙ four))

    pub pair-given : (given : Option Pair) → ((pair : Pair) → SaysEntry v found (Live pair) ↔ (given ≡ Some pair)) → GivesPair mask (0 ∷ 0 ∷ R) fill last given
    pair-given given says =
        let kind = kind_read v found.value_kind found.value in
        let payload = payload_read v found.value_kind found.value in
        let f : ℕ → ℕ = slice_index (0 ∷ (found.hash ∷ (found.key_kind ∷ (found.key ∷ (kind ∷ (payload ∷ (found.serial ∷ (0 ∷ [])))))))) in
        let word : ℕ → ℕ = entry_word mask (0 ∷ 0 ∷ R) place in
        let boxed = stands_boxed v o k table mask place keyed in_bank is names low in
        let w1 : f 1 ≡ word 1 = finds.3.0 ∙ sym (stands place 1 (omega arith) (λ z. omega (arith, z)) (λ z. omega (arith, z))) in
        let w2 : f 2 ≡ word 2 = finds.3.1 ∙ sym (stands place 2 (omega arith) (λ z. omega (arith, z)) (λ z. omega (arith, z))) in
        let w3 : f 3 ≡ word 3 = finds.3.2 ∙ sym (stands place 3 (omega arith) (λ z. omega (arith, z)) (λ z. omega (arith, z))) in
        let w4 : f 4 ≡ word 4 = (λ d. kind_read v (at4 d) (at5 d)) ∙ boxed.0 in
        let w5 : f 5 ≡ word 5 = (λ d. payload_read v (at4 d) (at5 d)) ∙ boxed.1 in
        let w6 : f 6 ≡ word 6 = finds.3.5 ∙ sym (stands place 6 (omega arith) (λ z. omega (arith, z)) (λ z. omega (arith, z))) in
        gives-pair mask (0 ∷ 0 ∷ T) (0 ∷ 0 ∷ R) fill last place given marks finds.2
        (λ pair. (
          λ live. (says pair).0 (same-words word f (sym w1) (sym w2) (sym w3) (sym w4) (sym w5) (sym w6) (Live pair) live),
          λ same. same-words f word w1 w2 w3 w4 w5 w6 (Live pair) ((says pair).1 same),
        ))

-- after loads
module _ (v w : View) (o : ℕ) (k : Shape) (table : Table) (mask fill : ℕ) (last : Option ℕ) (loaded : OnlyLoaded v w) (shape : v.shape ≡ k) (low : o < container_count k) (keyed : IsKeyed (kind_in k.starts o)) (in_bank : IsTableIn k table) (is : mask ≡ class_mask table.class) (knows : KnowsTable o (table_id table) v) where
  same-shape : w.shape ≡ k
  same-shape = loaded.work.pass.shape ∙ shape

  same-keyed : IsKeyed (kind_in w.shape.starts o)
  same-keyed = subst (λ (z : Shape). IsKeyed (kind_in z.starts o)) (sym same-shape) keyed

  same-held : held_words o w ≡ held_words o v
  same-held = loaded_held v w o loaded

  same-read : held_unboxed o w ≡ held_unboxed o v
  same-read = loaded.unboxed o (subst (λ (z : Shape). o < container_count z) (sym shape) low) knows.0

  same-root : root_in (held_words o w) ≡ suc (table_id table)
  same-root = ap root_in same-held ∙ knows.1

  pub none-after : FindsWords mask (0 ∷ 0 ∷ (held_words o v).table) fill last None → GivesPair mask (0 ∷ 0 ∷ (held_unboxed o v).table) fill last None
  none-after finds =
      none-given v o k table mask fill last (subst (λ (z : Shape). IsKeyed (kind_in z.starts o)) (sym shape) keyed) in_bank is knows.1 finds

  module _ (few : fill ≤ rows (kind_in k.starts o) (class_of (table_id table))) (found : PairWords) (finds : FindsWords mask (0 ∷ 0 ∷ (held_words o v).table) fill last (Some found)) where
    few-there : fill ≤ rows (kind_in w.shape.starts o) (class_of (table_id table))
    few-there = subst (λ (z : Shape). fill ≤ rows (kind_in z.starts o) (class_of (table_id table))) (sym same-shape) few

    finds-there : FindsWords mask (0 ∷ 0 ∷ (held_words o w).table) fill last (Some found)
    finds-there = subst (λ (z : ContainerWords). FindsWords mask (0 ∷ 0 ∷ z.table) fill last (Some found)) (sym same-held) finds

    pub known-after : ∥ IsReachable w ∥₁ → found.value_kind ≡ 4 → IsKnownBox w found.value
    known-after possible four =
        box-known w o k table mask fill last same-keyed in_bank is same-root few-there found finds-there possible
        (subst (λ (z : Shape). o < container_count z) (sym same-shape) low) (loaded.work.pass.locks o ∙ knows.0) four

    pub given-after : (given : Option Pair) → ((pair : Pair) → SaysEntry w found (Live pair) ↔ (given ≡ Some pair)) → GivesPair mask (0 ∷ 0 ∷ (held_unboxed o v).table) fill last given
    given-after given says =
        subst (λ (z : ContainerWords). GivesPair mask (0 ∷ 0 ∷ z.table) fill last given) same-read
        (pair-given w o k table mask fill last same-keyed in_bank is same-root few-there found finds-there given says)
