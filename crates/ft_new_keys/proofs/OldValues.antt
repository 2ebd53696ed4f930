-- What a value of a container's table reads by its two words, for a pass that has the lock.
use Rattle.std.proofs.Common.{◌≡◌, ◌≢◌, ◌∷◌, ℕ, suc, ◌+◌, ◌*◌, ◌^◌, ◌<◌, true, List, length, sym, ap, ◌∙◌, subst, arith}
use Rattle.std.specs.Prelude.{slice_index}
use Rattle.ft_layout.specs.Containers.{class_mask}
use Rattle.ft_layout.specs.Tables.{dict_room, entry_word}
use Rattle.ft_layout.proofs.Powers.{slots_range}
use Rattle.ft_trace.specs.declared.Shape.{Shape}
use Rattle.ft_trace.specs.declared.View.{View}
use Rattle.ft_trace.specs.Acts.{has_lock}
use Rattle.ft_trace.specs.Addresses.{container_count, class_of, places, size, slots}
use Rattle.ft_trace.specs.Boxes.{value_at}
use Rattle.ft_trace.specs.ContainerStates.{kind_in}
use Rattle.ft_trace.specs.Holds.{held_words, held_unboxed}
use Rattle.ft_trace.specs.Kinds.{rows, IsKeyed}
use Rattle.ft_trace.specs.Pictures.{ContainerWords, root_in, entry_offset}
use Rattle.ft_trace.proofs.ByKind.{keyed_fit}
use Rattle.ft_trace.proofs.ReadTables.{value_low}
use Rattle.ft_bank.specs.declared.table.Table.{Table}
use Rattle.ft_bank.specs.BoxSteps.{kind_read, payload_read}
use Rattle.ft_bank.specs.TableNames.{table_id, IsTableIn}
use Rattle.ft_bank.specs.Whole.{OnlyLoaded}
use Rattle.ft_bank.proofs.KnownAfterWrites.{loaded_held}
use Rattle.ft_search.specs.Boxed.{IsKnownBox, NamedAreKnown}
use Rattle.ft_search.proofs.KnownTableWords.{entry_after_header}
use Rattle.ft_search.proofs.Puts.{entry_reads, keyed_value, table_class}
use Rattle.ft_search.proofs.Unboxing.{raw_table_long, row_reads}
use Rattle.ft_search.proofs.WordPlaces.{places_is, slots_is}

-- a table has few words
pub few_words : (k : Shape) (t : Table) → IsTableIn k t → size (class_of (table_id t)) < 2 ^ 32
unfolding places slots
few_words k t is = let r = (slots_range (class_of (table_id t)) (table_class k t is)).1 in omega (arith, r)

-- ---- where the words of an entry lie

-- a row of the container's kind is a place of the table
pub row_place : (k : Shape) (o : ℕ) (table : Table) (mask place : ℕ) → IsKeyed (kind_in k.starts o) → IsTableIn k table → mask ≡ class_mask table.class → place < rows (kind_in k.starts o) (class_of (table_id table)) → place < dict_room mask
row_place k o table mask place keyed table_in last low =
    let fit = keyed_fit (kind_in k.starts o) keyed (class_of (table_id table)) in
    let places = places_is k table mask table_in last in
    omega (arith, fit, places, low)

pub row_value : (k : Shape) (o : ℕ) (table : Table) (mask place : ℕ) → IsKeyed (kind_in k.starts o) → IsTableIn k table → mask ≡ class_mask table.class → 8 * place + mask + 1 + 4 ≡ value_at (kind_in k.starts o) (class_of (table_id table)) place
row_value k o table mask place keyed table_in last =
    let at = keyed_value (kind_in k.starts o) keyed (class_of (table_id table)) place in
    let slots = slots_is k table mask table_in last in
    omega (arith, at, slots)

-- a word of an entry that is no value's reads as it stands
pub word_stands : (k : Shape) (o : ℕ) (table : Table) (mask place word : ℕ) (v : View) → v.shape ≡ k → IsKeyed (kind_in k.starts o) → IsTableIn k table → mask ≡ class_mask table.class → root_in (held_words o v) ≡ suc (table_id table) → word < 8 → word ≢ 4 → word ≢ 5 → slice_index (held_words o v).table (8 * place + mask + 1 + word) ≡ entry_word mask (0 ∷ 0 ∷ (held_unboxed o v).table) place word
word_stands k o table mask place word v shape keyed table_in last names few not4 not5 =
    let many = slots_is k table mask table_in last in
    let at : 8 * place + mask + 1 + word ≡ entry_offset (slots (class_of (table_id table))) place word = omega (arith, many) in
    let here : entry_offset (slots (class_of (table_id table))) place word ≡ 8 * place + word + mask + 1 = omega (arith, many) in
    ap (slice_index (held_words o v).table) at
    ∙ (sym (entry_reads v o (table_id table) place word (subst (λ (z : Shape). IsKeyed (kind_in z.starts o)) (sym shape) keyed) names few not4 not5)
    ∙ (ap (slice_index (held_unboxed o v).table) here ∙ sym (entry_after_header (held_unboxed o v).table mask place word)))

-- where the two words of a value lie
pub kind_at : (l : List ℕ) (mask place word : ℕ) → word ≡ 4 → slice_index l (8 * place + mask + 1 + 4) ≡ entry_word mask (0 ∷ 0 ∷ l) place word
kind_at l mask place word is =
    let here : 8 * place + mask + 1 + 4 ≡ 8 * place + word + mask + 1 = omega (arith, is) in
    ap (slice_index l) here ∙ sym (entry_after_header l mask place word)

pub payload_at : (l : List ℕ) (mask place word : ℕ) → word ≡ 5 → slice_index l (8 * place + mask + 1 + 4 + 1) ≡ entry_word mask (0 ∷ 0 ∷ l) place word
payload_at l mask place word is =
    let here : 8 * place + mask + 1 + 4 + 1 ≡ 8 * place + word + mask + 1 = omega (arith, is) in
    ap (slice_index l) here ∙ sym (entry_after_header l mask place word)

-- ---- the value of a row

module _ (k : Shape) (o : ℕ) (table : Table) (word row : ℕ) (v : View) (shape : v.shape ≡ k) (low : o < container_count k) (mine : has_lock o v.log ≡ true) (table_in : IsTableIn k table) (names : root_in (held_words o v) ≡ suc (table_id table)) (row_low : row < rows (kind_in k.starts o) (class_of (table_id table))) (is : word ≡ value_at (kind_in k.starts o) (class_of (table_id table)) row) where
  pub stored_inside : word + 1 < size (class_of (table_id table))
  stored_inside = let l = value_low (kind_in k.starts o) (class_of (table_id table)) row (table_class k table table_in) row_low in omega (arith, l, is)

  -- after loads, which answered the two words
  module _ (w : View) (l : OnlyLoaded v w) (kind payload : ℕ) (kind_is : kind ≡ slice_index (held_words o v).table word) (payload_is : payload ≡ slice_index (held_words o v).table (word + 1)) where
    abbrev t : ℕ
    t = table_id table

    shape_w : w.shape ≡ k
    shape_w = l.work.pass.shape ∙ shape

    names_w : root_in (held_words o w) ≡ suc t
    names_w = ap root_in (loaded_held v w o l) ∙ names

    row_w : row < rows (kind_in w.shape.starts o) (class_of t)
    row_w = subst (λ (z : Shape). row < rows (kind_in z.starts o) (class_of t)) (sym shape_w) row_low

    is_w : word ≡ value_at (kind_in w.shape.starts o) (class_of t) row
    is_w = is ∙ ap (λ (z : Shape). value_at (kind_in z.starts o) (class_of t) row) (sym shape_w)

    kind_w : kind ≡ slice_index (held_words o w).table word
    kind_w = kind_is ∙ ap (λ (x : ContainerWords). slice_index x.table word) (sym (loaded_held v w o l))

    payload_w : payload ≡ slice_index (held_words o w).table (word + 1)
    payload_w = payload_is ∙ ap (λ (x : ContainerWords). slice_index x.table (word + 1)) (sym (loaded_held v w o l))

    long_w : word + 1 < length (held_words o w).table
    long_w = let n = raw_table_long w o t names_w in let i = stored_inside in omega (arith, n, i)

    same : held_unboxed o w ≡ held_unboxed o v
    same = l.unboxed o (subst (λ (z : Shape). o < container_count z) (sym shape) low) mine

    -- the pass knows the box that they name
    pub stored_known : NamedAreKnown w → kind ≡ 4 → IsKnownBox w payload
    stored_known known four =
        let next : word + 1 ≡ suc (value_at (kind_in w.shape.starts o) (class_of t) row) = omega (arith, is_w) in
        subst (λ (b : ℕ). IsKnownBox w b) (sym (payload_w ∙ ap (slice_index (held_words o w).table) next))
        (known o t row (subst (λ (z : Shape). o < container_count z) (sym shape_w) low) (l.work.pass.locks o ∙ mine) names_w row_w
        (ap (slice_index (held_words o w).table) (sym is_w) ∙ (sym kind_w ∙ four)))

    reads : (slice_index (held_unboxed o w).table word ≡ kind_read w (slice_index (held_words o w).table word) (slice_index (held_words o w).table (word + 1))) × (slice_index (held_unboxed o w).table (word + 1) ≡ payload_read w (slice_index (held_words o w).table word) (slice_index (held_words o w).table (word + 1)))
    reads = row_reads w o t word row names_w row_w is_w long_w

    pub kind_stored : kind_read w kind payload ≡ slice_index (held_unboxed o v).table word
    kind_stored = (λ d. kind_read w (kind_w d) (payload_w d)) ∙ (sym reads.0 ∙ ap (λ (x : ContainerWords). slice_index x.table word) same)

    pub payload_stored : payload_read w kind payload ≡ slice_index (held_unboxed o v).table (word + 1)
    payload_stored = (λ d. payload_read w (kind_w d) (payload_w d)) ∙ (sym reads.1 ∙ ap (λ (x : ContainerWords). slice_index x.table (word + 1)) same)
