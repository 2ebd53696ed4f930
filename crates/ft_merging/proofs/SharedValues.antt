-- The values of the entries of a dict or a set whose lock a pass has, as their words stand, and the boxes that they name.
use Rattle.std.proofs.Common.{◌≡◌, ℕ, suc, ◌+◌, ◌%◌, ◌<◌, false, List, length, length-set, get_or-set_other, get_or-set_same, Option, Some, None, refl, sym, ap, ◌∙◌, subst, arith}
use Rattle.std.specs.Prelude.{slice_index, slice_set}
use Rattle.ft_model.specs.declared.script.Kind.{Kind}
use Rattle.ft_model.specs.declared.content.Content.{Content}
use Rattle.ft_model.specs.declared.data.Value.{Value}
use Rattle.ft_layout.specs.declared.slot.Pair.{Pair}
use Rattle.ft_layout.specs.declared.slot.Stored.{Stored}
use Rattle.ft_layout.specs.declared.slot.Stored.TheVariants.{Plain}
use Rattle.ft_layout.specs.Tables.{UsedEntry, hash_of, slot_of, slot_with}
use Rattle.ft_layout.specs.Words.{IsEntry, IsStored, stored_kind, stored_payload}
use Rattle.ft_trace.specs.EntryWrites.{value_puts}
use Rattle.ft_trace.specs.WholeWrites.{MayPuts, with_puts}
use Rattle.ft_merging.specs.Internal.JoiningSteps.{pair_in}
use Rattle.ft_trace.specs.declared.Shape.{Shape}
use Rattle.ft_trace.specs.declared.View.{View}
use Rattle.ft_trace.specs.Addresses.{container_count, class_of, slots}
use Rattle.ft_trace.specs.Boxes.{value_at, KeepsBox}
use Rattle.ft_trace.specs.ContainerStates.{ContainerState, kind_in}
use Rattle.ft_trace.specs.Holds.{held_words, held_unboxed}
use Rattle.ft_trace.specs.Kinds.{rows, version_at, IsKeyed}
use Rattle.ft_trace.specs.Pictures.{ContainerWords, Represents, entry_field, entry_offset, root_in}
use Rattle.ft_trace.specs.Traces.{IsReachable}
use Rattle.ft_trace.proofs.Known.{table_is_long}
use Rattle.ft_trace.proofs.ReadTables.{value_low}
use Rattle.ft_bank.specs.declared.table.Table.{Table}
use Rattle.ft_bank.specs.BoxSteps.{kind_read, payload_read}
use Rattle.ft_bank.specs.TableNames.{table_id, IsTableIn}
use Rattle.ft_bank.specs.Whole.{OnlyBoxed}
use Rattle.ft_bank.proofs.KnownAfterWrites.{work_knows}
use Rattle.ft_bank.proofs.NamedBoxes.{named_is_box, named_is_known, named_keeps}
use Rattle.ft_search.specs.Boxed.{IsKnownBox}
use Rattle.ft_search.proofs.Puts.{keyed_value, keyed_version, table_class}
use Rattle.ft_search.proofs.Unboxing.{raw_table_long, row_reads}
use Rattle.ft_search.specs.OneEntryWrites.{WritesEntries}
use Rattle.ft_new_keys.specs.KeyGrowth.{KnowsKeyed}

module _ (k : Shape) (t : ℕ) (table : Table) (place : ℕ) (v : View) (shape : v.shape ≡ k) (knows : KnowsKeyed k t (Some table) v) (less : place < rows (kind_in k.starts t) (class_of (table_id table))) where
  abbrev n : ℕ
  n = slots (class_of (table_id table))

  abbrev T : List ℕ
  T = (held_words t v).table

  abbrev kd : Kind
  kd = kind_in v.shape.starts t

  keyed : IsKeyed kd
  keyed = subst (λ (z : Shape). IsKeyed (kind_in z.starts t)) (sym shape) knows.keyed

  in_bank : IsTableIn k table
  in_bank = knows.table_in table refl

  here : t < container_count v.shape
  here = subst (λ (z : Shape). t < container_count z) (sym shape) knows.container

  in_rows : place < rows kd (class_of (table_id table))
  in_rows = subst (λ (z : Shape). place < rows (kind_in z.starts t) (class_of (table_id table))) (sym shape) less

  is_place : value_at kd (class_of (table_id table)) place ≡ entry_offset n place 4
  is_place = keyed_value kd keyed (class_of (table_id table)) place

  next : suc (value_at kd (class_of (table_id table)) place) ≡ entry_offset n place 5
  next = let e = is_place in omega (arith, e)

  -- the box that it names
  pub entry_known : ∥ IsReachable v ∥₁ → entry_field n T place 4 ≡ 4 → IsKnownBox v (entry_field n T place 5)
  entry_known possible four =
      let stands : slice_index T (value_at kd (class_of (table_id table)) place) ≡ 4 = ap (slice_index T) is_place ∙ four in
      let name = named_is_box v t (table_id table) place possible here knows.locked knows.root in_rows stands in
      let known = named_is_known v t (table_id table) place possible here knows.locked knows.root in_rows stands in
      subst (λ (i : ℕ). IsKnownBox v (slice_index T i)) next (name, known.0, known.1)

  pub entry_keeps : ∥ IsReachable v ∥₁ → entry_field n T place 4 ≡ 4 → KeepsBox k (entry_field n T place 5) v.log
  entry_keeps possible four =
      let stands : slice_index T (value_at kd (class_of (table_id table)) place) ≡ 4 = ap (slice_index T) is_place ∙ four in
      subst (λ (z : Shape × ℕ). KeepsBox z.0 (slice_index T z.1) v.log) (λ d. (shape d, next d)) (named_keeps v t (table_id table) place possible here knows.locked knows.root in_rows stands)

  -- what it reads
  pub entry_reads : (entry_field n (held_unboxed t v).table place 4 ≡ kind_read v (entry_field n T place 4) (entry_field n T place 5)) × (entry_field n (held_unboxed t v).table place 5 ≡ payload_read v (entry_field n T place 4) (entry_field n T place 5))
  entry_reads =
      let step : entry_offset n place 4 + 1 ≡ entry_offset n place 5 = omega arith in
      let fits = value_low kd (class_of (table_id table)) place (table_class k table in_bank) in_rows in
      let at = is_place in
      let whole = raw_table_long v t (table_id table) knows.root in
      let long : entry_offset n place 4 + 1 < length T = omega (arith, fits, whole, at) in
      let r = row_reads v t (table_id table) (entry_offset n place 4) place knows.root in_rows (sym is_place) long in
      (r.0 ∙ (λ d. kind_read v (slice_index T (entry_offset n place 4)) (slice_index T (step d))), ap (slice_index (held_unboxed t v).table) (sym step) ∙ (r.1 ∙ (λ d. payload_read v (slice_index T (entry_offset n place 4)) (slice_index T (step d)))))

-- after steps with boxes
pub knows_boxed : (k : Shape) (t : ℕ) (table : Table) (v w : View) → v.shape ≡ k → OnlyBoxed v w → KnowsKeyed k t (Some table) v → KnowsKeyed k t (Some table) w
knows_boxed k t table v w shape boxed knows =
    let same : held_unboxed t w ≡ held_unboxed t v = boxed.unboxed t (subst (λ (z : Shape). t < container_count z) (sym shape) knows.container) knows.locked in
    record {
      container = knows.container;
      keyed = knows.keyed;
      locked = boxed.work.pass.locks t ∙ knows.locked;
      even = boxed.work.pass.writes t ∙ knows.even;
      stands = subst (λ (x : ContainerWords × ContainerState). Represents k.texts x.0 x.1) (λ d. (sym same d, sym (work_knows v w t boxed.work) d)) knows.stands;
      table_in = knows.table_in;
      root = ap root_in same ∙ knows.root;
    }

-- ---- a value that was put

-- the version of its entry is odd, and it reads so
pub value_put : (kd : Kind) → IsKeyed kd → (t place : ℕ) (content : Content) (value : Value) (x : ContainerWords) → MayPuts kd t content false x (value_puts (slots (class_of t)) x.table place None value) → entry_offset (slots (class_of t)) place 5 < length x.table → (entry_field (slots (class_of t)) (with_puts x (value_puts (slots (class_of t)) x.table place None value)).table place 0 % 2 ≡ 1) × (entry_field (slots (class_of t)) (with_puts x (value_puts (slots (class_of t)) x.table place None value)).table place 4 ≡ stored_kind (Plain value)) × (entry_field (slots (class_of t)) (with_puts x (value_puts (slots (class_of t)) x.table place None value)).table place 5 ≡ stored_payload (Plain value))
value_put kd keyed t place content value x may long =
    let n = slots (class_of t) in
    let r = may.1.0.1 in
    let first = slice_set x.table (entry_offset n place 0) (entry_field n x.table place 0 + 1) in
    let second = slice_set first (entry_offset n place 4) (stored_kind (Plain value)) in
    let at : entry_offset n place 4 ≡ entry_offset n r.0 4 = r.2 ∙ keyed_value kd keyed (class_of t) r.0 in
    let version : version_at kd (class_of t) r.0 ≡ entry_offset n place 0 = keyed_version kd keyed (class_of t) r.0 ∙ omega (arith, at) in
    let odd : slice_index first (entry_offset n place 0) % 2 ≡ 1 = ap (λ (i : ℕ). slice_index first i % 2) (sym version) ∙ r.4 in
    let one : length first ≡ length x.table = length-set x.table (entry_offset n place 0) (entry_field n x.table place 0 + 1) in
    let two : length second ≡ length first = length-set first (entry_offset n place 4) (stored_kind (Plain value)) in (
      ap (λ (i : ℕ). i % 2) (get_or-set_other second (entry_offset n place 5) (entry_offset n place 0) (stored_payload (Plain value)) 0 (λ e. omega (arith, e)) ∙ get_or-set_other first (entry_offset n place 4) (entry_offset n place 0) (stored_kind (Plain value)) 0 (λ e. omega (arith, e))) ∙ odd,
      get_or-set_other second (entry_offset n place 5) (entry_offset n place 4) (stored_payload (Plain value)) 0 (λ e. omega (arith, e)) ∙ get_or-set_same first (entry_offset n place 4) (stored_kind (Plain value)) 0 (omega (arith, long, one)),
      get_or-set_same second (entry_offset n place 5) (stored_payload (Plain value)) 0 (omega (arith, long, one, two)),
    )

-- the words of a pair's entry say its value
pub pair_reads : (texts : List ℕ) (e : UsedEntry) (found : Option Pair) → found ≡ pair_in (slot_of texts e) → (word : ℕ → ℕ) → IsEntry word (slot_of texts e) → (pair : Pair) → found ≡ Some pair → IsStored (word 4) (word 5) pair.value
pair_reads texts e found is word entry pair there = by e.stored is entry
  where
    by : (s : Option Stored) → found ≡ pair_in (slot_with (hash_of texts e.key) e.key e.serial s) → IsEntry word (slot_with (hash_of texts e.key) e.key e.serial s) → IsStored (word 4) (word 5) pair.value
    by None said w = absurd (let no = sym there ∙ said in cc)
    by (Some s) said w =
        let same : Some (record { hash = hash_of texts e.key; key = e.key; value = s; serial = e.serial }) ≡ Some pair = sym said ∙ there in
        let one : record { hash = hash_of texts e.key; key = e.key; value = s; serial = e.serial } ≡ pair = cc in
        subst (λ (z : Pair). IsStored (word 4) (word 5) z.value) one w.value

-- the words of the entry are there
pub entry_long : (k : Shape) (o : ℕ) (table : Table) (place : ℕ) (v : View) → WritesEntries k o table v → place < rows (kind_in k.starts o) (class_of (table_id table)) → entry_offset (slots (class_of (table_id table))) place 5 < length (held_unboxed o v).table
entry_long k o table place v writes low =
    let fits = value_low (kind_in k.starts o) (class_of (table_id table)) place (table_class k table writes.table_in) low in
    let at = keyed_value (kind_in k.starts o) writes.keyed (class_of (table_id table)) place in
    let long = table_is_long v o (table_id table) writes.root in
    omega (arith, fits, at, long)
