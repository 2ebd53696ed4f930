-- What the values of a list's items read, by a pass that has its lock; and which of them name no box.
use Rattle.std.proofs.Common.{◌≡◌, ◌≢◌, ℕ, suc, ◌+◌, ◌<◌, true, List, length, Option, Some, None, sym, ap, ◌∙◌, subst, arith}
use Rattle.std.specs.Prelude.{slice_index, slice_get}
use Rattle.std.specs.Option.{option_map_or}
use Rattle.ft_model.specs.declared.data.Value.{Value}
use Rattle.ft_model.specs.declared.script.Kind.{Kind}
use Rattle.ft_model.specs.declared.script.Kind.TheVariants as kind
use Rattle.ft_layout.specs.declared.slot.Stored.TheVariants.{Empty, Plain}
use Rattle.ft_layout.specs.Words.{stored_kind}
use Rattle.ft_trace.specs.declared.Shape.{Shape}
use Rattle.ft_trace.specs.declared.View.{View}
use Rattle.ft_trace.specs.Acts.{has_lock}
use Rattle.ft_trace.specs.Addresses.{container_count, class_of, slots}
use Rattle.ft_trace.specs.Boxes.{value_at}
use Rattle.ft_trace.specs.ContainerStates.{kind_in}
use Rattle.ft_trace.specs.Holds.{held_words, held_unboxed}
use Rattle.ft_trace.specs.Kinds.{rows}
use Rattle.ft_trace.specs.Pictures.{ContainerWords, item_field, item_offset, root_in}
use Rattle.ft_trace.specs.Traces.{IsReachable}
use Rattle.ft_trace.proofs.ReadTables.{value_low}
use Rattle.ft_trace.proofs.ValuePlaces.{plain_kind}
use Rattle.ft_bank.specs.declared.table.Table.{Table}
use Rattle.ft_bank.specs.BoxSteps.{kind_read, payload_read}
use Rattle.ft_bank.specs.TableNames.{table_id, IsTableIn}
use Rattle.ft_bank.specs.Whole.{OnlyLoaded}
use Rattle.ft_bank.proofs.KnownAfterWrites.{loaded_held}
use Rattle.ft_bank.proofs.NamedBoxes.{named_is_box, named_is_known}
use Rattle.ft_search.specs.Boxed.{IsKnownBox}
use Rattle.ft_search.proofs.Unboxing.{raw_table_long, row_reads}
use Rattle.ft_list.specs.ListItemWrites.{stored_item}
use Rattle.ft_list.proofs.Cares.{table_class}

-- what a list stores names no box
pub item_plain : (values : List Value) (p : ℕ) → stored_kind (stored_item values p) ≢ 4
item_plain values p = by (slice_get values p)
  where
    by : (z : Option Value) → stored_kind (option_map_or Plain z Empty) ≢ 4
    by None e = omega (arith, e)
    by (Some value) e = plain_kind value e

module _ (k : Shape) (o : ℕ) (table : Table) (place : ℕ) (v : View) (shape : v.shape ≡ k) (inside : o < container_count k) (list : kind_in k.starts o ≡ kind.List) (mine : has_lock o v.log ≡ true) (in_bank : IsTableIn k table) (names : root_in (held_words o v) ≡ suc (table_id table)) (low : place < slots (class_of (table_id table))) where
  abbrev t : ℕ
  t = table_id table

  abbrev T : List ℕ
  T = (held_words o v).table

  is_kind : kind_in v.shape.starts o ≡ kind.List
  is_kind = ap (λ (z : Shape). kind_in z.starts o) shape ∙ list

  here : o < container_count v.shape
  here = subst (λ (z : Shape). o < container_count z) (sym shape) inside

  in_rows : place < rows (kind_in v.shape.starts o) (class_of t)
  in_rows = subst (λ (z : Kind). place < rows z (class_of t)) (sym is_kind) low

  is_place : value_at (kind_in v.shape.starts o) (class_of t) place ≡ item_offset place 1
  is_place = ap (λ (z : Kind). value_at z (class_of t) place) is_kind

  -- the value of the item, through the box that it names
  pub item_reads : (item_field (held_unboxed o v).table place 1 ≡ kind_read v (slice_index T (item_offset place 1)) (slice_index T (item_offset place 2))) × (item_field (held_unboxed o v).table place 2 ≡ payload_read v (slice_index T (item_offset place 1)) (slice_index T (item_offset place 2)))
  item_reads =
      let next : item_offset place 1 + 1 ≡ item_offset place 2 = omega arith in
      let fits = value_low kind.List (class_of t) place (table_class k table in_bank) low in
      let whole = raw_table_long v o t names in
      let long : item_offset place 1 + 1 < length T = omega (arith, fits, whole) in
      let r = row_reads v o t (item_offset place 1) place names in_rows (sym is_place) long in
      (r.0 ∙ (λ d. kind_read v (slice_index T (item_offset place 1)) (slice_index T (next d))), ap (slice_index (held_unboxed o v).table) (sym next) ∙ (r.1 ∙ (λ d. payload_read v (slice_index T (item_offset place 1)) (slice_index T (next d)))))

  -- whose value the pass knows
  pub item_known : ∥ IsReachable v ∥₁ → slice_index T (item_offset place 1) ≡ 4 → IsKnownBox v (slice_index T (item_offset place 2))
  item_known possible four =
      let stands : slice_index T (value_at (kind_in v.shape.starts o) (class_of t) place) ≡ 4 = ap (slice_index T) is_place ∙ four in
      let next : suc (value_at (kind_in v.shape.starts o) (class_of t) place) ≡ item_offset place 2 = let e = is_place in omega (arith, e) in
      let name = named_is_box v o t place possible here mine names in_rows stands in
      let known = named_is_known v o t place possible here mine names in_rows stands in
      subst (λ (i : ℕ). IsKnownBox v (slice_index T i)) next (name, known.0, known.1)

-- the same after loads that gave the two words of the value
module _ (k : Shape) (o : ℕ) (table : Table) (place : ℕ) (v w : View) (shape : v.shape ≡ k) (inside : o < container_count k) (list : kind_in k.starts o ≡ kind.List) (mine : has_lock o v.log ≡ true) (in_bank : IsTableIn k table) (names : root_in (held_words o v) ≡ suc (table_id table)) (low : place < slots (class_of (table_id table)))
    (l : OnlyLoaded v w) (found payload : ℕ) (found_is : found ≡ slice_index (held_words o v).table (item_offset place 1)) (payload_is : payload ≡ slice_index (held_words o v).table (item_offset place 2)) where
  same_words : held_words o v ≡ held_words o w
  same_words = sym (loaded_held v w o l)

  shape_now : w.shape ≡ k
  shape_now = l.work.pass.shape ∙ shape

  mine_now : has_lock o w.log ≡ true
  mine_now = l.work.pass.locks o ∙ mine

  names_now : root_in (held_words o w) ≡ suc (table_id table)
  names_now = sym (ap root_in same_words) ∙ names

  found_now : found ≡ slice_index (held_words o w).table (item_offset place 1)
  found_now = found_is ∙ ap (λ (x : ContainerWords). slice_index x.table (item_offset place 1)) same_words

  payload_now : payload ≡ slice_index (held_words o w).table (item_offset place 2)
  payload_now = payload_is ∙ ap (λ (x : ContainerWords). slice_index x.table (item_offset place 2)) same_words

  pub loaded_known : ∥ IsReachable w ∥₁ → found ≡ 4 → IsKnownBox w payload
  loaded_known possible four =
      subst (λ (b : ℕ). IsKnownBox w b) (sym payload_now)
      (item_known k o table place w shape_now inside list mine_now in_bank names_now low possible (sym found_now ∙ four))

  pub loaded_reads : (kind_read w found payload ≡ item_field (held_unboxed o v).table place 1) × (payload_read w found payload ≡ item_field (held_unboxed o v).table place 2)
  loaded_reads =
      let r = item_reads k o table place w shape_now inside list mine_now in_bank names_now low in
      let same : held_unboxed o w ≡ held_unboxed o v = l.unboxed o (subst (λ (z : Shape). o < container_count z) (sym shape) inside) mine in (
        (λ d. kind_read w (found_now d) (payload_now d)) ∙ (sym r.0 ∙ ap (λ (x : ContainerWords). item_field x.table place 1) same),
        (λ d. payload_read w (found_now d) (payload_now d)) ∙ (sym r.1 ∙ ap (λ (x : ContainerWords). item_field x.table place 2) same),
      )
