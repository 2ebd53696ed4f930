use Rattle.std.proofs.Common.{◌≡◌, ℕ, ◌+◌, ◌*◌, ◌%◌, ◌<◌, cond, eqb, Option, true, refl, sym, ap, ◌∙◌, subst, arith}
use Rattle.std.specs.Prelude.{slice_index}
use Rattle.std.specs.Option.{unwrap_or}
use Rattle.ft_layout.specs.declared.slot.Ref.{Ref}
use Rattle.ft_model.specs.declared.script.Kind.{Kind}
use Rattle.ft_trace.specs.declared.Shape.{Shape}
use Rattle.ft_trace.specs.Addresses.{class_of, slots}
use Rattle.ft_trace.specs.Boxes.{knows_box_word, names_box, references_held}
use Rattle.ft_trace.specs.ContainerStates.{kind_in}
use Rattle.ft_trace.specs.Holds.{held_words, held_unboxed}
use Rattle.ft_trace.specs.Kinds.{rows, IsKeyed}
use Rattle.ft_trace.specs.Pictures.{entry_offset}
use Rattle.ft_bank.specs.BoxSteps.{box_id, kind_read, payload_read}
use Rattle.ft_bank.specs.Passes.{shape_of, view}
use Rattle.ft_bank.specs.TableNames.{table_id}
use Rattle.ft_search.proofs.Boxing.{entries_of_table, table_of}
use Rattle.ft_search.proofs.Overs.{boxed_names, other_way}
use Rattle.ft_search.proofs.Puts.{few_places, few_slots, keyed_value, keyed_version}
use Rattle.ft_search.proofs.Unboxing.{put_again}
use Rattle.ft_search.proofs.WordPlaces.{slots_is}
use Rattle.ft_new_keys.specs.HeldKeys.{needed_for}
use Rattle.ft_new_keys.specs.Internal.Laying.{ReadsAsEntry}
use Rattle.ft_new_keys.proofs.naming.name_box.Goals as goal
use Rattle.ft_new_keys.proofs.naming.name_box.Goals.{After-mask_of-mask, In-Some}

-- ---- where the value lies

size : (c : After-mask_of-mask) → slots (class_of (table_id c.args.table)) ≡ c.mask_of-mask.result + 1
size c = slots_is (shape_of c.args.bank.now) c.args.table c.mask_of-mask.result c.requires.writes.table_in c.mask_of-mask.ensures

word_is : (c : After-mask_of-mask) → 8 * c.args.place + c.mask_of-mask.result + 1 + 4 ≡ entry_offset (slots (class_of (table_id c.args.table))) c.args.place 4
word_is c = let s = size c in omega (arith, s)

few : (c : After-mask_of-mask) → (c.args.place < 65536) × (c.mask_of-mask.result < 65536)
few c =
    let k = shape_of c.args.bank.now in
    let s = size c in
    let m = few_slots k c.args.table c.requires.writes.table_in in
    (few_places k c.args.table (kind_in k.starts c.args.o) c.args.place c.requires.writes.table_in c.requires.writes.keyed c.requires.place, omega (arith, s, m))

pub overflow_mul-word : goal.overflow_mul-word
overflow_mul-word c = let f = few (goal.at.overflow_mul-word c).After-mask_of-mask in let a = f.0 in omega (arith, a)

pub overflow_add-word : goal.overflow_add-word
overflow_add-word c = let f = few (goal.at.overflow_add-word c).After-mask_of-mask in let a = f.0 in let b = f.1 in omega (arith, a, b)

pub overflow_add-word-in-Some : goal.overflow_add-word-in-Some
overflow_add-word-in-Some c = let f = few (goal.at.overflow_add-word-in-Some c).After-mask_of-mask in let a = f.0 in let b = f.1 in omega (arith, a, b)

pub overflow_add-word-in-Some-2 : goal.overflow_add-word-in-Some-2
overflow_add-word-in-Some-2 c = let f = few (goal.at.overflow_add-word-in-Some-2 c).After-mask_of-mask in let a = f.0 in let b = f.1 in omega (arith, a, b)

-- ---- the box

own : (c : In-Some) → ReadsAsEntry c.args.o (table_id c.args.table) c.args.place c.in-Some.b (view c.args.pass.now)
own c = c.requires.own c.in-Some.b c.in-Some.is

pub stored_payload_of-payload-requires : goal.stored_payload_of-payload-requires
stored_payload_of-payload-requires c =
    let name = (own (goal.at.stored_payload_of-payload-requires c).In-Some).name in
    let here = subst (λ (z : Shape). (c.in-Some.b.pass < z.passes) × (c.in-Some.b.place < z.heap)) c.requires.pass.1 name in
    let one = here.0 in
    let two = here.1 in
    let heap = c.args.bank.now.fits.heap.1 in
    let passes = c.args.bank.now.fits.passes.1 in
    (omega (arith, one, passes), omega (arith, two, heap))

pub put_over-requires-clause-writes : goal.put_over-requires-clause-writes
put_over-requires-clause-writes c = table_of (shape_of c.args.bank.now) c.args.o c.args.table (view c.args.pass.now) c.requires.writes

pub put_over-requires-clause-open : goal.put_over-requires-clause-open
put_over-requires-clause-open c =
    let a = c.args in
    let v = view a.pass.now in
    let class = class_of (table_id a.table) in
    let kd : Kind = kind_in v.shape.starts a.o in
    let keyed : IsKeyed kd = subst (λ (z : Shape). IsKeyed (kind_in z.starts a.o)) (sym c.requires.pass.1) c.requires.writes.keyed in
    let at = word_is (goal.at.put_over-requires-clause-open c).After-mask_of-mask in
    record {
      row = a.place;
      low = subst (λ (z : Shape). a.place < rows (kind_in z.starts a.o) class) (sym c.requires.pass.1) c.requires.place;
      is = at ∙ sym (keyed_value kd keyed class a.place);
      odd = ap (λ (i : ℕ). slice_index (held_unboxed a.o v).table i % 2) (keyed_version kd keyed class a.place) ∙ c.requires.odd;
    }

pub put_over-requires-clause-own : goal.put_over-requires-clause-own
put_over-requires-clause-own c four =
    let x = own (goal.at.put_over-requires-clause-own c).In-Some in
    let o = x.own refl in
    subst (λ (n : ℕ). (0 < references_held (view c.args.pass.now).shape n (view c.args.pass.now).log) × (knows_box_word (view c.args.pass.now).shape n 1 (view c.args.pass.now).log ≡ true) × (knows_box_word (view c.args.pass.now).shape n 2 (view c.args.pass.now).log ≡ true)) (sym c.stored_payload_of-payload.ensures) o

-- ---- once it is named

pub returns-in-Some-clause-writes : goal.returns-in-Some-clause-writes
returns-in-Some-clause-writes c = entries_of_table (shape_of c.args.bank.now) c.args.o c.args.table (view c.put_over.new.pass) c.requires.writes.keyed c.put_over.ensures.writes

pub returns-in-Some-clause-words : goal.returns-in-Some-clause-words
returns-in-Some-clause-words c =
    let a = c.args in
    let v = view a.pass.now in
    let x = own (goal.at.returns-in-Some-clause-words c).In-Some in
    let at = word_is (goal.at.returns-in-Some-clause-words c).After-mask_of-mask in
    let word = 8 * a.place + c.mask_of-mask.result + 1 + 4 in
    let next : word + 1 ≡ entry_offset (slots (class_of (table_id a.table))) a.place 5 = omega (arith, at) in
    let kind = c.stored_kind_of-kind.ensures in
    let payload = c.stored_payload_of-payload.ensures in
    c.put_over.ensures.words
    ∙ put_again (held_unboxed a.o v) word (kind_read v c.stored_kind_of-kind.result c.stored_payload_of-payload.result) (payload_read v c.stored_kind_of-kind.result c.stored_payload_of-payload.result)
    ((λ d. kind_read v (kind d) (payload d)) ∙ (x.kind ∙ sym (ap (slice_index (held_unboxed a.o v).table) at)))
    ((λ d. payload_read v (kind d) (payload d)) ∙ (x.payload ∙ sym (ap (slice_index (held_unboxed a.o v).table) next)))

pub returns-in-Some-clause-references : goal.returns-in-Some-clause-references
returns-in-Some-clause-references c n =
    let put = c.put_over.ensures.references n in
    let id = box_id c.in-Some.b in
    let names = (λ d. names_box n (c.stored_kind_of-kind.ensures d) (c.stored_payload_of-payload.ensures d)) ∙ (boxed_names n 4 id refl ∙ other_way id n) in
    let needs : needed_for c.args.boxed n ≡ cond (eqb n id) 1 0 = ap (λ (z : Option Ref). needed_for z n) c.in-Some.is in
    omega (arith, put, names, needs)

pub returns-in-Some-clause-names : goal.returns-in-Some-clause-names
returns-in-Some-clause-names c b is =
    let a = c.args in
    let at = word_is (goal.at.returns-in-Some-clause-names c).After-mask_of-mask in
    let word = 8 * a.place + c.mask_of-mask.result + 1 + 4 in
    let next : word + 1 ≡ entry_offset (slots (class_of (table_id a.table))) a.place 5 = omega (arith, at) in
    let table = (held_words a.o (view c.put_over.new.pass)).table in
    let raw = c.put_over.ensures.raw in
    let same : c.in-Some.b ≡ b = ap (λ (z : Option Ref). unwrap_or z c.in-Some.b) (sym c.in-Some.is ∙ is) in (
      ap (slice_index table) (sym at) ∙ (raw.0 ∙ c.stored_kind_of-kind.ensures),
      ap (slice_index table) (sym next) ∙ (raw.1 ∙ (c.stored_payload_of-payload.ensures ∙ ap box_id same)),
    )
