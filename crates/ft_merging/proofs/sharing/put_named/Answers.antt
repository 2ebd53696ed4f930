use Rattle.std.proofs.Common.{◌≡◌, ℕ, ◌+◌, ◌*◌, ◌%◌, ◌<◌, sym, ap, ◌∙◌, subst, arith}
use Rattle.std.specs.Prelude.{slice_index}
use Rattle.ft_model.specs.declared.script.Kind.{Kind}
use Rattle.ft_trace.specs.declared.Shape.{Shape}
use Rattle.ft_trace.specs.Addresses.{class_of, slots}
use Rattle.ft_trace.specs.ContainerStates.{kind_in}
use Rattle.ft_trace.specs.Holds.{held_words, held_unboxed}
use Rattle.ft_trace.specs.Kinds.{rows, IsKeyed}
use Rattle.ft_trace.specs.Pictures.{entry_offset}
use Rattle.ft_bank.specs.BoxSteps.{kind_read, payload_read}
use Rattle.ft_bank.specs.Passes.{shape_of, view}
use Rattle.ft_bank.specs.TableNames.{table_id}
use Rattle.ft_search.proofs.Boxing.{entries_of_table, table_of}
use Rattle.ft_search.proofs.Puts.{few_places, few_slots, keyed_value, keyed_version}
use Rattle.ft_search.proofs.Unboxing.{put_again}
use Rattle.ft_search.proofs.WordPlaces.{slots_is}
use Rattle.ft_merging.proofs.sharing.put_named.Goals as goal
use Rattle.ft_merging.proofs.sharing.put_named.Goals.{After-mask_of-mask}

-- where the value lies
size : (c : After-mask_of-mask) → slots (class_of (table_id c.args.own)) ≡ c.mask_of-mask.result + 1
size c = slots_is (shape_of c.args.bank.now) c.args.own c.mask_of-mask.result c.requires.writes.table_in c.mask_of-mask.ensures

word_is : (c : After-mask_of-mask) → 8 * c.args.at + c.mask_of-mask.result + 1 + 4 ≡ entry_offset (slots (class_of (table_id c.args.own))) c.args.at 4
word_is c = let s = size c in omega (arith, s)

few : (c : After-mask_of-mask) → (c.args.at < 65536) × (c.mask_of-mask.result < 65536)
few c =
    let k = shape_of c.args.bank.now in
    let s = size c in
    let m = few_slots k c.args.own c.requires.writes.table_in in
    (few_places k c.args.own (kind_in k.starts c.args.o) c.args.at c.requires.writes.table_in c.requires.writes.keyed c.requires.at, omega (arith, s, m))

pub overflow_mul-word : goal.overflow_mul-word
overflow_mul-word c = let f = few (goal.at.overflow_mul-word c).After-mask_of-mask in let a = f.0 in omega (arith, a)

pub overflow_add-word : goal.overflow_add-word
overflow_add-word c = let f = few (goal.at.overflow_add-word c).After-mask_of-mask in let a = f.0 in let b = f.1 in omega (arith, a, b)

pub overflow_add-word-2 : goal.overflow_add-word-2
overflow_add-word-2 c = let f = few (goal.at.overflow_add-word-2 c).After-mask_of-mask in let a = f.0 in let b = f.1 in omega (arith, a, b)

pub overflow_add-word-3 : goal.overflow_add-word-3
overflow_add-word-3 c = let f = few (goal.at.overflow_add-word-3 c).After-mask_of-mask in let a = f.0 in let b = f.1 in omega (arith, a, b)

pub put_over-requires-clause-writes : goal.put_over-requires-clause-writes
put_over-requires-clause-writes c = table_of (shape_of c.args.bank.now) c.args.o c.args.own (view c.args.pass.now) c.requires.writes

pub put_over-requires-clause-open : goal.put_over-requires-clause-open
put_over-requires-clause-open c =
    let a = c.args in
    let v = view a.pass.now in
    let class = class_of (table_id a.own) in
    let kd : Kind = kind_in v.shape.starts a.o in
    let keyed : IsKeyed kd = subst (λ (z : Shape). IsKeyed (kind_in z.starts a.o)) (sym c.requires.pass.1) c.requires.writes.keyed in
    let at = word_is (goal.at.put_over-requires-clause-open c).After-mask_of-mask in
    record {
      row = a.at;
      low = subst (λ (z : Shape). a.at < rows (kind_in z.starts a.o) class) (sym c.requires.pass.1) c.requires.at;
      is = at ∙ sym (keyed_value kd keyed class a.at);
      odd = ap (λ (i : ℕ). slice_index (held_unboxed a.o v).table i % 2) (keyed_version kd keyed class a.at) ∙ c.requires.odd;
    }

pub returns-clause-writes : goal.returns-clause-writes
returns-clause-writes c = entries_of_table (shape_of c.args.bank.now) c.args.o c.args.own (view c.put_over.new.pass) c.requires.writes.keyed c.put_over.ensures.writes

pub returns-clause-words : goal.returns-clause-words
returns-clause-words c =
    let a = c.args in
    let v = view a.pass.now in
    let at = word_is (goal.at.returns-clause-words c).After-mask_of-mask in
    let word = 8 * a.at + c.mask_of-mask.result + 1 + 4 in
    let next : word + 1 ≡ entry_offset (slots (class_of (table_id a.own))) a.at 5 = omega (arith, at) in
    c.put_over.ensures.words
    ∙ put_again (held_unboxed a.o v) word (kind_read v a.value.0 a.value.1) (payload_read v a.value.0 a.value.1)
    (c.requires.kind ∙ sym (ap (slice_index (held_unboxed a.o v).table) at))
    (c.requires.payload ∙ sym (ap (slice_index (held_unboxed a.o v).table) next))

pub returns-clause-names : goal.returns-clause-names
returns-clause-names c =
    let a = c.args in
    let at = word_is (goal.at.returns-clause-names c).After-mask_of-mask in
    let word = 8 * a.at + c.mask_of-mask.result + 1 + 4 in
    let next : word + 1 ≡ entry_offset (slots (class_of (table_id a.own))) a.at 5 = omega (arith, at) in
    let table = (held_words a.o (view c.put_over.new.pass)).table in
    let raw = c.put_over.ensures.raw in
    (ap (slice_index table) (sym at) ∙ raw.0, ap (slice_index table) (sym next) ∙ raw.1)

pub returns-clause-others : goal.returns-clause-others
returns-clause-others c other word ne low =
    let at = word_is (goal.at.returns-clause-others c).After-mask_of-mask in
    c.put_over.ensures.stands (entry_offset (slots (class_of (table_id c.args.own))) other word) (λ e. ne (omega (arith, e, at, low))) (λ e. ne (omega (arith, e, at, low)))
