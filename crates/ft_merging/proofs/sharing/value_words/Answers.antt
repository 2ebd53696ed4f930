use Rattle.std.proofs.Common.{◌≡◌, ℕ, ◌+◌, ◌*◌, ◌<◌, refl, ap, ◌∙◌, arith}
use Rattle.std.specs.Prelude.{slice_index}
use Rattle.ft_trace.specs.declared.Act.TheVariants.{ReadTable}
use Rattle.ft_trace.specs.Addresses.{class_of, size, slots}
use Rattle.ft_trace.specs.ContainerStates.{kind_in}
use Rattle.ft_trace.specs.Holds.{held_words}
use Rattle.ft_trace.specs.Pictures.{entry_offset, root_in}
use Rattle.ft_bank.specs.Passes.{shape_of, view}
use Rattle.ft_bank.specs.TableNames.{table_id}
use Rattle.ft_bank.specs.Whole.{OnlyLoaded}
use Rattle.ft_bank.proofs.KnownAfterWrites.{loaded_by, loaded_held, loaded_then}
use Rattle.ft_new_keys.proofs.OldValues.{row_value, stored_inside}
use Rattle.ft_search.proofs.Puts.{few_places, few_slots}
use Rattle.ft_search.proofs.WordPlaces.{slots_is}
use Rattle.ft_merging.proofs.sharing.value_words.Goals as goal
use Rattle.ft_merging.proofs.sharing.value_words.Goals.{After-mask_of, After-read_table-kind, After-read_table-payload}

-- where the value lies
count : (c : After-mask_of) → slots (class_of (table_id c.args.table)) ≡ c.mask_of.result + 1
count c = slots_is (shape_of c.args.bank.now) c.args.table c.mask_of.result (c.requires.knows.table_in c.args.table refl) c.mask_of.ensures

few : (c : After-mask_of) → (c.args.place < 65536) × (c.mask_of.result < 65536)
few c =
    let k = shape_of c.args.bank.now in
    let there = c.requires.knows.table_in c.args.table refl in
    let s = count c in
    let m = few_slots k c.args.table there in
    (few_places k c.args.table (kind_in k.starts c.args.t) c.args.place there c.requires.knows.keyed c.requires.place, omega (arith, s, m))

inside : (c : After-mask_of) → 8 * c.args.place + c.mask_of.result + 1 + 4 + 1 < size (class_of (table_id c.args.table))
inside c =
    let k = shape_of c.args.bank.now in
    let r = c.requires.knows in
    let there = r.table_in c.args.table refl in
    stored_inside k c.args.t c.args.table (8 * c.args.place + c.mask_of.result + 1 + 4) c.args.place (view c.args.pass.now) c.requires.pass.1 r.container r.locked there r.root c.requires.place
    (row_value k c.args.t c.args.table c.mask_of.result c.args.place r.keyed there c.mask_of.ensures)

pub mask_of-requires : goal.mask_of-requires
mask_of-requires c = (c.requires.knows.table_in c.args.table refl).0

pub overflow_mul-word : goal.overflow_mul-word
overflow_mul-word c =
    let k = shape_of c.args.bank.now in
    let a = few_places k c.args.table (kind_in k.starts c.args.t) c.args.place (c.requires.knows.table_in c.args.table refl) c.requires.knows.keyed c.requires.place in
    omega (arith, a)

pub overflow_add-word : goal.overflow_add-word
overflow_add-word c = let f = few (goal.at.overflow_add-word c).After-mask_of in let a = f.0 in let b = f.1 in omega (arith, a, b)

pub overflow_add-word-2 : goal.overflow_add-word-2
overflow_add-word-2 c = let f = few (goal.at.overflow_add-word-2 c).After-mask_of in let a = f.0 in let b = f.1 in omega (arith, a, b)

pub overflow_add-word-3 : goal.overflow_add-word-3
overflow_add-word-3 c = let f = few (goal.at.overflow_add-word-3 c).After-mask_of in let a = f.0 in let b = f.1 in omega (arith, a, b)

pub overflow_add-word-4 : goal.overflow_add-word-4
overflow_add-word-4 c = let f = few (goal.at.overflow_add-word-4 c).After-mask_of in let a = f.0 in let b = f.1 in omega (arith, a, b)

pub read_table-kind-requires-clause-table : goal.read_table-kind-requires-clause-table
read_table-kind-requires-clause-table c = c.requires.knows.table_in c.args.table refl

pub read_table-payload-requires-clause-table : goal.read_table-payload-requires-clause-table
read_table-payload-requires-clause-table c = c.requires.knows.table_in c.args.table refl

pub read_table-kind-requires-clause-word : goal.read_table-kind-requires-clause-word
read_table-kind-requires-clause-word c = let i = inside (goal.at.read_table-kind-requires-clause-word c).After-mask_of in omega (arith, i)

pub read_table-payload-requires-clause-word : goal.read_table-payload-requires-clause-word
read_table-payload-requires-clause-word c = inside (goal.at.read_table-payload-requires-clause-word c).After-mask_of

abbrev word : After-mask_of → ℕ
word c = 8 * c.args.place + c.mask_of.result + 1 + 4

first : (c : After-read_table-kind) → OnlyLoaded (view c.args.pass.now) (view c.read_table-kind.new.pass)
first c = loaded_by (ReadTable (table_id c.args.table) (8 * c.args.place + c.mask_of.result + 1 + 4) c.read_table-kind.result) (view c.args.pass.now) (view c.read_table-kind.new.pass) tt c.read_table-kind.ensures.did.1

pub returns-clause-only : goal.returns-clause-only
returns-clause-only c =
    let v = view c.args.pass.now in
    let u = view c.read_table-kind.new.pass in
    let w = view c.read_table-payload.new.pass in
    loaded_then v u w (first (goal.at.returns-clause-only c).After-read_table-kind)
    (loaded_by (ReadTable (table_id c.args.table) (8 * c.args.place + c.mask_of.result + 1 + 4 + 1) c.read_table-payload.result) u w tt c.read_table-payload.ensures.did.1)

pub returns-clause-kind : goal.returns-clause-kind
returns-clause-kind c =
    let s = count (goal.at.returns-clause-kind c).After-mask_of in
    let at : 8 * c.args.place + c.mask_of.result + 1 + 4 ≡ entry_offset (slots (class_of (table_id c.args.table))) c.args.place 4 = omega (arith, s) in
    c.read_table-kind.ensures.held c.args.t c.requires.knows.container c.requires.knows.locked c.requires.knows.root
    ∙ ap (slice_index (held_words c.args.t (view c.args.pass.now)).table) at

pub returns-clause-payload : goal.returns-clause-payload
returns-clause-payload c =
    let l = first (goal.at.returns-clause-payload c).After-read_table-kind in
    let same = loaded_held (view c.args.pass.now) (view c.read_table-kind.new.pass) c.args.t l in
    let s = count (goal.at.returns-clause-payload c).After-mask_of in
    let at : 8 * c.args.place + c.mask_of.result + 1 + 4 + 1 ≡ entry_offset (slots (class_of (table_id c.args.table))) c.args.place 5 = omega (arith, s) in
    c.read_table-payload.ensures.held c.args.t c.requires.knows.container (l.work.pass.locks c.args.t ∙ c.requires.knows.locked) (ap root_in same ∙ c.requires.knows.root)
    ∙ (λ d. slice_index (same d).table (at d))
