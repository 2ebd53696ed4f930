use Rattle.std.proofs.Common.{◌≡◌, ℕ, ◌<◌, ◌+◌, ◌*◌, sym, ap, ◌∙◌, subst, arith}
use Rattle.std.specs.Prelude.{slice_index}
use Rattle.ft_trace.specs.declared.Act.TheVariants.{ReadTable}
use Rattle.ft_trace.specs.Addresses.{class_of, size, slots}
use Rattle.ft_trace.specs.Holds.{held_words}
use Rattle.ft_trace.specs.Kinds.{IsKeyed}
use Rattle.ft_trace.specs.declared.Shape.{Shape}
use Rattle.ft_trace.specs.Pictures.{entry_offset}
use Rattle.ft_trace.specs.ContainerStates.{kind_in}
use Rattle.ft_trace.proofs.ByKind.{keyed_low}
use Rattle.ft_bank.specs.Passes.{shape_of, view}
use Rattle.ft_bank.specs.TableNames.{table_id}
use Rattle.ft_bank.proofs.KnownAfterWrites.{loaded_by}
use Rattle.ft_search.proofs.WordPlaces.{entry_is}
use Rattle.ft_search.proofs.Puts.{entry_reads, few_mask, few_places}
use Rattle.ft_merging.proofs.reading.word_of.Goals as goal
use Rattle.ft_merging.proofs.reading.word_of.Goals.{Start, After-mask_of}

few : (c : Start) → c.args.place < 65536
few c = few_places (shape_of c.args.bank.now) c.args.table (kind_in (shape_of c.args.bank.now).starts c.args.o) c.args.place c.requires.table c.requires.keyed c.requires.place

small : (c : After-mask_of) → c.mask_of.result < 65536
small c = subst (λ (n : ℕ). n < 65536) (sym c.mask_of.ensures) (few_mask (shape_of c.args.bank.now) c.args.table c.requires.table)

lies : (c : After-mask_of) → 8 * c.args.place + c.args.word + c.mask_of.result + 1 ≡ entry_offset (slots (class_of (table_id c.args.table))) c.args.place c.args.word
lies c = entry_is (shape_of c.args.bank.now) c.args.table c.mask_of.result c.args.place c.args.word c.requires.table c.mask_of.ensures

inside : (c : After-mask_of) → 8 * c.args.place + c.args.word + c.mask_of.result + 1 < size (class_of (table_id c.args.table))
inside c = subst (λ (i : ℕ). i < size (class_of (table_id c.args.table))) (sym (lies c)) (keyed_low (kind_in (shape_of c.args.bank.now).starts c.args.o) c.requires.keyed (class_of (table_id c.args.table)) c.args.place c.args.word c.requires.place c.requires.word)

pub overflow_mul-at : goal.overflow_mul-at
overflow_mul-at c = let f = few (goal.at.overflow_mul-at c).Start in omega (arith, f)

pub overflow_add-at : goal.overflow_add-at
overflow_add-at c =
    let f = few (goal.at.overflow_add-at c).Start in
    let w = c.requires.word in
    omega (arith, f, w)

pub overflow_add-at-2 : goal.overflow_add-at-2
overflow_add-at-2 c =
    let d = (goal.at.overflow_add-at-2 c).After-mask_of in
    let f = few d.before in
    let s = small d in
    let w = c.requires.word in
    omega (arith, f, w, s)

pub overflow_add-at-3 : goal.overflow_add-at-3
overflow_add-at-3 c =
    let d = (goal.at.overflow_add-at-3 c).After-mask_of in
    let f = few d.before in
    let s = small d in
    let w = c.requires.word in
    omega (arith, f, w, s)

pub read_table-requires-clause-word : goal.read_table-requires-clause-word
read_table-requires-clause-word c = inside (goal.at.read_table-requires-clause-word c).After-mask_of

pub returns-clause-only : goal.returns-clause-only
returns-clause-only c =
    let a = c.args in
    loaded_by (ReadTable (table_id a.table) (8 * a.place + a.word + c.mask_of.result + 1) c.read_table.result) (view a.pass.now) (view c.read_table.new.pass) tt c.read_table.ensures.did.1

pub returns-clause-found : goal.returns-clause-found
returns-clause-found c =
    let a = c.args in
    let d = (goal.at.returns-clause-found c).After-mask_of in
    let k = shape_of a.bank.now in
    let v = view a.pass.now in
    c.read_table.ensures.held a.o c.requires.container c.requires.knows.0 c.requires.knows.1
    ∙ (ap (λ (n : ℕ). slice_index (held_words a.o v).table n) (lies d)
    ∙ sym (entry_reads v a.o (table_id a.table) a.place a.word (subst (λ (z : Shape). IsKeyed (kind_in z.starts a.o)) (sym c.requires.pass.1) c.requires.keyed) c.requires.knows.1 c.requires.word c.requires.no_value.0 c.requires.no_value.1))
