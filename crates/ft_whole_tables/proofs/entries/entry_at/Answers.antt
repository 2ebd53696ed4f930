use Rattle.std.proofs.Common.{◌≡◌, ℕ, ◌<◌, ◌+◌, ◌*◌, sym, subst, arith}
use Rattle.ft_model.specs.declared.script.Kind.TheVariants as kind
use Rattle.ft_trace.specs.Addresses.{class_of, size, slots}
use Rattle.ft_trace.specs.Pictures.{entry_offset}
use Rattle.ft_trace.proofs.ByKind.{keyed_low}
use Rattle.ft_bank.specs.Passes.{shape_of}
use Rattle.ft_bank.specs.TableNames.{table_id}
use Rattle.ft_search.proofs.Puts.{few_mask, few_places}
use Rattle.ft_search.proofs.WordPlaces.{entry_is}
use Rattle.ft_whole_tables.proofs.entries.entry_at.Goals as goal
use Rattle.ft_whole_tables.proofs.entries.entry_at.Goals.{Start, After-mask_of}

few : (c : Start) → c.args.place < 65536
few c = few_places (shape_of c.args.bank.now) c.args.table kind.Dict c.args.place c.requires.table tt c.requires.place

few_after : (c : After-mask_of) → c.args.place < 65536
few_after c = few_places (shape_of c.args.bank.now) c.args.table kind.Dict c.args.place c.requires.table tt c.requires.place

small : (c : After-mask_of) → c.mask_of.result < 65536
small c = subst (λ (n : ℕ). n < 65536) (sym c.mask_of.ensures) (few_mask (shape_of c.args.bank.now) c.args.table c.requires.table)

lies : (c : After-mask_of) → 8 * c.args.place + c.args.word + c.mask_of.result + 1 ≡ entry_offset (slots (class_of (table_id c.args.table))) c.args.place c.args.word
lies c = entry_is (shape_of c.args.bank.now) c.args.table c.mask_of.result c.args.place c.args.word c.requires.table c.mask_of.ensures

pub overflow_mul-result : goal.overflow_mul-result
overflow_mul-result c = let f = few (goal.at.overflow_mul-result c).Start in omega (arith, f)

pub overflow_add-result : goal.overflow_add-result
overflow_add-result c =
    let f = few (goal.at.overflow_add-result c).Start in
    let w = c.requires.word in
    omega (arith, f, w)

pub overflow_add-result-2 : goal.overflow_add-result-2
overflow_add-result-2 c =
    let d = (goal.at.overflow_add-result-2 c).After-mask_of in
    let f = few_after d in
    let s = small d in
    let w = c.requires.word in
    omega (arith, f, w, s)

pub overflow_add-result-3 : goal.overflow_add-result-3
overflow_add-result-3 c =
    let d = (goal.at.overflow_add-result-3 c).After-mask_of in
    let f = few_after d in
    let s = small d in
    let w = c.requires.word in
    omega (arith, f, w, s)

pub returns-clause-at : goal.returns-clause-at
returns-clause-at c = lies (goal.at.returns-clause-at c).After-mask_of

pub returns-clause-inside : goal.returns-clause-inside
returns-clause-inside c =
    let a = c.args in
    subst (λ (i : ℕ). i < size (class_of (table_id a.table))) (sym (lies (goal.at.returns-clause-inside c).After-mask_of)) (keyed_low kind.Dict tt (class_of (table_id a.table)) a.place a.word c.requires.place c.requires.word)
