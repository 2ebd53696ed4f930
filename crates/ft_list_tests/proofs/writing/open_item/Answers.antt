use Rattle.std.proofs.Common.{◌≡◌, ℕ, ◌<◌, sym, ap, ◌∙◌, subst, arith}
use Rattle.std.specs.Prelude.{slice_index}
use Rattle.ft_trace.specs.declared.Act.TheVariants.{ReadTable}
use Rattle.ft_trace.specs.Addresses.{class_of, size}
use Rattle.ft_trace.specs.Holds.{held_unboxed, held_words}
use Rattle.ft_trace.specs.Pictures.{ContainerWords, item_field}
use Rattle.ft_bank.specs.Passes.{shape_of, view}
use Rattle.ft_bank.specs.TableNames.{table_id}
use Rattle.ft_bank.specs.Whole.{OnlyLoaded}
use Rattle.ft_bank.proofs.KnownAfterWrites.{loaded_by}
use Rattle.ft_list.proofs.Cares.{few_slots, inside, list_unboxed, open_care, version_reads, writes_loaded}
use Rattle.ft_list_tests.proofs.writing.open_item.Goals as goal

pub version_at-word-requires : goal.version_at-word-requires
version_at-word-requires c =
    let f = few_slots (shape_of c.args.bank.now) c.args.table c.requires.list.table_in in
    let low = c.requires.place in
    omega (arith, f, low)

pub read_table-version-requires-clause-word : goal.read_table-version-requires-clause-word
read_table-version-requires-clause-word c =
    subst (λ (z : ℕ). z < size (class_of (table_id c.args.table))) (sym c.version_at-word.ensures) (inside (shape_of c.args.bank.now) c.args.table c.requires.list.table_in c.args.place 0 c.requires.place (omega arith))

pub put_table-requires-clause-word : goal.put_table-requires-clause-word
put_table-requires-clause-word c =
    subst (λ (z : ℕ). z < size (class_of (table_id c.args.table))) (sym c.version_at-word.ensures) (inside (shape_of c.args.bank.now) c.args.table c.requires.list.table_in c.args.place 0 c.requires.place (omega arith))

pub put_table-requires-clause-care : goal.put_table-requires-clause-care
put_table-requires-clause-care c =
    let a = c.args in
    let k = shape_of a.bank.now in
    let v = view a.writer.now in
    let w = view c.read_table-version.new.pass in
    let e = c.read_table-version.ensures in
    let list = c.requires.list in
    let shape = c.requires.pass.1 in
    let loaded : OnlyLoaded v w = loaded_by (ReadTable (table_id a.table) c.version_at-word.result c.read_table-version.result) v w tt e.did.1 in
    let raw : c.read_table-version.result ≡ slice_index (held_words a.l v).table c.version_at-word.result = e.held a.l list.container list.locked list.root in
    let found : c.read_table-version.result ≡ item_field (held_unboxed a.l v).table a.place 0 = raw ∙ (ap (λ (z : ℕ). slice_index (held_words a.l v).table z) c.version_at-word.ensures ∙ sym (version_reads k a.l a.table v list shape a.place)) in
    let same : item_field (held_unboxed a.l w).table a.place 0 ≡ item_field (held_unboxed a.l v).table a.place 0 = ap (λ (z : ContainerWords). item_field z.table a.place 0) (list_unboxed k a.l a.table v w shape loaded list) in
    open_care k a.l a.table w (writes_loaded k a.l a.table v w shape loaded list) (loaded.work.pass.shape ∙ shape) a.place c.read_table-version.result c.version_at-word.result c.version_at-word.ensures (loaded.work.committed a.l ∙ c.requires.early) (found ∙ sym same) c.if-version-ne0.false
