use Rattle.std.proofs.Common.{◌≡◌, None, refl, sym, ◌∙◌, arith}
use Rattle.std.specs.Prelude.{slice_index, slice_index_or}
use Rattle.ft_model.specs.Worlds.{list_of}
use Rattle.ft_model.specs.declared.data.Value.TheVariants as value
use Rattle.ft_bank.specs.Passes.{shape_of}
use Rattle.ft_bank.specs.TableNames.{table_id}
use Rattle.ft_list.specs.Indexes.{IsItemValue, IsItemAt}
use Rattle.ft_list.proofs.Cares.{table_class}
use Rattle.ft_list.proofs.Indexes.{item_says, no_items}
use Rattle.ft_reads.proofs.Agreeing.{reads_map, reads_then, reads_block}
use Rattle.ft_list.proofs.LookRounds.{slots_are}
use Rattle.ft_list.proofs.reads.read_item.Goals as goal

pub read_value-requires-clause-place : goal.read_value-requires-clause-place
read_value-requires-clause-place c =
    let k = shape_of c.args.bank.now in
    let s = slots_are k c.in-Some.table (c.in-Some.ensures.in_bank k (λ t x. c.read_block-root.ensures.table t refl x)) in
    let t = c.if-place-list_items.true in
    let e = c.list_items.ensures in
    omega (arith, s, t, e)

pub returns-then-place-list_items-clause-reads : goal.returns-then-place-list_items-clause-reads
returns-then-place-list_items-clause-reads c =
    let a = c.args in
    let k = shape_of a.bank.now in
    let table = c.in-Some.table in
    let t = table_id table in
    let root = c.read_block-root.result in
    let e = c.read_block-root.ensures in
    let is_in = c.in-Some.ensures.in_bank k (λ t x. e.table t refl x) in
    let found = c.read_value.result in
    let p = a.pass.now in
    let q = c.read_block-root.new.pass in
    let r = c.read_value.new.pass in
    reads_map k a.l (λ x. (root ≡ slice_index x.block 0) × IsItemValue t a.place found x) (IsItemAt k a.place found) p r
    (λ x both kept is stands low.
    let names = sym both.0 ∙ c.in-Some.ensures.named in
    let says = (item_says k.texts x kept t (table_class k table is_in) is stands names).1 a.place low in
    both.1 names says.0 (slice_index_or (list_of kept.content) a.place value.Nothing) says.1)
    (reads_then k a.l (λ x. root ≡ slice_index x.block 0) (IsItemValue t a.place found) p q r (reads_block k a.l 0 root p q (omega arith) e.did e.held) c.read_value.ensures.reads)

pub returns-else-place-list_items-clause-reads : goal.returns-else-place-list_items-clause-reads
returns-else-place-list_items-clause-reads c =
    let a = c.args in
    let k = shape_of a.bank.now in
    let table = c.in-Some.table in
    let root = c.read_block-root.result in
    let e = c.read_block-root.ensures in
    let is_in = c.in-Some.ensures.in_bank k (λ t x. e.table t refl x) in
    let p = a.pass.now in
    let q = c.read_block-root.new.pass in
    reads_map k a.l (λ x. root ≡ slice_index x.block 0) (IsItemAt k a.place None) p q
    (λ x block kept is stands low.
    let few = (item_says k.texts x kept (table_id table) (table_class k table is_in) is stands (sym block ∙ c.in-Some.ensures.named)).0 in
    let s = slots_are k table is_in in
    let past = c.if-place-list_items.false in
    let many = c.list_items.ensures in
    absurd (omega (arith, few, s, past, many, low)))
    (reads_block k a.l 0 root p q (omega arith) e.did e.held)

pub returns-in-None-clause-reads : goal.returns-in-None-clause-reads
returns-in-None-clause-reads c =
    let a = c.args in
    let k = shape_of a.bank.now in
    let root = c.read_block-root.result in
    let e = c.read_block-root.ensures in
    let none : root ≡ 0 = c.in-None.ensures.none k (λ t x. e.table t refl x) in
    let p = a.pass.now in
    let q = c.read_block-root.new.pass in
    reads_map k a.l (λ x. root ≡ slice_index x.block 0) (IsItemAt k a.place None) p q
    (λ x block kept is stands low.
    let empty = no_items k.texts x kept (sym block ∙ none) stands in
    absurd (omega (arith, empty, low)))
    (reads_block k a.l 0 root p q (omega arith) e.did e.held)
