use Rattle.std.proofs.Common.{◌≡◌, [], length, refl, sym, ◌∙◌, subst, arith}
use Rattle.std.specs.Prelude.{slice_index, Ok}
use Rattle.ft_bank.specs.Passes.{shape_of}
use Rattle.ft_bank.specs.TableNames.{table_id}
use Rattle.ft_reads.proofs.Agreeing.{reads_block, reads_map, reads_then}
use Rattle.ft_whole_tables.specs.Items.{reply_of_used, IsAllIn, IsAllOf, IsItemsReply}
use Rattle.ft_whole_tables.specs.TableEntries.{OfUsed}
use Rattle.ft_whole_tables.proofs.Copied.{all_of_used, none_there, used_reply}
use Rattle.ft_whole_tables.proofs.copies.copy_all.Goals as goal

pub copy_table-requires-clause-table : goal.copy_table-requires-clause-table
copy_table-requires-clause-table c = c.in-Some.ensures.in_bank (shape_of c.args.bank.now) (λ t e. c.read_block-root.ensures.table t refl e)

pub returns-in-None-clause-of_kind : goal.returns-in-None-clause-of_kind
returns-in-None-clause-of_kind c = subst (IsItemsReply c.args.way) (sym c.empty_reply.ensures) (used_reply c.args.way [])

pub returns-in-Some-clause-reads : goal.returns-in-Some-clause-reads
returns-in-Some-clause-reads c =
    let a = c.args in
    let k = shape_of a.bank.now in
    let table = c.in-Some.table in
    let root = c.read_block-root.result in
    let fill = c.read_block-fill.result in
    let e = c.read_block-root.ensures in
    let f = c.read_block-fill.ensures in
    let made = c.copy_table.result in
    let p = a.pass.now in
    let q = c.read_block-root.new.pass in
    let r = c.read_block-fill.new.pass in
    let z = c.copy_table.new.pass in
    reads_map k a.c (λ x. ((root ≡ slice_index x.block 0) × (fill ≡ slice_index x.block 2)) × OfUsed k (table_id table) (λ used. fill ≡ length used → IsAllOf made (reply_of_used a.way used)) x) (IsAllIn a.way k made) p z
    (λ x both. all_of_used a.way k (table_id table) fill x made (sym both.0.0 ∙ c.in-Some.ensures.named) both.0.1 both.1)
    (reads_then k a.c (λ x. (root ≡ slice_index x.block 0) × (fill ≡ slice_index x.block 2)) (OfUsed k (table_id table) (λ used. fill ≡ length used → IsAllOf made (reply_of_used a.way used))) p r z
    (reads_then k a.c (λ x. root ≡ slice_index x.block 0) (λ x. fill ≡ slice_index x.block 2) p q r (reads_block k a.c 0 root p q (omega arith) e.did e.held) (reads_block k a.c 2 fill q r (omega arith) f.did f.held))
    c.copy_table.ensures.reads)

pub returns-in-None-clause-reads : goal.returns-in-None-clause-reads
returns-in-None-clause-reads c =
    let a = c.args in
    let k = shape_of a.bank.now in
    let root = c.read_block-root.result in
    let fill = c.read_block-fill.result in
    let e = c.read_block-root.ensures in
    let f = c.read_block-fill.ensures in
    let none : root ≡ 0 = c.in-None.ensures.none k (λ t x. e.table t refl x) in
    let p = a.pass.now in
    let q = c.read_block-root.new.pass in
    let r = c.read_block-fill.new.pass in
    reads_map k a.c (λ x. (root ≡ slice_index x.block 0) × (fill ≡ slice_index x.block 2)) (IsAllIn a.way k (Ok c.empty_reply.result)) p r
    (λ x both. none_there a.way k x c.empty_reply.result (sym both.0 ∙ none) c.empty_reply.ensures)
    (reads_then k a.c (λ x. root ≡ slice_index x.block 0) (λ x. fill ≡ slice_index x.block 2) p q r (reads_block k a.c 0 root p q (omega arith) e.did e.held) (reads_block k a.c 2 fill q r (omega arith) f.did f.held))
