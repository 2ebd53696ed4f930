use Rattle.std.proofs.Common.{◌≡◌, ℕ, ◌^◌, ◌<◌, None, sym, ◌∙◌, refl, subst, arith}
use Rattle.std.specs.Prelude.{slice_index}
use Rattle.ft_trace.specs.Pictures.{ContainerWords}
use Rattle.ft_bank.specs.Passes.{shape_of}
use Rattle.ft_reads.proofs.Agreeing.{reads_block, reads_map, reads_then}
use Rattle.ft_whole_tables.specs.FoundKeys.{IsFoundIn, IsValueFound, SearchesTable}
use Rattle.ft_whole_tables.proofs.Sought.{sought_bare, sought_table}
use Rattle.ft_whole_tables.proofs.finding.find_key.Goals as goal

pub search_table-found-requires-clause-table : goal.search_table-found-requires-clause-table
search_table-found-requires-clause-table c = c.in-Some.ensures.in_bank (shape_of c.args.bank.now) (λ t e. c.read_block-root.ensures.table t refl e)

pub value_found-requires-clause-table : goal.value_found-requires-clause-table
value_found-requires-clause-table c = c.in-Some.ensures.in_bank (shape_of c.args.bank.now) (λ t e. c.read_block-root.ensures.table t refl e)

pub returns-in-Some-clause-reads : goal.returns-in-Some-clause-reads
returns-in-Some-clause-reads c =
    let a = c.args in
    let k = shape_of a.bank.now in
    let table = c.in-Some.table in
    let root = c.read_block-root.result in
    let e = c.read_block-root.ensures in
    let is_in = c.in-Some.ensures.in_bank k (λ t x. e.table t refl x) in
    let end = c.search_table-found.result in
    let read = c.value_found.result in
    let p = a.pass.now in
    let q = c.read_block-root.new.pass in
    let r = c.search_table-found.new.pass in
    let z = c.value_found.new.pass in
    let one : ContainerWords → Type 0 = λ x. (root ≡ slice_index x.block 0) × SearchesTable table a.way a.hash a.key end x in
    reads_map k a.o (λ x. one x × IsValueFound table a.way end read x) (IsFoundIn k a.way a.hash a.key read) p z
    (λ x both hash kept is stands.
    sought_table (record { pairs = c.used_entries_follow_a_dict.ensures.live; missing_key = c.used_entries_follow_a_dict.ensures.missing; elements = c.used_entries_follow_a_set.ensures.live; missing_element = c.used_entries_follow_a_set.ensures.missing }) k x a.way a.key kept is stands table is_in (subst (λ (n : ℕ). n < 2 ^ 64) hash c.ranges.hash.fits) (sym both.0.0 ∙ c.in-Some.ensures.named) end read
    (subst (λ (n : ℕ). SearchesTable table a.way n a.key end x) hash both.0.1) both.1)
    (reads_then k a.o one (IsValueFound table a.way end read) p r z
    (reads_then k a.o (λ x. root ≡ slice_index x.block 0) (SearchesTable table a.way a.hash a.key end) p q r (reads_block k a.o 0 root p q (omega arith) e.did e.held) c.search_table-found.ensures.reads)
    c.value_found.ensures.reads)

pub returns-in-None-clause-reads : goal.returns-in-None-clause-reads
returns-in-None-clause-reads c =
    let a = c.args in
    let k = shape_of a.bank.now in
    let root = c.read_block-root.result in
    let e = c.read_block-root.ensures in
    let none : root ≡ 0 = c.in-None.ensures.none k (λ t x. e.table t refl x) in
    reads_map k a.o (λ x. root ≡ slice_index x.block 0) (IsFoundIn k a.way a.hash a.key None) a.pass.now c.read_block-root.new.pass
    (λ x block hash kept is stands. sought_bare (record { pairs = c.used_entries_follow_a_dict.ensures.live; missing_key = c.used_entries_follow_a_dict.ensures.missing; elements = c.used_entries_follow_a_set.ensures.live; missing_element = c.used_entries_follow_a_set.ensures.missing }) k x a.way a.key kept is stands (sym block ∙ none))
    (reads_block k a.o 0 root a.pass.now c.read_block-root.new.pass (omega arith) e.did e.held)
