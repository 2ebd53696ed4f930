use Rattle.std.proofs.Common.{◌≡◌, None, refl, sym, ◌∙◌, arith}
use Rattle.std.specs.Prelude.{slice_index}
use Rattle.ft_bank.specs.Passes.{shape_of}
use Rattle.ft_reads.proofs.Agreeing.{reads_block, reads_map, reads_then}
use Rattle.ft_set.specs.Firsts.{IsFirstIn, IsFirstOf}
use Rattle.ft_set.proofs.Popping.{first_bare, first_of}
use Rattle.ft_set.proofs.firsts.first_element.Goals as goal

pub first_in-requires-clause-table : goal.first_in-requires-clause-table
first_in-requires-clause-table c = c.in-Some.ensures.in_bank (shape_of c.args.bank.now) (λ t e. c.read_block-root.ensures.table t refl e)

pub returns-in-Some-clause-reads : goal.returns-in-Some-clause-reads
returns-in-Some-clause-reads c =
    let a = c.args in
    let k = shape_of a.bank.now in
    let table = c.in-Some.table in
    let root = c.read_block-root.result in
    let fill = c.read_block-fill.result in
    let e = c.read_block-root.ensures in
    let f = c.read_block-fill.ensures in
    let found = c.first_in.result in
    let p = a.pass.now in
    let q = c.read_block-root.new.pass in
    let r = c.read_block-fill.new.pass in
    let z = c.first_in.new.pass in
    reads_map k a.s (λ x. ((root ≡ slice_index x.block 0) × (fill ≡ slice_index x.block 2)) × IsFirstIn k table fill found x) (IsFirstOf k found) p z
    (λ x both. first_of c.used_entries_follow_a_set.ensures.live c.used_entries_follow_a_set.ensures.first_of_all k table fill found x (sym both.0.0 ∙ c.in-Some.ensures.named) both.0.1 both.1)
    (reads_then k a.s (λ x. (root ≡ slice_index x.block 0) × (fill ≡ slice_index x.block 2)) (IsFirstIn k table fill found) p r z
    (reads_then k a.s (λ x. root ≡ slice_index x.block 0) (λ x. fill ≡ slice_index x.block 2) p q r (reads_block k a.s 0 root p q (omega arith) e.did e.held) (reads_block k a.s 2 fill q r (omega arith) f.did f.held))
    c.first_in.ensures.reads)

pub returns-in-None-clause-reads : goal.returns-in-None-clause-reads
returns-in-None-clause-reads c =
    let a = c.args in
    let k = shape_of a.bank.now in
    let root = c.read_block-root.result in
    let fill = c.read_block-fill.result in
    let e = c.read_block-root.ensures in
    let f = c.read_block-fill.ensures in
    let none : root ≡ 0 = c.in-None.ensures.none k (λ t x. e.table t refl x) in
    let p = a.pass.now in
    let q = c.read_block-root.new.pass in
    let r = c.read_block-fill.new.pass in
    reads_map k a.s (λ x. (root ≡ slice_index x.block 0) × (fill ≡ slice_index x.block 2)) (IsFirstOf k None) p r
    (λ x both. first_bare k x (sym both.0 ∙ none))
    (reads_then k a.s (λ x. root ≡ slice_index x.block 0) (λ x. fill ≡ slice_index x.block 2) p q r (reads_block k a.s 0 root p q (omega arith) e.did e.held) (reads_block k a.s 2 fill q r (omega arith) f.did f.held))
