use Rattle.std.proofs.Common.{◌≡◌, true, not, length, refl, sym, ap, ◌∙◌, arith}
use Rattle.std.specs.Prelude.{slice_index}
use Rattle.std.specs.List.{filter_map, list_all, list_any}
use Rattle.ft_model.specs.Contents.{DictContent, has_pair}
use Rattle.ft_model.specs.Worlds.{dict_of}
use Rattle.ft_trace.specs.Pictures.{ContainerWords}
use Rattle.ft_bank.specs.Passes.{shape_of}
use Rattle.ft_bank.specs.TableNames.{table_id}
use Rattle.ft_reads.proofs.Both.{both_map, both_then, of_first}
use Rattle.ft_reads.proofs.Agreeing.{reads_block, reads_then}
use Rattle.ft_whole_tables.specs.Comparing.{AreOfDicts, WithDict, lacks_value}
use Rattle.ft_whole_tables.specs.ShownContents.{IsOfDict}
use Rattle.ft_whole_tables.specs.TableEntries.{plain_pair}
use Rattle.ft_whole_tables.proofs.Gathered.{pairs_gathered, no_dict, of_dict}
use Rattle.ft_whole_tables.proofs.Paired.{dict_is, none_lacks}
use Rattle.ft_whole_tables.proofs.comparing.are_within.Goals as goal

pub some_differs-requires-clause-table : goal.some_differs-requires-clause-table
some_differs-requires-clause-table c = c.in-Some.ensures.in_bank (shape_of c.args.bank.now) (λ t e. c.read_block-root.ensures.table t refl e)

pub returns-in-Some-clause-reads : goal.returns-in-Some-clause-reads
returns-in-Some-clause-reads c =
    let a = c.args in
    let k = shape_of a.bank.now in
    let table = c.in-Some.table in
    let t = table_id table in
    let root = c.read_block-root.result in
    let fill = c.read_block-fill.result in
    let e = c.read_block-root.ensures in
    let f = c.read_block-fill.ensures in
    let found = c.some_differs.result in
    let p = a.pass.now in
    let q = c.read_block-root.new.pass in
    let r = c.read_block-fill.new.pass in
    let z = c.some_differs.new.pass in
    let one : ContainerWords → Type 0 = λ x. (root ≡ slice_index x.block 0) × (fill ≡ slice_index x.block 2) in
    both_map k a.d a.other (λ x y. one x × WithDict k t (λ used others. fill ≡ length used → found ≡ list_any (lacks_value others) (filter_map plain_pair used)) x y) (AreOfDicts k (λ dict others. not found ≡ list_all (has_pair others.pairs) dict.pairs)) p z
    (both_then k a.d a.other (λ x y. one x) (WithDict k t (λ used others. fill ≡ length used → found ≡ list_any (lacks_value others) (filter_map plain_pair used))) p r z
    (of_first k a.d a.other one p r (reads_then k a.d (λ x. root ≡ slice_index x.block 0) (λ x. fill ≡ slice_index x.block 2) p q r (reads_block k a.d 0 root p q (omega arith) e.did e.held) (reads_block k a.d 2 fill q r (omega arith) f.did f.held)))
    c.some_differs.ensures.reads)
    (λ x y both.
    of_dict k t fill x (λ used. IsOfDict k (λ (others : DictContent). found ≡ list_any (lacks_value others) (filter_map plain_pair used)) y) (sym both.0.0 ∙ c.in-Some.ensures.named) both.0.1 (λ names way used is filled kept kind_is stands. both.1 names way used is kept kind_is stands filled)
    (λ (dict : DictContent). IsOfDict k (λ (others : DictContent). not found ≡ list_all (has_pair others.pairs) dict.pairs) y)
    (λ used dict are is held kept kind_is stands. ap not (held kept kind_is stands ∙ ap (list_any (lacks_value (dict_of kept.content))) (pairs_gathered used dict are)) ∙ sym (none_lacks dict.pairs (dict_of kept.content) (dict_is k y kept kind_is stands).distinct)))

pub returns-in-None-clause-reads : goal.returns-in-None-clause-reads
returns-in-None-clause-reads c =
    let a = c.args in
    let k = shape_of a.bank.now in
    let root = c.read_block-root.result in
    let fill = c.read_block-fill.result in
    let e = c.read_block-root.ensures in
    let f = c.read_block-fill.ensures in
    let none : root ≡ 0 = c.in-None.ensures.none k (λ t x. e.table t refl x) in
    let p = a.pass.now in
    let q = c.read_block-root.new.pass in
    let r = c.read_block-fill.new.pass in
    let one : ContainerWords → Type 0 = λ x. (root ≡ slice_index x.block 0) × (fill ≡ slice_index x.block 2) in
    both_map k a.d a.other (λ x y. one x) (AreOfDicts k (λ dict others. true ≡ list_all (has_pair others.pairs) dict.pairs)) p r
    (of_first k a.d a.other one p r (reads_then k a.d (λ x. root ≡ slice_index x.block 0) (λ x. fill ≡ slice_index x.block 2) p q r (reads_block k a.d 0 root p q (omega arith) e.did e.held) (reads_block k a.d 2 fill q r (omega arith) f.did f.held)))
    (λ x y both. no_dict k x (sym both.0 ∙ none) (λ (dict : DictContent). IsOfDict k (λ (others : DictContent). true ≡ list_all (has_pair others.pairs) dict.pairs) y) (λ dict nothing kept kind_is stands. sym (ap (list_all (has_pair (dict_of kept.content).pairs)) nothing)))
