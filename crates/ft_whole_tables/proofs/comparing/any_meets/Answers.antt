use Rattle.std.proofs.Common.{◌≡◌, false, length, refl, sym, ap, ◌∙◌, arith}
use Rattle.std.specs.Prelude.{slice_index}
use Rattle.std.specs.List.{filter_map, list_any}
use Rattle.ft_model.specs.declared.content.Element.{Element}
use Rattle.ft_model.specs.Contents.{SetContent}
use Rattle.ft_model.specs.Worlds.{set_of}
use Rattle.ft_trace.specs.Pictures.{ContainerWords}
use Rattle.ft_bank.specs.Passes.{shape_of}
use Rattle.ft_bank.specs.TableNames.{table_id}
use Rattle.ft_reads.proofs.Both.{both_map, both_then, of_first}
use Rattle.ft_reads.proofs.Agreeing.{reads_block, reads_then}
use Rattle.ft_whole_tables.specs.Comparing.{AreOfSets, WithSet, is_met}
use Rattle.ft_whole_tables.specs.ShownContents.{IsOfSet}
use Rattle.ft_whole_tables.specs.TableEntries.{live_key}
use Rattle.ft_whole_tables.proofs.Gathered.{elements_gathered, no_set, of_set}
use Rattle.ft_whole_tables.proofs.Paired.{any_map}
use Rattle.ft_whole_tables.proofs.comparing.any_meets.Goals as goal

pub some_meets-requires-clause-table : goal.some_meets-requires-clause-table
some_meets-requires-clause-table c = c.in-Some.ensures.in_bank (shape_of c.args.bank.now) (λ t e. c.read_block-root.ensures.table t refl e)

pub returns-in-Some-clause-reads : goal.returns-in-Some-clause-reads
returns-in-Some-clause-reads c =
    let a = c.args in
    let k = shape_of a.bank.now in
    let table = c.in-Some.table in
    let t = table_id table in
    let root = c.read_block-root.result in
    let fill = c.read_block-fill.result in
    let e = c.read_block-root.ensures in
    let f = c.read_block-fill.ensures in
    let found = c.some_meets.result in
    let p = a.pass.now in
    let q = c.read_block-root.new.pass in
    let r = c.read_block-fill.new.pass in
    let z = c.some_meets.new.pass in
    let one : ContainerWords → Type 0 = λ x. (root ≡ slice_index x.block 0) × (fill ≡ slice_index x.block 2) in
    both_map k a.s a.other (λ x y. one x × WithSet k t (λ used others. fill ≡ length used → found ≡ list_any (is_met a.wanted others) (filter_map live_key used)) x y) (AreOfSets k (λ set others. found ≡ list_any (λ (e : Element). is_met a.wanted others e.key) set.elements)) p z
    (both_then k a.s a.other (λ x y. one x) (WithSet k t (λ used others. fill ≡ length used → found ≡ list_any (is_met a.wanted others) (filter_map live_key used))) p r z
    (of_first k a.s a.other one p r (reads_then k a.s (λ x. root ≡ slice_index x.block 0) (λ x. fill ≡ slice_index x.block 2) p q r (reads_block k a.s 0 root p q (omega arith) e.did e.held) (reads_block k a.s 2 fill q r (omega arith) f.did f.held)))
    c.some_meets.ensures.reads)
    (λ x y both.
    of_set k t fill x (λ used. IsOfSet k (λ (others : SetContent). found ≡ list_any (is_met a.wanted others) (filter_map live_key used)) y) (sym both.0.0 ∙ c.in-Some.ensures.named) both.0.1 (λ names way used is filled kept kind_is stands. both.1 names way used is kept kind_is stands filled)
    (λ (set : SetContent). IsOfSet k (λ (others : SetContent). found ≡ list_any (λ (e : Element). is_met a.wanted others e.key) set.elements) y)
    (λ used set are is held kept kind_is stands. held kept kind_is stands ∙ (ap (list_any (is_met a.wanted (set_of kept.content))) (elements_gathered used set are) ∙ any_map (is_met a.wanted (set_of kept.content)) (λ (e : Element). e.key) set.elements)))

pub returns-in-None-clause-reads : goal.returns-in-None-clause-reads
returns-in-None-clause-reads c =
    let a = c.args in
    let k = shape_of a.bank.now in
    let root = c.read_block-root.result in
    let fill = c.read_block-fill.result in
    let e = c.read_block-root.ensures in
    let f = c.read_block-fill.ensures in
    let none : root ≡ 0 = c.in-None.ensures.none k (λ t x. e.table t refl x) in
    let p = a.pass.now in
    let q = c.read_block-root.new.pass in
    let r = c.read_block-fill.new.pass in
    let one : ContainerWords → Type 0 = λ x. (root ≡ slice_index x.block 0) × (fill ≡ slice_index x.block 2) in
    both_map k a.s a.other (λ x y. one x) (AreOfSets k (λ set others. false ≡ list_any (λ (e : Element). is_met a.wanted others e.key) set.elements)) p r
    (of_first k a.s a.other one p r (reads_then k a.s (λ x. root ≡ slice_index x.block 0) (λ x. fill ≡ slice_index x.block 2) p q r (reads_block k a.s 0 root p q (omega arith) e.did e.held) (reads_block k a.s 2 fill q r (omega arith) f.did f.held)))
    (λ x y both. no_set k x (sym both.0 ∙ none) (λ (set : SetContent). IsOfSet k (λ (others : SetContent). false ≡ list_any (λ (e : Element). is_met a.wanted others e.key) set.elements) y) (λ set nothing kept kind_is stands. sym (ap (list_any (λ (e : Element). is_met a.wanted (set_of kept.content) e.key)) nothing)))
