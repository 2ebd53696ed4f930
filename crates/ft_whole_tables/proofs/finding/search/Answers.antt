use Rattle.std.proofs.Common.{ℕ, List, ◌∷◌, ap, sym, subst}
use Rattle.ft_keys.specs.Searches.{Searched}
use Rattle.ft_keys.specs.Ways.{walk_slots}
use Rattle.ft_trace.specs.ContainerStates.{kind_in}
use Rattle.ft_trace.specs.Kinds.{IsKeyed}
use Rattle.ft_trace.specs.Unboxed.{unboxed}
use Rattle.ft_bank.specs.Passes.{shape_of}
use Rattle.ft_bank.specs.TableNames.{table_id}
use Rattle.ft_bank.proofs.TableAddresses.{named}
use Rattle.ft_search.proofs.SearchedReads.{way_keyed}
use Rattle.ft_search.proofs.WordPlaces.{mask_is}
use Rattle.ft_whole_tables.specs.FoundKeys.{SearchesTable}
use Rattle.ft_whole_tables.proofs.Loaded.{AnswerAll, ran_reads}
use Rattle.ft_whole_tables.proofs.Sought.{searched_words}
use Rattle.ft_whole_tables.proofs.WordReads.{words_read}
use Rattle.ft_whole_tables.proofs.finding.search.Goals as goal

pub new-walk-requires : goal.new-walk-requires
new-walk-requires c =
    let s = c.args.words.now in
    mask_is s.table.class s.mask c.requires.can.table.0 c.requires.can.mask

pub returns-clause-reads : goal.returns-clause-reads
returns-clause-reads c =
    let a = c.args in
    let s0 = a.words.now in
    let s1 = c.seek.new.words in
    let mask = s0.mask in
    let end = c.seek.result in
    let left = c.seek.new.walk.left in
    let run = c.seek.ensures.ran in
    let first = ap (λ z. z.left) c.new-walk.ensures in
    let k = shape_of s0.bank.now in
    let n = table_id s0.table in
    let can = c.requires.can in
    let keyed = subst IsKeyed (sym c.requires.way) (way_keyed a.way) in
    words_read k s0.o (AnswerAll n mask run.0) (SearchesTable s0.table a.way a.hash a.key end) s0.pass.now s1.pass.now
    (λ x box all names.
    let raw = subst (λ (l : List ℕ). Searched mask (0 ∷ 0 ∷ x.table) a.key l left end) first (run.3 (0 ∷ 0 ∷ x.table) (all names).0) in
    let read = searched_words k s0.o s0.table mask a.hash a.way a.key left end x box keyed can.table can.mask names c.requires.key raw in
    ((left, subst (λ (m : ℕ). Searched m (0 ∷ 0 ∷ (unboxed box (kind_in k.starts s0.o) x).table) a.key (walk_slots a.way a.hash m) left end) can.mask read), c.seek.ensures.live))
    (ran_reads s0.o s0 run.0 s1 (can.table, can.mask) (named k s0.table can.table) run.2 run.1)
