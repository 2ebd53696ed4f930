use Rattle.std.proofs.Common.{◌≡◌, ◌+◌, sym, ap, ◌∙◌, arith}
use Rattle.std.specs.Prelude.{slice_index}
use Rattle.ft_trace.specs.Boxes.{names_box}
use Rattle.ft_trace.specs.Holds.{held_words}
use Rattle.ft_trace.specs.Pictures.{ContainerWords, root_in}
use Rattle.ft_bank.specs.BoxSteps.{HasReferenceFor, IsOpenValue}
use Rattle.ft_bank.specs.Passes.{shape_of, view}
use Rattle.ft_bank.specs.TableNames.{table_id}
use Rattle.ft_bank.specs.Whole.{OnlyLoaded}
use Rattle.ft_bank.specs.WriteSteps.{with_table}
use Rattle.ft_bank.proofs.KnownAfterWrites.{loaded_held, loaded_put, put_then}
use Rattle.ft_search.specs.Boxed.{WritesTable}
use Rattle.ft_search.proofs.Overs.{value_inside, word_inside, table_loaded, open_as, still_unboxed, both_words, held_same}
use Rattle.ft_search.proofs.Exchanging.{exchanged_writes, exchanged_own, exchanged_reads}
use Rattle.ft_search.proofs.ValueLoads.{kind_load, kind_found, both_load, kind_stays, payload_found}
use Rattle.ft_search.proofs.Owning.{own_loaded, reads_loaded}
use Rattle.ft_search.proofs.boxed.exchange.Goals as goal
use Rattle.ft_search.proofs.boxed.exchange.Goals.{After-read_word-kind, After-read_word-payload, After-put_value}

-- ---- the loads

load_old : (c : After-read_word-kind) → OnlyLoaded (view c.args.pass.now) (view c.read_word-kind.new.pass)
load_old c = kind_load (shape_of c.args.bank.now) c.args.o c.args.table c.args.word (view c.args.pass.now) (view c.read_word-kind.new.pass) c.requires.pass.1 c.requires.writes c.read_word-kind.result c.read_word-kind.ensures.did.1 c.read_word-kind.ensures.held

-- the kind found is that which stands
old_is : (c : After-read_word-kind) → c.read_word-kind.result ≡ slice_index (held_words c.args.o (view c.read_word-kind.new.pass)).table c.args.word
old_is c = kind_found (shape_of c.args.bank.now) c.args.o c.args.table c.args.word (view c.args.pass.now) (view c.read_word-kind.new.pass) c.requires.pass.1 c.requires.writes c.read_word-kind.result c.read_word-kind.ensures.did.1 c.read_word-kind.ensures.held

load_named : (c : After-read_word-payload) → OnlyLoaded (view c.args.pass.now) (view c.read_word-payload.new.pass)
load_named c = both_load (shape_of c.args.bank.now) c.args.o c.args.table c.args.word (view c.args.pass.now) (view c.read_word-kind.new.pass) c.requires.pass.1 c.requires.writes c.read_word-kind.result c.read_word-kind.ensures.did.1 c.read_word-kind.ensures.held (view c.read_word-payload.new.pass) c.read_word-payload.result c.read_word-payload.ensures.did.1 c.read_word-payload.ensures.held

-- after both: what stands
old_stands : (c : After-read_word-payload) → c.read_word-kind.result ≡ slice_index (held_words c.args.o (view c.read_word-payload.new.pass)).table c.args.word
old_stands c = kind_stays (shape_of c.args.bank.now) c.args.o c.args.table c.args.word (view c.args.pass.now) (view c.read_word-kind.new.pass) c.requires.pass.1 c.requires.writes c.read_word-kind.result c.read_word-kind.ensures.did.1 c.read_word-kind.ensures.held (view c.read_word-payload.new.pass) c.read_word-payload.result c.read_word-payload.ensures.did.1 c.read_word-payload.ensures.held

named_is : (c : After-read_word-payload) → c.read_word-payload.result ≡ slice_index (held_words c.args.o (view c.read_word-payload.new.pass)).table (c.args.word + 1)
named_is c = payload_found (shape_of c.args.bank.now) c.args.o c.args.table c.args.word (view c.args.pass.now) (view c.read_word-kind.new.pass) c.requires.pass.1 c.requires.writes c.read_word-kind.result c.read_word-kind.ensures.did.1 c.read_word-kind.ensures.held (view c.read_word-payload.new.pass) c.read_word-payload.result c.read_word-payload.ensures.did.1 c.read_word-payload.ensures.held

pub read_word-kind-requires-clause-table : goal.read_word-kind-requires-clause-table
read_word-kind-requires-clause-table c = c.requires.writes.table_in

pub read_word-kind-requires-clause-word : goal.read_word-kind-requires-clause-word
read_word-kind-requires-clause-word c = word_inside (shape_of c.args.bank.now) c.args.o c.args.table c.args.word (view c.args.pass.now) c.requires.pass.1 c.requires.writes c.requires.open

pub overflow_add-word : goal.overflow_add-word
overflow_add-word c =
    let n = value_inside (shape_of c.args.bank.now) c.args.o c.args.table c.args.word (view c.args.pass.now) c.requires.pass.1 c.requires.writes c.requires.open in
    let s = c.cell_of-start.ensures.place.1 in
    let l = c.args.bank.now.low in
    omega (arith, n, s, l)

pub read_word-payload-requires-clause-table : goal.read_word-payload-requires-clause-table
read_word-payload-requires-clause-table c = c.requires.writes.table_in

pub read_word-payload-requires-clause-word : goal.read_word-payload-requires-clause-word
read_word-payload-requires-clause-word c = value_inside (shape_of c.args.bank.now) c.args.o c.args.table c.args.word (view c.args.pass.now) c.requires.pass.1 c.requires.writes c.requires.open

-- what the value is to be, once the words are loaded
own_old : (c : After-read_word-kind) → HasReferenceFor (view c.read_word-kind.new.pass) c.args.value.0 c.args.value.1
own_old c = own_loaded (view c.args.pass.now) (view c.read_word-kind.new.pass) c.args.value.0 c.args.value.1 c.args.pass.now.possible c.requires.own (load_old c)

-- ---- both words

pub put_value-requires-clause-container : goal.put_value-requires-clause-container
put_value-requires-clause-container c =
    let d = (goal.at.put_value-requires-clause-container c).After-read_word-payload in
    (table_loaded (shape_of c.args.bank.now) c.args.o c.args.table (view c.args.pass.now) (view c.read_word-payload.new.pass) c.requires.pass.1 c.requires.writes (load_named d)).container

pub put_value-requires-clause-table : goal.put_value-requires-clause-table
put_value-requires-clause-table c =
    let d = (goal.at.put_value-requires-clause-table c).After-read_word-payload in
    (table_loaded (shape_of c.args.bank.now) c.args.o c.args.table (view c.args.pass.now) (view c.read_word-payload.new.pass) c.requires.pass.1 c.requires.writes (load_named d)).table_in

pub put_value-requires-clause-odd : goal.put_value-requires-clause-odd
put_value-requires-clause-odd c =
    let d = (goal.at.put_value-requires-clause-odd c).After-read_word-payload in
    (table_loaded (shape_of c.args.bank.now) c.args.o c.args.table (view c.args.pass.now) (view c.read_word-payload.new.pass) c.requires.pass.1 c.requires.writes (load_named d)).odd

pub put_value-requires-clause-root : goal.put_value-requires-clause-root
put_value-requires-clause-root c =
    let d = (goal.at.put_value-requires-clause-root c).After-read_word-payload in
    (table_loaded (shape_of c.args.bank.now) c.args.o c.args.table (view c.args.pass.now) (view c.read_word-payload.new.pass) c.requires.pass.1 c.requires.writes (load_named d)).root

pub put_value-requires-clause-few : goal.put_value-requires-clause-few
put_value-requires-clause-few c =
    let d = (goal.at.put_value-requires-clause-few c).After-read_word-payload in
    (table_loaded (shape_of c.args.bank.now) c.args.o c.args.table (view c.args.pass.now) (view c.read_word-payload.new.pass) c.requires.pass.1 c.requires.writes (load_named d)).few

pub put_value-requires-clause-value : goal.put_value-requires-clause-value
put_value-requires-clause-value c =
    let d = (goal.at.put_value-requires-clause-value c).After-read_word-payload in
    let l = load_named d in
    open_as (view c.args.pass.now) (view c.read_word-payload.new.pass) c.args.o (table_id c.args.table) c.args.word l.work.pass.shape (still_unboxed (shape_of c.args.bank.now) c.args.o c.args.table (view c.args.pass.now) (view c.read_word-payload.new.pass) c.requires.pass.1 c.requires.writes l) c.requires.open

pub put_value-requires-clause-reference : goal.put_value-requires-clause-reference
put_value-requires-clause-reference c =
    let d = (goal.at.put_value-requires-clause-reference c).After-read_word-payload in
    own_loaded (view c.args.pass.now) (view c.read_word-payload.new.pass) c.args.value.0 c.args.value.1 c.args.pass.now.possible c.requires.own (load_named d)

-- ---- what stands then

here_writes : (c : After-read_word-payload) → WritesTable (shape_of c.args.bank.now) c.args.o c.args.table (view c.read_word-payload.new.pass)
here_writes c = table_loaded (shape_of c.args.bank.now) c.args.o c.args.table (view c.args.pass.now) (view c.read_word-payload.new.pass) c.requires.pass.1 c.requires.writes (load_named c)

here_open : (c : After-read_word-payload) → IsOpenValue (view c.read_word-payload.new.pass) c.args.o (table_id c.args.table) c.args.word
here_open c =
    let l = load_named c in
    open_as (view c.args.pass.now) (view c.read_word-payload.new.pass) c.args.o (table_id c.args.table) c.args.word l.work.pass.shape (still_unboxed (shape_of c.args.bank.now) c.args.o c.args.table (view c.args.pass.now) (view c.read_word-payload.new.pass) c.requires.pass.1 c.requires.writes l) c.requires.open

pub returns-clause-writes : goal.returns-clause-writes
returns-clause-writes c few =
    let d = (goal.at.returns-clause-writes c).After-read_word-payload in
    exchanged_writes (shape_of c.args.bank.now) c.args.o c.args.table c.args.word c.args.value.0 c.args.value.1 c.read_word-kind.result c.read_word-payload.result (view c.read_word-payload.new.pass) (view c.put_value.new.pass) ((load_named d).work.pass.shape ∙ c.requires.pass.1) (here_writes d) (here_open d) c.read_word-payload.new.pass.possible c.put_value.ensures.did.1 c.put_value.ensures.only (old_stands d) (named_is d) (ap root_in c.put_value.ensures.held) few

pub returns-clause-only : goal.returns-clause-only
returns-clause-only c =
    let d = (goal.at.returns-clause-only c).After-read_word-payload in
    put_then (view c.args.pass.now) (view c.read_word-payload.new.pass) (view c.put_value.new.pass) c.args.o (loaded_put (view c.args.pass.now) (view c.read_word-payload.new.pass) c.args.o (load_named d)) c.put_value.ensures.only

same_raw : (c : After-read_word-payload) → held_words c.args.o (view c.read_word-payload.new.pass) ≡ held_words c.args.o (view c.args.pass.now)
same_raw c = loaded_held (view c.args.pass.now) (view c.read_word-payload.new.pass) c.args.o (load_named c)

pub returns-clause-stood : goal.returns-clause-stood
returns-clause-stood c =
    let d = (goal.at.returns-clause-stood c).After-read_word-payload in
    let same = same_raw d in
    (old_stands d ∙ ap (λ (x : ContainerWords). slice_index x.table c.args.word) same, named_is d ∙ ap (λ (x : ContainerWords). slice_index x.table (c.args.word + 1)) same)

pub returns-clause-raw : goal.returns-clause-raw
returns-clause-raw c =
    let d = (goal.at.returns-clause-raw c).After-read_word-payload in
    c.put_value.ensures.held ∙ ap (λ (x : ContainerWords). with_table (with_table x c.args.word c.args.value.0) (c.args.word + 1) c.args.value.1) (same_raw d)

pub returns-clause-words : goal.returns-clause-words
returns-clause-words c =
    let d = (goal.at.returns-clause-words c).After-read_word-payload in
    both_words (shape_of c.args.bank.now) c.args.o c.args.table c.args.word c.args.value.0 c.args.value.1 (view c.args.pass.now) (view c.read_word-payload.new.pass) (view c.put_value.new.pass) c.requires.pass.1 c.requires.writes c.requires.open (load_named d) c.requires.own (reads_loaded (view c.args.pass.now) (view c.read_word-payload.new.pass) c.args.value.0 c.args.value.1 c.args.pass.now.possible c.requires.own (load_named d)) c.put_value.ensures.only c.put_value.ensures.held c.put_value.ensures.unboxed c.put_value.ensures.references

pub returns-clause-references : goal.returns-clause-references
returns-clause-references c b =
    let d = (goal.at.returns-clause-references c).After-read_word-payload in
    let moved = c.put_value.ensures.references b in
    let same = held_same (shape_of c.args.bank.now) (view c.args.pass.now) (view c.read_word-payload.new.pass) c.requires.pass.1 ((load_named d).work.pass.shape ∙ c.requires.pass.1) (load_named d).boxes.references b in
    let names : names_box b (slice_index (held_words c.args.o (view c.read_word-payload.new.pass)).table c.args.word) (slice_index (held_words c.args.o (view c.read_word-payload.new.pass)).table (c.args.word + 1)) ≡ names_box b c.read_word-kind.result c.read_word-payload.result =
    sym (λ i. names_box b (old_stands d i) (named_is d i)) in
    omega (arith, moved, same, names)

pub returns-clause-own : goal.returns-clause-own
returns-clause-own c =
    let d = (goal.at.returns-clause-own c).After-read_word-payload in
    exchanged_own (shape_of c.args.bank.now) c.args.o c.args.table c.args.word c.args.value.0 c.args.value.1 c.read_word-kind.result c.read_word-payload.result (view c.read_word-payload.new.pass) (view c.put_value.new.pass) ((load_named d).work.pass.shape ∙ c.requires.pass.1) (here_writes d) (here_open d) c.read_word-payload.new.pass.possible c.put_value.ensures.did.1 c.put_value.ensures.only (old_stands d) (named_is d) (own_loaded (view c.args.pass.now) (view c.read_word-payload.new.pass) c.args.value.0 c.args.value.1 c.args.pass.now.possible c.requires.own (load_named d)) c.put_value.ensures.references

pub returns-clause-reads : goal.returns-clause-reads
returns-clause-reads c =
    let d = (goal.at.returns-clause-reads c).After-read_word-payload in
    let r = exchanged_reads (shape_of c.args.bank.now) c.args.o c.args.table c.args.word c.args.value.0 c.args.value.1 c.read_word-kind.result c.read_word-payload.result (view c.read_word-payload.new.pass) (view c.put_value.new.pass) ((load_named d).work.pass.shape ∙ c.requires.pass.1) (here_writes d) (here_open d) c.read_word-payload.new.pass.possible c.put_value.ensures.did.1 c.put_value.ensures.only (old_stands d) (named_is d) in
    let same = still_unboxed (shape_of c.args.bank.now) c.args.o c.args.table (view c.args.pass.now) (view c.read_word-payload.new.pass) c.requires.pass.1 c.requires.writes (load_named d) in
    (r.0 ∙ ap (λ (x : ContainerWords). slice_index x.table c.args.word) same, r.1 ∙ ap (λ (x : ContainerWords). slice_index x.table (c.args.word + 1)) same)
