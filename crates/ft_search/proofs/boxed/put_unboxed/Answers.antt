use Rattle.std.proofs.Common.{◌≡◌, ◌≢◌, ℕ, ◌+◌, sym, ap, ◌∙◌, subst, arith}
use Rattle.std.specs.Prelude.{slice_index}
use Rattle.ft_trace.specs.Holds.{held_words, held_unboxed}
use Rattle.ft_trace.specs.Pictures.{ContainerWords}
use Rattle.ft_bank.specs.BoxSteps.{IsOpenValue}
use Rattle.ft_bank.specs.Passes.{shape_of, view}
use Rattle.ft_bank.specs.TableNames.{table_id}
use Rattle.ft_bank.specs.Whole.{OnlyLoaded}
use Rattle.ft_bank.proofs.KnownAfterWrites.{loaded_held, loaded_put, loaded_then, put_written, written_then}
use Rattle.ft_search.specs.Boxed.{IsKnownBox, WritesTable}
use Rattle.ft_search.proofs.Overs.{value_inside, word_inside, value_known, table_loaded, open_as, plain_refs, plain_words, still_unboxed}
use Rattle.ft_search.proofs.Unboxing.{put_again}
use Rattle.ft_search.proofs.ValueLoads.{kind_load, kind_found, both_load, kind_stays, payload_found, writes_still, open_still, value_reads}
use Rattle.ft_boxes.proofs.Steps.{keeps_then}
use Rattle.ft_search.proofs.Keeping.{loads_keep}
use Rattle.ft_search.proofs.boxed.put_unboxed.Goals as goal
use Rattle.ft_search.proofs.boxed.put_unboxed.Goals.{After-read_word-old, After-read_word-named, After-read_value-read}

-- ---- the loads

load_old : (c : After-read_word-old) → OnlyLoaded (view c.args.pass.now) (view c.read_word-old.new.pass)
load_old c = kind_load (shape_of c.args.bank.now) c.args.o c.args.table c.args.word (view c.args.pass.now) (view c.read_word-old.new.pass) c.requires.pass.1 c.requires.writes c.read_word-old.result c.read_word-old.ensures.did.1 c.read_word-old.ensures.held

-- the kind found is that which stands
old_is : (c : After-read_word-old) → c.read_word-old.result ≡ slice_index (held_words c.args.o (view c.read_word-old.new.pass)).table c.args.word
old_is c = kind_found (shape_of c.args.bank.now) c.args.o c.args.table c.args.word (view c.args.pass.now) (view c.read_word-old.new.pass) c.requires.pass.1 c.requires.writes c.read_word-old.result c.read_word-old.ensures.did.1 c.read_word-old.ensures.held

load_named : (c : After-read_word-named) → OnlyLoaded (view c.args.pass.now) (view c.read_word-named.new.pass)
load_named c = both_load (shape_of c.args.bank.now) c.args.o c.args.table c.args.word (view c.args.pass.now) (view c.read_word-old.new.pass) c.requires.pass.1 c.requires.writes c.read_word-old.result c.read_word-old.ensures.did.1 c.read_word-old.ensures.held (view c.read_word-named.new.pass) c.read_word-named.result c.read_word-named.ensures.did.1 c.read_word-named.ensures.held

-- after both: what stands
old_stands : (c : After-read_word-named) → c.read_word-old.result ≡ slice_index (held_words c.args.o (view c.read_word-named.new.pass)).table c.args.word
old_stands c = kind_stays (shape_of c.args.bank.now) c.args.o c.args.table c.args.word (view c.args.pass.now) (view c.read_word-old.new.pass) c.requires.pass.1 c.requires.writes c.read_word-old.result c.read_word-old.ensures.did.1 c.read_word-old.ensures.held (view c.read_word-named.new.pass) c.read_word-named.result c.read_word-named.ensures.did.1 c.read_word-named.ensures.held

writes_named : (c : After-read_word-named) → WritesTable (shape_of c.args.bank.now) c.args.o c.args.table (view c.read_word-named.new.pass)
writes_named c = writes_still (shape_of c.args.bank.now) c.args.o c.args.table c.args.word (view c.args.pass.now) (view c.read_word-old.new.pass) c.requires.pass.1 c.requires.writes c.read_word-old.result c.read_word-old.ensures.did.1 c.read_word-old.ensures.held (view c.read_word-named.new.pass) c.read_word-named.result c.read_word-named.ensures.did.1 c.read_word-named.ensures.held

open_named : (c : After-read_word-named) → IsOpenValue (view c.read_word-named.new.pass) c.args.o (table_id c.args.table) c.args.word
open_named c = open_still (shape_of c.args.bank.now) c.args.o c.args.table c.args.word (view c.args.pass.now) (view c.read_word-old.new.pass) c.requires.pass.1 c.requires.writes c.read_word-old.result c.read_word-old.ensures.did.1 c.read_word-old.ensures.held (view c.read_word-named.new.pass) c.read_word-named.result c.read_word-named.ensures.did.1 c.read_word-named.ensures.held c.requires.open

named_stands : (c : After-read_word-named) → c.read_word-named.result ≡ slice_index (held_words c.args.o (view c.read_word-named.new.pass)).table (c.args.word + 1)
named_stands c = payload_found (shape_of c.args.bank.now) c.args.o c.args.table c.args.word (view c.args.pass.now) (view c.read_word-old.new.pass) c.requires.pass.1 c.requires.writes c.read_word-old.result c.read_word-old.ensures.did.1 c.read_word-old.ensures.held (view c.read_word-named.new.pass) c.read_word-named.result c.read_word-named.ensures.did.1 c.read_word-named.ensures.held

-- what the value reads
load_all : (c : After-read_value-read) → OnlyLoaded (view c.args.pass.now) (view c.read_value-read.new.pass)
load_all c = loaded_then (view c.args.pass.now) (view c.read_word-named.new.pass) (view c.read_value-read.new.pass) (both_load (shape_of c.args.bank.now) c.args.o c.args.table c.args.word (view c.args.pass.now) (view c.read_word-old.new.pass) c.requires.pass.1 c.requires.writes c.read_word-old.result c.read_word-old.ensures.did.1 c.read_word-old.ensures.held (view c.read_word-named.new.pass) c.read_word-named.result c.read_word-named.ensures.did.1 c.read_word-named.ensures.held) c.read_value-read.ensures.only

reads_are : (c : After-read_value-read) → (c.read_value-read.result.0 ≡ slice_index (held_unboxed c.args.o (view c.args.pass.now)).table c.args.word) × (c.read_value-read.result.1 ≡ slice_index (held_unboxed c.args.o (view c.args.pass.now)).table (c.args.word + 1))
reads_are c =
    let reads = value_reads (shape_of c.args.bank.now) c.args.o c.args.table c.args.word (view c.args.pass.now) (view c.read_word-old.new.pass) c.requires.pass.1 c.requires.writes c.read_word-old.result c.read_word-old.ensures.did.1 c.read_word-old.ensures.held (view c.read_word-named.new.pass) c.read_word-named.result c.read_word-named.ensures.did.1 c.read_word-named.ensures.held c.requires.open in
    (c.read_value-read.ensures.kind ∙ reads.0, c.read_value-read.ensures.payload ∙ reads.1)

pub read_word-old-requires-clause-table : goal.read_word-old-requires-clause-table
read_word-old-requires-clause-table c = c.requires.writes.table_in

pub read_word-old-requires-clause-word : goal.read_word-old-requires-clause-word
read_word-old-requires-clause-word c = word_inside (shape_of c.args.bank.now) c.args.o c.args.table c.args.word (view c.args.pass.now) c.requires.pass.1 c.requires.writes c.requires.open

pub overflow_add-word : goal.overflow_add-word
overflow_add-word c =
    let n = value_inside (shape_of c.args.bank.now) c.args.o c.args.table c.args.word (view c.args.pass.now) c.requires.pass.1 c.requires.writes c.requires.open in
    let s = c.requires.start.1 in
    let l = c.args.bank.now.low in
    omega (arith, n, s, l)

pub read_word-named-requires-clause-table : goal.read_word-named-requires-clause-table
read_word-named-requires-clause-table c = c.requires.writes.table_in

pub read_word-named-requires-clause-word : goal.read_word-named-requires-clause-word
read_word-named-requires-clause-word c = value_inside (shape_of c.args.bank.now) c.args.o c.args.table c.args.word (view c.args.pass.now) c.requires.pass.1 c.requires.writes c.requires.open

pub read_value-read-requires-clause-known : goal.read_value-read-requires-clause-known
read_value-read-requires-clause-known c four =
    let k = shape_of c.args.bank.now in
    let v = view c.read_word-named.new.pass in
    let d = (goal.at.read_value-read-requires-clause-known c).After-read_word-named in
    subst (λ (b : ℕ). IsKnownBox v b) (sym (named_stands d))
    (value_known k c.args.o c.args.table c.args.word v ((load_named d).work.pass.shape ∙ c.requires.pass.1) (writes_named d) (open_named d) c.read_word-named.new.pass.possible (sym (old_stands d) ∙ four))

pub put_over-requires-clause-writes : goal.put_over-requires-clause-writes
put_over-requires-clause-writes c =
    table_loaded (shape_of c.args.bank.now) c.args.o c.args.table (view c.args.pass.now) (view c.read_value-read.new.pass) c.requires.pass.1 c.requires.writes (load_all (goal.at.put_over-requires-clause-writes c).After-read_value-read)

pub put_over-requires-clause-open : goal.put_over-requires-clause-open
put_over-requires-clause-open c =
    let l = load_all (goal.at.put_over-requires-clause-open c).After-read_value-read in
    open_as (view c.args.pass.now) (view c.read_value-read.new.pass) c.args.o (table_id c.args.table) c.args.word l.work.pass.shape (still_unboxed (shape_of c.args.bank.now) c.args.o c.args.table (view c.args.pass.now) (view c.read_value-read.new.pass) c.requires.pass.1 c.requires.writes l) c.requires.open

plain_read : (c : After-read_value-read) → c.read_value-read.result.0 ≢ 4
plain_read c four = c.requires.plain (sym (reads_are c).0 ∙ four)

pub put_over-requires-clause-own : goal.put_over-requires-clause-own
put_over-requires-clause-own c four = absurd (plain_read (goal.at.put_over-requires-clause-own c).After-read_value-read four)

-- ---- in place already

pub returns-then-old-ne-BOX_KIND-clause-writes : goal.returns-then-old-ne-BOX_KIND-clause-writes
returns-then-old-ne-BOX_KIND-clause-writes c =
    table_loaded (shape_of c.args.bank.now) c.args.o c.args.table (view c.args.pass.now) (view c.read_word-old.new.pass) c.requires.pass.1 c.requires.writes (load_old (goal.at.returns-then-old-ne-BOX_KIND-clause-writes c).After-read_word-old)

pub returns-then-old-ne-BOX_KIND-clause-only : goal.returns-then-old-ne-BOX_KIND-clause-only
returns-then-old-ne-BOX_KIND-clause-only c =
    let v = view c.args.pass.now in
    let w = view c.read_word-old.new.pass in
    put_written c.args.o v w (loaded_put v w c.args.o (load_old (goal.at.returns-then-old-ne-BOX_KIND-clause-only c).After-read_word-old))

pub returns-then-old-ne-BOX_KIND-clause-raw : goal.returns-then-old-ne-BOX_KIND-clause-raw
returns-then-old-ne-BOX_KIND-clause-raw c e = c.if-old-ne-BOX_KIND.true (old_is (goal.at.returns-then-old-ne-BOX_KIND-clause-raw c).After-read_word-old ∙ e)

pub returns-then-old-ne-BOX_KIND-clause-stands : goal.returns-then-old-ne-BOX_KIND-clause-stands
returns-then-old-ne-BOX_KIND-clause-stands c at first second =
    ap (λ (x : ContainerWords). slice_index x.table at) (loaded_held (view c.args.pass.now) (view c.read_word-old.new.pass) c.args.o (load_old (goal.at.returns-then-old-ne-BOX_KIND-clause-stands c).After-read_word-old))

pub returns-then-old-ne-BOX_KIND-clause-words : goal.returns-then-old-ne-BOX_KIND-clause-words
returns-then-old-ne-BOX_KIND-clause-words c =
    still_unboxed (shape_of c.args.bank.now) c.args.o c.args.table (view c.args.pass.now) (view c.read_word-old.new.pass) c.requires.pass.1 c.requires.writes (load_old (goal.at.returns-then-old-ne-BOX_KIND-clause-words c).After-read_word-old)

pub returns-then-old-ne-BOX_KIND-clause-references : goal.returns-then-old-ne-BOX_KIND-clause-references
returns-then-old-ne-BOX_KIND-clause-references c = (load_old (goal.at.returns-then-old-ne-BOX_KIND-clause-references c).After-read_word-old).boxes.references

-- ---- put in place

pub returns-clause-stands : goal.returns-clause-stands
returns-clause-stands c at first second =
    c.put_over.ensures.stands at first second
    ∙ ap (λ (x : ContainerWords). slice_index x.table at) (loaded_held (view c.args.pass.now) (view c.read_value-read.new.pass) c.args.o (load_all (goal.at.returns-clause-stands c).After-read_value-read))

pub returns-clause-raw : goal.returns-clause-raw
returns-clause-raw c e = plain_read (goal.at.returns-clause-raw c).After-read_value-read (sym c.put_over.ensures.raw.0 ∙ e)

pub returns-clause-references : goal.returns-clause-references
returns-clause-references c b =
    let v = view c.read_value-read.new.pass in
    let d = (goal.at.returns-clause-references c).After-read_value-read in
    let l = load_all d in
    plain_refs (shape_of c.args.bank.now) v (view c.put_over.new.pass) c.read_value-read.result.0 c.read_value-read.result.1 c.read_value-read.ensures.pass.1 c.put_over.ensures.pass.1 (plain_read d) c.put_over.ensures.references b
    ∙ l.boxes.references b

pub returns-clause-only : goal.returns-clause-only
returns-clause-only c =
    let o = c.args.o in
    let u = view c.args.pass.now in
    let v = view c.read_value-read.new.pass in
    written_then o u v (view c.put_over.new.pass) (put_written o u v (loaded_put u v o (load_all (goal.at.returns-clause-only c).After-read_value-read))) c.put_over.ensures.only

pub returns-clause-words : goal.returns-clause-words
returns-clause-words c =
    let o = c.args.o in
    let i = c.args.word in
    let u = view c.args.pass.now in
    let v = view c.read_value-read.new.pass in
    let d = (goal.at.returns-clause-words c).After-read_value-read in
    let r = reads_are d in
    let same = still_unboxed (shape_of c.args.bank.now) o c.args.table u v c.requires.pass.1 c.requires.writes (load_all d) in
    plain_words v (held_unboxed o v) (held_unboxed o (view c.put_over.new.pass)) i c.read_value-read.result.0 c.read_value-read.result.1 (plain_read d) c.put_over.ensures.words
    ∙ (put_again (held_unboxed o v) i c.read_value-read.result.0 c.read_value-read.result.1
    (r.0 ∙ sym (ap (λ (x : ContainerWords). slice_index x.table i) same))
    (r.1 ∙ sym (ap (λ (x : ContainerWords). slice_index x.table (i + 1)) same))
    ∙ same)

-- ---- what the pass knows of values in boxes

pub returns-then-old-ne-BOX_KIND-clause-values : goal.returns-then-old-ne-BOX_KIND-clause-values
returns-then-old-ne-BOX_KIND-clause-values c =
    loads_keep (view c.args.pass.now) (view c.read_word-old.new.pass) c.args.pass.now.possible (load_old (goal.at.returns-then-old-ne-BOX_KIND-clause-values c).After-read_word-old)

pub returns-clause-values : goal.returns-clause-values
returns-clause-values c =
    let v = view c.args.pass.now in
    let r = view c.read_value-read.new.pass in
    let l = load_all (goal.at.returns-clause-values c).After-read_value-read in
    keeps_then v r (view c.put_over.new.pass) (sym l.work.pass.shape) l.boxes.references (loads_keep v r c.args.pass.now.possible l) c.put_over.ensures.values
