use Rattle.std.proofs.Common.{◌≡◌, ℕ, ◌+◌, ◌<◌, [], ◌∷◌, refl, sym, ap, ◌∙◌, subst, arith}
use Rattle.std.specs.Prelude.{slice_index}
use Rattle.ft_trace.specs.declared.Act.TheVariants.{PutTable}
use Rattle.ft_trace.specs.declared.Shape.{Shape}
use Rattle.ft_trace.specs.declared.View.{View}
use Rattle.ft_trace.specs.Addresses.{container_count}
use Rattle.ft_trace.specs.Boxes.{references_held}
use Rattle.ft_trace.specs.Holds.{held_words}
use Rattle.ft_bank.specs.declared.table.Table.{Table}
use Rattle.ft_bank.specs.BoxSteps.{HasReferenceFor, value_acts}
use Rattle.ft_bank.specs.Passes.{shape_of, view}
use Rattle.ft_bank.specs.TableNames.{table_id}
use Rattle.ft_bank.specs.Series.{noted_all}
use Rattle.ft_bank.specs.Whole.{OnlyLoaded}
use Rattle.ft_search.proofs.Overs.{value_inside, word_inside, table_loaded, open_as, still_unboxed, same_writes, same_raw, same_stands, same_refs, same_words, both_writes, both_raw, both_stands, both_refs, both_words, over_only, box_settled, box_held, box_is, drop_only, drop_refs, drop_writes, drop_raw, drop_stands, drop_words}
use Rattle.ft_search.proofs.ValueLoads.{kind_load, kind_found, both_load, kind_stays, payload_found}
use Rattle.ft_search.proofs.Owning.{own_loaded, reads_loaded}
use Rattle.ft_boxes.specs.References.{KeepsValues}
use Rattle.ft_boxes.proofs.Steps.{keeps_then}
use Rattle.ft_search.specs.Boxed.{WritesTable}
use Rattle.ft_search.proofs.Keeping.{keeps_fewer, loads_keep, puts_keep, value_puts_are}
use Rattle.ft_search.proofs.boxed.put_over.Goals as goal
use Rattle.ft_search.proofs.boxed.put_over.Goals.{After-read_word-old, After-read_word-named}

-- ---- the loads

load_old : (c : After-read_word-old) → OnlyLoaded (view c.args.pass.now) (view c.read_word-old.new.pass)
load_old c = kind_load (shape_of c.args.bank.now) c.args.o c.args.table c.args.word (view c.args.pass.now) (view c.read_word-old.new.pass) c.requires.pass.1 c.requires.writes c.read_word-old.result c.read_word-old.ensures.did.1 c.read_word-old.ensures.held

-- the kind found is that which stands
old_is : (c : After-read_word-old) → c.read_word-old.result ≡ slice_index (held_words c.args.o (view c.read_word-old.new.pass)).table c.args.word
old_is c = kind_found (shape_of c.args.bank.now) c.args.o c.args.table c.args.word (view c.args.pass.now) (view c.read_word-old.new.pass) c.requires.pass.1 c.requires.writes c.read_word-old.result c.read_word-old.ensures.did.1 c.read_word-old.ensures.held

load_named : (c : After-read_word-named) → OnlyLoaded (view c.args.pass.now) (view c.read_word-named.new.pass)
load_named c = both_load (shape_of c.args.bank.now) c.args.o c.args.table c.args.word (view c.args.pass.now) (view c.read_word-old.new.pass) c.requires.pass.1 c.requires.writes c.read_word-old.result c.read_word-old.ensures.did.1 c.read_word-old.ensures.held (view c.read_word-named.new.pass) c.read_word-named.result c.read_word-named.ensures.did.1 c.read_word-named.ensures.held

-- after both: what stands
old_stands : (c : After-read_word-named) → c.read_word-old.result ≡ slice_index (held_words c.args.o (view c.read_word-named.new.pass)).table c.args.word
old_stands c = kind_stays (shape_of c.args.bank.now) c.args.o c.args.table c.args.word (view c.args.pass.now) (view c.read_word-old.new.pass) c.requires.pass.1 c.requires.writes c.read_word-old.result c.read_word-old.ensures.did.1 c.read_word-old.ensures.held (view c.read_word-named.new.pass) c.read_word-named.result c.read_word-named.ensures.did.1 c.read_word-named.ensures.held

named_is : (c : After-read_word-named) → c.read_word-named.result ≡ slice_index (held_words c.args.o (view c.read_word-named.new.pass)).table (c.args.word + 1)
named_is c = payload_found (shape_of c.args.bank.now) c.args.o c.args.table c.args.word (view c.args.pass.now) (view c.read_word-old.new.pass) c.requires.pass.1 c.requires.writes c.read_word-old.result c.read_word-old.ensures.did.1 c.read_word-old.ensures.held (view c.read_word-named.new.pass) c.read_word-named.result c.read_word-named.ensures.did.1 c.read_word-named.ensures.held

pub read_word-old-requires-clause-table : goal.read_word-old-requires-clause-table
read_word-old-requires-clause-table c = c.requires.writes.table_in

pub read_word-old-requires-clause-word : goal.read_word-old-requires-clause-word
read_word-old-requires-clause-word c = word_inside (shape_of c.args.bank.now) c.args.o c.args.table c.args.word (view c.args.pass.now) c.requires.pass.1 c.requires.writes c.requires.open

pub overflow_add-word : goal.overflow_add-word
overflow_add-word c =
    let n = value_inside (shape_of c.args.bank.now) c.args.o c.args.table c.args.word (view c.args.pass.now) c.requires.pass.1 c.requires.writes c.requires.open in
    let s = c.requires.start.1 in
    let l = c.args.bank.now.low in
    omega (arith, n, s, l)

pub read_word-named-requires-clause-table : goal.read_word-named-requires-clause-table
read_word-named-requires-clause-table c = c.requires.writes.table_in

pub read_word-named-requires-clause-word : goal.read_word-named-requires-clause-word
read_word-named-requires-clause-word c = value_inside (shape_of c.args.bank.now) c.args.o c.args.table c.args.word (view c.args.pass.now) c.requires.pass.1 c.requires.writes c.requires.open

-- what the value is to be, once the words are loaded
own_old : (c : After-read_word-old) → HasReferenceFor (view c.read_word-old.new.pass) c.args.kind c.args.payload
own_old c = own_loaded (view c.args.pass.now) (view c.read_word-old.new.pass) c.args.kind c.args.payload c.args.pass.now.possible c.requires.own (load_old c)

-- ---- the payload alone

pub put_payload-requires-clause-container : goal.put_payload-requires-clause-container
put_payload-requires-clause-container c =
    let d = (goal.at.put_payload-requires-clause-container c).After-read_word-old in
    (table_loaded (shape_of c.args.bank.now) c.args.o c.args.table (view c.args.pass.now) (view c.read_word-old.new.pass) c.requires.pass.1 c.requires.writes (load_old d)).container

pub put_payload-requires-clause-table : goal.put_payload-requires-clause-table
put_payload-requires-clause-table c =
    let d = (goal.at.put_payload-requires-clause-table c).After-read_word-old in
    (table_loaded (shape_of c.args.bank.now) c.args.o c.args.table (view c.args.pass.now) (view c.read_word-old.new.pass) c.requires.pass.1 c.requires.writes (load_old d)).table_in

pub put_payload-requires-clause-odd : goal.put_payload-requires-clause-odd
put_payload-requires-clause-odd c =
    let d = (goal.at.put_payload-requires-clause-odd c).After-read_word-old in
    (table_loaded (shape_of c.args.bank.now) c.args.o c.args.table (view c.args.pass.now) (view c.read_word-old.new.pass) c.requires.pass.1 c.requires.writes (load_old d)).odd

pub put_payload-requires-clause-root : goal.put_payload-requires-clause-root
put_payload-requires-clause-root c =
    let d = (goal.at.put_payload-requires-clause-root c).After-read_word-old in
    (table_loaded (shape_of c.args.bank.now) c.args.o c.args.table (view c.args.pass.now) (view c.read_word-old.new.pass) c.requires.pass.1 c.requires.writes (load_old d)).root

pub put_payload-requires-clause-few : goal.put_payload-requires-clause-few
put_payload-requires-clause-few c =
    let d = (goal.at.put_payload-requires-clause-few c).After-read_word-old in
    (table_loaded (shape_of c.args.bank.now) c.args.o c.args.table (view c.args.pass.now) (view c.read_word-old.new.pass) c.requires.pass.1 c.requires.writes (load_old d)).few

pub put_payload-requires-clause-value : goal.put_payload-requires-clause-value
put_payload-requires-clause-value c =
    let d = (goal.at.put_payload-requires-clause-value c).After-read_word-old in
    let l = load_old d in
    open_as (view c.args.pass.now) (view c.read_word-old.new.pass) c.args.o (table_id c.args.table) c.args.word l.work.pass.shape (still_unboxed (shape_of c.args.bank.now) c.args.o c.args.table (view c.args.pass.now) (view c.read_word-old.new.pass) c.requires.pass.1 c.requires.writes l) c.requires.open

pub put_payload-requires-clause-plain : goal.put_payload-requires-clause-plain
put_payload-requires-clause-plain c e = c.if-kind-ne-BOX_KIND.true (sym c.if-old-kind.true ∙ (old_is (goal.at.put_payload-requires-clause-plain c).After-read_word-old ∙ e))

pub returns-then-kind-ne-BOX_KIND-clause-writes : goal.returns-then-kind-ne-BOX_KIND-clause-writes
returns-then-kind-ne-BOX_KIND-clause-writes c =
    let d = (goal.at.returns-then-kind-ne-BOX_KIND-clause-writes c).After-read_word-old in
    same_writes (shape_of c.args.bank.now) c.args.o c.args.table c.args.word c.args.kind c.args.payload (view c.args.pass.now) (view c.read_word-old.new.pass) (view c.put_payload.new.pass) c.requires.pass.1 c.requires.writes c.requires.open (load_old d) c.requires.own (reads_loaded (view c.args.pass.now) (view c.read_word-old.new.pass) c.args.kind c.args.payload c.args.pass.now.possible c.requires.own (load_old d)) c.put_payload.ensures.only c.if-kind-ne-BOX_KIND.true (sym c.if-old-kind.true ∙ old_is d) c.put_payload.ensures.held c.put_payload.ensures.same

pub returns-then-kind-ne-BOX_KIND-clause-only : goal.returns-then-kind-ne-BOX_KIND-clause-only
returns-then-kind-ne-BOX_KIND-clause-only c =
    let d = (goal.at.returns-then-kind-ne-BOX_KIND-clause-only c).After-read_word-old in
    over_only (shape_of c.args.bank.now) c.args.o c.args.table c.args.word c.args.kind c.args.payload (view c.args.pass.now) (view c.read_word-old.new.pass) (view c.put_payload.new.pass) c.requires.pass.1 c.requires.writes c.requires.open (load_old d) c.requires.own (reads_loaded (view c.args.pass.now) (view c.read_word-old.new.pass) c.args.kind c.args.payload c.args.pass.now.possible c.requires.own (load_old d)) c.put_payload.ensures.only

pub returns-then-kind-ne-BOX_KIND-clause-raw : goal.returns-then-kind-ne-BOX_KIND-clause-raw
returns-then-kind-ne-BOX_KIND-clause-raw c =
    let d = (goal.at.returns-then-kind-ne-BOX_KIND-clause-raw c).After-read_word-old in
    same_raw (shape_of c.args.bank.now) c.args.o c.args.table c.args.word c.args.kind c.args.payload (view c.args.pass.now) (view c.read_word-old.new.pass) (view c.put_payload.new.pass) c.requires.pass.1 c.requires.writes c.requires.open (load_old d) c.requires.own (reads_loaded (view c.args.pass.now) (view c.read_word-old.new.pass) c.args.kind c.args.payload c.args.pass.now.possible c.requires.own (load_old d)) c.put_payload.ensures.only c.if-kind-ne-BOX_KIND.true (sym c.if-old-kind.true ∙ old_is d) c.put_payload.ensures.held

pub returns-then-kind-ne-BOX_KIND-clause-stands : goal.returns-then-kind-ne-BOX_KIND-clause-stands
returns-then-kind-ne-BOX_KIND-clause-stands c =
    let d = (goal.at.returns-then-kind-ne-BOX_KIND-clause-stands c).After-read_word-old in
    same_stands (shape_of c.args.bank.now) c.args.o c.args.table c.args.word c.args.kind c.args.payload (view c.args.pass.now) (view c.read_word-old.new.pass) (view c.put_payload.new.pass) c.requires.pass.1 c.requires.writes c.requires.open (load_old d) c.requires.own (reads_loaded (view c.args.pass.now) (view c.read_word-old.new.pass) c.args.kind c.args.payload c.args.pass.now.possible c.requires.own (load_old d)) c.put_payload.ensures.only c.if-kind-ne-BOX_KIND.true (sym c.if-old-kind.true ∙ old_is d) c.put_payload.ensures.held

pub returns-then-kind-ne-BOX_KIND-clause-words : goal.returns-then-kind-ne-BOX_KIND-clause-words
returns-then-kind-ne-BOX_KIND-clause-words c =
    let d = (goal.at.returns-then-kind-ne-BOX_KIND-clause-words c).After-read_word-old in
    same_words (shape_of c.args.bank.now) c.args.o c.args.table c.args.word c.args.kind c.args.payload (view c.args.pass.now) (view c.read_word-old.new.pass) (view c.put_payload.new.pass) c.requires.pass.1 c.requires.writes c.requires.open (load_old d) c.requires.own (reads_loaded (view c.args.pass.now) (view c.read_word-old.new.pass) c.args.kind c.args.payload c.args.pass.now.possible c.requires.own (load_old d)) c.put_payload.ensures.only c.if-kind-ne-BOX_KIND.true (sym c.if-old-kind.true ∙ old_is d) c.put_payload.ensures.held c.put_payload.ensures.unboxed

pub returns-then-kind-ne-BOX_KIND-clause-references : goal.returns-then-kind-ne-BOX_KIND-clause-references
returns-then-kind-ne-BOX_KIND-clause-references c =
    let d = (goal.at.returns-then-kind-ne-BOX_KIND-clause-references c).After-read_word-old in
    same_refs (shape_of c.args.bank.now) c.args.o c.args.table c.args.word c.args.kind c.args.payload (view c.args.pass.now) (view c.read_word-old.new.pass) (view c.put_payload.new.pass) c.requires.pass.1 c.requires.writes c.requires.open (load_old d) c.requires.own (reads_loaded (view c.args.pass.now) (view c.read_word-old.new.pass) c.args.kind c.args.payload c.args.pass.now.possible c.requires.own (load_old d)) c.put_payload.ensures.only c.if-kind-ne-BOX_KIND.true (sym c.if-old-kind.true ∙ old_is d) c.put_payload.ensures.held c.put_payload.ensures.same

-- ---- both words

pub put_value-requires-clause-container : goal.put_value-requires-clause-container
put_value-requires-clause-container c =
    let d = (goal.at.put_value-requires-clause-container c).After-read_word-named in
    (table_loaded (shape_of c.args.bank.now) c.args.o c.args.table (view c.args.pass.now) (view c.read_word-named.new.pass) c.requires.pass.1 c.requires.writes (load_named d)).container

pub put_value-requires-clause-table : goal.put_value-requires-clause-table
put_value-requires-clause-table c =
    let d = (goal.at.put_value-requires-clause-table c).After-read_word-named in
    (table_loaded (shape_of c.args.bank.now) c.args.o c.args.table (view c.args.pass.now) (view c.read_word-named.new.pass) c.requires.pass.1 c.requires.writes (load_named d)).table_in

pub put_value-requires-clause-odd : goal.put_value-requires-clause-odd
put_value-requires-clause-odd c =
    let d = (goal.at.put_value-requires-clause-odd c).After-read_word-named in
    (table_loaded (shape_of c.args.bank.now) c.args.o c.args.table (view c.args.pass.now) (view c.read_word-named.new.pass) c.requires.pass.1 c.requires.writes (load_named d)).odd

pub put_value-requires-clause-root : goal.put_value-requires-clause-root
put_value-requires-clause-root c =
    let d = (goal.at.put_value-requires-clause-root c).After-read_word-named in
    (table_loaded (shape_of c.args.bank.now) c.args.o c.args.table (view c.args.pass.now) (view c.read_word-named.new.pass) c.requires.pass.1 c.requires.writes (load_named d)).root

pub put_value-requires-clause-few : goal.put_value-requires-clause-few
put_value-requires-clause-few c =
    let d = (goal.at.put_value-requires-clause-few c).After-read_word-named in
    (table_loaded (shape_of c.args.bank.now) c.args.o c.args.table (view c.args.pass.now) (view c.read_word-named.new.pass) c.requires.pass.1 c.requires.writes (load_named d)).few

pub put_value-requires-clause-value : goal.put_value-requires-clause-value
put_value-requires-clause-value c =
    let d = (goal.at.put_value-requires-clause-value c).After-read_word-named in
    let l = load_named d in
    open_as (view c.args.pass.now) (view c.read_word-named.new.pass) c.args.o (table_id c.args.table) c.args.word l.work.pass.shape (still_unboxed (shape_of c.args.bank.now) c.args.o c.args.table (view c.args.pass.now) (view c.read_word-named.new.pass) c.requires.pass.1 c.requires.writes l) c.requires.open

pub put_value-requires-clause-reference : goal.put_value-requires-clause-reference
put_value-requires-clause-reference c =
    let d = (goal.at.put_value-requires-clause-reference c).After-read_word-named in
    own_loaded (view c.args.pass.now) (view c.read_word-named.new.pass) c.args.kind c.args.payload c.args.pass.now.possible c.requires.own (load_named d)

-- ---- over a value in place

pub returns-then-old-ne-BOX_KIND-clause-writes : goal.returns-then-old-ne-BOX_KIND-clause-writes
returns-then-old-ne-BOX_KIND-clause-writes c =
    let d = (goal.at.returns-then-old-ne-BOX_KIND-clause-writes c).After-read_word-named in
    both_writes (shape_of c.args.bank.now) c.args.o c.args.table c.args.word c.args.kind c.args.payload (view c.args.pass.now) (view c.read_word-named.new.pass) (view c.put_value.new.pass) c.requires.pass.1 c.requires.writes c.requires.open (load_named d) c.requires.own (reads_loaded (view c.args.pass.now) (view c.read_word-named.new.pass) c.args.kind c.args.payload c.args.pass.now.possible c.requires.own (load_named d)) c.put_value.ensures.only c.put_value.ensures.held c.put_value.ensures.unboxed c.put_value.ensures.references (λ e. c.if-old-ne-BOX_KIND.true (old_stands d ∙ e))

pub returns-then-old-ne-BOX_KIND-clause-only : goal.returns-then-old-ne-BOX_KIND-clause-only
returns-then-old-ne-BOX_KIND-clause-only c =
    let d = (goal.at.returns-then-old-ne-BOX_KIND-clause-only c).After-read_word-named in
    over_only (shape_of c.args.bank.now) c.args.o c.args.table c.args.word c.args.kind c.args.payload (view c.args.pass.now) (view c.read_word-named.new.pass) (view c.put_value.new.pass) c.requires.pass.1 c.requires.writes c.requires.open (load_named d) c.requires.own (reads_loaded (view c.args.pass.now) (view c.read_word-named.new.pass) c.args.kind c.args.payload c.args.pass.now.possible c.requires.own (load_named d)) c.put_value.ensures.only

pub returns-then-old-ne-BOX_KIND-clause-raw : goal.returns-then-old-ne-BOX_KIND-clause-raw
returns-then-old-ne-BOX_KIND-clause-raw c =
    let d = (goal.at.returns-then-old-ne-BOX_KIND-clause-raw c).After-read_word-named in
    both_raw (shape_of c.args.bank.now) c.args.o c.args.table c.args.word c.args.kind c.args.payload (view c.args.pass.now) (view c.read_word-named.new.pass) (view c.put_value.new.pass) c.requires.pass.1 c.requires.writes c.requires.open (load_named d) c.requires.own (reads_loaded (view c.args.pass.now) (view c.read_word-named.new.pass) c.args.kind c.args.payload c.args.pass.now.possible c.requires.own (load_named d)) c.put_value.ensures.only c.put_value.ensures.held c.put_value.ensures.unboxed c.put_value.ensures.references

pub returns-then-old-ne-BOX_KIND-clause-stands : goal.returns-then-old-ne-BOX_KIND-clause-stands
returns-then-old-ne-BOX_KIND-clause-stands c =
    let d = (goal.at.returns-then-old-ne-BOX_KIND-clause-stands c).After-read_word-named in
    both_stands (shape_of c.args.bank.now) c.args.o c.args.table c.args.word c.args.kind c.args.payload (view c.args.pass.now) (view c.read_word-named.new.pass) (view c.put_value.new.pass) c.requires.pass.1 c.requires.writes c.requires.open (load_named d) c.requires.own (reads_loaded (view c.args.pass.now) (view c.read_word-named.new.pass) c.args.kind c.args.payload c.args.pass.now.possible c.requires.own (load_named d)) c.put_value.ensures.only c.put_value.ensures.held c.put_value.ensures.unboxed c.put_value.ensures.references

pub returns-then-old-ne-BOX_KIND-clause-words : goal.returns-then-old-ne-BOX_KIND-clause-words
returns-then-old-ne-BOX_KIND-clause-words c =
    let d = (goal.at.returns-then-old-ne-BOX_KIND-clause-words c).After-read_word-named in
    both_words (shape_of c.args.bank.now) c.args.o c.args.table c.args.word c.args.kind c.args.payload (view c.args.pass.now) (view c.read_word-named.new.pass) (view c.put_value.new.pass) c.requires.pass.1 c.requires.writes c.requires.open (load_named d) c.requires.own (reads_loaded (view c.args.pass.now) (view c.read_word-named.new.pass) c.args.kind c.args.payload c.args.pass.now.possible c.requires.own (load_named d)) c.put_value.ensures.only c.put_value.ensures.held c.put_value.ensures.unboxed c.put_value.ensures.references

pub returns-then-old-ne-BOX_KIND-clause-references : goal.returns-then-old-ne-BOX_KIND-clause-references
returns-then-old-ne-BOX_KIND-clause-references c =
    let d = (goal.at.returns-then-old-ne-BOX_KIND-clause-references c).After-read_word-named in
    both_refs (shape_of c.args.bank.now) c.args.o c.args.table c.args.word c.args.kind c.args.payload (view c.args.pass.now) (view c.read_word-named.new.pass) (view c.put_value.new.pass) c.requires.pass.1 c.requires.writes c.requires.open (load_named d) c.requires.own (reads_loaded (view c.args.pass.now) (view c.read_word-named.new.pass) c.args.kind c.args.payload c.args.pass.now.possible c.requires.own (load_named d)) c.put_value.ensures.only c.put_value.ensures.held c.put_value.ensures.unboxed c.put_value.ensures.references (λ e. c.if-old-ne-BOX_KIND.true (old_stands d ∙ e))

-- ---- over one in a box

pub release-requires-clause-name : goal.release-requires-clause-name
release-requires-clause-name c =
    let d = (goal.at.release-requires-clause-name c).After-read_word-named in
    box_is (shape_of c.args.bank.now) c.args.o c.args.table c.args.word c.args.kind c.args.payload (view c.args.pass.now) (view c.read_word-named.new.pass) (view c.put_value.new.pass) c.requires.pass.1 c.requires.writes c.requires.open (load_named d) c.requires.own (reads_loaded (view c.args.pass.now) (view c.read_word-named.new.pass) c.args.kind c.args.payload c.args.pass.now.possible c.requires.own (load_named d)) c.put_value.ensures.only c.put_value.ensures.held c.put_value.ensures.unboxed c.put_value.ensures.references c.read_word-named.result (sym (old_stands d) ∙ c.if-old-ne-BOX_KIND.false) (named_is d) c.read_word-named.new.pass.possible

pub release-requires-clause-held : goal.release-requires-clause-held
release-requires-clause-held c =
    let d = (goal.at.release-requires-clause-held c).After-read_word-named in
    box_held (shape_of c.args.bank.now) c.args.o c.args.table c.args.word c.args.kind c.args.payload (view c.args.pass.now) (view c.read_word-named.new.pass) (view c.put_value.new.pass) c.requires.pass.1 c.requires.writes c.requires.open (load_named d) c.requires.own (reads_loaded (view c.args.pass.now) (view c.read_word-named.new.pass) c.args.kind c.args.payload c.args.pass.now.possible c.requires.own (load_named d)) c.put_value.ensures.only c.put_value.ensures.held c.put_value.ensures.unboxed c.put_value.ensures.references c.read_word-named.result (sym (old_stands d) ∙ c.if-old-ne-BOX_KIND.false) (named_is d)

pub release-requires-clause-settled : goal.release-requires-clause-settled
release-requires-clause-settled c =
    let d = (goal.at.release-requires-clause-settled c).After-read_word-named in
    box_settled (shape_of c.args.bank.now) c.args.o c.args.table c.args.word c.args.kind c.args.payload (view c.args.pass.now) (view c.read_word-named.new.pass) (view c.put_value.new.pass) c.requires.pass.1 c.requires.writes c.requires.open (load_named d) c.requires.own (reads_loaded (view c.args.pass.now) (view c.read_word-named.new.pass) c.args.kind c.args.payload c.args.pass.now.possible c.requires.own (load_named d)) c.put_value.ensures.only c.put_value.ensures.held c.put_value.ensures.unboxed c.put_value.ensures.references c.read_word-named.result (sym (old_stands d) ∙ c.if-old-ne-BOX_KIND.false) (named_is d)

pub returns-clause-writes : goal.returns-clause-writes
returns-clause-writes c =
    let d = (goal.at.returns-clause-writes c).After-read_word-named in
    drop_writes (shape_of c.args.bank.now) c.args.o c.args.table c.args.word c.args.kind c.args.payload (view c.args.pass.now) (view c.read_word-named.new.pass) (view c.put_value.new.pass) c.requires.pass.1 c.requires.writes c.requires.open (load_named d) c.requires.own (reads_loaded (view c.args.pass.now) (view c.read_word-named.new.pass) c.args.kind c.args.payload c.args.pass.now.possible c.requires.own (load_named d)) c.put_value.ensures.only c.put_value.ensures.held c.put_value.ensures.unboxed c.put_value.ensures.references c.read_word-named.result (sym (old_stands d) ∙ c.if-old-ne-BOX_KIND.false) (named_is d) (view c.release.new.pass) c.release.ensures.only c.release.ensures.settled c.release.ensures.places c.release.ensures.references

pub returns-clause-only : goal.returns-clause-only
returns-clause-only c =
    let d = (goal.at.returns-clause-only c).After-read_word-named in
    drop_only (shape_of c.args.bank.now) c.args.o c.args.table c.args.word c.args.kind c.args.payload (view c.args.pass.now) (view c.read_word-named.new.pass) (view c.put_value.new.pass) c.requires.pass.1 c.requires.writes c.requires.open (load_named d) c.requires.own (reads_loaded (view c.args.pass.now) (view c.read_word-named.new.pass) c.args.kind c.args.payload c.args.pass.now.possible c.requires.own (load_named d)) c.put_value.ensures.only c.put_value.ensures.held c.put_value.ensures.unboxed c.put_value.ensures.references c.read_word-named.result (sym (old_stands d) ∙ c.if-old-ne-BOX_KIND.false) (named_is d) (view c.release.new.pass) c.release.ensures.only c.release.ensures.settled c.release.ensures.places c.release.ensures.references

pub returns-clause-raw : goal.returns-clause-raw
returns-clause-raw c =
    let d = (goal.at.returns-clause-raw c).After-read_word-named in
    drop_raw (shape_of c.args.bank.now) c.args.o c.args.table c.args.word c.args.kind c.args.payload (view c.args.pass.now) (view c.read_word-named.new.pass) (view c.put_value.new.pass) c.requires.pass.1 c.requires.writes c.requires.open (load_named d) c.requires.own (reads_loaded (view c.args.pass.now) (view c.read_word-named.new.pass) c.args.kind c.args.payload c.args.pass.now.possible c.requires.own (load_named d)) c.put_value.ensures.only c.put_value.ensures.held c.put_value.ensures.unboxed c.put_value.ensures.references c.read_word-named.result (sym (old_stands d) ∙ c.if-old-ne-BOX_KIND.false) (named_is d) (view c.release.new.pass) c.release.ensures.only c.release.ensures.settled c.release.ensures.places c.release.ensures.references

pub returns-clause-stands : goal.returns-clause-stands
returns-clause-stands c =
    let d = (goal.at.returns-clause-stands c).After-read_word-named in
    drop_stands (shape_of c.args.bank.now) c.args.o c.args.table c.args.word c.args.kind c.args.payload (view c.args.pass.now) (view c.read_word-named.new.pass) (view c.put_value.new.pass) c.requires.pass.1 c.requires.writes c.requires.open (load_named d) c.requires.own (reads_loaded (view c.args.pass.now) (view c.read_word-named.new.pass) c.args.kind c.args.payload c.args.pass.now.possible c.requires.own (load_named d)) c.put_value.ensures.only c.put_value.ensures.held c.put_value.ensures.unboxed c.put_value.ensures.references c.read_word-named.result (sym (old_stands d) ∙ c.if-old-ne-BOX_KIND.false) (named_is d) (view c.release.new.pass) c.release.ensures.only c.release.ensures.settled c.release.ensures.places c.release.ensures.references

pub returns-clause-words : goal.returns-clause-words
returns-clause-words c =
    let d = (goal.at.returns-clause-words c).After-read_word-named in
    drop_words (shape_of c.args.bank.now) c.args.o c.args.table c.args.word c.args.kind c.args.payload (view c.args.pass.now) (view c.read_word-named.new.pass) (view c.put_value.new.pass) c.requires.pass.1 c.requires.writes c.requires.open (load_named d) c.requires.own (reads_loaded (view c.args.pass.now) (view c.read_word-named.new.pass) c.args.kind c.args.payload c.args.pass.now.possible c.requires.own (load_named d)) c.put_value.ensures.only c.put_value.ensures.held c.put_value.ensures.unboxed c.put_value.ensures.references c.read_word-named.result (sym (old_stands d) ∙ c.if-old-ne-BOX_KIND.false) (named_is d) (view c.release.new.pass) c.release.ensures.only c.release.ensures.settled c.release.ensures.places c.release.ensures.references

pub returns-clause-references : goal.returns-clause-references
returns-clause-references c =
    let d = (goal.at.returns-clause-references c).After-read_word-named in
    drop_refs (shape_of c.args.bank.now) c.args.o c.args.table c.args.word c.args.kind c.args.payload (view c.args.pass.now) (view c.read_word-named.new.pass) (view c.put_value.new.pass) c.requires.pass.1 c.requires.writes c.requires.open (load_named d) c.requires.own (reads_loaded (view c.args.pass.now) (view c.read_word-named.new.pass) c.args.kind c.args.payload c.args.pass.now.possible c.requires.own (load_named d)) c.put_value.ensures.only c.put_value.ensures.held c.put_value.ensures.unboxed c.put_value.ensures.references c.read_word-named.result (sym (old_stands d) ∙ c.if-old-ne-BOX_KIND.false) (named_is d) (view c.release.new.pass) c.release.ensures.only c.release.ensures.settled c.release.ensures.places c.release.ensures.references

-- ---- what the pass knows of other values in boxes

low_at : (k : Shape) (o : ℕ) (table : Table) (r : View) → r.shape ≡ k → WritesTable k o table r → o < container_count r.shape
low_at k o table r shape writes = subst (λ (z : Shape). o < container_count z) (sym shape) writes.container

pub returns-then-kind-ne-BOX_KIND-clause-values : goal.returns-then-kind-ne-BOX_KIND-clause-values
returns-then-kind-ne-BOX_KIND-clause-values c =
    let a = c.args in
    let k = shape_of a.bank.now in
    let v = view a.pass.now in
    let r = view c.read_word-old.new.pass in
    let w = view c.put_payload.new.pass in
    let l = load_old (goal.at.returns-then-kind-ne-BOX_KIND-clause-values c).After-read_word-old in
    let writes = table_loaded k a.o a.table v r c.requires.pass.1 c.requires.writes l in
    keeps_then v r w (sym l.work.pass.shape) l.boxes.references (loads_keep v r a.pass.now.possible l)
    (puts_keep a.o (PutTable a.o (table_id a.table) (a.word + 1) a.payload ∷ []) r w c.put_payload.ensures.did.1 (refl, tt) (low_at k a.o a.table r (l.work.pass.shape ∙ c.requires.pass.1) writes) writes.locked)

both_keep : (c : After-read_word-named) (w : View) → w ≡ noted_all (value_acts c.args.o (table_id c.args.table) c.args.word c.args.kind c.args.payload) (view c.read_word-named.new.pass) → KeepsValues (view c.args.pass.now) w
both_keep c w did =
    let a = c.args in
    let k = shape_of a.bank.now in
    let v = view a.pass.now in
    let r = view c.read_word-named.new.pass in
    let l = load_named c in
    let writes = table_loaded k a.o a.table v r c.requires.pass.1 c.requires.writes l in
    keeps_then v r w (sym l.work.pass.shape) l.boxes.references (loads_keep v r a.pass.now.possible l)
    (puts_keep a.o (value_acts a.o (table_id a.table) a.word a.kind a.payload) r w did (value_puts_are a.o (table_id a.table) a.word a.kind a.payload) (low_at k a.o a.table r (l.work.pass.shape ∙ c.requires.pass.1) writes) writes.locked)

pub returns-then-old-ne-BOX_KIND-clause-values : goal.returns-then-old-ne-BOX_KIND-clause-values
returns-then-old-ne-BOX_KIND-clause-values c = both_keep (goal.at.returns-then-old-ne-BOX_KIND-clause-values c).After-read_word-named (view c.put_value.new.pass) c.put_value.ensures.did.1

pub returns-clause-values : goal.returns-clause-values
returns-clause-values c =
    let k = shape_of c.args.bank.now in
    let v = view c.args.pass.now in
    let p = view c.put_value.new.pass in
    let w = view c.release.new.pass in
    let e = c.release.ensures in
    keeps_fewer v p w (sym e.only.work.pass.shape) (λ b.
    let less = e.references b in
    let now : references_held w.shape b w.log ≡ references_held k b w.log = ap (λ (z : Shape). references_held z b w.log) e.pass.1 in
    let was : references_held p.shape b p.log ≡ references_held k b p.log = ap (λ (z : Shape). references_held z b p.log) (sym e.only.work.pass.shape ∙ e.pass.1) in
    omega (arith, less, now, was)) (both_keep (goal.at.returns-clause-values c).After-read_word-named p c.put_value.ensures.did.1) e.values
