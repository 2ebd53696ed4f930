use Rattle.std.proofs.Common.{◌≡◌, ℕ, ◌-◌, ◌<◌, sym, ap, ◌∙◌, subst, arith}
use Rattle.std.specs.Prelude.{slice_index}
use Rattle.ft_trace.specs.declared.Act.TheVariants.{ReadBlock, PutBlock}
use Rattle.ft_trace.specs.Addresses.{class_of, slots}
use Rattle.ft_trace.specs.ContainerStates.{kind_in}
use Rattle.ft_trace.specs.Holds.{held_unboxed}
use Rattle.ft_trace.specs.Pictures.{entry_offset}
use Rattle.ft_bank.specs.Passes.{shape_of, view}
use Rattle.ft_bank.specs.TableNames.{table_id}
use Rattle.ft_bank.specs.Whole.{OnlyLoaded, OnlyPut}
use Rattle.ft_bank.proofs.KnownAfterWrites.{loaded_by, put_by}
use Rattle.ft_search.proofs.Boxing.{entries_of_table, table_of}
use Rattle.ft_search.proofs.Deletions.{counted_writes, opens, dies, deleted_only, deleted_open, deleted_value, deleted_words}
use Rattle.ft_search.proofs.Puts.{few_mask, few_places}
use Rattle.ft_search.proofs.WordPlaces.{entry_is}
use Rattle.ft_search.proofs.deleting.put_deleted.Goals as goal
use Rattle.ft_search.proofs.deleting.put_deleted.Goals.{After-put_block}

first : (c : After-put_block) → OnlyLoaded (view c.args.pass.now) (view c.read_block-count.new.pass)
first c = loaded_by (ReadBlock c.args.o 1 c.read_block-count.result) (view c.args.pass.now) (view c.read_block-count.new.pass) tt c.read_block-count.ensures.did.1

second : (c : After-put_block) → OnlyPut c.args.o (view c.read_block-count.new.pass) (view c.put_block.new.pass)
second c = put_by (PutBlock c.args.o 1 (c.read_block-count.result - 1)) (view c.read_block-count.new.pass) (view c.put_block.new.pass) c.args.o tt c.put_block.ensures.did.1 c.put_block.ensures.keeps c.put_block.ensures.moves

pub overflow_sub-count : goal.overflow_sub-count
overflow_sub-count c =
    let e : c.read_block-count.result ≡ slice_index (held_unboxed c.args.o (view c.args.pass.now)).block 1 = c.read_block-count.ensures.held c.requires.writes.locked in
    let s = c.requires.some in
    omega (arith, e, s)

pub raise_at-requires-clause-writes : goal.raise_at-requires-clause-writes
raise_at-requires-clause-writes c =
    let a = c.args in
    let d = (goal.at.raise_at-requires-clause-writes c).After-put_block in
    counted_writes (shape_of a.bank.now) a.o a.table a.place a.key (view a.pass.now) (view c.read_block-count.new.pass) (view c.put_block.new.pass) c.read_block-count.result c.requires.pass.1 c.requires.writes c.requires.early (first d) (c.read_block-count.ensures.held c.requires.writes.locked) (second d) c.put_block.ensures.boxes.references c.put_block.ensures.unboxed c.requires.may

pub raise_at-requires-clause-care : goal.raise_at-requires-clause-care
raise_at-requires-clause-care c =
    let a = c.args in
    let d = (goal.at.raise_at-requires-clause-care c).After-put_block in
    opens (shape_of a.bank.now) a.o a.table a.place a.key (view a.pass.now) (view c.read_block-count.new.pass) (view c.put_block.new.pass) c.read_block-count.result c.requires.pass.1 c.requires.writes c.requires.early (first d) (c.read_block-count.ensures.held c.requires.writes.locked) (second d) c.put_block.ensures.boxes.references c.put_block.ensures.unboxed c.requires.may

pub put_entry-requires-clause-care : goal.put_entry-requires-clause-care
put_entry-requires-clause-care c =
    let a = c.args in
    let d = (goal.at.put_entry-requires-clause-care c).After-put_block in
    let e = c.raise_at.ensures in
    dies (shape_of a.bank.now) a.o a.table a.place a.key (view a.pass.now) (view c.read_block-count.new.pass) (view c.put_block.new.pass) c.read_block-count.result c.requires.pass.1 c.requires.writes c.requires.early (first d) (c.read_block-count.ensures.held c.requires.writes.locked) (second d) c.put_block.ensures.boxes.references c.put_block.ensures.unboxed c.requires.may
    (view c.raise_at.new.pass) e.only e.writes e.words c.gone_kind_of.result c.gone_kind_of.ensures

-- ---- the value in its place

pub word_at-word-requires-clause-mask : goal.word_at-word-requires-clause-mask
word_at-word-requires-clause-mask c = subst (λ (n : ℕ). n < 65536) (sym c.mask_of.ensures) (few_mask (shape_of c.args.bank.now) c.args.table c.requires.writes.table_in)

pub word_at-word-requires-clause-place : goal.word_at-word-requires-clause-place
word_at-word-requires-clause-place c = few_places (shape_of c.args.bank.now) c.args.table (kind_in (shape_of c.args.bank.now).starts c.args.o) c.args.place c.requires.writes.table_in c.requires.writes.keyed c.requires.place

pub put_unboxed-requires-clause-writes : goal.put_unboxed-requires-clause-writes
put_unboxed-requires-clause-writes c = table_of (shape_of c.args.bank.now) c.args.o c.args.table (view c.put_entry.new.pass) c.put_entry.ensures.writes

pub put_unboxed-requires-clause-open : goal.put_unboxed-requires-clause-open
put_unboxed-requires-clause-open c =
    let a = c.args in
    let d = (goal.at.put_unboxed-requires-clause-open c).After-put_block in
    let e = c.raise_at.ensures in
    deleted_open (shape_of a.bank.now) a.o a.table a.place a.key (view a.pass.now) (view c.read_block-count.new.pass) (view c.put_block.new.pass) c.read_block-count.result c.requires.pass.1 c.requires.writes c.requires.early (first d) (c.read_block-count.ensures.held c.requires.writes.locked) (second d) c.put_block.ensures.boxes.references c.put_block.ensures.unboxed c.requires.may
    (view c.raise_at.new.pass) e.only e.writes e.words c.gone_kind_of.result c.gone_kind_of.ensures (view c.put_entry.new.pass) c.put_entry.ensures.only c.put_entry.ensures.words c.requires.place c.word_at-word.result (c.word_at-word.ensures ∙ entry_is (shape_of a.bank.now) a.table c.mask_of.result a.place 4 c.requires.writes.table_in c.mask_of.ensures)

pub put_unboxed-requires-clause-plain : goal.put_unboxed-requires-clause-plain
put_unboxed-requires-clause-plain c =
    let a = c.args in
    let d = (goal.at.put_unboxed-requires-clause-plain c).After-put_block in
    let e = c.raise_at.ensures in
    let at : c.word_at-word.result ≡ entry_offset (slots (class_of (table_id a.table))) a.place 4 = c.word_at-word.ensures ∙ entry_is (shape_of a.bank.now) a.table c.mask_of.result a.place 4 c.requires.writes.table_in c.mask_of.ensures in
    let reads = deleted_value (shape_of a.bank.now) a.o a.table a.place a.key (view a.pass.now) (view c.read_block-count.new.pass) (view c.put_block.new.pass) c.read_block-count.result c.requires.pass.1 c.requires.writes c.requires.early (first d) (c.read_block-count.ensures.held c.requires.writes.locked) (second d) c.put_block.ensures.boxes.references c.put_block.ensures.unboxed c.requires.may
    (view c.raise_at.new.pass) e.only e.writes e.words c.gone_kind_of.result c.gone_kind_of.ensures (view c.put_entry.new.pass) c.put_entry.ensures.only c.put_entry.ensures.words c.requires.place in
    λ four. c.requires.plain (sym reads ∙ (ap (λ (i : ℕ). slice_index (held_unboxed a.o (view c.put_entry.new.pass)).table i) (sym at) ∙ four))

pub returns-clause-writes : goal.returns-clause-writes
returns-clause-writes c = entries_of_table (shape_of c.args.bank.now) c.args.o c.args.table (view c.put_unboxed.new.pass) c.requires.writes.keyed c.put_unboxed.ensures.writes

pub returns-clause-only : goal.returns-clause-only
returns-clause-only c =
    let a = c.args in
    let d = (goal.at.returns-clause-only c).After-put_block in
    let e = c.raise_at.ensures in
    deleted_only (shape_of a.bank.now) a.o a.table a.place a.key (view a.pass.now) (view c.read_block-count.new.pass) (view c.put_block.new.pass) c.read_block-count.result c.requires.pass.1 c.requires.writes c.requires.early (first d) (c.read_block-count.ensures.held c.requires.writes.locked) (second d) c.put_block.ensures.boxes.references c.put_block.ensures.unboxed c.requires.may
    (view c.raise_at.new.pass) e.only e.writes e.words c.gone_kind_of.result c.gone_kind_of.ensures (view c.put_entry.new.pass) (view c.put_unboxed.new.pass) c.put_entry.ensures.only c.put_unboxed.ensures.only

pub returns-clause-words : goal.returns-clause-words
returns-clause-words c =
    let a = c.args in
    let d = (goal.at.returns-clause-words c).After-put_block in
    let e = c.raise_at.ensures in
    c.put_unboxed.ensures.words ∙ deleted_words (shape_of a.bank.now) a.o a.table a.place a.key (view a.pass.now) (view c.read_block-count.new.pass) (view c.put_block.new.pass) c.read_block-count.result c.requires.pass.1 c.requires.writes c.requires.early (first d) (c.read_block-count.ensures.held c.requires.writes.locked) (second d) c.put_block.ensures.boxes.references c.put_block.ensures.unboxed c.requires.may
    (view c.raise_at.new.pass) e.only e.writes e.words c.gone_kind_of.result c.gone_kind_of.ensures (view c.put_entry.new.pass) c.put_entry.ensures.words

pub returns-clause-references : goal.returns-clause-references
returns-clause-references c b =
    let d = (goal.at.returns-clause-references c).After-put_block in
    c.put_unboxed.ensures.references b
    ∙ (c.put_entry.ensures.references b
    ∙ (c.raise_at.ensures.references b ∙ (c.put_block.ensures.boxes.references b ∙ (first d).boxes.references b)))
