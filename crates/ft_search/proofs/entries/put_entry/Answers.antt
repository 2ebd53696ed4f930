use Rattle.std.proofs.Common.{◌≡◌, ℕ, ◌<◌, sym, ap, ◌∙◌, subst}
use Rattle.ft_trace.specs.Addresses.{class_of, slots, size}
use Rattle.ft_trace.specs.Holds.{held_words, held_unboxed}
use Rattle.ft_trace.specs.Pictures.{entry_offset, root_in}
use Rattle.ft_trace.specs.ContainerStates.{kind_in}
use Rattle.ft_trace.specs.WholeWrites.{IsNoValue}
use Rattle.ft_trace.specs.declared.Act.TheVariants.{PutTable}
use Rattle.ft_trace.proofs.ValuePlaces.{keyed_far}
use Rattle.ft_trace.proofs.ByKind.{keyed_low}
use Rattle.ft_bank.specs.Passes.{shape_of, view}
use Rattle.ft_bank.specs.TableNames.{table_id}
use Rattle.ft_bank.specs.Whole.{OnlyPut}
use Rattle.ft_bank.specs.WriteSteps.{IsCareful, with_table}
use Rattle.ft_bank.proofs.KnownAfterWrites.{put_by}
use Rattle.ft_search.proofs.WordPlaces.{entry_is}
use Rattle.ft_search.proofs.Puts.{few_mask, few_places, writes_on}
use Rattle.ft_search.proofs.Owning.{keeps_put}
use Rattle.ft_search.proofs.entries.put_entry.Goals as goal
use Rattle.ft_search.proofs.entries.put_entry.Goals.{After-put_word, After-word_at-at}

-- the word is no value's
far : (c : After-word_at-at) → IsNoValue (kind_in (shape_of c.args.bank.now).starts c.args.o) (class_of (table_id c.args.table)) c.word_at-at.result
far c =
    let a = c.args in
    let kd = kind_in (shape_of a.bank.now).starts a.o in
    let e : c.word_at-at.result ≡ entry_offset (slots (class_of (table_id a.table))) a.place a.word = c.word_at-at.ensures ∙ entry_is (shape_of a.bank.now) a.table c.mask_of.result a.place a.word c.requires.writes.table_in c.mask_of.ensures in
    subst (λ (i : ℕ). IsNoValue kd (class_of (table_id a.table)) i) (sym e) (keyed_far kd c.requires.writes.keyed (class_of (table_id a.table)) a.place a.word c.requires.word c.requires.no_value.0 c.requires.no_value.1)

only_put : (c : After-put_word) → OnlyPut c.args.o (view c.args.pass.now) (view c.put_word.new.pass)
only_put c = put_by (PutTable c.args.o (table_id c.args.table) c.word_at-at.result c.args.value) (view c.args.pass.now) (view c.put_word.new.pass) c.args.o tt c.put_word.ensures.did.1 c.put_word.ensures.keeps c.put_word.ensures.moves

pub word_at-at-requires-clause-mask : goal.word_at-at-requires-clause-mask
word_at-at-requires-clause-mask c = subst (λ (n : ℕ). n < 65536) (sym c.mask_of.ensures) (few_mask (shape_of c.args.bank.now) c.args.table c.requires.writes.table_in)

pub word_at-at-requires-clause-place : goal.word_at-at-requires-clause-place
word_at-at-requires-clause-place c = few_places (shape_of c.args.bank.now) c.args.table (kind_in (shape_of c.args.bank.now).starts c.args.o) c.args.place c.requires.writes.table_in c.requires.writes.keyed c.requires.place

pub put_word-requires-clause-word : goal.put_word-requires-clause-word
put_word-requires-clause-word c =
    let a = c.args in
    let e : c.word_at-at.result ≡ entry_offset (slots (class_of (table_id a.table))) a.place a.word = c.word_at-at.ensures ∙ entry_is (shape_of a.bank.now) a.table c.mask_of.result a.place a.word c.requires.writes.table_in c.mask_of.ensures in
    subst (λ (n : ℕ). n < size (class_of (table_id a.table))) (sym e) (keyed_low (kind_in (shape_of a.bank.now).starts a.o) c.requires.writes.keyed (class_of (table_id a.table)) a.place a.word c.requires.place c.requires.word)

pub put_word-requires-clause-care : goal.put_word-requires-clause-care
put_word-requires-clause-care c =
    let a = c.args in
    let e : c.word_at-at.result ≡ entry_offset (slots (class_of (table_id a.table))) a.place a.word = c.word_at-at.ensures ∙ entry_is (shape_of a.bank.now) a.table c.mask_of.result a.place a.word c.requires.writes.table_in c.mask_of.ensures in
    subst (λ (n : ℕ). IsCareful (view a.pass.now) a.o (table_id a.table) n a.value) (sym e) c.requires.care

pub returns-clause-words : goal.returns-clause-words
returns-clause-words c =
    let a = c.args in
    let e : c.word_at-at.result ≡ entry_offset (slots (class_of (table_id a.table))) a.place a.word = c.word_at-at.ensures ∙ entry_is (shape_of a.bank.now) a.table c.mask_of.result a.place a.word c.requires.writes.table_in c.mask_of.ensures in
    c.put_word.ensures.unboxed (far (goal.at.returns-clause-words c).After-word_at-at) ∙ ap (λ (n : ℕ). with_table (held_unboxed a.o (view a.pass.now)) n a.value) e

pub returns-clause-only : goal.returns-clause-only
returns-clause-only c = only_put (goal.at.returns-clause-only c).After-put_word

pub returns-clause-references : goal.returns-clause-references
returns-clause-references c = c.put_word.ensures.same (far (goal.at.returns-clause-references c).After-word_at-at)

pub returns-clause-writes : goal.returns-clause-writes
returns-clause-writes c =
    writes_on (shape_of c.args.bank.now) c.args.o c.args.table (view c.args.pass.now) (view c.put_word.new.pass) c.requires.pass.1 (only_put (goal.at.returns-clause-writes c).After-put_word)
    (c.put_word.ensures.same (far (goal.at.returns-clause-writes c).After-word_at-at)) (ap root_in c.put_word.ensures.held) c.requires.writes

pub returns-clause-raw : goal.returns-clause-raw
returns-clause-raw c =
    let a = c.args in
    let e : c.word_at-at.result ≡ entry_offset (slots (class_of (table_id a.table))) a.place a.word = c.word_at-at.ensures ∙ entry_is (shape_of a.bank.now) a.table c.mask_of.result a.place a.word c.requires.writes.table_in c.mask_of.ensures in
    c.put_word.ensures.held ∙ ap (λ (n : ℕ). with_table (held_words a.o (view a.pass.now)) n a.value) e

pub returns-clause-own : goal.returns-clause-own
returns-clause-own c =
    keeps_put (view c.args.pass.now) (view c.put_word.new.pass) c.args.o (table_id c.args.table) c.word_at-at.result c.args.value c.put_word.ensures.did.1
    (c.put_word.ensures.same (far (goal.at.returns-clause-own c).After-word_at-at))
