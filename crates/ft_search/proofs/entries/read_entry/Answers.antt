use Rattle.std.proofs.Common.{◌≡◌, ℕ, ◌<◌, sym, ap, ◌∙◌, subst}
use Rattle.std.specs.Prelude.{slice_index}
use Rattle.ft_trace.specs.declared.Act.TheVariants.{ReadTable}
use Rattle.ft_trace.specs.declared.Shape.{Shape}
use Rattle.ft_trace.specs.Addresses.{container_count, class_of, slots, size}
use Rattle.ft_trace.specs.Holds.{held_words}
use Rattle.ft_trace.specs.Kinds.{IsKeyed}
use Rattle.ft_trace.specs.Pictures.{entry_offset}
use Rattle.ft_trace.specs.ContainerStates.{kind_in}
use Rattle.ft_trace.proofs.ByKind.{keyed_low}
use Rattle.ft_bank.specs.Passes.{shape_of, view}
use Rattle.ft_bank.specs.TableNames.{table_id}
use Rattle.ft_search.proofs.WordPlaces.{entry_is}
use Rattle.ft_bank.proofs.KnownAfterWrites.{loaded_by}
use Rattle.ft_search.proofs.Puts.{entry_reads, few_mask, few_places, writes_loaded}
use Rattle.ft_search.proofs.entries.read_entry.Goals as goal

pub word_at-at-requires-clause-mask : goal.word_at-at-requires-clause-mask
word_at-at-requires-clause-mask c = subst (λ (n : ℕ). n < 65536) (sym c.mask_of.ensures) (few_mask (shape_of c.args.bank.now) c.args.table c.requires.writes.table_in)

pub word_at-at-requires-clause-place : goal.word_at-at-requires-clause-place
word_at-at-requires-clause-place c = few_places (shape_of c.args.bank.now) c.args.table (kind_in (shape_of c.args.bank.now).starts c.args.o) c.args.place c.requires.writes.table_in c.requires.writes.keyed c.requires.place

pub read_word-requires-clause-word : goal.read_word-requires-clause-word
read_word-requires-clause-word c =
    let a = c.args in
    let e : c.word_at-at.result ≡ entry_offset (slots (class_of (table_id a.table))) a.place a.word = c.word_at-at.ensures ∙ entry_is (shape_of a.bank.now) a.table c.mask_of.result a.place a.word c.requires.writes.table_in c.mask_of.ensures in
    subst (λ (n : ℕ). n < size (class_of (table_id a.table))) (sym e) (keyed_low (kind_in (shape_of a.bank.now).starts a.o) c.requires.writes.keyed (class_of (table_id a.table)) a.place a.word c.requires.place c.requires.word)

pub returns-clause-found : goal.returns-clause-found
returns-clause-found c =
    let a = c.args in
    let e : c.word_at-at.result ≡ entry_offset (slots (class_of (table_id a.table))) a.place a.word = c.word_at-at.ensures ∙ entry_is (shape_of a.bank.now) a.table c.mask_of.result a.place a.word c.requires.writes.table_in c.mask_of.ensures in
    let v = view a.pass.now in
    let keyed : IsKeyed (kind_in v.shape.starts a.o) = subst (λ (k : Shape). IsKeyed (kind_in k.starts a.o)) (sym c.requires.pass.1) c.requires.writes.keyed in
    c.read_word.ensures.held a.o c.requires.writes.container c.requires.writes.locked c.requires.writes.root
    ∙ (ap (λ (n : ℕ). slice_index (held_words a.o v).table n) e
    ∙ sym (entry_reads v a.o (table_id a.table) a.place a.word keyed c.requires.writes.root c.requires.word c.requires.no_value.0 c.requires.no_value.1))

pub returns-clause-only : goal.returns-clause-only
returns-clause-only c = loaded_by (ReadTable (table_id c.args.table) c.word_at-at.result c.read_word.result) (view c.args.pass.now) (view c.read_word.new.pass) tt c.read_word.ensures.did.1

pub returns-clause-held : goal.returns-clause-held
returns-clause-held c =
    let o = c.args.o in
    let l = loaded_by (ReadTable (table_id c.args.table) c.word_at-at.result c.read_word.result) (view c.args.pass.now) (view c.read_word.new.pass) tt c.read_word.ensures.did.1 in
    l.unboxed o (subst (λ (k : Shape). o < container_count k) (sym c.requires.pass.1) c.requires.writes.container) c.requires.writes.locked

pub returns-clause-writes : goal.returns-clause-writes
returns-clause-writes c =
    writes_loaded (shape_of c.args.bank.now) c.args.o c.args.table (ReadTable (table_id c.args.table) c.word_at-at.result c.read_word.result) (view c.args.pass.now) (view c.read_word.new.pass) c.requires.pass.1 tt c.read_word.ensures.did.1 c.requires.writes
