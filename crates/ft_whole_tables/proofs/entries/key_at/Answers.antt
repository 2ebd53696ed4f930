use Rattle.std.proofs.Common.{◌≡◌, suc, ◌<◌, None, ap, ◌∙◌, arith}
use Rattle.ft_model.specs.Classes.{dict_entries}
use Rattle.ft_trace.specs.Addresses.{class_of, places, slots}
use Rattle.ft_trace.specs.Pictures.{entry_field, root_in}
use Rattle.ft_bank.specs.Passes.{shape_of}
use Rattle.ft_bank.specs.TableNames.{table_id}
use Rattle.ft_bank.proofs.TableAddresses.{class_is}
use Rattle.ft_reads.proofs.Agreeing.{reads_map, reads_none, reads_then}
use Rattle.ft_whole_tables.specs.TableEntries.{IsKeyAt}
use Rattle.ft_whole_tables.proofs.EntryRows.{key_read, past_key, places_of, within_key}
use Rattle.ft_whole_tables.proofs.entries.key_at.Goals as goal

pub word_of-kind-requires-clause-place : goal.word_of-kind-requires-clause-place
word_of-kind-requires-clause-place c =
    let a = c.args in
    let same = places_of (class_of (table_id a.table)) ∙ ap dict_entries (class_is a.table c.requires.table.2) in
    let low = c.if-place-dict_entries.false in
    let e = c.dict_entries.ensures in
    omega (arith, same, low, e)

pub word_of-payload-requires-clause-place : goal.word_of-payload-requires-clause-place
word_of-payload-requires-clause-place c =
    let a = c.args in
    let same = places_of (class_of (table_id a.table)) ∙ ap dict_entries (class_is a.table c.requires.table.2) in
    let low = c.if-place-dict_entries.false in
    let e = c.dict_entries.ensures in
    omega (arith, same, low, e)

pub returns-then-place-dict_entries-clause-reads : goal.returns-then-place-dict_entries-clause-reads
returns-then-place-dict_entries-clause-reads c =
    let a = c.args in
    let k = shape_of a.bank.now in
    let past = c.if-place-dict_entries.true in
    let e = c.dict_entries.ensures in
    reads_none k a.o (IsKeyAt k (table_id a.table) a.place None) a.pass.now (λ x. past_key k a.table c.requires.table a.place (omega (arith, past, e)) x)

pub returns-clause-reads : goal.returns-clause-reads
returns-clause-reads c =
    let a = c.args in
    let k = shape_of a.bank.now in
    let t = table_id a.table in
    let n = slots (class_of t) in
    let kind = c.word_of-kind.result in
    let payload = c.word_of-payload.result in
    let p = a.pass.now in
    let q = c.word_of-kind.new.pass in
    let r = c.word_of-payload.new.pass in
    reads_map k a.o (λ x. (root_in x ≡ suc t → kind ≡ entry_field n x.table a.place 2) × (root_in x ≡ suc t → payload ≡ entry_field n x.table a.place 3)) (IsKeyAt k t a.place c.key_of.result) p r
    (λ x both. key_read k t a.place kind payload x both.0 both.1 c.key_of.result c.key_of.ensures)
    (reads_then k a.o (λ x. root_in x ≡ suc t → kind ≡ entry_field n x.table a.place 2) (λ x. root_in x ≡ suc t → payload ≡ entry_field n x.table a.place 3) p q r c.word_of-kind.ensures.reads c.word_of-payload.ensures.reads)

pub returns-clause-within : goal.returns-clause-within
returns-clause-within c =
    let a = c.args in
    let same = places_of (class_of (table_id a.table)) ∙ ap dict_entries (class_is a.table c.requires.table.2) in
    let low = c.if-place-dict_entries.false in
    let e = c.dict_entries.ensures in
    within_key (a.place < places (class_of (table_id a.table))) c.word_of-kind.result c.word_of-payload.result c.key_of.result (omega (arith, same, low, e)) c.key_of.ensures
