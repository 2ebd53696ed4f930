use Rattle.std.proofs.Common.{◌≡◌, suc, sym, ◌∙◌}
use Rattle.ft_trace.specs.Addresses.{class_of, slots}
use Rattle.ft_trace.specs.Pictures.{entry_field, root_in}
use Rattle.ft_bank.specs.Passes.{shape_of}
use Rattle.ft_bank.specs.TableNames.{table_id}
use Rattle.ft_reads.proofs.Agreeing.{reads_map}
use Rattle.ft_whole_tables.specs.TableEntries.{HashIs, OfUsed}
use Rattle.ft_whole_tables.proofs.EntryRows.{word_is}
use Rattle.ft_whole_tables.proofs.entries.hash_at.Goals as goal

pub returns-clause-reads : goal.returns-clause-reads
returns-clause-reads c =
    let a = c.args in
    let k = shape_of a.bank.now in
    let t = table_id a.table in
    reads_map k a.o (λ x. root_in x ≡ suc t → c.word_of.result ≡ entry_field (slots (class_of t)) x.table a.place 1) (OfUsed k t (HashIs k.texts a.place c.word_of.result)) a.pass.now c.word_of.new.pass
    (λ x is names way used table any low. is names ∙ (sym (word_is (class_of t) x.table a.place 1) ∙ table.hashes a.place any low)) c.word_of.ensures.reads
