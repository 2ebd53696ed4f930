use Rattle.std.proofs.Common.{◌≡◌, ℕ, suc, sym, subst}
use Rattle.std.specs.Prelude.{slice_index}
use Rattle.ft_trace.specs.Addresses.{class_of}
use Rattle.ft_trace.specs.ContainerStates.{kind_in}
use Rattle.ft_trace.specs.Pictures.{root_in}
use Rattle.ft_trace.specs.WholeWrites.{IsNoValue}
use Rattle.ft_trace.proofs.ValuePlaces.{keyed_far}
use Rattle.ft_bank.specs.Passes.{shape_of}
use Rattle.ft_bank.specs.TableNames.{table_id}
use Rattle.ft_bank.proofs.TableAddresses.{named}
use Rattle.ft_reads.specs.Reads.{Reads}
use Rattle.ft_reads.proofs.Agreeing.{reads_table}
use Rattle.ft_whole_tables.proofs.entries.word_of.Goals as goal

pub returns-clause-reads : goal.returns-clause-reads
returns-clause-reads c =
    let a = c.args in
    let k = shape_of a.bank.now in
    let t = table_id a.table in
    let kd = kind_in k.starts a.o in
    let at = c.entry_at-at.result in
    let e = c.entry_at-at.ensures in
    let f = c.read_table.result in
    let p = a.pass.now in
    let q = c.read_table.new.pass in
    let w = c.requires.word in
    let far = subst (λ (i : ℕ). IsNoValue kd (class_of t) i) (sym e.at) (keyed_far kd c.requires.keyed (class_of t) a.place a.word w.0 w.1 w.2) in
    subst (λ (i : ℕ). Reads k a.o (λ x. root_in x ≡ suc t → f ≡ slice_index x.table i) p q) e.at
    (reads_table k a.o t at f p q (named k a.table c.requires.table) e.inside far c.read_table.ensures.did c.read_table.ensures.held)
