use Rattle.std.proofs.Common.{◌≡◌, ℕ, suc, ◌<◌, [], ◌∷◌, length, ap, ◌∙◌, sym, subst, arith}
use Rattle.std.specs.Prelude.{slice_index}
use Rattle.ft_trace.specs.declared.Act.TheVariants.{ReadTable}
use Rattle.ft_trace.specs.Addresses.{class_of, size, slots}
use Rattle.ft_trace.specs.ContainerStates.{kind_in}
use Rattle.ft_trace.specs.Pictures.{entry_offset, root_in}
use Rattle.ft_trace.specs.Boxes.{value_at}
use Rattle.ft_trace.proofs.ByKind.{keyed_fit}
use Rattle.ft_bank.specs.Passes.{shape_of}
use Rattle.ft_bank.specs.Series.{DidAll}
use Rattle.ft_bank.specs.TableNames.{table_id}
use Rattle.ft_bank.proofs.TableAddresses.{named}
use Rattle.ft_search.proofs.Puts.{keyed_value}
use Rattle.ft_reads.proofs.Agreeing.{reads_map}
use Rattle.ft_whole_tables.specs.TableEntries.{IsSeenAt}
use Rattle.ft_whole_tables.proofs.WordReads.{LoadsWord, value_reads}
use Rattle.ft_whole_tables.proofs.entries.seen_at.Goals as goal

pub entry_at-at-requires-clause-place : goal.entry_at-at-requires-clause-place
entry_at-at-requires-clause-place c =
    let a = c.args in
    let t = table_id a.table in
    let low = c.requires.place in
    let fit = keyed_fit (kind_in (shape_of a.bank.now).starts a.o) c.requires.keyed (class_of t) in
    omega (arith, low, fit)

pub entry_at-next-requires-clause-place : goal.entry_at-next-requires-clause-place
entry_at-next-requires-clause-place c =
    let a = c.args in
    let t = table_id a.table in
    let low = c.requires.place in
    let fit = keyed_fit (kind_in (shape_of a.bank.now).starts a.o) c.requires.keyed (class_of t) in
    omega (arith, low, fit)

pub returns-clause-reads : goal.returns-clause-reads
returns-clause-reads c =
    let a = c.args in
    let k = shape_of a.bank.now in
    let t = table_id a.table in
    let kd = kind_in k.starts a.o in
    let place = value_at kd (class_of t) a.place in
    let is = keyed_value kd c.requires.keyed (class_of t) a.place in
    let one = c.read_table-kind in
    let two = c.read_table-payload in
    let seen = c.see_value.result in
    let e = c.see_value.ensures in
    let at : c.entry_at-at.result ≡ place = c.entry_at-at.ensures.at ∙ sym is in
    let next : c.entry_at-next.result ≡ suc place = let n = c.entry_at-next.ensures.at in omega (arith, n, is) in
    let few = subst (λ (i : ℕ). i < size (class_of t)) next c.entry_at-next.ensures.inside in
    let p = a.pass.now in
    let q = one.new.pass in
    let r = two.new.pass in
    let z = c.see_value.new.pass in
    let did_kind = subst (λ (i : ℕ). DidAll (ReadTable t i one.result ∷ []) p q) at one.ensures.did in
    let did_payload = subst (λ (i : ℕ). DidAll (ReadTable t i two.result ∷ []) q r) next two.ensures.did in
    let holds_kind = subst (λ (i : ℕ). LoadsWord k t i one.result p) at one.ensures.held in
    let holds_payload = subst (λ (i : ℕ). LoadsWord k t i two.result q) next two.ensures.held in
    reads_map k a.o (λ x. root_in x ≡ suc t → length x.table ≡ size (class_of t) → (seen.kind ≡ slice_index x.table place) × (seen.value ≡ slice_index x.table (suc place))) (IsSeenAt t a.place seen) p z
    (λ x reads names long.
    let both = reads names long in
    let last : suc place ≡ entry_offset (slots (class_of t)) a.place 5 = omega (arith, is) in
    (both.0 ∙ ap (slice_index x.table) is, both.1 ∙ ap (slice_index x.table) last))
    (value_reads k a.o t a.place one.result two.result seen (named k a.table c.requires.table) c.requires.place few e.sees p q r z did_kind holds_kind did_payload holds_payload e.did e.known)
