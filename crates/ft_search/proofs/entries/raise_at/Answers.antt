use Rattle.std.proofs.Common.{◌≡◌, ℕ, ◌+◌, ◌<◌, sym, ap, ◌∙◌, subst, arith}
use Rattle.ft_trace.specs.declared.Shape.{Shape}
use Rattle.ft_trace.specs.Addresses.{container_count, class_of, slots}
use Rattle.ft_trace.specs.ContainerStates.{kind_in}
use Rattle.ft_trace.specs.Holds.{held_words, held_unboxed}
use Rattle.ft_trace.specs.Kinds.{IsKeyed}
use Rattle.ft_trace.specs.Pictures.{ContainerWords, entry_offset}
use Rattle.ft_bank.specs.Passes.{shape_of, view}
use Rattle.ft_bank.specs.TableNames.{table_id}
use Rattle.ft_bank.specs.WriteSteps.{IsCareful, with_table}
use Rattle.ft_bank.proofs.KnownAfterWrites.{loaded_held, loaded_put, put_then}
use Rattle.ft_search.proofs.Puts.{entry_reads, entry_refs, entry_room, careful_loaded}
use Rattle.ft_search.proofs.Owning.{keeps_loaded, keeps_then}
use Rattle.ft_search.proofs.entries.raise_at.Goals as goal

pub overflow_add-version : goal.overflow_add-version
overflow_add-version c =
    let a = c.args in
    let r = entry_room (shape_of a.bank.now) a.o a.table (view a.pass.now) c.requires.writes c.requires.pass.1 a.pass.now.possible a.bank.now.few a.place c.requires.place in
    let found = c.read_entry-version.ensures.found in
    omega (arith, r, found)

pub put_entry-requires-clause-care : goal.put_entry-requires-clause-care
put_entry-requires-clause-care c =
    let a = c.args in
    let e = c.read_entry-version.ensures in
    careful_loaded (view a.pass.now) (view c.read_entry-version.new.pass) a.o (table_id a.table) (entry_offset (slots (class_of (table_id a.table))) a.place 0) (c.read_entry-version.result + 1)
    (subst (λ (k : Shape). a.o < container_count k) (sym c.requires.pass.1) c.requires.writes.container) c.requires.writes.locked e.only
    (let w = view c.read_entry-version.new.pass in
    let shape : w.shape ≡ shape_of a.bank.now = e.only.work.pass.shape ∙ c.requires.pass.1 in
    entry_refs w a.o (table_id a.table) a.place 0 (c.read_entry-version.result + 1) (subst (λ (k : Shape). IsKeyed (kind_in k.starts a.o)) (sym shape) e.writes.keyed) (omega arith) (λ z. absurd (omega (arith, z))) (λ z. absurd (omega (arith, z))) e.writes.few)
    (subst (λ (n : ℕ). IsCareful (view a.pass.now) a.o (table_id a.table) (entry_offset (slots (class_of (table_id a.table))) a.place 0) (n + 1)) (sym e.found) c.requires.care)

pub returns-clause-only : goal.returns-clause-only
returns-clause-only c =
    let a = c.args in
    let e = c.read_entry-version.ensures in
    put_then (view a.pass.now) (view c.read_entry-version.new.pass) (view c.put_entry.new.pass) a.o (loaded_put (view a.pass.now) (view c.read_entry-version.new.pass) a.o e.only) c.put_entry.ensures.only

pub returns-clause-words : goal.returns-clause-words
returns-clause-words c =
    let a = c.args in
    let e = c.read_entry-version.ensures in
    let at = entry_offset (slots (class_of (table_id a.table))) a.place 0 in
    c.put_entry.ensures.words
    ∙ (ap (λ (z : ContainerWords). with_table z at (c.read_entry-version.result + 1)) e.held
    ∙ ap (λ (n : ℕ). with_table (held_unboxed a.o (view a.pass.now)) at (n + 1)) e.found)

pub returns-clause-references : goal.returns-clause-references
returns-clause-references c b = c.put_entry.ensures.references b ∙ c.read_entry-version.ensures.only.boxes.references b

pub returns-clause-raw : goal.returns-clause-raw
returns-clause-raw c =
    let a = c.args in
    let k = shape_of a.bank.now in
    let v = view a.pass.now in
    let e = c.read_entry-version.ensures in
    let at = entry_offset (slots (class_of (table_id a.table))) a.place 0 in
    let keyed : IsKeyed (kind_in v.shape.starts a.o) = subst (λ (z : Shape). IsKeyed (kind_in z.starts a.o)) (sym c.requires.pass.1) c.requires.writes.keyed in
    let stands = entry_reads v a.o (table_id a.table) a.place 0 keyed c.requires.writes.root (omega arith) (λ z. absurd (omega (arith, z))) (λ z. absurd (omega (arith, z))) in
    c.put_entry.ensures.raw
    ∙ (ap (λ (z : ContainerWords). with_table z at (c.read_entry-version.result + 1)) (loaded_held v (view c.read_entry-version.new.pass) a.o e.only)
    ∙ ap (λ (n : ℕ). with_table (held_words a.o v) at (n + 1)) (e.found ∙ stands))

pub returns-clause-own : goal.returns-clause-own
returns-clause-own c =
    let v = view c.args.pass.now in
    let u = view c.read_entry-version.new.pass in
    keeps_then v u (view c.put_entry.new.pass) (keeps_loaded v u c.args.pass.now.possible c.read_entry-version.ensures.only) c.put_entry.ensures.own
