use Rattle.std.proofs.Common.{◌≡◌, ◌≢◌, ℕ, ◌+◌, ◌<◌, None, false, true≢false, sym, ap, ◌∙◌, subst, arith, get_or-set_other}
use Rattle.std.specs.Prelude.{slice_set}
use Rattle.ft_layout.specs.declared.slot.Stored.TheVariants.{Plain}
use Rattle.ft_layout.specs.Words.{stored_kind, stored_payload}
use Rattle.ft_model.specs.declared.data.Value.{Value}
use Rattle.ft_model.specs.declared.script.Kind.{Kind}
use Rattle.ft_model.specs.TableUses.{StoredWorld}
use Rattle.ft_trace.specs.declared.Shape.{Shape}
use Rattle.ft_trace.specs.declared.View.{View}
use Rattle.ft_trace.specs.Acts.{has_committed, mem}
use Rattle.ft_trace.specs.Addresses.{class_of, slots}
use Rattle.ft_trace.specs.Boxes.{named_in_container, references_held, StoresTaken}
use Rattle.ft_trace.specs.ContainerStates.{kind_in}
use Rattle.ft_trace.specs.EntryWrites.{value_puts}
use Rattle.ft_trace.specs.Holds.{held_words, held_unboxed, known_state}
use Rattle.ft_trace.specs.Kinds.{rows}
use Rattle.ft_trace.specs.Pictures.{ContainerWords, entry_field, entry_offset}
use Rattle.ft_trace.specs.WholeWrites.{MayPuts, with_puts}
use Rattle.ft_trace.proofs.Cases.{hit}
use Rattle.ft_trace.proofs.Tellings.{equal_both}
use Rattle.ft_bank.specs.BoxSteps.{kind_read, payload_read, HasReferenceFor}
use Rattle.ft_bank.specs.Passes.{shape_of, view}
use Rattle.ft_bank.specs.TableNames.{table_id}
use Rattle.ft_bank.specs.WriteSteps.{MayHave}
use Rattle.ft_search.specs.OneEntryWrites.{KnowsEntries, with_value_at}
use Rattle.ft_search.proofs.Changing.{Changing, kind_is}
use Rattle.ft_search.proofs.NamedEntries.{entry_named, box_named}
use Rattle.ft_search.proofs.OtherValues.{ValueLaws, values_here}
use Rattle.ft_search.proofs.Overs.{held_same}
use Rattle.ft_search.proofs.Owning.{keeps_begun}
use Rattle.ft_search.proofs.ReadyCommits.{begun_writes, entry_finishes, has_before, taken_before, whole_root, whole_write}
use Rattle.ft_search.proofs.valuing.store_entry.Goals as goal
use Rattle.ft_search.proofs.valuing.store_entry.Goals.{After-start_write, After-put_stored, After-words_follow_a_dict}

laws_here : After-words_follow_a_dict → ValueLaws
laws_here c =
    let laws = c.versions_change_nothing.ensures in
    record {
      versions = λ walk room texts mask used words place version within table. laws.entries walk room texts mask used words _ within (laws.entry mask words place version) table;
      first = c.used_entries_follow_a_dict.ensures.first;
      lives = c.used_entries_follow_a_dict.ensures.live;
      follow = c.words_follow_a_dict.ensures.changed;
    }

knows : (c : After-words_follow_a_dict) → KnowsEntries (shape_of c.args.bank.now) c.args.d (view c.args.pass.now)
knows c = let may = c.requires.may in record { container = may.container; keyed = may.keyed; locked = may.locked; even = may.even c.args.d; stands = may.stands }

value_of : (c : After-words_follow_a_dict) → Value
value_of c = c.requires.changes.value

change : (c : After-words_follow_a_dict) → Changing (shape_of c.args.bank.now).texts (table_id c.args.table) (held_unboxed c.args.d (view c.args.pass.now)) (known_state c.args.d (view c.args.pass.now)) c.args.place (value_puts (slots (class_of (table_id c.args.table))) (held_unboxed c.args.d (view c.args.pass.now)).table c.args.place None c.requires.changes.value)
    (record { content = with_value_at (known_state c.args.d (view c.args.pass.now)).content c.requires.changes.key c.requires.changes.value; table = (known_state c.args.d (view c.args.pass.now)).table })
change c =
    let a = c.args in
    let x = c.requires.changes in
    let n = slots (class_of (table_id a.table)) in
    let table = (held_unboxed a.d (view a.pass.now)).table in
    (values_here (laws_here c) (shape_of a.bank.now) a.d a.table (view a.pass.now) c.requires.pass.1 a.pass.now.possible (knows c) c.requires.dict c.requires.table a.place x.key x.value x.reads.fits x.entry).0
    (λ says.
    let yes = equal_both (entry_field n table a.place 4) (stored_kind (Plain x.value)) (entry_field n table a.place 5) (stored_payload (Plain x.value)) says.0 says.1 in
    true≢false (sym yes ∙ x.other))

-- ---- once the write has begun

pub put_stored-requires-clause-writes : goal.put_stored-requires-clause-writes
put_stored-requires-clause-writes c =
    let a = c.args in
    begun_writes (shape_of a.bank.now) a.d a.table (view a.pass.now) (view c.start_write.new.pass) c.start_write.result c.start_write.ensures.1 c.requires.may c.requires.table

pub put_stored-requires-clause-place : goal.put_stored-requires-clause-place
put_stored-requires-clause-place c = c.requires.changes.entry.low

pub put_stored-requires-clause-early : goal.put_stored-requires-clause-early
put_stored-requires-clause-early c =
    let a = c.args in
    ap (λ (z : View). has_committed a.d z.log) c.start_write.ensures.1 ∙ hit a.d false (has_committed a.d (view a.pass.now).log)

-- what is to be stored is so still, and reads the same
keeps_then_begun : (c : After-start_write) → HasReferenceFor (view c.start_write.new.pass) (stored_kind c.args.stored) (stored_payload c.args.stored) × (kind_read (view c.start_write.new.pass) (stored_kind c.args.stored) (stored_payload c.args.stored) ≡ kind_read (view c.args.pass.now) (stored_kind c.args.stored) (stored_payload c.args.stored)) × (payload_read (view c.start_write.new.pass) (stored_kind c.args.stored) (stored_payload c.args.stored) ≡ payload_read (view c.args.pass.now) (stored_kind c.args.stored) (stored_payload c.args.stored))
keeps_then_begun c = keeps_begun (view c.args.pass.now) (view c.start_write.new.pass) c.args.d c.start_write.result c.start_write.ensures.1 (stored_kind c.args.stored) (stored_payload c.args.stored) c.requires.own

pub put_stored-requires-clause-own : goal.put_stored-requires-clause-own
put_stored-requires-clause-own c = (keeps_then_begun (goal.at.put_stored-requires-clause-own c).After-start_write).0

pub put_stored-requires-clause-may : goal.put_stored-requires-clause-may
put_stored-requires-clause-may c =
    let a = c.args in
    let k = shape_of a.bank.now in
    let v = view a.pass.now in
    let value = c.requires.changes.value in
    let kind_eq = kind_is k v a.d c.requires.pass.1 a.pass.now.possible c.requires.may.locked in
    let puts = (change (goal.at.put_stored-requires-clause-may c).After-words_follow_a_dict).puts in (
      value,
      subst (λ (z : View). MayPuts (kind_in k.starts a.d) (table_id a.table) (known_state a.d z).content false (held_unboxed a.d z) (value_puts (slots (class_of (table_id a.table))) (held_unboxed a.d z).table a.place None value)) (sym c.start_write.ensures.1)
          (subst (λ (z : Kind). MayPuts z (table_id a.table) (known_state a.d v).content false (held_unboxed a.d v) (value_puts (slots (class_of (table_id a.table))) (held_unboxed a.d v).table a.place None value)) kind_eq puts),
    )

-- ---- once the value is put

words_put : (c : After-put_stored) → held_unboxed c.args.d (view c.put_stored.new.pass) ≡ with_puts (held_unboxed c.args.d (view c.args.pass.now)) (value_puts (slots (class_of (table_id c.args.table))) (held_unboxed c.args.d (view c.args.pass.now)).table c.args.place None c.requires.changes.value)
words_put c =
    let a = c.args in
    let value = c.requires.changes.value in
    let reads = c.requires.changes.reads in
    let keeps = keeps_begun (view a.pass.now) (view c.start_write.new.pass) a.d c.start_write.result c.start_write.ensures.1 (stored_kind a.stored) (stored_payload a.stored) c.requires.own in
    let before : held_unboxed a.d (view c.start_write.new.pass) ≡ held_unboxed a.d (view a.pass.now) = ap (held_unboxed a.d) c.start_write.ensures.1 in
    c.put_stored.ensures.words value (keeps.1 ∙ reads.kind_is) (keeps.2 ∙ reads.payload_is)
    ∙ (λ i. with_puts (before i) (value_puts (slots (class_of (table_id a.table))) (before i).table a.place None value))

-- a box that no write of the pass has stored is stored by this one
stores_then : (c : After-put_stored) → (stored : StoredWorld) → MayHave (view c.put_stored.new.pass) stored → StoresTaken (view c.put_stored.new.pass).shape stored.world (view c.put_stored.new.pass).log c.args.called.now
stores_then c stored has =
    let a = c.args in
    let v = view a.pass.now in
    let s = view c.start_write.new.pass in
    let u = view c.put_stored.new.pass in
    let e = c.put_stored.ensures in
    let x = c.requires.changes in
    let before = taken_before a.d v s u c.start_write.result c.start_write.ensures.1 e.only in
    let old : MayHave v stored = has_before a.d v s u c.start_write.result c.start_write.ensures.1 e.only stored has in
    let row : a.place < rows (kind_in u.shape.starts a.d) (class_of (table_id a.table)) = subst (λ (z : Shape). a.place < rows (kind_in z.starts a.d) (class_of (table_id a.table))) (sym e.pass.1) x.entry.low in (
      (λ b taken.
          let was = before b taken in
          let names = box_named b (stored_kind a.stored) (stored_payload a.stored) (c.requires.stores.named b was) in (
            subst (λ (n : ℕ). named_in_container u.shape b n (mem u.shape u.log) ≢ 0) (sym x.leaves.changed)
                (entry_named (shape_of a.bank.now) u a.d (table_id a.table) a.place b e.pass.1 e.writes.keyed e.writes.root row (e.raw.0 ∙ names.0) (e.raw.1 ∙ names.1)),
            c.requires.stores.boxing b was stored old,
          )),
      (λ b n one two.
          let first = box_named b (stored_kind a.stored) (stored_payload a.stored) (c.requires.stores.named b (before b one)) in
          let second = box_named n (stored_kind a.stored) (stored_payload a.stored) (c.requires.stores.named n (before n two)) in
          sym first.1 ∙ second.1),
    )

pub finish_entry-requires-clause-place : goal.finish_entry-requires-clause-place
finish_entry-requires-clause-place c = c.requires.changes.entry.low

pub finish_entry-requires-clause-may : goal.finish_entry-requires-clause-may
finish_entry-requires-clause-may c =
    let a = c.args in
    let k = shape_of a.bank.now in
    let v = view a.pass.now in
    let e = c.put_stored.ensures in
    let p = (goal.at.finish_entry-requires-clause-may c).After-put_stored in
    let d = change (goal.at.finish_entry-requires-clause-may c).After-words_follow_a_dict in
    entry_finishes k a.d a.table v (view c.start_write.new.pass) (view c.put_stored.new.pass) c.start_write.result c.requires.may c.requires.pass.1 c.start_write.ensures.1 e.only a.place (value_puts (slots (class_of (table_id a.table))) (held_unboxed a.d v).table a.place None c.requires.changes.value) _ d
    (kind_is k v a.d c.requires.pass.1 a.pass.now.possible c.requires.may.locked)
    (words_put p) e.writes.root a.called.now a.said.now c.requires.changes.leaves (stores_then p)

pub returns-clause-wrote : goal.returns-clause-wrote
returns-clause-wrote c =
    let a = c.args in
    whole_write a.d (view a.pass.now) (view c.start_write.new.pass) (view c.put_stored.new.pass) c.start_write.result c.start_write.ensures.1 c.put_stored.ensures.only a.called.now a.said.now c.finish_entry.result (view c.finish_entry.new.pass) c.requires.changes.leaves.changed (c.requires.may.even a.d) c.finish_entry.ensures.ends (c.put_stored.ensures.writes.root ∙ sym c.requires.table.root)

pub returns-clause-root : goal.returns-clause-root
returns-clause-root c =
    let a = c.args in
    whole_root a.d (view a.pass.now) (view c.start_write.new.pass) (view c.put_stored.new.pass) c.start_write.result c.start_write.ensures.1 c.put_stored.ensures.only a.called.now a.said.now c.finish_entry.result (view c.finish_entry.new.pass) c.requires.changes.leaves.changed c.finish_entry.ensures.ends (c.put_stored.ensures.writes.root ∙ sym c.requires.table.root)

pub returns-clause-references : goal.returns-clause-references
returns-clause-references c b =
    let k = shape_of c.args.bank.now in
    let v = view c.args.pass.now in
    let s = view c.start_write.new.pass in
    let u = view c.put_stored.new.pass in
    let shape : s.shape ≡ k = ap (λ (z : View). z.shape) c.start_write.ensures.1 ∙ c.requires.pass.1 in
    let begun = held_same k v s c.requires.pass.1 shape (λ n. ap (λ (z : View). references_held z.shape n z.log) c.start_write.ensures.1) b in
    let put = c.put_stored.ensures.references b in
    let done = held_same k u (view c.finish_entry.new.pass) c.put_stored.ensures.pass.1 c.finish_entry.ensures.pass.1 c.finish_entry.ensures.references b in
    omega (arith, begun, put, done)

-- ---- what the entry has then

pub returns-clause-raw : goal.returns-clause-raw
returns-clause-raw c =
    let a = c.args in
    let n = slots (class_of (table_id a.table)) in
    let e = c.put_stored.ensures in
    let x = held_words a.d (view c.put_stored.new.pass) in
    let field = λ (z : ContainerWords) (w : ℕ). entry_field n z.table a.place w in
    let version = entry_field n x.table a.place 0 + 1 in (
      ap (λ (z : ContainerWords). field z 4) c.finish_entry.ensures.raw ∙ (get_or-set_other x.table (entry_offset n a.place 0) (entry_offset n a.place 4) version 0 (λ z. absurd (omega (arith, z))) ∙ e.raw.0),
      ap (λ (z : ContainerWords). field z 5) c.finish_entry.ensures.raw ∙ (get_or-set_other x.table (entry_offset n a.place 0) (entry_offset n a.place 5) version 0 (λ z. absurd (omega (arith, z))) ∙ e.raw.1),
    )

pub returns-clause-live : goal.returns-clause-live
returns-clause-live c key live =
    let a = c.args in
    let p = (goal.at.returns-clause-live c).After-put_stored in
    let n = slots (class_of (table_id a.table)) in
    let x = held_unboxed a.d (view a.pass.now) in
    let y = held_unboxed a.d (view c.put_stored.new.pass) in
    let value = c.requires.changes.value in
    let one = slice_set x.table (entry_offset n a.place 0) (entry_field n x.table a.place 0 + 1) in
    let two = slice_set one (entry_offset n a.place 4) (stored_kind (Plain value)) in
    let same : (w : ℕ) → 0 < w → w < 4 → entry_field n (held_unboxed a.d (view c.finish_entry.new.pass)).table a.place w ≡ entry_field n x.table a.place w =
    λ w some few.
    ap (λ (z : ContainerWords). entry_field n z.table a.place w) c.finish_entry.ensures.words
    ∙ (get_or-set_other y.table (entry_offset n a.place 0) (entry_offset n a.place w) (entry_field n y.table a.place 0 + 1) 0 (λ z. absurd (omega (arith, z, some)))
    ∙ (ap (λ (z : ContainerWords). entry_field n z.table a.place w) (words_put p)
    ∙ (get_or-set_other two (entry_offset n a.place 5) (entry_offset n a.place w) (stored_payload (Plain value)) 0 (λ z. absurd (omega (arith, z, few)))
    ∙ (get_or-set_other one (entry_offset n a.place 4) (entry_offset n a.place w) (stored_kind (Plain value)) 0 (λ z. absurd (omega (arith, z, few)))
    ∙ get_or-set_other x.table (entry_offset n a.place 0) (entry_offset n a.place w) (entry_field n x.table a.place 0 + 1) 0 (λ z. absurd (omega (arith, z, some))))))) in
    (same 2 (omega arith) (omega arith) ∙ live.0, same 3 (omega arith) (omega arith) ∙ live.1)
