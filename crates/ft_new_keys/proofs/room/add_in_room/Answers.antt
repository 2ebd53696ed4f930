use Rattle.std.proofs.Common.{◌≡◌, ℕ, ◌+◌, ◌%◌, ◌^◌, ◌<◌, [], Some, refl, sym, ap, ◌∙◌, subst, arith}
use Rattle.ft_layout.specs.Words.{stored_kind, stored_payload}
use Rattle.ft_model.specs.declared.script.Kind.{Kind}
use Rattle.ft_trace.specs.declared.Act.TheVariants.{StartWrite}
use Rattle.ft_trace.specs.declared.View.{View}
use Rattle.ft_trace.specs.Addresses.{class_of, slots}
use Rattle.ft_trace.specs.Boxes.{place_use, references_held}
use Rattle.ft_trace.specs.Carefuls.{HasLiveKey}
use Rattle.ft_trace.specs.Holds.{held_unboxed, known_state}
use Rattle.ft_trace.specs.Kinds.{rows}
use Rattle.ft_trace.specs.Pictures.{ContainerWords, entry_field}
use Rattle.ft_trace.specs.ContainerStates.{kind_in}
use Rattle.ft_bank.specs.Passes.{shape_of, view}
use Rattle.ft_bank.specs.SameBoxes.{SameReferences, StaysSettled}
use Rattle.ft_bank.specs.TableNames.{table_id}
use Rattle.ft_bank.specs.Whole.{OnlyWritten}
use Rattle.ft_bank.proofs.DoneBoxes.{settled_then}
use Rattle.ft_bank.proofs.KnownAfterWrites.{written_then}
use Rattle.ft_boxes.proofs.Steps.{keeps_by}
use Rattle.ft_search.specs.Rounds.{kind_by}
use Rattle.ft_search.proofs.Changing.{Changing, kind_is}
use Rattle.ft_search.proofs.Overs.{held_same}
use Rattle.ft_search.proofs.ReadyCommits.{begun_writes, settled_begun, whole_root, whole_write}
use Rattle.ft_new_keys.specs.HeldKeys.{HoldsFor}
use Rattle.ft_new_keys.specs.KeyGrowth.{KnowsKeyed}
use Rattle.ft_new_keys.specs.Placing.{with_key}
use Rattle.ft_new_keys.specs.Internal.Laying.{IsUnused, with_entry}
use Rattle.ft_new_keys.proofs.FinishedKeys.{has_since, key_finishes, since_start}
use Rattle.ft_new_keys.proofs.HeldKeys.{holds_on, named_done, names_closed, reads_entry, stores_boxed}
use Rattle.ft_new_keys.proofs.Keyed.{counts_known, fresh_known, knows_of, shut_here}
use Rattle.ft_new_keys.proofs.Placed.{Fresh, PlaceLaws, opened_now, pair_for, place_unused, places_key, said_now, stores_plain, use_with}
use Rattle.ft_new_keys.proofs.room.add_in_room.Goals as goal
use Rattle.ft_new_keys.proofs.room.add_in_room.Goals.{After-start_write, After-put_key, After-name_box}

laws : After-start_write → PlaceLaws
laws c =
    let v = c.versions_change_nothing.ensures in
    record {
      versions = λ walk room texts mask used words place version within table. v.entries walk room texts mask used words _ within (v.entry mask words place version) table;
      first_pair = c.used_entries_follow_a_dict.ensures.first;
      first_element = c.used_entries_follow_a_set.ensures.first;
      placed = c.placed_pairs_are_of_a_table.ensures;
      pair_added = c.words_follow_a_dict.ensures.added;
      element_added = c.words_follow_a_set.ensures.added;
      head = c.words_are_of_one_content.ensures.head;
    }

knows : (c : After-start_write) → KnowsKeyed (shape_of c.args.bank.now) c.args.o (Some c.args.table) (view c.args.pass.now)
knows c =
    let may = c.requires.may in
    knows_of (shape_of c.args.bank.now) c.args.o c.args.table (view c.args.pass.now) (record { container = may.container; keyed = may.keyed; locked = may.locked; even = may.even c.args.o; stands = may.stands }) c.requires.table

fresh : (c : After-start_write) → Fresh (shape_of c.args.bank.now).texts (held_unboxed c.args.o (view c.args.pass.now)) (table_id c.args.table) c.args.slot c.args.counts (known_state c.args.o (view c.args.pass.now)).content c.args.key c.args.value.stored
fresh c =
    let a = c.args in
    let low = subst (λ (z : ℕ). z < 2 ^ 64) c.hash_of-hash.ensures c.hash_of-hash.type_inv in
    fresh_known c.words_are_of_one_content.ensures.head (shape_of a.bank.now) a.o a.table (view a.pass.now) c.requires.pass.1 a.pass.now.possible (knows c) a.way c.requires.way a.slot a.counts a.key a.value.stored c.requires.counts c.requires.fits low c.requires.stores c.requires.value c.requires.absent c.requires.slot c.requires.room

pair : (c : After-start_write) → pair_for (shape_of c.args.bank.now).texts (known_state c.args.o (view c.args.pass.now)).content c.args.key c.args.value.stored ≡ record { hash = c.hash_of-hash.result; key = c.args.key; value = c.args.value.stored; serial = c.args.counts.next }
pair c =
    let a = c.args in
    let n = (counts_known c.words_are_of_one_content.ensures.head (shape_of a.bank.now) a.o (Some a.table) (view a.pass.now) a.counts (knows c) c.requires.counts).1 in
    λ i. record { hash = sym c.hash_of-hash.ensures i; key = a.key; value = a.value.stored; serial = sym n i }

pub put_key-requires-clause-unused : goal.put_key-requires-clause-unused
put_key-requires-clause-unused c =
    let a = c.args in
    let k = shape_of a.bank.now in
    let v = view a.pass.now in
    let d = (goal.at.put_key-requires-clause-unused c).After-start_write in
    let n = slots (class_of (table_id a.table)) in
    subst (λ (z : View). IsUnused n (rows (kind_in k.starts a.o) (class_of (table_id a.table))) (held_unboxed a.o z).table a.slot a.counts.fill) (sym c.start_write.ensures.1)
    (subst (λ (z : Kind). IsUnused n (rows z (class_of (table_id a.table))) (held_unboxed a.o v).table a.slot a.counts.fill) (kind_is k v a.o c.requires.pass.1 a.pass.now.possible c.requires.may.locked)
    (place_unused (laws d) k.texts (held_unboxed a.o v) (table_id a.table) a.slot a.counts (known_state a.o v).content a.key a.value.stored (fresh d)))

pub put_key-requires-clause-writes : goal.put_key-requires-clause-writes
put_key-requires-clause-writes c =
    begun_writes (shape_of c.args.bank.now) c.args.o c.args.table (view c.args.pass.now) (view c.start_write.new.pass) c.start_write.result c.start_write.ensures.1 c.requires.may c.requires.table

-- ---- once the pair is put

pub put_key-requires-clause-value : goal.put_key-requires-clause-value
put_key-requires-clause-value c = (c.requires.value, stores_plain (kind_by c.args.way) c.args.value.stored c.requires.stores)

-- the words, whose entry has the key and the value
words_of : (d : After-start_write) (u : View) (p : with_entry (table_id d.args.table) d.args.slot d.args.counts (record { hash = d.hash_of-hash.result; key = d.args.key; value = d.args.value.stored; serial = d.args.counts.next }) (held_unboxed d.args.o (view d.start_write.new.pass)) ≡ held_unboxed d.args.o u) → with_entry (table_id d.args.table) d.args.slot d.args.counts (pair_for (shape_of d.args.bank.now).texts (known_state d.args.o (view d.args.pass.now)).content d.args.key d.args.value.stored) (held_unboxed d.args.o (view d.args.pass.now)) ≡ held_unboxed d.args.o u
words_of d u p =
    let a = d.args in
    let begun = d.start_write.ensures.1 in
    (λ i. with_entry (table_id a.table) a.slot a.counts (pair d i) (held_unboxed a.o (sym begun i))) ∙ p

-- what the pass has of the box
holds_u : (c : After-put_key) → HoldsFor c.args.value.boxed c.args.value.stored (view c.put_key.new.pass)
holds_u c =
    let v = view c.args.pass.now in
    let s = view c.start_write.new.pass in
    let u = view c.put_key.new.pass in
    let begun = c.start_write.ensures.1 in
    let shape : s.shape ≡ v.shape = ap (λ (z : View). z.shape) begun in
    let same : SameReferences v s = λ b. ap (λ (z : View). references_held z.shape b z.log) begun in
    let settled : StaysSettled v s = record { settled = λ x. settled_begun c.args.o v s c.start_write.result begun x; places = λ b taken. ap (λ (z : View). place_use b z.log) (sym begun) ∙ taken } in
    let first = holds_on c.args.value.boxed c.args.value.stored v s shape same settled (keeps_by v s (StartWrite c.args.o c.start_write.result) (λ k b i n which. refl) begun) c.requires.holds in
    let e = c.put_key.ensures in
    holds_on c.args.value.boxed c.args.value.stored s u e.only.work.pass.shape e.references e.only.made e.values first

kind_place : (c : After-start_write) → c.args.counts.fill < rows (kind_in (shape_of c.args.bank.now).starts c.args.o) (class_of (table_id c.args.table))
kind_place c = subst (λ (z : Kind). c.args.counts.fill < rows z (class_of (table_id c.args.table))) (sym c.requires.way) c.requires.room

-- the entry's version is odd, and it has the key and what is stored
entry_then : (d : After-start_write) (u : View) → with_entry (table_id d.args.table) d.args.slot d.args.counts (record { hash = d.hash_of-hash.result; key = d.args.key; value = d.args.value.stored; serial = d.args.counts.next }) (held_unboxed d.args.o (view d.start_write.new.pass)) ≡ held_unboxed d.args.o u
    → (entry_field (slots (class_of (table_id d.args.table))) (held_unboxed d.args.o u).table d.args.counts.fill 0 % 2 ≡ 1)
    × HasLiveKey (slots (class_of (table_id d.args.table))) (held_unboxed d.args.o u).table d.args.counts.fill d.args.key
    × (entry_field (slots (class_of (table_id d.args.table))) (held_unboxed d.args.o u).table d.args.counts.fill 4 ≡ stored_kind d.args.value.stored)
    × (entry_field (slots (class_of (table_id d.args.table))) (held_unboxed d.args.o u).table d.args.counts.fill 5 ≡ stored_payload d.args.value.stored)
entry_then d u p =
    let a = d.args in
    let k = shape_of a.bank.now in
    let v = view a.pass.now in
    let n = slots (class_of (table_id a.table)) in
    let content = (known_state a.o v).content in
    let said = said_now (laws d) k.texts (held_unboxed a.o v) (table_id a.table) a.slot a.counts content a.key a.value.stored (fresh d) in
    let odd = opened_now (laws d) k.texts (held_unboxed a.o v) (table_id a.table) a.slot a.counts content a.key a.value.stored (fresh d) in
    let even = (fresh d).even in
    subst (λ (x : ContainerWords). (entry_field n x.table a.counts.fill 0 % 2 ≡ 1) × HasLiveKey n x.table a.counts.fill a.key × (entry_field n x.table a.counts.fill 4 ≡ stored_kind a.value.stored) × (entry_field n x.table a.counts.fill 5 ≡ stored_payload a.value.stored)) (words_of d u p)
    (omega (arith, odd, even), said.0, said.1, said.2)

pub name_box-requires-clause-place : goal.name_box-requires-clause-place
name_box-requires-clause-place c = kind_place (goal.at.name_box-requires-clause-place c).After-start_write

pub name_box-requires-clause-odd : goal.name_box-requires-clause-odd
name_box-requires-clause-odd c = (entry_then (goal.at.name_box-requires-clause-odd c).After-start_write (view c.put_key.new.pass) (sym c.put_key.ensures.words)).0

pub name_box-requires-clause-own : goal.name_box-requires-clause-own
name_box-requires-clause-own c =
    let a = c.args in
    let said = (entry_then (goal.at.name_box-requires-clause-own c).After-start_write (view c.put_key.new.pass) (sym c.put_key.ensures.words)) in
    reads_entry a.o (table_id a.table) a.counts.fill a.value.boxed a.value.stored (view c.put_key.new.pass) (holds_u (goal.at.name_box-requires-clause-own c).After-put_key) said.2 said.3

-- ---- once the box is named

puts_all : (c : After-name_box) → OnlyWritten c.args.o (view c.start_write.new.pass) (view c.name_box.new.pass)
puts_all c = written_then c.args.o (view c.start_write.new.pass) (view c.put_key.new.pass) (view c.name_box.new.pass) c.put_key.ensures.only c.name_box.ensures.only

pub finish_entry-requires-clause-place : goal.finish_entry-requires-clause-place
finish_entry-requires-clause-place c = kind_place (goal.at.finish_entry-requires-clause-place c).After-start_write

pub finish_entry-requires-clause-may : goal.finish_entry-requires-clause-may
finish_entry-requires-clause-may c =
    let a = c.args in
    let k = shape_of a.bank.now in
    let v = view a.pass.now in
    let s = view c.start_write.new.pass in
    let q = view c.name_box.new.pass in
    let t = table_id a.table in
    let n = c.name_box.ensures in
    let d = (goal.at.finish_entry-requires-clause-may c).After-start_write in
    let all = puts_all (goal.at.finish_entry-requires-clause-may c).After-name_box in
    let since = since_start a.o v s q c.start_write.result c.start_write.ensures.1 all in
    let words = words_of d q (sym (n.words ∙ c.put_key.ensures.words)) in
    let none = c.requires.may.owes in
    key_finishes a.o v q since k a.table a.counts.fill a.called.now a.said.now _ c.requires.leaves c.requires.pass.1 c.requires.may.container c.requires.may.left
    (stores_boxed k a.o t a.counts.fill a.value.boxed a.value.stored a.called.now v q n.pass.1 n.writes.keyed n.writes.root (kind_place d) c.requires.leaves.changed c.requires.holds c.requires.boxing since.places (has_since a.o v q since) n.names)
    (λ found class has owed. absurd (omega (arith, none, owed)))
    (kind_is k v a.o c.requires.pass.1 a.pass.now.possible c.requires.may.locked) (known_state a.o v).table
    (subst (λ (x : ContainerWords). Changing k.texts t x (known_state a.o v) a.counts.fill [] (record { content = with_key (known_state a.o v).content a.key a.value.stored; table = use_with (class_of t) (a.counts.fill + 1) })) words
    (places_key (laws d) k.texts (held_unboxed a.o v) t a.slot a.counts (known_state a.o v).content a.key a.value.stored (fresh d) (shut_here c.words_are_of_one_content.ensures.head k a.o a.table v c.requires.pass.1 a.pass.now.possible (knows d) a.way c.requires.way) (known_state a.o v).table))
    n.writes.root

pub returns-clause-there : goal.returns-clause-there
returns-clause-there c =
    let a = c.args in
    let k = shape_of a.bank.now in
    let u = view c.put_key.new.pass in
    let q = view c.name_box.new.pass in
    let w = view c.finish_entry.new.pass in
    let n = c.name_box.ensures in
    let f = c.finish_entry.ensures in
    let said = (entry_then (goal.at.returns-clause-there c).After-start_write q (sym (n.words ∙ c.put_key.ensures.words))) in
    record {
      boxes = named_done k a.value.boxed a.value.stored u w c.put_key.ensures.pass.1 (holds_u (goal.at.returns-clause-there c).After-put_key) (settled_then u q w n.only.made f.ends.made)
          (λ b.
          let moved = n.references b in
          let same = held_same k q w n.pass.1 f.pass.1 f.references b in
          omega (arith, moved, same))
          f.stored;
      names = names_closed a.o (table_id a.table) a.counts.fill a.key a.value.boxed q w f.words f.raw n.writes.root said.1 n.names;
    }

pub returns-clause-wrote : goal.returns-clause-wrote
returns-clause-wrote c =
    let a = c.args in
    whole_write a.o (view a.pass.now) (view c.start_write.new.pass) (view c.name_box.new.pass) c.start_write.result c.start_write.ensures.1 (puts_all (goal.at.returns-clause-wrote c).After-name_box) a.called.now a.said.now c.finish_entry.result (view c.finish_entry.new.pass) c.requires.leaves.changed (c.requires.may.even a.o) c.finish_entry.ensures.ends (c.name_box.ensures.writes.root ∙ sym c.requires.table.root)

pub returns-clause-root : goal.returns-clause-root
returns-clause-root c =
    let a = c.args in
    whole_root a.o (view a.pass.now) (view c.start_write.new.pass) (view c.name_box.new.pass) c.start_write.result c.start_write.ensures.1 (puts_all (goal.at.returns-clause-root c).After-name_box) a.called.now a.said.now c.finish_entry.result (view c.finish_entry.new.pass) c.requires.leaves.changed c.finish_entry.ensures.ends (c.name_box.ensures.writes.root ∙ sym c.requires.table.root)
