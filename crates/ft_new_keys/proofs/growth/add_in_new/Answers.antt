use Rattle.std.proofs.Common.{◌≡◌, ◌≢◌, false, ℕ, suc, ◌+◌, ◌%◌, ◌^◌, ◌<◌, List, [], ◌∷◌, filter, Some, None, sym, ap, ◌∙◌, subst, arith}
use Rattle.std.specs.Prelude.{All, slice_set}
use Rattle.ft_model.specs.declared.content.Content.{Content}
use Rattle.ft_model.specs.declared.script.Kind.{Kind}
use Rattle.ft_model.specs.Worlds.{kind_of, length_of}
use Rattle.ft_layout.specs.Containers.{class_mask}
use Rattle.ft_layout.specs.Tables.{UsedEntry, is_live, hash_of}
use Rattle.ft_layout.specs.Words.{stored_kind, stored_payload}
use Rattle.ft_keys.specs.Ways.{IsTableOf}
use Rattle.ft_trace.specs.declared.Shape.{Shape}
use Rattle.ft_trace.specs.declared.View.{View}
use Rattle.ft_trace.specs.Addresses.{container_count, class_of, slots}
use Rattle.ft_trace.specs.Holds.{held_words, held_unboxed, known_state, hand_unboxed}
use Rattle.ft_trace.specs.Kinds.{rows}
use Rattle.ft_trace.specs.Pictures.{ContainerWords, entry_field, root_in}
use Rattle.ft_trace.specs.Carefuls.{HasLiveKey}
use Rattle.ft_trace.specs.Traces.{IsReachable}
use Rattle.ft_trace.specs.ContainerStates.{ContainerState, kind_in}
use Rattle.ft_bank.specs.Passes.{shape_of, view}
use Rattle.ft_bank.specs.TableNames.{table_id}
use Rattle.ft_bank.specs.Whole.{OnlyLoaded, OnlyWritten}
use Rattle.ft_bank.specs.SameBoxes.{SameReferences, StaysSettled}
use Rattle.ft_bank.proofs.DoneBoxes.{settled_then, stays_settled_same}
use Rattle.ft_boxes.specs.References.{KeepsValues}
use Rattle.ft_bank.proofs.TableAddresses.{class_is}
use Rattle.ft_bank.proofs.KnownAfterWrites.{loaded_put, put_written, written_then}
use Rattle.ft_trace.specs.Acts.{has_committed}
use Rattle.ft_trace.proofs.Cases.{hit}
use Rattle.ft_search.specs.Held.{IsHeldAt}
use Rattle.ft_search.specs.Rounds.{kind_by}
use Rattle.ft_search.specs.OneEntryWrites.{Leaves, WritesEntries}
use Rattle.ft_search.proofs.Changing.{Changing, kind_is}
use Rattle.ft_search.proofs.Keeping.{loads_keep}
use Rattle.ft_search.proofs.Overs.{held_same}
use Rattle.ft_search.proofs.Puts.{writes_on}
use Rattle.ft_new_keys.specs.declared.counts.Counts.{Counts}
use Rattle.ft_new_keys.specs.HeldKeys.{HoldsFor, MayPutInNew}
use Rattle.ft_new_keys.specs.KeyGrowth.{MayBeginKeyed, IsFreeFor}
use Rattle.ft_new_keys.specs.Placing.{AreCounts, with_key}
use Rattle.ft_new_keys.specs.Internal.Laying.{IsUnused, with_entry}
use Rattle.ft_new_keys.proofs.FinishedKeys.{adds_leaves, has_since, key_finishes, since_root}
use Rattle.ft_new_keys.proofs.Grown.{grown_wrote, put_filled, leaves_filled, same_filled, words_filled, filled_has}
use Rattle.ft_new_keys.proofs.HeldKeys.{few_held, holds_on, named_done, names_closed, reads_entry, settled_rooted, stores_boxed}
use Rattle.ft_new_keys.proofs.Keyed.{counts_known}
use Rattle.ft_new_keys.proofs.Placed.{Fresh, PlaceLaws, opened_now, pair_for, place_unused, places_key, said_now, stores_plain, use_with}
use Rattle.ft_new_keys.proofs.Rooted.{absent_in, filled_says, fresh_rooted, shut_rooted}
use Rattle.ft_new_keys.proofs.Wanted.{grown_use}
use Rattle.ft_new_keys.proofs.growth.add_in_new.Goals as goal
use Rattle.ft_new_keys.proofs.growth.add_in_new.Goals.{After-move_entries, After-name_box}

laws : After-move_entries → PlaceLaws
laws c =
    let v = c.versions_change_nothing.ensures in
    record {
      versions = λ walk room texts mask used words place version within table. v.entries walk room texts mask used words _ within (v.entry mask words place version) table;
      first_pair = c.used_entries_follow_a_dict.ensures.first;
      first_element = c.used_entries_follow_a_set.ensures.first;
      placed = c.placed_pairs_are_of_a_table.ensures;
      pair_added = c.words_follow_a_dict.ensures.added;
      element_added = c.words_follow_a_set.ensures.added;
      head = c.words_are_of_one_content.ensures.head;
    }

pub move_entries-requires-clause-fill : goal.move_entries-requires-clause-fill
move_entries-requires-clause-fill c =
    let a = c.args in
    let k = shape_of a.bank.now in
    let v = view a.pass.now in
    let head = c.words_are_of_one_content.ensures.head k.texts (held_unboxed a.o v).block (0 ∷ 0 ∷ (held_unboxed a.o v).table) (known_state a.o v).table (known_state a.o v).content c.requires.may.keyed.stands in
    sym c.requires.counts.1 ∙ head.fill_is

pub move_entries-requires-clause-room : goal.move_entries-requires-clause-room
move_entries-requires-clause-room c =
    let a = c.args in
    let n = (counts_known c.words_are_of_one_content.ensures.head (shape_of a.bank.now) a.o a.old (view a.pass.now) a.counts c.requires.may.keyed c.requires.counts).0 in
    let room = c.requires.room in
    omega (arith, n, room)

-- ---- the table is filled

grow : (c : After-move_entries) → MayPutInNew (shape_of c.args.bank.now) c.args.o c.args.old c.args.table (view c.move_entries.new.pass)
grow c =
    let a = c.args in
    put_filled (shape_of a.bank.now) a.o a.old a.table (view a.pass.now) (view c.move_entries.new.pass) c.requires.pass.1 c.move_entries.ensures.only c.requires.may

-- what the pass has of the box
holds : (c : After-move_entries) → HoldsFor c.args.value.boxed c.args.value.stored (view c.move_entries.new.pass)
holds c =
    let v = view c.args.pass.now in
    let x = view c.move_entries.new.pass in
    let e = c.move_entries.ensures in
    holds_on c.args.value.boxed c.args.value.stored v x e.only.work.pass.shape e.only.references (stays_settled_same v x e.only.made) e.values c.requires.holds

begins : (c : After-move_entries) → MayBeginKeyed (shape_of c.args.bank.now) c.args.o c.args.old c.args.table (view c.move_entries.new.pass)
begins c =
    let g = grow c in
    let h = holds c in
    record {
      keyed = g.keyed;
      even = g.even;
      used = g.used;
      fresh = g.fresh;
      table_in = g.table_in;
      settled = h.settled;
      few = few_held c.args.value.boxed c.args.value.stored (view c.move_entries.new.pass) h;
    }

same : (c : After-move_entries) → (held_unboxed c.args.o (view c.move_entries.new.pass) ≡ held_unboxed c.args.o (view c.args.pass.now)) × (known_state c.args.o (view c.move_entries.new.pass) ≡ known_state c.args.o (view c.args.pass.now))
same c =
    let a = c.args in
    same_filled (shape_of a.bank.now) a.o a.old (view a.pass.now) (view c.move_entries.new.pass) c.requires.pass.1 c.move_entries.ensures.only c.requires.may.keyed

absent : (c : After-move_entries) → IsHeldAt (known_state c.args.o (view c.move_entries.new.pass)).content c.args.key None
absent c = subst (λ (z : ContainerState). IsHeldAt z.content c.args.key None) (sym (same c).1) c.requires.absent

counts : (c : After-move_entries) → AreCounts (held_unboxed c.args.o (view c.move_entries.new.pass)).block c.args.counts
counts c = subst (λ (z : ContainerWords). AreCounts z.block c.args.counts) (sym (same c).0) c.requires.counts

kind_eq : (c : After-move_entries) → kind_of (known_state c.args.o (view c.move_entries.new.pass)).content ≡ kind_in (shape_of c.args.bank.now).starts c.args.o
kind_eq c = kind_is (shape_of c.args.bank.now) (view c.move_entries.new.pass) c.args.o c.move_entries.ensures.pass.1 c.move_entries.new.pass.possible (grow c).keyed.locked

pub begin_in-requires-clause-may : goal.begin_in-requires-clause-may
begin_in-requires-clause-may c = begins (goal.at.begin_in-requires-clause-may c).After-move_entries

-- ---- the root names it

pub free_slot-slot-requires-clause-absent : goal.free_slot-slot-requires-clause-absent
free_slot-slot-requires-clause-absent c =
    let a = c.args in
    let k = shape_of a.bank.now in
    let d = (goal.at.free_slot-slot-requires-clause-absent c).After-move_entries in
    let x = view c.move_entries.new.pass in
    let l = laws d in
    let says = filled_says l.first_pair l.first_element l.head k a.o a.old a.table x (begins d) c.move_entries.ensures.pass.1 c.move_entries.new.pass.possible d.move_entries.ensures.moved in
    let there = absent_in k.texts _ (hand_unboxed a.o (table_id a.table) x) (class_of (table_id a.table)) (length_of (known_state a.o x).content) (known_state a.o x).content a.way a.key (kind_eq d ∙ c.requires.way) says (absent d) in
    let class = class_is a.table c.requires.may.table_in.2 in
    subst (λ (z : ℕ × ContainerWords). (used : List UsedEntry) × IsTableOf a.way k.texts (class_mask z.0) used (0 ∷ 0 ∷ z.1.table) × All (λ (e : UsedEntry). e.key ≢ a.key) (filter is_live used))
    (λ i. (class i, sym c.begin_in.ensures.words i)) there

-- the words once the root names the table
abbrev rooted : After-move_entries → ContainerWords
rooted c = record { block = slice_set (held_unboxed c.args.o (view c.move_entries.new.pass)).block 0 (suc (table_id c.args.table)); table = hand_unboxed c.args.o (table_id c.args.table) (view c.move_entries.new.pass) }

abbrev all : After-move_entries → Counts
all c = record { count = c.args.counts.count; fill = c.args.counts.count; next = c.args.counts.next }

-- the words after looks
looked : (c : After-move_entries) (y z : View) → y.shape ≡ shape_of c.args.bank.now → WritesEntries (shape_of c.args.bank.now) c.args.o c.args.table y → OnlyLoaded y z → held_unboxed c.args.o z ≡ held_unboxed c.args.o y
looked c y z shape writes l = l.unboxed c.args.o (subst (λ (k : Shape). c.args.o < container_count k) (sym shape) writes.container) writes.locked

-- what the new key finds there
fresh : (c : After-move_entries) (y : ContainerWords) (slot hash : ℕ) → y ≡ rooted c → hash ≡ hash_of (shape_of c.args.bank.now).texts c.args.key → hash < 2 ^ 64 → IsFreeFor (shape_of c.args.bank.now).texts c.args.way c.args.table.class c.args.key y.table slot → Fresh (shape_of c.args.bank.now).texts (rooted c) (table_id c.args.table) slot (all c) (known_state c.args.o (view c.move_entries.new.pass)).content c.args.key c.args.value.stored
fresh c y slot hash words is low free =
    let a = c.args in
    let k = shape_of a.bank.now in
    let x = view c.move_entries.new.pass in
    let l = laws c in
    let free_here : IsFreeFor k.texts a.way a.table.class a.key (hand_unboxed a.o (table_id a.table) x) slot = subst (λ (z : ContainerWords). IsFreeFor k.texts a.way a.table.class a.key z.table slot) words free in
    fresh_rooted l.first_pair l.first_element l.head k a.o a.old a.table x (begins c) c.move_entries.ensures.pass.1 c.move_entries.new.pass.possible c.move_entries.ensures.moved a.way c.requires.way slot a.counts a.key a.value.stored (counts c) c.requires.fits (subst (λ (z : ℕ). z < 2 ^ 64) is low) c.requires.stores c.requires.value (absent c) free_here c.requires.room

pair : (c : After-move_entries) (hash : ℕ) → hash ≡ hash_of (shape_of c.args.bank.now).texts c.args.key → pair_for (shape_of c.args.bank.now).texts (known_state c.args.o (view c.move_entries.new.pass)).content c.args.key c.args.value.stored ≡ record { hash = hash; key = c.args.key; value = c.args.value.stored; serial = c.args.counts.next }
pair c hash is =
    let a = c.args in
    let n = (counts_known (laws c).head (shape_of a.bank.now) a.o a.old (view c.move_entries.new.pass) a.counts (grow c).keyed (counts c)).1 in
    λ i. record { hash = sym is i; key = a.key; value = a.value.stored; serial = sym n i }

pub put_key-requires-clause-unused : goal.put_key-requires-clause-unused
put_key-requires-clause-unused c =
    let a = c.args in
    let k = shape_of a.bank.now in
    let d = (goal.at.put_key-requires-clause-unused c).After-move_entries in
    let x = view c.move_entries.new.pass in
    let y = view c.begin_in.new.pass in
    let n = slots (class_of (table_id a.table)) in
    let words = looked d y (view c.free_slot-slot.new.pass) c.begin_in.ensures.pass.1 c.begin_in.ensures.writes c.free_slot-slot.ensures.only ∙ c.begin_in.ensures.words in
    subst (λ (z : Kind × ContainerWords). IsUnused n (rows z.0 (class_of (table_id a.table))) z.1.table c.free_slot-slot.result a.counts.count) (λ i. (kind_eq d i, sym words i))
    (place_unused (laws d) k.texts (rooted d) (table_id a.table) c.free_slot-slot.result (all d) (known_state a.o x).content a.key a.value.stored (fresh d (held_unboxed a.o y) c.free_slot-slot.result c.hash_of-hash.result c.begin_in.ensures.words c.hash_of-hash.ensures c.hash_of-hash.type_inv c.free_slot-slot.ensures.slot))

pub put_key-requires-clause-writes : goal.put_key-requires-clause-writes
put_key-requires-clause-writes c =
    let o = c.args.o in
    let y = view c.begin_in.new.pass in
    let z = view c.free_slot-slot.new.pass in
    let l = c.free_slot-slot.ensures.only in
    writes_on (shape_of c.args.bank.now) o c.args.table y z c.begin_in.ensures.pass.1 (loaded_put y z o l) l.boxes.references
    (ap root_in (looked (goal.at.put_key-requires-clause-writes c).After-move_entries y z c.begin_in.ensures.pass.1 c.begin_in.ensures.writes l)) c.begin_in.ensures.writes

pub put_key-requires-clause-early : goal.put_key-requires-clause-early
put_key-requires-clause-early c =
    let o = c.args.o in
    let b = c.begin_in.ensures.begins in
    c.free_slot-slot.ensures.only.work.committed o
    ∙ (b.only.work.committed o
    ∙ (ap (λ (z : View). has_committed o z.log) b.is ∙ hit o false (has_committed o (view c.move_entries.new.pass).log)))

pub put_key-requires-clause-value : goal.put_key-requires-clause-value
put_key-requires-clause-value c = (c.requires.value, stores_plain (kind_by c.args.way) c.args.value.stored c.requires.stores)

-- the words of the new entry
made_of : (d : After-move_entries) (y z u : View) (slot hash : ℕ) → y.shape ≡ shape_of d.args.bank.now → WritesEntries (shape_of d.args.bank.now) d.args.o d.args.table y → held_unboxed d.args.o y ≡ rooted d → OnlyLoaded y z → hash ≡ hash_of (shape_of d.args.bank.now).texts d.args.key → held_unboxed d.args.o u ≡ with_entry (table_id d.args.table) slot (all d) (record { hash = hash; key = d.args.key; value = d.args.value.stored; serial = d.args.counts.next }) (held_unboxed d.args.o z)
    → with_entry (table_id d.args.table) slot (all d) (pair_for (shape_of d.args.bank.now).texts (known_state d.args.o (view d.move_entries.new.pass)).content d.args.key d.args.value.stored) (rooted d) ≡ held_unboxed d.args.o u
made_of d y z u slot hash shape writes root only is words =
    let seen = looked d y z shape writes only ∙ root in
    (λ i. with_entry (table_id d.args.table) slot (all d) (pair d hash is i) (sym seen i)) ∙ sym words

-- once the pair is put, the pass has what it had of the box
holds_put : (d : After-move_entries) (y z u : View) → y.shape ≡ (view d.move_entries.new.pass).shape → SameReferences (view d.move_entries.new.pass) y → StaysSettled (view d.move_entries.new.pass) y → KeepsValues (view d.move_entries.new.pass) y → ∥ IsReachable y ∥₁ → OnlyLoaded y z → OnlyWritten d.args.o z u → SameReferences z u → KeepsValues z u → HoldsFor d.args.value.boxed d.args.value.stored u
holds_put d y z u shape same stays keeps possible only puts references values =
    let x = view d.move_entries.new.pass in
    let boxed = d.args.value.boxed in
    let stored = d.args.value.stored in
    let one = holds_on boxed stored x y shape same stays keeps (holds d) in
    let two = holds_on boxed stored y z only.work.pass.shape only.boxes.references (stays_settled_same y z only.boxes.made) (loads_keep y z possible only) one in
    holds_on boxed stored z u puts.work.pass.shape references puts.made values two

-- the entry's version is odd, and it has the key and what is stored
entry_then : (d : After-move_entries) (slot hash : ℕ) (u : View) → Fresh (shape_of d.args.bank.now).texts (rooted d) (table_id d.args.table) slot (all d) (known_state d.args.o (view d.move_entries.new.pass)).content d.args.key d.args.value.stored
    → with_entry (table_id d.args.table) slot (all d) (pair_for (shape_of d.args.bank.now).texts (known_state d.args.o (view d.move_entries.new.pass)).content d.args.key d.args.value.stored) (rooted d) ≡ held_unboxed d.args.o u
    → (entry_field (slots (class_of (table_id d.args.table))) (held_unboxed d.args.o u).table d.args.counts.count 0 % 2 ≡ 1)
    × HasLiveKey (slots (class_of (table_id d.args.table))) (held_unboxed d.args.o u).table d.args.counts.count d.args.key
    × (entry_field (slots (class_of (table_id d.args.table))) (held_unboxed d.args.o u).table d.args.counts.count 4 ≡ stored_kind d.args.value.stored)
    × (entry_field (slots (class_of (table_id d.args.table))) (held_unboxed d.args.o u).table d.args.counts.count 5 ≡ stored_payload d.args.value.stored)
entry_then d slot hash u new made =
    let a = d.args in
    let k = shape_of a.bank.now in
    let n = slots (class_of (table_id a.table)) in
    let content = (known_state a.o (view d.move_entries.new.pass)).content in
    let said = said_now (laws d) k.texts (rooted d) (table_id a.table) slot (all d) content a.key a.value.stored new in
    let odd = opened_now (laws d) k.texts (rooted d) (table_id a.table) slot (all d) content a.key a.value.stored new in
    let even = new.even in
    subst (λ (z : ContainerWords). (entry_field n z.table a.counts.count 0 % 2 ≡ 1) × HasLiveKey n z.table a.counts.count a.key × (entry_field n z.table a.counts.count 4 ≡ stored_kind a.value.stored) × (entry_field n z.table a.counts.count 5 ≡ stored_payload a.value.stored)) made
    (omega (arith, odd, even), said.0, said.1, said.2)

place_low : (d : After-move_entries) → d.args.counts.count < rows (kind_in (shape_of d.args.bank.now).starts d.args.o) (class_of (table_id d.args.table))
place_low d = subst (λ (z : Kind). d.args.counts.count < rows z (class_of (table_id d.args.table))) (sym d.requires.way) d.requires.room

pub name_box-requires-clause-place : goal.name_box-requires-clause-place
name_box-requires-clause-place c = place_low (goal.at.name_box-requires-clause-place c).After-move_entries

pub name_box-requires-clause-odd : goal.name_box-requires-clause-odd
name_box-requires-clause-odd c =
    let a = c.args in
    let k = shape_of a.bank.now in
    let d = (goal.at.name_box-requires-clause-odd c).After-move_entries in
    let y = view c.begin_in.new.pass in
    let z = view c.free_slot-slot.new.pass in
    let u = view c.put_key.new.pass in
    let b = c.begin_in.ensures in
    let l = c.free_slot-slot.ensures.only in
    let new = fresh d (held_unboxed a.o y) c.free_slot-slot.result c.hash_of-hash.result b.words c.hash_of-hash.ensures c.hash_of-hash.type_inv c.free_slot-slot.ensures.slot in
    let made = made_of d y z u c.free_slot-slot.result c.hash_of-hash.result b.pass.1 b.writes b.words l c.hash_of-hash.ensures c.put_key.ensures.words in
    (entry_then d c.free_slot-slot.result c.hash_of-hash.result u new made).0

pub name_box-requires-clause-own : goal.name_box-requires-clause-own
name_box-requires-clause-own c =
    let a = c.args in
    let k = shape_of a.bank.now in
    let d = (goal.at.name_box-requires-clause-own c).After-move_entries in
    let y = view c.begin_in.new.pass in
    let z = view c.free_slot-slot.new.pass in
    let u = view c.put_key.new.pass in
    let b = c.begin_in.ensures in
    let l = c.free_slot-slot.ensures.only in
    let new = fresh d (held_unboxed a.o y) c.free_slot-slot.result c.hash_of-hash.result b.words c.hash_of-hash.ensures c.hash_of-hash.type_inv c.free_slot-slot.ensures.slot in
    let x = view c.move_entries.new.pass in
    let begun = b.begins in
    let shape_y : y.shape ≡ x.shape = begun.only.work.pass.shape ∙ ap (λ (v : View). v.shape) begun.is in
    let stays_y : StaysSettled x y = settled_then x begun.rooted y (settled_rooted a.o (suc (table_id a.table)) (root_in (held_words a.o x)) x begun.rooted begun.found begun.is) begun.only.made in
    let holds_u = holds_put d y z u shape_y b.references stays_y b.values c.begin_in.new.pass.possible l c.put_key.ensures.only c.put_key.ensures.references c.put_key.ensures.values in
    let made = made_of d y z u c.free_slot-slot.result c.hash_of-hash.result b.pass.1 b.writes b.words l c.hash_of-hash.ensures c.put_key.ensures.words in
    let said = (entry_then d c.free_slot-slot.result c.hash_of-hash.result u new made) in
    reads_entry a.o (table_id a.table) a.counts.count a.value.boxed a.value.stored u holds_u said.2 said.3

-- ---- once the box is named

puts : (c : After-name_box) → OnlyWritten c.args.o (view c.begin_in.new.pass) (view c.name_box.new.pass)
puts c =
    let o = c.args.o in
    let y = view c.begin_in.new.pass in
    let z = view c.free_slot-slot.new.pass in
    let u = view c.put_key.new.pass in
    let q = view c.name_box.new.pass in
    written_then o y u q (written_then o y z u (put_written o y z (loaded_put y z o c.free_slot-slot.ensures.only)) c.put_key.ensures.only) c.name_box.ensures.only

pub finish_entry-requires-clause-place : goal.finish_entry-requires-clause-place
finish_entry-requires-clause-place c = place_low (goal.at.finish_entry-requires-clause-place c).After-move_entries

pub finish_entry-requires-clause-may : goal.finish_entry-requires-clause-may
finish_entry-requires-clause-may c =
    let a = c.args in
    let k = shape_of a.bank.now in
    let d = (goal.at.finish_entry-requires-clause-may c).After-move_entries in
    let y = view c.begin_in.new.pass in
    let z = view c.free_slot-slot.new.pass in
    let u = view c.put_key.new.pass in
    let b = c.begin_in.ensures in
    let l = c.free_slot-slot.ensures.only in
    let new = fresh d (held_unboxed a.o y) c.free_slot-slot.result c.hash_of-hash.result b.words c.hash_of-hash.ensures c.hash_of-hash.type_inv c.free_slot-slot.ensures.slot in
    let v = view a.pass.now in
    let x = view c.move_entries.new.pass in
    let q = view c.name_box.new.pass in
    let t = table_id a.table in
    let n = c.name_box.ensures in
    let p = (goal.at.finish_entry-requires-clause-may c).After-name_box in
    let begun = b.begins in
    let content = (known_state a.o x).content in
    let made = made_of d y z q c.free_slot-slot.result c.hash_of-hash.result b.pass.1 b.writes b.words l c.hash_of-hash.ensures (n.words ∙ c.put_key.ensures.words) in
    let many = (counts_known (laws d).head k a.o a.old x a.counts (grow d).keyed (counts d)).0 in
    let first = adds_leaves a.o a.called.now a.said.now a.key a.value.stored v c.requires.adds c.requires.few _ (grown_use (known_state a.o v).content (class_of t) (known_state a.o v).table c.requires.takes) in
    let leaves : Leaves a.o a.called.now a.said.now (record { content = with_key content a.key a.value.stored; table = use_with (class_of t) (a.counts.count + 1) }) x =
    subst (λ (z : Content × ℕ). Leaves a.o a.called.now a.said.now (record { content = with_key z.0 a.key a.value.stored; table = use_with (class_of t) (z.1 + 1) }) x) (λ i. (sym (ap (λ (z : ContainerState). z.content) (same d).1) i, (ap (λ (z : ContainerState). length_of z.content) (sym (same d).1) ∙ sym many) i))
    (leaves_filled a.o a.called.now a.said.now _ v x c.move_entries.ensures.only first) in
    let since = since_root a.o t (root_in (held_words a.o x)) x begun.rooted q begun.found begun.is (written_then a.o begun.rooted y q begun.only (puts p)) in
    key_finishes a.o x q since k a.table a.counts.count a.called.now a.said.now _ leaves c.move_entries.ensures.pass.1 c.requires.may.keyed.container (grow d).left
    (stores_boxed k a.o t a.counts.count a.value.boxed a.value.stored a.called.now x q n.pass.1 n.writes.keyed n.writes.root (place_low d) c.requires.adds.changed (holds d) (λ box is found has. c.requires.boxing box is found (filled_has v x c.move_entries.ensures.only found has)) since.places (has_since a.o x q since) n.names)
    (λ found class has owed.
    let owes = (grow d).owed in
    let is : class_of t ≡ class = omega (arith, owed, owes) in
    c.requires.adds.takes found (filled_has v x c.move_entries.ensures.only found has) ∙ (c.requires.takes ∙ ap (λ (n : ℕ). Some n) is))
    (kind_eq d) (known_state a.o x).table
    (subst (λ (z : ContainerWords). Changing k.texts t z (known_state a.o x) a.counts.count [] (record { content = with_key content a.key a.value.stored; table = use_with (class_of t) (a.counts.count + 1) })) made
    (places_key (laws d) k.texts (rooted d) t c.free_slot-slot.result (all d) content a.key a.value.stored new (shut_rooted (laws d).first_pair (laws d).first_element (laws d).head k a.o a.old a.table x (begins d) c.move_entries.ensures.pass.1 c.move_entries.new.pass.possible d.move_entries.ensures.moved) (known_state a.o x).table))
    n.writes.root

pub returns-clause-wrote : goal.returns-clause-wrote
returns-clause-wrote c =
    let a = c.args in
    let v = view a.pass.now in
    let x = view c.move_entries.new.pass in
    let p = (goal.at.returns-clause-wrote c).After-name_box in
    let d = (goal.at.returns-clause-wrote c).After-move_entries in
    let words = words_filled (shape_of a.bank.now) a.o a.old v x c.requires.pass.1 c.move_entries.ensures.only c.requires.may.keyed in
    grown_wrote a.o a.table a.called.now a.said.now c.finish_entry.result v x (view c.begin_in.new.pass) (view c.name_box.new.pass) (view c.finish_entry.new.pass) c.requires.adds.changed c.move_entries.ensures.only words (λ is. c.requires.other (sym (ap root_in words) ∙ is)) (grow d).keyed.even c.begin_in.ensures.begins (puts p) c.name_box.ensures.writes.root c.finish_entry.ensures.ends

pub returns-clause-there : goal.returns-clause-there
returns-clause-there c =
    let a = c.args in
    let k = shape_of a.bank.now in
    let d = (goal.at.returns-clause-there c).After-move_entries in
    let y = view c.begin_in.new.pass in
    let z = view c.free_slot-slot.new.pass in
    let u = view c.put_key.new.pass in
    let b = c.begin_in.ensures in
    let l = c.free_slot-slot.ensures.only in
    let new = fresh d (held_unboxed a.o y) c.free_slot-slot.result c.hash_of-hash.result b.words c.hash_of-hash.ensures c.hash_of-hash.type_inv c.free_slot-slot.ensures.slot in
    let x = view c.move_entries.new.pass in
    let begun = b.begins in
    let shape_y : y.shape ≡ x.shape = begun.only.work.pass.shape ∙ ap (λ (v : View). v.shape) begun.is in
    let stays_y : StaysSettled x y = settled_then x begun.rooted y (settled_rooted a.o (suc (table_id a.table)) (root_in (held_words a.o x)) x begun.rooted begun.found begun.is) begun.only.made in
    let holds_u = holds_put d y z u shape_y b.references stays_y b.values c.begin_in.new.pass.possible l c.put_key.ensures.only c.put_key.ensures.references c.put_key.ensures.values in
    let q = view c.name_box.new.pass in
    let w = view c.finish_entry.new.pass in
    let n = c.name_box.ensures in
    let f = c.finish_entry.ensures in
    let made = made_of d y z q c.free_slot-slot.result c.hash_of-hash.result b.pass.1 b.writes b.words l c.hash_of-hash.ensures (n.words ∙ c.put_key.ensures.words) in
    let said = (entry_then d c.free_slot-slot.result c.hash_of-hash.result q new made) in
    record {
      boxes = named_done k a.value.boxed a.value.stored u w c.put_key.ensures.pass.1 holds_u (settled_then u q w n.only.made f.ends.made)
          (λ i.
          let moved = n.references i in
          let same_then = held_same k q w n.pass.1 f.pass.1 f.references i in
          omega (arith, moved, same_then))
          f.stored;
      names = names_closed a.o (table_id a.table) a.counts.count a.key a.value.boxed q w f.words f.raw n.writes.root said.1 n.names;
    }

pub returns-clause-root : goal.returns-clause-root
returns-clause-root c =
    let a = c.args in
    subst (λ (n : ℕ). root_in (held_unboxed n (view c.finish_entry.new.pass)) ≡ root_in (held_unboxed n (view c.name_box.new.pass))) c.requires.adds.changed c.finish_entry.ensures.ends.root ∙ c.name_box.ensures.writes.root
