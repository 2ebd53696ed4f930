use Rattle.std.proofs.Common.{◌≡◌, ◌≢◌, ◌⊎◌, ◌<◌, ◌+◌, ◌%◌, ℕ, suc, true, false, Some, None, refl, sym, ap, ◌∙◌, subst, inl, inr, ⊎_elim, arith, [], true≢false}
use Rattle.std.specs.Prelude.{is_some, pos, slice_index_or}
use Rattle.ft_model.specs.declared.content.Content.{Content}
use Rattle.ft_model.specs.declared.data.Key.{Key}
use Rattle.ft_model.specs.declared.data.Key.TheVariants.{Int}
use Rattle.ft_model.specs.Worlds.{kind_of}
use Rattle.ft_model.specs.declared.script.Kind.{Kind}
use Rattle.ft_model.specs.declared.script.Kind.TheVariants as kind
use Rattle.ft_layout.specs.Tables.{UsedEntry, hash_of, is_live, slot_of}
use Rattle.ft_layout.specs.Words.{FitsKey, FitsStored, IsStored, key_kind, stored_kind, stored_payload}
use Rattle.ft_layout.specs.declared.slot.Ref.{Ref}
use Rattle.ft_layout.proofs.WordLaws.{kind_range, same_key}
use Rattle.ft_layout.specs.declared.slot.Stored.{Stored}
use Rattle.ft_layout.specs.declared.slot.Stored.TheVariants.{Boxed, Empty, Plain}
use Rattle.ft_trace.specs.declared.Shape.{Shape}
use Rattle.ft_trace.specs.declared.View.{View}
use Rattle.ft_trace.specs.Addresses.{class_of, container_count, slots}
use Rattle.ft_trace.specs.BoxWords.{box_kind}
use Rattle.ft_trace.specs.Carefuls.{HasLiveKey}
use Rattle.ft_trace.specs.Holds.{held_words, held_unboxed, known_state}
use Rattle.ft_trace.specs.Kinds.{rows}
use Rattle.ft_trace.specs.Pictures.{ContainerWords, entry_field, root_in, Represents}
use Rattle.ft_trace.specs.ContainerStates.{ContainerState, kind_in}
use Rattle.ft_trace.specs.WholeWrites.{MayPuts, with_puts}
use Rattle.ft_bank.specs.Passes.{shape_of, view}
use Rattle.ft_bank.specs.BoxSteps.{box_id}
use Rattle.ft_bank.specs.TableNames.{table_id}
use Rattle.ft_bank.specs.Whole.{OnlyLoaded, OnlyWritten}
use Rattle.ft_bank.proofs.KnownAfterWrites.{loaded_held, loaded_put, loaded_then, put_written, work_knows, written_then}
use Rattle.ft_search.proofs.Puts.{writes_on}
use Rattle.ft_search.specs.declared.spots.Spot.{Spot}
use Rattle.ft_search.specs.declared.spots.Spot.TheVariants as spot
use Rattle.ft_search.specs.Held.{IsHeldAt}
use Rattle.ft_search.specs.HeldValues.{NamesBoxAt}
use Rattle.ft_search.specs.Rounds.{kind_by}
use Rattle.ft_search.specs.OneEntryWrites.{WritesEntries}
use Rattle.ft_search.proofs.OtherValues.{ValueLaws}
use Rattle.ft_new_keys.specs.declared.counts.Counts.{Counts}
use Rattle.ft_new_keys.specs.Placing.{StoresAs}
use Rattle.ft_new_keys.specs.Internal.Laying.{IsUnused, with_entry}
use Rattle.ft_new_keys.proofs.Placed.{PlaceLaws, pair_for, stores_plain}
use Rattle.ft_merging.specs.declared.sharing.EntryAt.{EntryAt}
use Rattle.ft_merging.specs.Joining.{HaveEqual, joined}
use Rattle.ft_merging.specs.Internal.JoiningSteps.{IsJoining, IsSought, KeepsBelow, SharesBox, pair_in, stored_puts}
use Rattle.ft_merging.proofs.Ending.{read_same}
use Rattle.ft_merging.proofs.Joined.{even, inside, joining_dead, joining_loaded, joining_may, joining_new, joining_there, new_room, stores, there_low}
use Rattle.ft_merging.proofs.JoinedPairs.{source_known}
use Rattle.ft_merging.proofs.JoinedReads.{entry_used, none_found, none_used, pair_used}
use Rattle.ft_merging.proofs.JoinedStep.{kind_now, new_reads, others_same, payload_now, unused_here}
use Rattle.ft_merging.proofs.SharedKeys.{held_before, key_kept, live_held, names_on, names_same, other_key, plain_value, shares_next, used_live}
use Rattle.ft_merging.proofs.SharedValues.{pair_reads}
use Rattle.ft_merging.proofs.putting.join_at.Goals as goal
use Rattle.ft_merging.proofs.putting.join_at.Goals.{After-pair_at, After-seek_in, After-share_value-arg-1, After-words_follow_a_set, In-Some}

-- loads change no words
same_below : (t place : ℕ) (v w : View) (o : ℕ) → held_unboxed o w ≡ held_unboxed o v → KeepsBelow t place (held_unboxed o v) (held_unboxed o w)
same_below t place v w o same p word less few = ap (λ (x : ContainerWords). entry_field (slots (class_of t)) x.table p word) same

abbrev done : After-words_follow_a_set → Content
done c = joined (known_state c.args.o (view c.args.pass.now)).content (known_state c.args.t (view c.args.pass.now)).content

laws : After-words_follow_a_set → PlaceLaws
laws c =
    let v = c.versions_change_nothing.ensures in
    record {
      versions = λ walk room texts mask used words place version within table. v.entries walk room texts mask used words _ within (v.entry mask words place version) table;
      first_pair = c.used_entries_follow_a_dict.ensures.first;
      first_element = c.used_entries_follow_a_set.ensures.first;
      placed = c.placed_pairs_are_of_a_table.ensures;
      pair_added = c.words_follow_a_dict.ensures.added;
      element_added = c.words_follow_a_set.ensures.added;
      head = c.words_are_of_one_content.ensures.head;
    }

any : UsedEntry
any = record { key = Int (pos 0); serial = 0; stored = None }

abbrev entry : After-words_follow_a_set → UsedEntry
entry c = slice_index_or c.requires.joining.used c.args.place any

-- ---- the entry

pub pair_at-requires-clause-container : goal.pair_at-requires-clause-container
pair_at-requires-clause-container c = c.requires.other.container

pub pair_at-requires-clause-keyed : goal.pair_at-requires-clause-keyed
pair_at-requires-clause-keyed c = c.requires.other.keyed

pub pair_at-requires-clause-table : goal.pair_at-requires-clause-table
pair_at-requires-clause-table c = c.requires.other.table_in c.args.table refl

pub pair_at-requires-clause-knows : goal.pair_at-requires-clause-knows
pair_at-requires-clause-knows c = (c.requires.other.locked, c.requires.other.root)

pub pair_at-requires-clause-place : goal.pair_at-requires-clause-place
pair_at-requires-clause-place c =
    let a = c.args in
    let s = source_known (record { pairs = c.used_entries_follow_a_dict.ensures.first; elements = c.used_entries_follow_a_set.ensures.first }) (shape_of a.bank.now) a.t a.table (view a.pass.now) c.requires.pass.1 a.pass.now.possible c.requires.other a.way c.requires.other_way in
    let few = s.few in
    let low = c.requires.place in
    subst (λ (z : Kind). a.place < rows z (class_of (table_id a.table))) (sym c.requires.other_way) (omega (arith, few, low))

-- what was found there
found : (c : After-pair_at) → c.pair_at.result ≡ pair_in (slot_of (shape_of c.args.bank.now).texts (slice_index_or c.requires.joining.used c.args.place any))
found c =
    let a = c.args in
    let k = shape_of a.bank.now in
    let j = c.requires.joining in
    let low = inside k a.o a.way a.own a.t a.table _ a.end a.place a.counts (view a.pass.now) j c.requires.place any in
    c.pair_at.ensures.pair (slot_of k.texts (slice_index_or j.used a.place any)) (entry_used a.way k.texts k a.table (c.requires.other.table_in a.table refl) j.used (held_unboxed a.t (view a.pass.now)).table j.source a.place any low)

-- the pair, where one is there
there : (c : In-Some) → ((slice_index_or c.requires.joining.used c.args.place any).stored ≡ Some c.in-Some.pair.value) × ((slice_index_or c.requires.joining.used c.args.place any).key ≡ c.in-Some.pair.key) × (c.in-Some.pair.hash ≡ hash_of (shape_of c.args.bank.now).texts c.in-Some.pair.key) × FitsKey c.in-Some.pair.key × FitsStored c.in-Some.pair.value
there c =
    let a = c.args in
    let k = shape_of a.bank.now in
    let j = c.requires.joining in
    let low = inside k a.o a.way a.own a.t a.table _ a.end a.place a.counts (view a.pass.now) j c.requires.place any in
    pair_used k.texts (slice_index_or j.used a.place any) c.pair_at.result
    (c.pair_at.ensures.pair (slot_of k.texts (slice_index_or j.used a.place any)) (entry_used a.way k.texts k a.table (c.requires.other.table_in a.table refl) j.used (held_unboxed a.t (view a.pass.now)).table j.source a.place any low))
    (entry_field (slots (class_of (table_id a.table))) (held_unboxed a.t (view a.pass.now)).table a.place)
    (entry_used a.way k.texts k a.table (c.requires.other.table_in a.table refl) j.used (held_unboxed a.t (view a.pass.now)).table j.source a.place any low) c.in-Some.pair c.in-Some.is

-- loads leave its words
read_on : (c : After-pair_at) → held_unboxed c.args.o (view c.pair_at.new.pass) ≡ held_unboxed c.args.o (view c.args.pass.now)
read_on c = let w = c.requires.joining.midway.writes in read_same (shape_of c.args.bank.now) c.args.o (view c.args.pass.now) (view c.pair_at.new.pass) c.requires.pass.1 w.container w.locked c.pair_at.ensures.only

-- ---- it was deleted

pub returns-in_default-clause-only : goal.returns-in_default-clause-only
returns-in_default-clause-only c = put_written c.args.o (view c.args.pass.now) (view c.pair_at.new.pass) (loaded_put (view c.args.pass.now) (view c.pair_at.new.pass) c.args.o c.pair_at.ensures.only)

pub returns-in_default-clause-joining : goal.returns-in_default-clause-joining
returns-in_default-clause-joining c =
    let a = c.args in
    let k = shape_of a.bank.now in
    let v = view a.pass.now in
    let j = c.requires.joining in
    let f = found (goal.at.returns-in_default-clause-joining c).After-pair_at in
    let dead = none_used k.texts (slice_index_or j.used a.place any) c.pair_at.result f (none_found c.pair_at.result c.in_default.not-Some) in
    joining_loaded k a.o a.way a.own a.t a.table _ a.end (a.place + 1) a.counts v (view c.pair_at.new.pass) c.requires.pass.1 c.pair_at.ensures.only c.requires.other
    (joining_dead k a.o a.way a.own a.t a.table _ a.end a.place a.counts v j c.requires.place any dead)

pub returns-in_default-clause-references : goal.returns-in_default-clause-references
returns-in_default-clause-references c = c.pair_at.ensures.only.boxes.references

pub returns-in_default-clause-keeps : goal.returns-in_default-clause-keeps
returns-in_default-clause-keeps c sets = same_below (table_id c.args.own) c.args.counts.fill (view c.args.pass.now) (view c.pair_at.new.pass) c.args.o (read_on (goal.at.returns-in_default-clause-keeps c).After-pair_at)

-- ---- the search

writes : (c : After-pair_at) → WritesEntries (shape_of c.args.bank.now) c.args.o c.args.own (view c.pair_at.new.pass)
writes c =
    let a = c.args in
    let v = view a.pass.now in
    writes_on (shape_of a.bank.now) a.o a.own v (view c.pair_at.new.pass) c.requires.pass.1 (loaded_put v (view c.pair_at.new.pass) a.o c.pair_at.ensures.only) c.pair_at.ensures.only.boxes.references (ap root_in (read_on c)) c.requires.joining.midway.writes

pub seek_in-requires-clause-writes : goal.seek_in-requires-clause-writes
seek_in-requires-clause-writes c = writes (goal.at.seek_in-requires-clause-writes c).After-pair_at

pub seek_in-requires-clause-hash : goal.seek_in-requires-clause-hash
seek_in-requires-clause-hash c = (there (goal.at.seek_in-requires-clause-hash c).In-Some).2

pub seek_in-requires-clause-fits : goal.seek_in-requires-clause-fits
seek_in-requires-clause-fits c = (there (goal.at.seek_in-requires-clause-fits c).In-Some).3

loads : (c : After-seek_in) → OnlyLoaded (view c.args.pass.now) (view c.seek_in.new.pass)
loads c = loaded_then (view c.args.pass.now) (view c.pair_at.new.pass) (view c.seek_in.new.pass) c.pair_at.ensures.only c.seek_in.ensures.only

held_on : (c : After-seek_in) → held_unboxed c.args.o (view c.seek_in.new.pass) ≡ held_unboxed c.args.o (view c.args.pass.now)
held_on c = let w = c.requires.joining.midway.writes in read_same (shape_of c.args.bank.now) c.args.o (view c.args.pass.now) (view c.seek_in.new.pass) c.requires.pass.1 w.container w.locked (loads c)

-- what it came to
came : (c : After-seek_in) (key : Key) (found : Spot) → ((mid : ContainerState) → kind_of mid.content ≡ kind_by c.args.way → Represents (shape_of c.args.bank.now).texts (held_unboxed c.args.o (view c.pair_at.new.pass)) mid → IsSought (shape_of c.args.bank.now) c.args.way c.args.own key (held_unboxed c.args.o (view c.pair_at.new.pass)) mid.content found)
    → IsSought (shape_of c.args.bank.now) c.args.way c.args.own key (held_unboxed c.args.o (view c.args.pass.now)) c.requires.joining.mid found
came c key found is =
    let a = c.args in
    let k = shape_of a.bank.now in
    let j = c.requires.joining in
    let w = j.midway.writes in
    let same = read_same k a.o (view a.pass.now) (view c.pair_at.new.pass) c.requires.pass.1 w.container w.locked c.pair_at.ensures.only in
    let mid : ContainerState = record { content = j.mid; table = record { class = Some (class_of (table_id a.own)); fill = a.counts.fill; keys = [] } } in
    subst (λ (x : ContainerWords). IsSought k a.way a.own key x j.mid found) same (is mid j.same_kind (subst (λ (x : ContainerWords). Represents k.texts x mid) (sym same) j.midway.stands))

pub returns-in-Bare-clause-only : goal.returns-in-Bare-clause-only
returns-in-Bare-clause-only c = put_written c.args.o (view c.args.pass.now) (view c.seek_in.new.pass) (loaded_put (view c.args.pass.now) (view c.seek_in.new.pass) c.args.o (loads (goal.at.returns-in-Bare-clause-only c).After-seek_in))

pub returns-in-Bare-clause-joining : goal.returns-in-Bare-clause-joining
returns-in-Bare-clause-joining c = let at = goal.at.returns-in-Bare-clause-joining c in absurd (came at.After-seek_in c.in-Some.pair.key spot.Bare c.in-Bare.ensures.spot)

pub returns-in-Bare-clause-references : goal.returns-in-Bare-clause-references
returns-in-Bare-clause-references c = (loads (goal.at.returns-in-Bare-clause-references c).After-seek_in).boxes.references

pub returns-in-Bare-clause-keeps : goal.returns-in-Bare-clause-keeps
returns-in-Bare-clause-keeps c sets = same_below (table_id c.args.own) c.args.counts.fill (view c.args.pass.now) (view c.seek_in.new.pass) c.args.o (held_on (goal.at.returns-in-Bare-clause-keeps c).After-seek_in)

-- ---- its key is there

value_laws : After-words_follow_a_set → ValueLaws
value_laws c =
    let v = c.versions_change_nothing.ensures in
    record {
      versions = λ walk room texts mask used words place version within table. v.entries walk room texts mask used words _ within (v.entry mask words place version) table;
      first = c.used_entries_follow_a_dict.ensures.first;
      lives = c.used_entries_follow_a_dict.ensures.live;
      follow = c.words_follow_a_dict.ensures.changed;
    }

pub put_stored-requires-clause-writes : goal.put_stored-requires-clause-writes
put_stored-requires-clause-writes c =
    let a = c.args in
    let v = view a.pass.now in
    let s = (goal.at.put_stored-requires-clause-writes c).After-seek_in in
    writes_on (shape_of a.bank.now) a.o a.own v (view c.seek_in.new.pass) c.requires.pass.1 (loaded_put v (view c.seek_in.new.pass) a.o (loads s)) (loads s).boxes.references (ap root_in (held_on s)) c.requires.joining.midway.writes

pub put_stored-requires-clause-place : goal.put_stored-requires-clause-place
put_stored-requires-clause-place c =
    let a = c.args in
    let d = goal.at.put_stored-requires-clause-place c in
    let p = there d.In-Some in
    let f = came d.After-seek_in c.in-Some.pair.key (spot.At c.in-At.field-0 c.in-At.at c.in-At.kind c.in-At.payload) c.in-At.ensures.spot in
    there_low (shape_of a.bank.now) a.o a.way a.own a.t a.table (done d.After-words_follow_a_set) a.end a.place a.counts (view a.pass.now) c.requires.joining c.requires.place any c.in-Some.pair.key c.in-Some.pair.value p.1 p.0 (value_laws d.After-words_follow_a_set) p.3 p.4 c.in-At.at f.0 f.1

pub put_stored-requires-clause-early : goal.put_stored-requires-clause-early
put_stored-requires-clause-early c = (loads (goal.at.put_stored-requires-clause-early c).After-seek_in).work.committed c.args.o ∙ c.requires.joining.midway.early

pub put_stored-requires-clause-old_kind : goal.put_stored-requires-clause-old_kind
put_stored-requires-clause-old_kind c =
    let s = (goal.at.put_stored-requires-clause-old_kind c).After-seek_in in
    (came s c.in-Some.pair.key (spot.At c.in-At.field-0 c.in-At.at c.in-At.kind c.in-At.payload) c.in-At.ensures.spot).3 ∙ sym (ap (λ (x : ContainerWords). entry_field (slots (class_of (table_id c.args.own))) x.table c.in-At.at 4) (held_on s))

pub put_stored-requires-clause-old_payload : goal.put_stored-requires-clause-old_payload
put_stored-requires-clause-old_payload c =
    let s = (goal.at.put_stored-requires-clause-old_payload c).After-seek_in in
    (came s c.in-Some.pair.key (spot.At c.in-At.field-0 c.in-At.at c.in-At.kind c.in-At.payload) c.in-At.ensures.spot).4 ∙ sym (ap (λ (x : ContainerWords). entry_field (slots (class_of (table_id c.args.own))) x.table c.in-At.at 5) (held_on s))

pub put_stored-requires-clause-may : goal.put_stored-requires-clause-may
put_stored-requires-clause-may c =
    let a = c.args in
    let k = shape_of a.bank.now in
    let d = goal.at.put_stored-requires-clause-may c in
    let p = there d.In-Some in
    let f = came d.After-seek_in c.in-Some.pair.key (spot.At c.in-At.field-0 c.in-At.at c.in-At.kind c.in-At.payload) c.in-At.ensures.spot in
    let u = view c.seek_in.new.pass in
    subst (λ (x : ContainerWords). MayPuts (kind_in k.starts a.o) (table_id a.own) (known_state a.o u).content false x (stored_puts (slots (class_of (table_id a.own))) x.table c.in-At.at c.in-Some.pair.value)) (sym (held_on d.After-seek_in))
    (joining_may k a.o a.way a.own a.t a.table (done d.After-words_follow_a_set) a.end a.place a.counts (view a.pass.now) c.requires.joining c.requires.place any c.in-Some.pair.key c.in-Some.pair.value p.1 p.0 (value_laws d.After-words_follow_a_set) p.3 p.4 c.in-At.at f.0 f.1 (known_state a.o u).content)

pub returns-in-At-clause-only : goal.returns-in-At-clause-only
returns-in-At-clause-only c =
    let v = view c.args.pass.now in
    let u = view c.seek_in.new.pass in
    written_then c.args.o v u (view c.put_stored.new.pass) (put_written c.args.o v u (loaded_put v u c.args.o (loads (goal.at.returns-in-At-clause-only c).After-seek_in))) c.put_stored.ensures.only

pub returns-in-At-clause-joining : goal.returns-in-At-clause-joining
returns-in-At-clause-joining c =
    let a = c.args in
    let k = shape_of a.bank.now in
    let v = view a.pass.now in
    let u = view c.seek_in.new.pass in
    let z = view c.put_stored.new.pass in
    let d = goal.at.returns-in-At-clause-joining c in
    let p = there d.In-Some in
    let f = came d.After-seek_in c.in-Some.pair.key (spot.At c.in-At.field-0 c.in-At.at c.in-At.kind c.in-At.payload) c.in-At.ensures.spot in
    let e = c.put_stored.ensures in
    let stored = c.in-Some.pair.value in
    let n = slots (class_of (table_id a.own)) in
    let only = written_then a.o v u z (put_written a.o v u (loaded_put v u a.o (loads d.After-seek_in))) e.only in
    let same = held_on d.After-seek_in in
    let other = (only.others a.t (subst (λ (y : Shape). a.t < container_count y) (sym c.requires.pass.1) c.requires.other.container) (λ eq. c.requires.two (sym eq)) c.requires.other.locked c.requires.other.even).1 in
    let words : held_unboxed a.o z ≡ with_puts (held_unboxed a.o v) (stored_puts n (held_unboxed a.o v).table c.in-At.at stored) = e.words ∙ (λ i. with_puts (same i) (stored_puts n (same i).table c.in-At.at stored)) in
    joining_there k a.o a.way a.own a.t a.table (done d.After-words_follow_a_set) a.end a.place a.counts v c.requires.joining c.requires.place any c.in-Some.pair.key stored p.1 p.0 (value_laws d.After-words_follow_a_set) p.3 p.4 c.in-At.at f.0 f.1 f.2 z only words e.writes other

pub returns-in-At-clause-references : goal.returns-in-At-clause-references
returns-in-At-clause-references c b = c.put_stored.ensures.references b ∙ (loads (goal.at.returns-in-At-clause-references c).After-seek_in).boxes.references b

-- an element of a set has no value, and so nothing is put
no_puts : (stored : Stored) → StoresAs kind.Set stored → (n place : ℕ) (x : ContainerWords) → with_puts x (stored_puts n x.table place stored) ≡ x
no_puts Empty ok n place x = refl
no_puts (Plain value) ok n place x = absurd ok
no_puts (Boxed block) ok n place x = absurd ok

pub returns-in-At-clause-keeps : goal.returns-in-At-clause-keeps
returns-in-At-clause-keeps c sets q w less few =
    let a = c.args in
    let k = shape_of a.bank.now in
    let at = goal.at.returns-in-At-clause-keeps c in
    let j = c.requires.joining in
    let p = there at.In-Some in
    let stored = c.in-Some.pair.value in
    let ok = stores k a.o a.way a.own a.t a.table (done at.After-words_follow_a_set) a.end a.place a.counts (view a.pass.now) j c.requires.place any c.in-Some.pair.key stored p.1 p.0 in
    let none = no_puts stored (subst (λ (z : Kind). StoresAs z stored) (j.same_kind ∙ sets) ok) (slots (class_of (table_id a.own))) c.in-At.at (held_unboxed a.o (view c.seek_in.new.pass)) in
    ap (λ (x : ContainerWords). entry_field (slots (class_of (table_id a.own))) x.table q w) (c.put_stored.ensures.words ∙ (none ∙ held_on at.After-seek_in))

-- ---- it is new

pub put_key-requires-clause-early : goal.put_key-requires-clause-early
put_key-requires-clause-early c = (loads (goal.at.put_key-requires-clause-early c).After-seek_in).work.committed c.args.o ∙ c.requires.joining.midway.early

pub put_key-requires-clause-unused : goal.put_key-requires-clause-unused
put_key-requires-clause-unused c =
    let a = c.args in
    let k = shape_of a.bank.now in
    let v = view a.pass.now in
    let at = goal.at.put_key-requires-clause-unused c in
    let d = at.After-words_follow_a_set in
    let j = c.requires.joining in
    let p = there at.In-Some in
    let f = came at.After-seek_in c.in-Some.pair.key (spot.Free c.in-Free.field-0 c.in-Free.slot) c.in-Free.ensures.spot in
    let n = slots (class_of (table_id a.own)) in
    let ok = stores k a.o a.way a.own a.t a.table (done d) a.end a.place a.counts v j c.requires.place any c.in-Some.pair.key c.in-Some.pair.value p.1 p.0 in
    let room = new_room k a.o a.way a.own a.t a.table (done d) a.end a.place a.counts v j c.requires.place any c.in-Some.pair.key c.in-Some.pair.value p.1 p.0 f.1 in
    subst (λ (x : ContainerWords). IsUnused n (rows (kind_in k.starts a.o) (class_of (table_id a.own))) x.table c.in-Free.slot a.counts.fill) (sym (held_on at.After-seek_in))
    (unused_here (laws d) k a.o a.way a.own j.mid a.counts v j.midway j.same_kind j.kind_is j.count_is j.alive c.in-Free.slot c.in-Some.pair.key c.in-Some.pair.value p.3 c.seek_in.ensures.low ok p.4 f.1 f.0 (subst (λ (z : Kind). a.counts.fill < rows z (class_of (table_id a.own))) j.kind_is room))

pub put_key-requires-clause-value : goal.put_key-requires-clause-value
put_key-requires-clause-value c =
    let a = c.args in
    let at = goal.at.put_key-requires-clause-value c in
    let p = there at.In-Some in
    let j = c.requires.joining in
    let stored = c.in-Some.pair.value in
    let ok = stores (shape_of a.bank.now) a.o a.way a.own a.t a.table (done at.After-words_follow_a_set) a.end a.place a.counts (view a.pass.now) j c.requires.place any c.in-Some.pair.key stored p.1 p.0 in
    (p.4, stores_plain (kind_of j.mid) stored ok)

pub returns-in-Free-clause-joining : goal.returns-in-Free-clause-joining
returns-in-Free-clause-joining c =
    let a = c.args in
    let k = shape_of a.bank.now in
    let v = view a.pass.now in
    let u = view c.seek_in.new.pass in
    let put = view c.put_key.new.pass in
    let z = view c.share_value.new.pass in
    let at = goal.at.returns-in-Free-clause-joining c in
    let d = at.After-words_follow_a_set in
    let s = at.After-seek_in in
    let j = c.requires.joining in
    let p = there at.In-Some in
    let f = came at.After-seek_in c.in-Some.pair.key (spot.Free c.in-Free.field-0 c.in-Free.slot) c.in-Free.ensures.spot in
    let e = c.put_key.ensures in
    let key = c.in-Some.pair.key in
    let stored = c.in-Some.pair.value in
    let only = written_then a.o v put z (written_then a.o v u put (put_written a.o v u (loaded_put v u a.o (loads s))) e.only) c.share_value.ensures.only in
    let same = held_on s in
    let other = (only.others a.t (subst (λ (y : Shape). a.t < container_count y) (sym c.requires.pass.1) c.requires.other.container) (λ eq. c.requires.two (sym eq)) c.requires.other.locked c.requires.other.even).1 in
    let hash = p.2 in
    let next = j.next_is in
    let words : held_unboxed a.o z ≡ with_entry (table_id a.own) c.in-Free.slot a.counts (pair_for k.texts j.mid key stored) (held_unboxed a.o v) = c.share_value.ensures.words ∙ (e.words ∙ (λ i. with_entry (table_id a.own) c.in-Free.slot a.counts (record { hash = hash i; key = key; value = stored; serial = next i }) (same i))) in
    subst (λ (y : Counts). IsJoining k a.o a.way a.own a.t a.table (done d) a.end (a.place + 1) y z) (sym c.one_more.ensures)
    (joining_new k a.o a.way a.own a.t a.table (done d) a.end a.place a.counts v j c.requires.place any key stored p.1 p.0 f.1 (laws d) c.in-Free.slot p.3 c.seek_in.ensures.low p.4 f.0 z only words c.share_value.ensures.writes other)

pub returns-in-Free-clause-more : goal.returns-in-Free-clause-more
returns-in-Free-clause-more c = let f : c.one_more.result.fill ≡ c.args.counts.fill + 1 = ap (λ (z : Counts). z.fill) c.one_more.ensures in omega (arith, f)

pub returns-in-Free-clause-keeps : goal.returns-in-Free-clause-keeps
returns-in-Free-clause-keeps c sets q w less few =
    let a = c.args in
    let k = shape_of a.bank.now in
    let v = view a.pass.now in
    let at = goal.at.returns-in-Free-clause-keeps c in
    let d = at.After-words_follow_a_set in
    let j = c.requires.joining in
    let p = there at.In-Some in
    let f = came at.After-seek_in c.in-Some.pair.key (spot.Free c.in-Free.field-0 c.in-Free.slot) c.in-Free.ensures.spot in
    let key = c.in-Some.pair.key in
    let stored = c.in-Some.pair.value in
    let same = held_on at.After-seek_in in
    let hash = p.2 in
    let next = j.next_is in
    let words : held_unboxed a.o (view c.share_value.new.pass) ≡ with_entry (table_id a.own) c.in-Free.slot a.counts (pair_for k.texts j.mid key stored) (held_unboxed a.o v) = c.share_value.ensures.words ∙ (c.put_key.ensures.words ∙ (λ i. with_entry (table_id a.own) c.in-Free.slot a.counts (record { hash = hash i; key = key; value = stored; serial = next i }) (same i))) in
    let ok = stores k a.o a.way a.own a.t a.table (done d) a.end a.place a.counts v j c.requires.place any key stored p.1 p.0 in
    let room = new_room k a.o a.way a.own a.t a.table (done d) a.end a.place a.counts v j c.requires.place any key stored p.1 p.0 f.1 in
    ap (λ (x : ContainerWords). entry_field (slots (class_of (table_id a.own))) x.table q w) words
    ∙ others_same (laws d) k a.o a.way a.own j.mid a.counts v j.midway j.same_kind j.kind_is j.count_is j.alive c.in-Free.slot key stored p.3 c.seek_in.ensures.low ok p.4 f.1 f.0 (subst (λ (z : Kind). a.counts.fill < rows z (class_of (table_id a.own))) j.kind_is room) q w (λ e. omega (arith, e, less)) few

pub returns-in-Free-clause-only : goal.returns-in-Free-clause-only
returns-in-Free-clause-only c =
    let v = view c.args.pass.now in
    let u = view c.seek_in.new.pass in
    let put = view c.put_key.new.pass in
    written_then c.args.o v put (view c.share_value.new.pass) (written_then c.args.o v u put (put_written c.args.o v u (loaded_put v u c.args.o (loads (goal.at.returns-in-Free-clause-only c).After-seek_in))) c.put_key.ensures.only) c.share_value.ensures.only

pub returns-in-Free-clause-references : goal.returns-in-Free-clause-references
returns-in-Free-clause-references c b = c.share_value.ensures.references b ∙ (c.put_key.ensures.references b ∙ (loads (goal.at.returns-in-Free-clause-references c).After-seek_in).boxes.references b)

-- ---- the value in a box

-- the entry of the other container
place_low : (c : After-words_follow_a_set) → c.args.place < rows (kind_in (shape_of c.args.bank.now).starts c.args.t) (class_of (table_id c.args.table))
place_low c =
    let a = c.args in
    let s = source_known (record { pairs = c.used_entries_follow_a_dict.ensures.first; elements = c.used_entries_follow_a_set.ensures.first }) (shape_of a.bank.now) a.t a.table (view a.pass.now) c.requires.pass.1 a.pass.now.possible c.requires.other a.way c.requires.other_way in
    let few = s.few in
    let low = c.requires.place in
    subst (λ (z : Kind). a.place < rows z (class_of (table_id a.table))) (sym c.requires.other_way) (omega (arith, few, low))

reads_pair : (c : In-Some) → IsStored (entry_field (slots (class_of (table_id c.args.table))) (held_unboxed c.args.t (view c.args.pass.now)).table c.args.place 4) (entry_field (slots (class_of (table_id c.args.table))) (held_unboxed c.args.t (view c.args.pass.now)).table c.args.place 5) c.in-Some.pair.value
reads_pair c =
    let a = c.args in
    let k = shape_of a.bank.now in
    let j = c.requires.joining in
    let low = inside k a.o a.way a.own a.t a.table _ a.end a.place a.counts (view a.pass.now) j c.requires.place any in
    let entry = entry_used a.way k.texts k a.table (c.requires.other.table_in a.table refl) j.used (held_unboxed a.t (view a.pass.now)).table j.source a.place any low in
    pair_reads k.texts (slice_index_or j.used a.place any) c.pair_at.result (c.pair_at.ensures.pair (slot_of k.texts (slice_index_or j.used a.place any)) entry)
    (entry_field (slots (class_of (table_id a.table))) (held_unboxed a.t (view a.pass.now)).table a.place) entry c.in-Some.pair c.in-Some.is

pub put_stored-requires-clause-from : goal.put_stored-requires-clause-from
put_stored-requires-clause-from c = place_low (goal.at.put_stored-requires-clause-from c).After-words_follow_a_set

pub put_stored-requires-clause-reads : goal.put_stored-requires-clause-reads
put_stored-requires-clause-reads c =
    let a = c.args in
    let d = goal.at.put_stored-requires-clause-reads c in
    let same : held_unboxed a.t (view c.seek_in.new.pass) ≡ held_unboxed a.t (view a.pass.now) = read_same (shape_of a.bank.now) a.t (view a.pass.now) (view c.seek_in.new.pass) c.requires.pass.1 c.requires.other.container c.requires.other.locked (loads d.After-seek_in) in
    subst (λ (x : ContainerWords). IsStored (entry_field (slots (class_of (table_id a.table))) x.table a.place 4) (entry_field (slots (class_of (table_id a.table))) x.table a.place 5) c.in-Some.pair.value) (sym same) (reads_pair d.In-Some)

pub share_value-requires-clause-from : goal.share_value-requires-clause-from
share_value-requires-clause-from c = place_low (goal.at.share_value-requires-clause-from c).After-words_follow_a_set

pub share_value-requires-clause-to : goal.share_value-requires-clause-to
share_value-requires-clause-to c =
    let a = c.args in
    let at = goal.at.share_value-requires-clause-to c in
    let p = there at.In-Some in
    let f = came at.After-seek_in c.in-Some.pair.key (spot.Free c.in-Free.field-0 c.in-Free.slot) c.in-Free.ensures.spot in
    new_room (shape_of a.bank.now) a.o a.way a.own a.t a.table (done at.After-words_follow_a_set) a.end a.place a.counts (view a.pass.now) c.requires.joining c.requires.place any c.in-Some.pair.key c.in-Some.pair.value p.1 p.0 f.1

-- what the new entry reads
new_there : (c : After-share_value-arg-1) → (entry_field (slots (class_of (table_id c.args.own))) (held_unboxed c.args.o (view c.put_key.new.pass)).table c.args.counts.fill 0 % 2 ≡ 1) × (entry_field (slots (class_of (table_id c.args.own))) (held_unboxed c.args.o (view c.put_key.new.pass)).table c.args.counts.fill 4 ≡ stored_kind c.in-Some.pair.value) × (entry_field (slots (class_of (table_id c.args.own))) (held_unboxed c.args.o (view c.put_key.new.pass)).table c.args.counts.fill 5 ≡ stored_payload c.in-Some.pair.value)
new_there c =
    let a = c.args in
    let k = shape_of a.bank.now in
    let v = view a.pass.now in
    let at = goal.at.share_value-requires-clause-odd c in
    let d = at.After-words_follow_a_set in
    let j = c.requires.joining in
    let p = there at.In-Some in
    let f = came at.After-seek_in c.in-Some.pair.key (spot.Free c.in-Free.field-0 c.in-Free.slot) c.in-Free.ensures.spot in
    let key = c.in-Some.pair.key in
    let stored = c.in-Some.pair.value in
    let n = slots (class_of (table_id a.own)) in
    let same = held_on at.After-seek_in in
    let hash = p.2 in
    let next = j.next_is in
    let words : held_unboxed a.o (view c.put_key.new.pass) ≡ with_entry (table_id a.own) c.in-Free.slot a.counts (pair_for k.texts j.mid key stored) (held_unboxed a.o v) = c.put_key.ensures.words ∙ (λ i. with_entry (table_id a.own) c.in-Free.slot a.counts (record { hash = hash i; key = key; value = stored; serial = next i }) (same i)) in
    let ok = stores k a.o a.way a.own a.t a.table (done d) a.end a.place a.counts v j c.requires.place any key stored p.1 p.0 in
    let room = new_room k a.o a.way a.own a.t a.table (done d) a.end a.place a.counts v j c.requires.place any key stored p.1 p.0 f.1 in
    subst (λ (x : ContainerWords). (entry_field n x.table a.counts.fill 0 % 2 ≡ 1) × (entry_field n x.table a.counts.fill 4 ≡ stored_kind stored) × (entry_field n x.table a.counts.fill 5 ≡ stored_payload stored)) (sym words)
    (new_reads (laws d) k a.o a.way a.own j.mid a.counts v j.midway j.same_kind j.kind_is j.count_is j.alive c.in-Free.slot key stored p.3 c.seek_in.ensures.low ok p.4 f.1 f.0 (subst (λ (z : Kind). a.counts.fill < rows z (class_of (table_id a.own))) j.kind_is room))

-- the other entry reads the same still
other_put : (c : After-share_value-arg-1) → held_unboxed c.args.t (view c.put_key.new.pass) ≡ held_unboxed c.args.t (view c.args.pass.now)
other_put c =
    let a = c.args in
    let v = view a.pass.now in
    let u = view c.seek_in.new.pass in
    let at = goal.at.share_value-requires-clause-odd c in
    let only = written_then a.o v u (view c.put_key.new.pass) (put_written a.o v u (loaded_put v u a.o (loads at.After-seek_in))) c.put_key.ensures.only in
    (only.others a.t (subst (λ (y : Shape). a.t < container_count y) (sym c.requires.pass.1) c.requires.other.container) (λ eq. c.requires.two (sym eq)) c.requires.other.locked c.requires.other.even).1

pub share_value-requires-clause-odd : goal.share_value-requires-clause-odd
share_value-requires-clause-odd c = (new_there c).0

pub share_value-requires-clause-kind : goal.share_value-requires-clause-kind
share_value-requires-clause-kind c =
    let a = c.args in
    let d = goal.at.share_value-requires-clause-kind c in
    (new_there c).1 ∙ (sym (reads_pair d.In-Some).kind_is ∙ sym (ap (λ (x : ContainerWords). entry_field (slots (class_of (table_id a.table))) x.table a.place 4) (other_put c)))

pub share_value-requires-clause-payload : goal.share_value-requires-clause-payload
share_value-requires-clause-payload c =
    let a = c.args in
    let d = goal.at.share_value-requires-clause-payload c in
    (new_there c).2 ∙ (sym (reads_pair d.In-Some).payload_is ∙ sym (ap (λ (x : ContainerWords). entry_field (slots (class_of (table_id a.table))) x.table a.place 5) (other_put c)))

-- ---- which boxes both name

-- the entry of the other container is the one of this key
this_key : (c : After-pair_at) (key : Key) → FitsKey key → HasLiveKey (slots (class_of (table_id c.args.table))) (held_unboxed c.args.t (view c.args.pass.now)).table c.args.place key → (is_live (slice_index_or c.requires.joining.used c.args.place any) ≡ true) × ((slice_index_or c.requires.joining.used c.args.place any).key ≡ key)
this_key c key fits live =
    let a = c.args in
    let k = shape_of a.bank.now in
    let j = c.requires.joining in
    let low = inside k a.o a.way a.own a.t a.table _ a.end a.place a.counts (view a.pass.now) j c.requires.place any in
    used_live k.texts (slice_index_or j.used a.place any) (entry_field (slots (class_of (table_id a.table))) (held_unboxed a.t (view a.pass.now)).table a.place) key
    (entry_used a.way k.texts k a.table (c.requires.other.table_in a.table refl) j.used (held_unboxed a.t (view a.pass.now)).table j.source a.place any low) fits live

-- an entry before it has another key
before_it : (c : In-Some) (p : ℕ) (key : Key) → p < c.args.place → FitsKey key → HasLiveKey (slots (class_of (table_id c.args.table))) (held_unboxed c.args.t (view c.args.pass.now)).table p key → c.in-Some.pair.key ≢ key
before_it c p key less fits live same =
    let a = c.args in
    let k = shape_of a.bank.now in
    let j = c.requires.joining in
    let q = there c in
    other_key k a.o a.way a.own a.t a.table _ a.end a.place a.counts (view a.pass.now) j any (c.requires.other.table_in a.table refl) (inside k a.o a.way a.own a.t a.table _ a.end a.place a.counts (view a.pass.now) j c.requires.place any) (ap is_some q.0) p key less fits live (q.1 ∙ same)

pub returns-in_default-clause-shares : goal.returns-in_default-clause-shares
returns-in_default-clause-shares c dicts below =
    let a = c.args in
    let k = shape_of a.bank.now in
    let v = view a.pass.now in
    let u = view c.pair_at.new.pass in
    let d = (goal.at.returns-in_default-clause-shares c).After-pair_at in
    let j = c.requires.joining in
    let l = c.pair_at.ensures.only in
    let dead = none_used k.texts (slice_index_or j.used a.place any) c.pair_at.result (found d) (none_found c.pair_at.result c.in_default.not-Some) in
    shares_next a.o a.t a.table a.place v u (loaded_held v u a.t l) (read_same k a.t v u c.requires.pass.1 c.requires.other.container c.requires.other.locked l) (work_knows v u a.o l.work) (work_knows v u a.t l.work)
    (λ p key b less fits live named. names_same a.o v u (loaded_held v u a.o l) (read_on d) key b named)
    (λ key b fits live four named. absurd (true≢false (sym (this_key d key fits live).0 ∙ ap is_some dead)))
    below

pub returns-in-Bare-clause-shares : goal.returns-in-Bare-clause-shares
returns-in-Bare-clause-shares c dicts below = let at = goal.at.returns-in-Bare-clause-shares c in absurd (came at.After-seek_in c.in-Some.pair.key spot.Bare c.in-Bare.ensures.spot)

pub returns-in-At-clause-shares : goal.returns-in-At-clause-shares
returns-in-At-clause-shares c dicts below =
    let a = c.args in
    let k = shape_of a.bank.now in
    let v = view a.pass.now in
    let u = view c.seek_in.new.pass in
    let z = view c.put_stored.new.pass in
    let d = goal.at.returns-in-At-clause-shares c in
    let j = c.requires.joining in
    let r = c.requires.other in
    let p = there d.In-Some in
    let key = c.in-Some.pair.key in
    let stored = c.in-Some.pair.value in
    let at = c.in-At.at in
    let f = came d.After-seek_in key (spot.At c.in-At.field-0 at c.in-At.kind c.in-At.payload) c.in-At.ensures.spot in
    let e = c.put_stored.ensures in
    let l = loads d.After-seek_in in
    let own = table_id a.own in
    let n = slots (class_of (table_id a.own)) in
    let m = slots (class_of (table_id a.table)) in
    let only = written_then a.o v u z (put_written a.o v u (loaded_put v u a.o l)) e.only in
    let others = only.others a.t (subst (λ (y : Shape). a.t < container_count y) (sym c.requires.pass.1) r.container) (λ eq. c.requires.two (sym eq)) r.locked r.even in
    let same = held_on d.After-seek_in in
    let words : held_unboxed a.o z ≡ with_puts (held_unboxed a.o v) (stored_puts n (held_unboxed a.o v).table at stored) = e.words ∙ (λ i. with_puts (same i) (stored_puts n (same i).table at stored)) in
    let ok = stores k a.o a.way a.own a.t a.table (done d.After-words_follow_a_set) a.end a.place a.counts v j c.requires.place any key stored p.1 p.0 in
    let plain = plain_value stored (subst (λ (y : Kind). StoresAs y stored) (j.same_kind ∙ dicts) ok) in
    let reads = reads_pair d.In-Some in
    let stands = loaded_held v u a.t l in
    let mine = loaded_held v u a.o l in
    let w = j.midway.writes in
    shares_next a.o a.t a.table a.place v z others.0 others.1 (work_knows v z a.o only.work) (work_knows v z a.t only.work)
    (λ q other b less fits live named.
    let there_root = w.root in
    let root = named.root in
    let table_same : named.table ≡ own = omega (arith, there_root, root) in
    let ne : named.place ≢ at = λ eq.
    let mine_live : HasLiveKey n (held_unboxed a.o v).table at other = subst (λ (i : ℕ × ℕ). HasLiveKey (slots (class_of i.0)) (held_unboxed a.o v).table i.1 other) (λ i. (table_same i, eq i)) named.live in
    before_it d.In-Some q other less fits live (same_key key other p.3 fits (sym f.1.0 ∙ mine_live.0) (sym f.1.1 ∙ mine_live.1)) in
    names_on k a.o own v z c.requires.pass.1 e.pass.1 w.keyed w.root e.writes.root other b named (λ word some_ few. e.others named.place word ne few ∙ ap (λ (x : ContainerWords). entry_field n x.table named.place word) mine))
    (λ other b fits live four named.
    let is : key ≡ other = sym p.1 ∙ (this_key d.After-pair_at other fits live).1 in
    ⊎_elim
    (λ (s : SharesBox (record { o = a.t; table = a.table; place = a.place }) (record { o = a.o; table = a.own; place = at }) u z).
    let names = s (ap (λ (x : ContainerWords). entry_field m x.table a.place 4) stands ∙ four) in
    inl (record {
      table = own;
      place = at;
      root = e.writes.root;
      live = subst (λ (y : Key). HasLiveKey n (held_unboxed a.o z).table at y) is (ap (λ (x : ContainerWords). entry_field n x.table at 2) words ∙ (key_kept n (held_unboxed a.o v) at stored 2 (omega arith) (omega arith) ∙ f.1.0), ap (λ (x : ContainerWords). entry_field n x.table at 3) words ∙ (key_kept n (held_unboxed a.o v) at stored 3 (omega arith) (omega arith) ∙ f.1.1));
      kind = names.0;
      payload = names.1 ∙ (ap (λ (x : ContainerWords). entry_field m x.table a.place 5) stands ∙ named);
    }))
    (λ (eq : (c.in-At.kind ≡ stored_kind (Plain plain.0)) × (c.in-At.payload ≡ stored_payload (Plain plain.0))).
    let now = even k a.o a.way a.own a.t a.table (done d.After-words_follow_a_set) a.end a.place a.counts v j c.requires.place any key stored p.1 p.0 (value_laws d.After-words_follow_a_set) p.3 p.4 at f.0 f.1 in
    let held = held_before k a.o a.way a.own a.t a.table (done d.After-words_follow_a_set) a.end a.place a.counts v j (laws d.After-words_follow_a_set) at key f.0 f.1 now in
    let theirs = live_held c.used_entries_follow_a_dict.ensures.first k a.t (table_id a.table) v c.requires.pass.1 a.pass.now.possible r.locked r.stands r.root (c.requires.other_way ∙ dicts) a.place other live in
    let kinds : entry_field m (held_unboxed a.t v).table a.place 4 ≡ entry_field n (held_unboxed a.o v).table at 4 = reads.kind_is ∙ (ap stored_kind plain.1 ∙ (sym eq.0 ∙ f.3)) in
    let payloads : entry_field m (held_unboxed a.t v).table a.place 5 ≡ entry_field n (held_unboxed a.o v).table at 5 = reads.payload_is ∙ (ap stored_payload plain.1 ∙ (sym eq.1 ∙ f.4)) in
    inr (
      (entry_field n (held_unboxed a.o v).table at 4, entry_field n (held_unboxed a.o v).table at 5),
      subst (λ (y : Key). IsHeldAt (known_state a.o v).content y (Some (entry_field n (held_unboxed a.o v).table at 4, entry_field n (held_unboxed a.o v).table at 5))) is held,
      subst (λ (y : ℕ × ℕ). IsHeldAt (known_state a.t v).content other (Some y)) (λ i. (kinds i, payloads i)) theirs,
    ))
    (e.shares plain.0 plain.1))
    below

pub returns-in-Free-clause-shares : goal.returns-in-Free-clause-shares
returns-in-Free-clause-shares c dicts below =
    let a = c.args in
    let k = shape_of a.bank.now in
    let v = view a.pass.now in
    let u = view c.seek_in.new.pass in
    let put = view c.put_key.new.pass in
    let z = view c.share_value.new.pass in
    let at = goal.at.returns-in-Free-clause-shares c in
    let d = at.After-words_follow_a_set in
    let s = at.After-seek_in in
    let j = c.requires.joining in
    let r = c.requires.other in
    let p = there at.In-Some in
    let key = c.in-Some.pair.key in
    let stored = c.in-Some.pair.value in
    let f = came s key (spot.Free c.in-Free.field-0 c.in-Free.slot) c.in-Free.ensures.spot in
    let own = table_id a.own in
    let n = slots (class_of (table_id a.own)) in
    let m = slots (class_of (table_id a.table)) in
    let fill = a.counts.fill in
    let first = written_then a.o v u put (put_written a.o v u (loaded_put v u a.o (loads s))) c.put_key.ensures.only in
    let only = written_then a.o v put z first c.share_value.ensures.only in
    let low = subst (λ (y : Shape). a.t < container_count y) (sym c.requires.pass.1) r.container in
    let others = only.others a.t low (λ eq. c.requires.two (sym eq)) r.locked r.even in
    let stands = (first.others a.t low (λ eq. c.requires.two (sym eq)) r.locked r.even).0 in
    let same = held_on s in
    let hash = p.2 in
    let next = j.next_is in
    let words : held_unboxed a.o z ≡ with_entry (table_id a.own) c.in-Free.slot a.counts (pair_for k.texts j.mid key stored) (held_unboxed a.o v) = c.share_value.ensures.words ∙ (c.put_key.ensures.words ∙ (λ i. with_entry (table_id a.own) c.in-Free.slot a.counts (record { hash = hash i; key = key; value = stored; serial = next i }) (same i))) in
    let ok = stores k a.o a.way a.own a.t a.table (done d) a.end a.place a.counts v j c.requires.place any key stored p.1 p.0 in
    let room = subst (λ (y : Kind). a.counts.fill < rows y (class_of (table_id a.own))) j.kind_is (new_room k a.o a.way a.own a.t a.table (done d) a.end a.place a.counts v j c.requires.place any key stored p.1 p.0 f.1) in
    let bare = (unused_here (laws d) k a.o a.way a.own j.mid a.counts v j.midway j.same_kind j.kind_is j.count_is j.alive c.in-Free.slot key stored p.3 c.seek_in.ensures.low ok p.4 f.1 f.0 room).none in
    let kind_there = kind_now (laws d) k a.o a.way a.own j.mid a.counts v j.midway j.same_kind j.kind_is j.count_is j.alive c.in-Free.slot key stored p.3 c.seek_in.ensures.low ok p.4 f.1 f.0 room in
    let payload_there = payload_now (laws d) k a.o a.way a.own j.mid a.counts v j.midway j.same_kind j.kind_is j.count_is j.alive c.in-Free.slot key stored p.3 c.seek_in.ensures.low ok p.4 f.1 f.0 room in
    let w = j.midway.writes in
    shares_next a.o a.t a.table a.place v z others.0 others.1 (work_knows v z a.o only.work) (work_knows v z a.t only.work)
    (λ q other b less fits live named.
    let there_root = w.root in
    let root = named.root in
    let table_same : named.table ≡ own = omega (arith, there_root, root) in
    let ne : named.place ≢ fill = λ eq.
    let kind : entry_field n (held_unboxed a.o v).table fill 2 ≡ key_kind other = subst (λ (i : ℕ × ℕ). entry_field (slots (class_of i.0)) (held_unboxed a.o v).table i.1 2 ≡ key_kind other) (λ i. (table_same i, eq i)) named.live.0 in
    let some_ = (kind_range other).0 in
    let no : ⊥ = omega (arith, bare, kind, some_) in
    no in
    names_on k a.o own v z c.requires.pass.1 c.share_value.ensures.pass.1 w.keyed w.root c.share_value.ensures.writes.root other b named
    (λ word some_ few. c.share_value.ensures.others named.place word ne few ∙ (c.put_key.ensures.others named.place word ne few ∙ ap (λ (x : ContainerWords). entry_field n x.table named.place word) (loaded_held v u a.o (loads s)))))
    (λ other b fits live four named.
    let is : key ≡ other = sym p.1 ∙ (this_key at.After-pair_at other fits live).1 in
    let names = c.share_value.ensures.shares (ap (λ (x : ContainerWords). entry_field m x.table a.place 4) stands ∙ four) in
    inl (record {
      table = own;
      place = fill;
      root = c.share_value.ensures.writes.root;
      live = subst (λ (y : Key). HasLiveKey n (held_unboxed a.o z).table fill y) is (ap (λ (x : ContainerWords). entry_field n x.table fill 2) words ∙ kind_there, ap (λ (x : ContainerWords). entry_field n x.table fill 3) words ∙ payload_there);
      kind = names.0;
      payload = names.1 ∙ (ap (λ (x : ContainerWords). entry_field m x.table a.place 5) stands ∙ named);
    }))
    below
