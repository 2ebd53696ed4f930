-- What a pass that writes the entries of a dict or a set keeps, and that a word of one may be put.
use Rattle.std.proofs.Common.{◌≡◌, ◌≢◌, ℕ, suc, ◌*◌, ◌^◌, ◌<◌, ◌≤◌, true, Bool, List, inl, refl, sym, ap, ◌∙◌, subst, arith}
use Rattle.std.specs.Prelude.{slice_index}
use Rattle.std.proofs.Math.Bridge.{le_prop}
use Rattle.std.proofs.Math.Logic.{∥∥₁_elim}
use Rattle.ft_model.specs.declared.content.Content.{Content}
use Rattle.ft_model.specs.declared.script.Kind.{Kind}
use Rattle.ft_model.specs.declared.script.Kind.TheVariants as kind
use Rattle.ft_model.specs.Classes.{IsClass}
use Rattle.ft_layout.proofs.Powers.{slots_range}
use Rattle.ft_layout.specs.Containers.{class_mask}
use Rattle.ft_trace.specs.declared.Shape.{Shape}
use Rattle.ft_trace.specs.declared.Act.{Act}
use Rattle.ft_trace.specs.declared.View.{View}
use Rattle.ft_trace.specs.Addresses.{container_count, class_of, slots, places}
use Rattle.ft_trace.specs.Acts.{has_lock, view_after}
use Rattle.ft_trace.specs.ContainerStates.{ContainerState, kind_in}
use Rattle.ft_trace.specs.Pictures.{ContainerWords, root_in, entry_offset, entry_field}
use Rattle.ft_trace.specs.Kinds.{under, rows, version_at, CarefulAs, IsKeyed}
use Rattle.ft_trace.specs.Carefuls.{Careful}
use Rattle.ft_trace.specs.OddVersions.{Shut, Timely}
use Rattle.ft_trace.specs.Boxes.{value_at, known_box_word, references_held, IsDoneWithBoxes}
use Rattle.ft_trace.specs.Holds.{held_words, held_unboxed}
use Rattle.ft_trace.specs.Unboxed.{unboxed_table}
use Rattle.ft_trace.specs.Traces.{IsReachable}
use Rattle.ft_trace.proofs.ByKind.{keyed_fit}
use Rattle.ft_trace.proofs.Held.{table_known}
use Rattle.ft_trace.proofs.Lows.{lows}
use Rattle.ft_trace.proofs.NoWrap.{counter_room}
use Rattle.ft_trace.proofs.PlainPuts.{by_root, read_shut}
use Rattle.ft_trace.proofs.ReadTables.{read_entry, read_version}
use Rattle.ft_trace.proofs.ValuePlaces.{keyed_far}
use Rattle.ft_bank.specs.declared.table.Table.{Table}
use Rattle.ft_bank.specs.TableNames.{table_id, IsTableIn}
use Rattle.ft_bank.specs.Whole.{OnlyLoaded, OnlyPut}
use Rattle.ft_bank.specs.SameBoxes.{HoldsFew, SameMade, SameReferences, StaysSettled}
use Rattle.ft_bank.specs.WriteSteps.{HasReferencesFor, IsCareful}
use Rattle.ft_bank.proofs.DoneBoxes.{stays_settled_same}
use Rattle.ft_bank.proofs.TableAddresses.{named}
use Rattle.ft_bank.proofs.KnownAfterWrites.{IsLoad, loaded_by, loaded_put, loaded_held, work_knows}
use Rattle.ft_search.specs.OneEntryWrites.{WritesEntries}

pub table_class : (k : Shape) (t : Table) → IsTableIn k t → IsClass (class_of (table_id t))
table_class k t is = (named k t is).0

-- last slots and places are few
pub few_slots : (k : Shape) (t : Table) → IsTableIn k t → slots (class_of (table_id t)) ≤ 65536
unfolding slots
few_slots k t is = (slots_range (class_of (table_id t)) (table_class k t is)).1

pub few_mask : (k : Shape) (t : Table) → IsTableIn k t → class_mask t.class < 65536
few_mask k t is =
    let r = slots_range t.class is.0 in
    let low = r.0 in
    let high = r.1 in
    omega (arith, low, high)

pub few_places : (k : Shape) (t : Table) (kind : Kind) (place : ℕ) → IsTableIn k t → IsKeyed kind → place < rows kind (class_of (table_id t)) → place < 65536
unfolding places slots
few_places k t kind place is keyed low =
    let f = keyed_fit kind keyed (class_of (table_id t)) in
    let r = (slots_range (class_of (table_id t)) (table_class k t is)).1 in
    omega (arith, f, low, r)

-- ---- boxes

-- the pass holds few references still
pub few_same : (v w : View) → SameReferences v w → HoldsFew v → HoldsFew w
few_same v w same few b = subst (λ (n : ℕ). n < 2 ^ 31) (sym (same b)) (few b)

-- a pass that is done with boxes holds few references
pub few_done : (k : Shape) (v : View) → v.shape ≡ k → IsDoneWithBoxes k v.log → HoldsFew v
few_done k v shape done b = let e = (subst (λ (z : Shape). IsDoneWithBoxes z v.log) (sym shape) done).none b in omega (arith, e)

-- a word of an entry that is no value's needs none
pub entry_refs : (v : View) (o t place w x : ℕ) → IsKeyed (kind_in v.shape.starts o) → w < 8 → w ≢ 4 → w ≢ 5 → HoldsFew v → HasReferencesFor v o t (entry_offset (slots (class_of t)) place w) x
entry_refs v o t place w x keyed few not4 not5 holds = inl (keyed_far (kind_in v.shape.starts o) keyed (class_of t) place w few not4 not5, holds)

-- and reads as it stands
pub entry_reads : (v : View) (o t place w : ℕ) → IsKeyed (kind_in v.shape.starts o) → root_in (held_words o v) ≡ suc t → w < 8 → w ≢ 4 → w ≢ 5 → entry_field (slots (class_of t)) (held_unboxed o v).table place w ≡ entry_field (slots (class_of t)) (held_words o v).table place w
entry_reads v o t place w keyed names few not4 not5 =
    let box : ℕ → ℕ → ℕ = λ b i. known_box_word v.shape b i v.log in
    let kd : Kind = kind_in v.shape.starts o in
    ap (λ (l : List ℕ). slice_index l (entry_offset (slots (class_of t)) place w)) (by_root box kd (root_in (held_words o v)) t (held_words o v).table names)
    ∙ read_entry box (class_of t) (rows kd (class_of t)) (held_words o v).table kd keyed place w few not4 not5

-- versions read as they stand
pub shut_reads : (v : View) (o t : ℕ) → root_in (held_words o v) ≡ suc t → Shut (version_at (kind_in v.shape.starts o) (class_of t)) (rows (kind_in v.shape.starts o) (class_of t)) (held_words o v).table → Shut (version_at (kind_in v.shape.starts o) (class_of t)) (rows (kind_in v.shape.starts o) (class_of t)) (held_unboxed o v).table
shut_reads v o t names raw =
    let box : ℕ → ℕ → ℕ = λ b i. known_box_word v.shape b i v.log in
    let kd : Kind = kind_in v.shape.starts o in
    subst (Shut (version_at kd (class_of t)) (rows kd (class_of t))) (sym (by_root box kd (root_in (held_words o v)) t (held_words o v).table names)) (read_shut box kd (class_of t) (held_words o v).table raw)

-- the pass is done with boxes still
pub done_settled : (k : Shape) (v w : View) → v.shape ≡ k → w.shape ≡ v.shape → SameReferences v w → StaysSettled v w → IsDoneWithBoxes k v.log → IsDoneWithBoxes k w.log
done_settled k v w shape same references stays done = record {
  settled = stays.settled done.settled;
  none = λ b. ap (λ (z : Shape). references_held z b w.log) (sym (same ∙ shape)) ∙ (references b ∙ (ap (λ (z : Shape). references_held z b v.log) shape ∙ done.none b));
  stored = λ b e. done.stored b (stays.places b e);
}

pub done_then : (k : Shape) (v w : View) → v.shape ≡ k → w.shape ≡ v.shape → SameReferences v w → SameMade v w → IsDoneWithBoxes k v.log → IsDoneWithBoxes k w.log
done_then k v w shape same references made done = done_settled k v w shape same references (stays_settled_same v w made) done

-- who is done with boxes before and after holds the same references
pub same_done : (k : Shape) (v w : View) → v.shape ≡ k → w.shape ≡ k → IsDoneWithBoxes k v.log → IsDoneWithBoxes k w.log → SameReferences v w
same_done k v w first then_ before after b =
    ap (λ (z : Shape). references_held z b w.log) then_ ∙ (after.none b ∙ sym (ap (λ (z : Shape). references_held z b v.log) first ∙ before.none b))

-- the pass still writes the container
pub writes_on : (k : Shape) (o : ℕ) (table : Table) (v w : View) → v.shape ≡ k → OnlyPut o v w → SameReferences v w → root_in (held_unboxed o w) ≡ root_in (held_unboxed o v) → WritesEntries k o table v → WritesEntries k o table w
writes_on k o table v w shape only references root writes = record {
  container = writes.container;
  keyed = writes.keyed;
  table_in = writes.table_in;
  locked = only.work.pass.locks o ∙ writes.locked;
  odd = only.work.pass.writes o ∙ writes.odd;
  root = root ∙ writes.root;
  settled = (stays_settled_same v w only.made).settled writes.settled;
  few = few_same v w references writes.few;
}

pub writes_loaded : (k : Shape) (o : ℕ) (table : Table) (a : Act) (v w : View) → v.shape ≡ k → IsLoad a → w ≡ view_after a v → WritesEntries k o table v → WritesEntries k o table w
writes_loaded k o table a v w shape load is writes =
    let l = loaded_by a v w load is in
    writes_on k o table v w shape (loaded_put v w o l) l.boxes.references (ap root_in (loaded_held v w o l)) writes

-- a version has room for one more write
version_room : (v : View) (o t p : ℕ) → ∥ IsReachable v ∥₁ → o < container_count v.shape → has_lock o v.log ≡ true → root_in (held_unboxed o v) ≡ suc t → p < rows (kind_in v.shape.starts o) (class_of t) → v.shape.passes * v.shape.calls < 2 ^ 46 → slice_index (held_unboxed o v).table (version_at (kind_in v.shape.starts o) (class_of t) p) < 2 ^ 63
version_room v o t p possible low mine names row few =
    ∥∥₁_elim {P = slice_index (held_unboxed o v).table (version_at (kind_in v.shape.starts o) (class_of t) p) < 2 ^ 63} possible le_prop
    (λ (x : IsReachable v).
    let k = v.shape in
    let table = table_known v o low t mine names x.0 x.1 x.2 in
    let high = (lows k x.0 x.2.0 o low t table.1).odd p row in
    let count = counter_room k x.0 x.2.0 in
    let kd : Kind = kind_in k.starts o in
    let box : ℕ → ℕ → ℕ = λ b i. known_box_word k b i v.log in
    let read : slice_index (held_unboxed o v).table (version_at kd (class_of t) p) ≡ slice_index (held_words o v).table (version_at kd (class_of t) p) =
    ap (λ (r : ℕ). slice_index (unboxed_table box kd r (held_words o v).table) (version_at kd (class_of t) p)) names ∙ read_version box (class_of t) (rows kd (class_of t)) (held_words o v).table kd refl p row in
    let same = read ∙ ap (λ (l : List ℕ). slice_index l (version_at (kind_in k.starts o) (class_of t) p)) table.0 in
    let low : slice_index (held_unboxed o v).table (version_at (kind_in k.starts o) (class_of t) p) < 2 ^ 63 = omega (arith, high, count, same, few) in
    low)

pub keyed_version : (kind : Kind) → IsKeyed kind → (c p : ℕ) → version_at kind c p ≡ entry_offset (slots c) p 0
keyed_version kind.Dict keyed c p = refl
keyed_version kind.Set keyed c p = refl
keyed_version kind.List keyed c p = absurd keyed
keyed_version (kind.Deque bound) keyed c p = absurd keyed

pub keyed_value : (kind : Kind) → IsKeyed kind → (c p : ℕ) → value_at kind c p ≡ entry_offset (slots c) p 4
keyed_value kind.Dict keyed c p = refl
keyed_value kind.Set keyed c p = refl
keyed_value kind.List keyed c p = absurd keyed
keyed_value (kind.Deque bound) keyed c p = absurd keyed

pub keyed_careful : (kind : Kind) → IsKeyed kind → (c : ℕ) (ws : List ℕ) (d : Content) (i x : ℕ) → Careful (slots c) (rows kind c) ws (under d) i x → CarefulAs kind c ws d i x
keyed_careful kind.Dict keyed c ws d i x care = care
keyed_careful kind.Set keyed c ws d i x care = care
keyed_careful kind.List keyed c ws d i x care = absurd keyed
keyed_careful (kind.Deque bound) keyed c ws d i x care = absurd keyed

pub entry_room : (k : Shape) (o : ℕ) (table : Table) (v : View) → WritesEntries k o table v → v.shape ≡ k → ∥ IsReachable v ∥₁ → k.passes * k.calls < 2 ^ 46 → (place : ℕ) → place < rows (kind_in k.starts o) (class_of (table_id table)) → entry_field (slots (class_of (table_id table))) (held_unboxed o v).table place 0 < 2 ^ 63
entry_room k o table v writes shape possible few place low =
    let t = table_id table in
    let here : o < container_count v.shape = subst (λ (z : Shape). o < container_count z) (sym shape) writes.container in
    let row : place < rows (kind_in v.shape.starts o) (class_of t) = subst (λ (z : Shape). place < rows (kind_in z.starts o) (class_of t)) (sym shape) low in
    let calls : v.shape.passes * v.shape.calls < 2 ^ 46 = subst (λ (z : Shape). z.passes * z.calls < 2 ^ 46) (sym shape) few in
    let keyed : IsKeyed (kind_in v.shape.starts o) = subst (λ (z : Shape). IsKeyed (kind_in z.starts o)) (sym shape) writes.keyed in
    subst (λ (z : ℕ). slice_index (held_unboxed o v).table z < 2 ^ 63) (keyed_version (kind_in v.shape.starts o) keyed (class_of t) place) (version_room v o t place possible here writes.locked writes.root row calls)

-- what readers aren't misled by stays so after loads
pub careful_loaded : (v w : View) (o t i x : ℕ) → o < container_count v.shape → has_lock o v.log ≡ true → OnlyLoaded v w → HasReferencesFor w o t i x → IsCareful v o t i x → IsCareful w o t i x
careful_loaded v w o t i x low mine only references care =
    let same = only.unboxed o low mine in
    let knows = work_knows v w o only.work in
    let shape = only.work.pass.shape in
    let late = only.work.committed o in
    record {
      care = subst (λ (z : Shape × ContainerWords × ContainerState). CarefulAs (kind_in z.0.starts o) (class_of t) z.1.table z.2.content i x) (sym (λ d. (shape d, same d, knows d))) care.care;
      timely = subst (λ (z : Shape × Bool). Timely (version_at (kind_in z.0.starts o) (class_of t)) (rows (kind_in z.0.starts o) (class_of t)) i x z.1) (sym (λ d. (shape d, late d))) care.timely;
      references = references;
    }
