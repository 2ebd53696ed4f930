-- That a word of an item may be put, by a pass that writes its list.
use Rattle.std.proofs.Common.{◌≡◌, ℕ, zero, suc, ◌+◌, ◌*◌, ◌%◌, ◌<◌, ◌≤◌, ◌^◌, true, false, List, [], ◌∷◌, length, refl, sym, ap, ◌∙◌, subst, inl, arith}
use Rattle.std.specs.Prelude.{slice_index, slice_set}
use Rattle.ft_model.specs.declared.script.Kind.{Kind}
use Rattle.ft_model.specs.declared.script.Kind.TheVariants as kind
use Rattle.ft_model.specs.Classes.{IsClass}
use Rattle.ft_model.specs.Worlds.{list_of}
use Rattle.ft_layout.proofs.Powers.{slots_range}
use Rattle.ft_trace.specs.declared.Shape.{Shape}
use Rattle.ft_trace.specs.declared.View.{View}
use Rattle.ft_trace.specs.Addresses.{container_count, class_of, slots, size}
use Rattle.ft_trace.specs.Acts.{has_committed}
use Rattle.ft_trace.specs.Boxes.{value_at, known_box_word, IsSettled}
use Rattle.ft_trace.specs.ContainerStates.{kind_in}
use Rattle.ft_trace.specs.Pictures.{root_in, item_offset, item_field}
use Rattle.ft_trace.specs.ItemWords.{said_at, words_at, ItemCareful}
use Rattle.ft_trace.specs.Kinds.{rows, version_at, CarefulAs}
use Rattle.ft_trace.specs.OddVersions.{Timely}
use Rattle.ft_trace.specs.Holds.{held_words, held_unboxed, known_state}
use Rattle.ft_trace.specs.Traces.{IsReachable}
use Rattle.ft_trace.specs.WholeWrites.{IsNoValue}
use Rattle.ft_trace.proofs.ByKind.{items_fit}
use Rattle.ft_trace.proofs.Known.{table_is_long}
use Rattle.ft_trace.proofs.ItemPuts.{item_open, item_close}
use Rattle.ft_trace.proofs.PlainPuts.{by_root}
use Rattle.ft_trace.proofs.ReadTables.{rows_else}
use Rattle.ft_trace.proofs.ValuePlaces.{item_far}
use Rattle.ft_bank.specs.declared.table.Table.{Table}
use Rattle.ft_bank.specs.TableNames.{table_id, IsTableIn}
use Rattle.ft_bank.specs.WriteSteps.{HasReferencesFor, IsCareful}
use Rattle.ft_bank.specs.BoxSteps.{IsOpenValue}
use Rattle.ft_bank.specs.SameBoxes.{HoldsFew, SameMade, SameReferences}
use Rattle.ft_bank.specs.Whole.{OnlyLoaded, SameWork}
use Rattle.ft_bank.proofs.DoneBoxes.{stays_settled_same}
use Rattle.ft_bank.proofs.TableAddresses.{named}
use Rattle.ft_bank.proofs.KnownAfterWrites.{loaded_held}
use Rattle.ft_list.specs.ListItemWrites.{WritesList}
use Rattle.ft_search.specs.Boxed.{WritesTable}
use Rattle.ft_list.proofs.Room.{version_room}
use Rattle.ft_search.proofs.Puts.{few_same}

pub table_class : (k : Shape) (t : Table) → IsTableIn k t → IsClass (class_of (table_id t))
table_class k t is = (named k t is).0

-- places and words of items are few
pub few_slots : (k : Shape) (t : Table) → IsTableIn k t → slots (class_of (table_id t)) ≤ 65536
unfolding slots
few_slots k t is = (slots_range (class_of (table_id t)) (table_class k t is)).1

pub inside : (k : Shape) (t : Table) → IsTableIn k t → (place word : ℕ) → place < slots (class_of (table_id t)) → word < 4 → item_offset place word < size (class_of (table_id t))
inside k t is place word low few = let f = items_fit (class_of (table_id t)) (table_class k t is) in omega (arith, f, low, few)

-- the pass still writes the list
pub writes_done : (k : Shape) (o : ℕ) (table : Table) (v w : View) → SameWork v w → IsSettled w.log → HoldsFew w → root_in (held_unboxed o w) ≡ root_in (held_unboxed o v) → WritesList k o table v → WritesList k o table w
writes_done k o table v w work settled few root list = record {
  container = list.container;
  kind = list.kind;
  table_in = list.table_in;
  locked = work.pass.locks o ∙ list.locked;
  odd = work.pass.writes o ∙ list.odd;
  root = root ∙ list.root;
  settled = settled;
  few = few;
}

pub writes_on : (k : Shape) (o : ℕ) (table : Table) (v w : View) → v.shape ≡ k → SameWork v w → SameReferences v w → SameMade v w → root_in (held_unboxed o w) ≡ root_in (held_unboxed o v) → WritesList k o table v → WritesList k o table w
writes_on k o table v w shape work references made root list = writes_done k o table v w work ((stays_settled_same v w made).settled list.settled) (few_same v w references list.few) root list

pub writes_loaded : (k : Shape) (o : ℕ) (table : Table) (v w : View) → v.shape ≡ k → OnlyLoaded v w → WritesList k o table v → WritesList k o table w
writes_loaded k o table v w shape l list = writes_on k o table v w shape l.work l.boxes.references l.boxes.made (ap root_in (loaded_held v w o l)) list

-- after loads its words read the same
pub list_unboxed : (k : Shape) (o : ℕ) (table : Table) (v w : View) → v.shape ≡ k → OnlyLoaded v w → WritesList k o table v → held_unboxed o w ≡ held_unboxed o v
list_unboxed k o table v w shape l list = l.unboxed o (subst (λ (z : Shape). o < container_count z) (sym shape) list.container) list.locked

-- such a pass writes the table, for whoever writes values of any container
pub list_table : (k : Shape) (o : ℕ) (table : Table) (v : View) → WritesList k o table v → WritesTable k o table v
list_table k o table v list = record { container = list.container; table_in = list.table_in; locked = list.locked; odd = list.odd; root = list.root; settled = list.settled; few = list.few }

pub list_of_table : (k : Shape) (o : ℕ) (table : Table) (v : View) → kind_in k.starts o ≡ kind.List → WritesTable k o table v → WritesList k o table v
list_of_table k o table v is w = record { container = w.container; kind = is; table_in = w.table_in; locked = w.locked; odd = w.odd; root = w.root; settled = w.settled; few = w.few }

module _ (k : Shape) (o : ℕ) (table : Table) (v : View) (list : WritesList k o table v) (shape : v.shape ≡ k) where
  abbrev t : ℕ
  t = table_id table

  abbrev c : ℕ
  c = class_of t

  abbrev ws : List ℕ
  ws = (held_unboxed o v).table

  is_kind : kind_in v.shape.starts o ≡ kind.List
  is_kind = ap (λ (z : Shape). kind_in z.starts o) shape ∙ list.kind

  -- a version needs no references
  references_here : (place x : ℕ) → HasReferencesFor v o t (item_offset place 0) x
  references_here place x = inl (subst (λ (z : Kind). IsNoValue z c (item_offset place 0)) (sym is_kind) (item_far c place), list.few)

  cares : (place x : ℕ) → ItemCareful (slots c) ws (list_of (known_state o v).content) (item_offset place 0) x → Timely (version_at kind.List c) (rows kind.List c) (item_offset place 0) x (has_committed o v.log) → IsCareful v o t (item_offset place 0) x
  cares place x care timely = record {
    care = subst (λ (z : Kind). CarefulAs z c ws (known_state o v).content (item_offset place 0) x) (sym is_kind) care;
    timely = subst (λ (z : Kind). Timely (version_at z c) (rows z c) (item_offset place 0) x (has_committed o v.log)) (sym is_kind) timely;
    references = references_here place x;
  }

  pub open_care : (place version at : ℕ) → at ≡ item_offset place 0 → has_committed o v.log ≡ false → version ≡ item_field ws place 0 → version % 2 ≡ 0 → IsCareful v o t at (version + 1)
  open_care place version at is early found even =
      subst (λ (i : ℕ). IsCareful v o t i (version + 1)) (sym is)
      (subst (λ (n : ℕ). IsCareful v o t (item_offset place 0) (n + 1)) (sym found)
      (cares place (item_field ws place 0 + 1) (item_open (slots c) ws (list_of (known_state o v).content) place (omega (arith, even, found)))
      (record { before = λ q less e one. early; later = λ q less e two. absurd (omega (arith, two, even, found)) })))

  -- and reads as it stands
  pub version_reads : (place : ℕ) → item_field ws place 0 ≡ item_field (held_words o v).table place 0
  version_reads place =
      let box : ℕ → ℕ → ℕ = λ b i. known_box_word v.shape b i v.log in
      let kd : Kind = kind_in v.shape.starts o in
      let T = (held_words o v).table in
      ap (λ (l : List ℕ). item_field l place 0) (by_root box kd (root_in (held_words o v)) t T list.root)
      ∙ rows_else box kd c (rows kd c) (item_offset place 0) T (subst (λ (z : Kind). IsNoValue z c (item_offset place 0)) (sym is_kind) (item_far c place))

  -- a word that is no value's
  pub far_word : (at place : ℕ) → at ≡ item_offset place 0 → IsNoValue (kind_in k.starts o) c at
  far_word at place is = subst (λ (z : Kind × ℕ). IsNoValue z.0 c z.1) (λ d. (sym list.kind d, sym is d)) (item_far c place)

  -- the value of an item whose version is odd
  pub value_is_open : (place at : ℕ) → at ≡ item_offset place 1 → place < slots c → item_field ws place 0 % 2 ≡ 1 → IsOpenValue v o t at
  value_is_open place at is low odd = record {
    row = place;
    low = subst (λ (z : Kind). place < rows z c) (sym is_kind) low;
    is = is ∙ ap (λ (z : Kind). value_at z c place) (sym is_kind);
    odd = subst (λ (z : Kind). slice_index ws (version_at z c place) % 2 ≡ 1) (sym is_kind) odd;
  }

  pub close_care : (place version at : ℕ) → at ≡ item_offset place 0 → has_committed o v.log ≡ true → version ≡ item_field ws place 0 → version % 2 ≡ 1 → words_at (list_of (known_state o v).content) place ≡ said_at ws place → IsCareful v o t at (version + 1)
  close_care place version at is late found odd says =
      subst (λ (i : ℕ). IsCareful v o t i (version + 1)) (sym is)
      (subst (λ (n : ℕ). IsCareful v o t (item_offset place 0) (n + 1)) (sym found)
      (cares place (item_field ws place 0 + 1) (item_close (slots c) ws (list_of (known_state o v).content) place (item_field ws place 0 + 1) refl says)
      (record { before = λ q less e one. absurd (omega (arith, one, odd, found)); later = λ q less e two. late })))

-- a version has room for one more write
pub item_room : (k : Shape) (o : ℕ) (table : Table) (v : View) → WritesList k o table v → v.shape ≡ k → ∥ IsReachable v ∥₁ → k.passes * k.calls < 2 ^ 46 → (place : ℕ) → place < slots (class_of (table_id table)) → item_field (held_unboxed o v).table place 0 < 2 ^ 63
item_room k o table v list shape possible few place low =
    let t = table_id table in
    let is_kind : kind_in v.shape.starts o ≡ kind.List = ap (λ (z : Shape). kind_in z.starts o) shape ∙ list.kind in
    let here : o < container_count v.shape = subst (λ (z : Shape). o < container_count z) (sym shape) list.container in
    let row : place < rows (kind_in v.shape.starts o) (class_of t) = subst (λ (z : Kind). place < rows z (class_of t)) (sym is_kind) low in
    let calls : v.shape.passes * v.shape.calls < 2 ^ 46 = subst (λ (z : Shape). z.passes * z.calls < 2 ^ 46) (sym shape) few in
    subst (λ (z : Kind). slice_index (held_unboxed o v).table (version_at z (class_of t) place) < 2 ^ 63) is_kind (version_room v o t place possible here list.locked list.root row calls)

-- the words of an item are there
pub long_enough : (k : Shape) (o : ℕ) (table : Table) (v : View) → WritesList k o table v → (place : ℕ) → place < slots (class_of (table_id table)) → item_offset place 3 ≤ length (held_unboxed o v).table
long_enough k o table v list place low =
    let l = table_is_long v o (table_id table) list.root in
    let i = inside k table list.table_in place 3 low (omega arith) in
    omega (arith, l, i)

-- words that are put where they stand
pub set_own : (l : List ℕ) (i x : ℕ) → x ≡ slice_index l i → slice_set l i x ≡ l
set_own [] i x is = refl
set_own (y ∷ l) zero x is = ap (λ (z : ℕ). z ∷ l) is
set_own (y ∷ l) (suc i) x is = ap (λ (z : List ℕ). y ∷ z) (set_own l i x is)
