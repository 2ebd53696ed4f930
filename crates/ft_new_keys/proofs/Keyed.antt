-- A dict or a set as a pass with the lock knows it, for the key that it adds.
use Rattle.std.proofs.Common.{◌≡◌, ◌≢◌, ℕ, suc, ◌+◌, ◌*◌, ◌^◌, ◌<◌, ◌≤◌, true, true≢false, List, [], ◌∷◌, length, Option, Some, None, refl, sym, ap, ◌∙◌, subst, arith}
use Rattle.std.specs.Prelude.{is_some, slice_index}
use Rattle.std.specs.Option.{unwrap_or}
use Rattle.std.proofs.Math.Logic.{∥∥₁_elim}
use Rattle.ft_model.specs.declared.content.Content.{Content}
use Rattle.ft_model.specs.declared.content.Content.TheVariants as content
use Rattle.ft_model.specs.declared.data.Key.{Key}
use Rattle.ft_model.specs.declared.script.Kind.{Kind}
use Rattle.ft_model.specs.TableUses.{TableUse}
use Rattle.ft_model.specs.Worlds.{kind_of, length_of, serial_of}
use Rattle.ft_layout.specs.declared.slot.Stored.{Stored}
use Rattle.ft_layout.specs.Containers.{class_mask, IsBlock, StandsAs}
use Rattle.ft_layout.specs.Tables.{hash_of}
use Rattle.ft_layout.specs.Words.{FitsKey, FitsStored}
use Rattle.ft_keys.specs.declared.walk.Way.{Way}
use Rattle.ft_keys.specs.declared.walk.Way.TheVariants as way
use Rattle.ft_keys.specs.TableChanges.{FirstFree}
use Rattle.ft_keys.specs.Ways.{walk_slots}
use Rattle.ft_trace.specs.declared.Shape.{Shape}
use Rattle.ft_trace.specs.declared.View.{View}
use Rattle.ft_trace.specs.Acts.{has_lock, stage}
use Rattle.ft_trace.specs.Addresses.{container_count, class_of, slots, IsTableName}
use Rattle.ft_trace.specs.Holds.{held_unboxed, known_state}
use Rattle.ft_trace.specs.Kinds.{rows, version_at, IsKeyed}
use Rattle.ft_trace.specs.OddVersions.{Shut}
use Rattle.ft_trace.specs.Traces.{IsReachable}
use Rattle.ft_trace.specs.Pictures.{root_in}
use Rattle.ft_trace.specs.ContainerStates.{kind_in}
use Rattle.ft_trace.proofs.ByKind.{keyed_fit}
use Rattle.ft_trace.proofs.Held.{root_known}
use Rattle.ft_trace.proofs.Known.{class_known, table_is_long}
use Rattle.ft_trace.proofs.TablePlaces.{placed}
use Rattle.ft_bank.specs.declared.table.Table.{Table}
use Rattle.ft_bank.specs.TableNames.{table_id, IsTableIn}
use Rattle.ft_bank.proofs.TableAddresses.{class_is, named}
use Rattle.ft_search.specs.Held.{IsHeldAt}
use Rattle.ft_search.specs.Rounds.{kind_by}
use Rattle.ft_search.specs.OneEntryWrites.{HasTable, KnowsEntries, MayWriteEntries}
use Rattle.ft_search.proofs.Changing.{kind_is, shut_known, no_keys}
use Rattle.ft_search.proofs.Spotting.{may_knows}
use Rattle.ft_search.proofs.WordPlaces.{slots_of_class}
use Rattle.ft_new_keys.specs.declared.counts.Counts.{Counts}
use Rattle.ft_new_keys.specs.KeyGrowth.{KnowsKeyed, IsFreeFor, use_of}
use Rattle.ft_new_keys.specs.Placing.{AreCounts, StoresAs}
use Rattle.ft_new_keys.proofs.Placed.{Fresh, entry_shut, way_of}

-- what a block says of the content
abbrev pub Heads : Type 0
Heads = (texts block words : List ℕ) (table : TableUse) (content : Content) → StandsAs texts block words table content → IsBlock block table.class (length_of content) table.fill (serial_of content)

-- the way in which a container of a kind is searched
pub way_is : (d : Content) (by : Way) → kind_of d ≡ kind_by by → way_of d ≡ by
way_is (content.Dict pairs) way.Dict e = refl
way_is (content.Set elements) way.Set e = refl
way_is (content.Dict pairs) way.Set e = absurd (cc)
way_is (content.Set elements) way.Dict e = absurd (cc)
way_is (content.List values) way.Dict e = absurd (cc)
way_is (content.Deque deque) way.Dict e = absurd (cc)
way_is (content.List values) way.Set e = absurd (cc)
way_is (content.Deque deque) way.Set e = absurd (cc)

-- ---- the table that it has

pub no_class : (block : List ℕ) (class : Option ℕ) (count fill next : ℕ) → IsBlock block class count fill next → slice_index block 0 ≡ 0 → class ≡ None
no_class block None count fill next head none = refl
no_class block (Some class) count fill next head none = absurd (let r = head.root.1.2 in omega (arith, none, r))

pub use_known : Heads → (k : Shape) (o : ℕ) (old : Option Table) (v : View) (counts : Counts) → KnowsKeyed k o old v → AreCounts (held_unboxed o v).block counts → ∥ IsReachable v ∥₁ → (known_state o v).table ≡ use_of old counts.fill
use_known heads k o old v counts keyed are possible =
    let head = heads k.texts (held_unboxed o v).block (0 ∷ 0 ∷ (held_unboxed o v).table) (known_state o v).table (known_state o v).content keyed.stands in
    let keys = no_keys v o possible keyed.locked in
    by old keyed head (sym head.fill_is ∙ are.1) keys
  where
    by : (any : Option Table) → KnowsKeyed k o any v → IsBlock (held_unboxed o v).block (known_state o v).table.class (length_of (known_state o v).content) (known_state o v).table.fill (serial_of (known_state o v).content) → (known_state o v).table.fill ≡ counts.fill → (known_state o v).table.keys ≡ [] → (known_state o v).table ≡ use_of any counts.fill
    by None knows head fill keys = let none = no_class (held_unboxed o v).block (known_state o v).table.class (length_of (known_state o v).content) (known_state o v).table.fill (serial_of (known_state o v).content) head knows.root in λ d. record { class = none d; fill = fill d; keys = keys d }
    by (Some t) knows head fill keys =
        let class = class_known k.texts (held_unboxed o v) (known_state o v) (table_id t) knows.stands knows.root ∙ ap (λ (n : ℕ). Some n) (class_is t (knows.table_in t refl).2) in
        λ d. record { class = class d; fill = fill d; keys = keys d }

-- how many keys there are, and the next serial
pub counts_known : Heads → (k : Shape) (o : ℕ) (old : Option Table) (v : View) (counts : Counts) → KnowsKeyed k o old v → AreCounts (held_unboxed o v).block counts → (counts.count ≡ length_of (known_state o v).content) × (counts.next ≡ serial_of (known_state o v).content)
counts_known heads k o old v counts keyed are =
    let head = heads k.texts (held_unboxed o v).block (0 ∷ 0 ∷ (held_unboxed o v).table) (known_state o v).table (known_state o v).content keyed.stands in
    (sym are.0 ∙ head.count_is, sym are.2 ∙ head.next_is)

-- a table that is fresh in the pass's hand is no container's
pub fresh_other : (k : Shape) (v : View) (o : ℕ) (table : Table) → v.shape ≡ k → ∥ IsReachable v ∥₁ → o < container_count k → has_lock o v.log ≡ true → IsTableIn k table → stage (table_id table) v.log ≡ 1 → root_in (held_unboxed o v) ≢ suc (table_id table)
fresh_other k v o table shape possible low mine table_in fresh names =
    let t = table_id table in
    let here : o < container_count v.shape = subst (λ (z : Shape). o < container_count z) (sym shape) low in
    let is_table : IsTableName v.shape t = subst (λ (z : Shape). IsTableName z t) (sym shape) (named k table table_in) in
    ∥∥₁_elim {P = ⊥} possible (λ a b. absurd a)
    (λ (p : IsReachable v).
    let place = placed v.shape p.0 p.2.0 t is_table in
    let hand = (place.hands p.1 v p.2.1 (λ e. absurd (omega (arith, e, fresh)))).0 in
    let root = (place.roots o here (sym (root_known v o here mine p.0 p.1 p.2) ∙ names)).0 in
    let no : ⊥ = omega (arith, hand, root, fresh) in
    no)

-- with its table, or without one
pub knows_of : (k : Shape) (o : ℕ) (table : Table) (v : View) → KnowsEntries k o v → HasTable k o table v → KnowsKeyed k o (Some table) v
knows_of k o table v knows has = record {
  container = knows.container;
  keyed = knows.keyed;
  locked = knows.locked;
  even = knows.even;
  stands = knows.stands;
  table_in = λ t is. subst (IsTableIn k) (ap (λ (z : Option Table). unwrap_or z table) is) has.table_in;
  root = has.root;
}

pub knows_none : (k : Shape) (o : ℕ) (v : View) → KnowsEntries k o v → root_in (held_unboxed o v) ≡ 0 → KnowsKeyed k o None v
knows_none k o v knows bare = record {
  container = knows.container;
  keyed = knows.keyed;
  locked = knows.locked;
  even = knows.even;
  stands = knows.stands;
  table_in = λ t is. absurd (true≢false (sym (ap is_some is)));
  root = bare;
}

-- a pass that may write it knows it
pub knows_here : (k : Shape) (o : ℕ) (table : Table) (v : View) → MayWriteEntries k o v → HasTable k o table v → KnowsKeyed k o (Some table) v
knows_here k o table v may has = knows_of k o table v (may_knows k o v may) has

pub knows_bare : (k : Shape) (o : ℕ) (v : View) → MayWriteEntries k o v → root_in (held_unboxed o v) ≡ 0 → KnowsKeyed k o None v
knows_bare k o v may bare = knows_none k o v (may_knows k o v may) bare

-- ---- a new key in the table that it has

module _ (heads : Heads) (k : Shape) (o : ℕ) (table : Table) (v : View) (shape : v.shape ≡ k) (possible : ∥ IsReachable v ∥₁) (keyed : KnowsKeyed k o (Some table) v) (by : Way) (kind_eq : kind_in k.starts o ≡ kind_by by) where
  abbrev d : Content
  d = (known_state o v).content

  abbrev t : ℕ
  t = table_id table

  content_kind : kind_of d ≡ kind_in k.starts o
  content_kind = kind_is k v o shape possible keyed.locked

  pub shut_here : Shut (version_at (kind_of d) (class_of t)) (rows (kind_of d) (class_of t)) (held_unboxed o v).table
  shut_here = shut_known k v o t shape possible keyed.container keyed.locked keyed.even keyed.root

  pub fresh_known : (slot : ℕ) (counts : Counts) (key : Key) (stored : Stored) → AreCounts (held_unboxed o v).block counts → FitsKey key → hash_of k.texts key < 2 ^ 64 → StoresAs (kind_by by) stored → FitsStored stored → IsHeldAt d key None → IsFreeFor k.texts by table.class key (held_unboxed o v).table slot → counts.fill < rows (kind_by by) (class_of t)
      → Fresh k.texts (held_unboxed o v) t slot counts d key stored
  fresh_known slot counts key stored are fits low stores ok absent free room =
      let table_in = keyed.table_in table refl in
      let same = class_is table table_in.2 in
      let head = heads k.texts (held_unboxed o v).block (0 ∷ 0 ∷ (held_unboxed o v).table) (known_state o v).table d keyed.stands in
      let class = class_known k.texts (held_unboxed o v) (known_state o v) t keyed.stands keyed.root in
      let kinds : kind_of d ≡ kind_by by = content_kind ∙ kind_eq in
      let long = table_is_long v o t keyed.root in
      let fill : (known_state o v).table.fill ≡ counts.fill = sym head.fill_is ∙ are.1 in
      let some = slots_of_class (class_of t) in
      let slot_low = free.0 in
      let last : class_mask table.class ≡ class_mask (class_of t) = ap class_mask (sym same) in
      record {
        is_class = (named k table table_in).0;
        keyed = subst IsKeyed (sym content_kind) keyed.keyed;
        fits = fits;
        low = low;
        stores = subst (λ (z : Kind). StoresAs z stored) (sym kinds) stores;
        ok = ok;
        before = (held_unboxed o v).block;
        says = subst (λ (z : TableUse). StandsAs k.texts (held_unboxed o v).block (0 ∷ 0 ∷ (held_unboxed o v).table) z d) (λ i. record { class = class i; fill = fill i; keys = no_keys v o possible keyed.locked i }) keyed.stands;
        had = (known_state o v).table.fill;
        head = subst (λ (z : Option ℕ). IsBlock (held_unboxed o v).block z (length_of d) (known_state o v).table.fill (serial_of d)) class head;
        count_is = sym are.0 ∙ head.count_is;
        room = subst (λ (z : Kind). counts.fill < rows z (class_of t)) (sym kinds) room;
        long = subst (λ (z : Kind). slots (class_of t) + 8 * rows z (class_of t) ≤ length (held_unboxed o v).table) (sym content_kind) (let f = keyed_fit (kind_in k.starts o) keyed.keyed (class_of t) in omega (arith, f, long));
        in_index = omega (arith, some, slot_low, last);
        free = subst (λ (z : Way × ℕ). FirstFree (0 ∷ 0 ∷ (held_unboxed o v).table) (walk_slots z.0 (hash_of k.texts key) (class_mask z.1)) (Some slot)) (λ i. (sym (way_is d by kinds) i, sym same i)) free.1;
        absent = absent;
        even = entry_shut (kind_of d) (subst IsKeyed (sym content_kind) keyed.keyed) (class_of t) (rows (kind_of d) (class_of t)) (held_unboxed o v).table shut_here counts.fill (subst (λ (z : Kind). counts.fill < rows z (class_of t)) (sym kinds) room);
      }
