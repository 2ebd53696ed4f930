-- A dict or a set that gets another table, filled with what it has: that the root may be put, and what a new key finds there.
use Rattle.std.proofs.Common.{◌≡◌, ◌≢◌, ℕ, suc, ◌^◌, ◌<◌, ◌≤◌, true, true≢false, List, ◌∷◌, filter, Option, Some, None, sym, ap, ◌∙◌, subst, arith, length-set, get_or-set_same, get_or-set_other}
use Rattle.std.specs.Prelude.{All, is_some, slice_index, slice_set}
use Rattle.std.specs.Option.{unwrap_or}
use Rattle.ft_model.specs.declared.content.Content.{Content}
use Rattle.ft_model.specs.declared.content.Content.TheVariants as content
use Rattle.ft_model.specs.declared.data.Key.{Key}
use Rattle.ft_model.specs.declared.script.Kind.{Kind}
use Rattle.ft_model.specs.Classes.{IsClass}
use Rattle.ft_model.specs.Worlds.{kind_of, length_of, serial_of}
use Rattle.ft_layout.specs.declared.slot.Stored.{Stored}
use Rattle.ft_layout.specs.Containers.{class_mask, IsRoot, IsBlock, StandsAs}
use Rattle.ft_layout.specs.Tables.{UsedEntry, is_live, hash_of}
use Rattle.ft_layout.specs.Words.{FitsKey, FitsStored}
use Rattle.ft_keys.specs.declared.walk.Way.{Way}
use Rattle.ft_keys.specs.declared.walk.Way.TheVariants as way
use Rattle.ft_keys.specs.TableChanges.{FirstFree}
use Rattle.ft_keys.specs.Ways.{walk_slots, IsTableOf}
use Rattle.ft_trace.specs.declared.Act.TheVariants.{StartWrite}
use Rattle.ft_trace.specs.declared.Shape.{Shape}
use Rattle.ft_trace.specs.declared.View.{View}
use Rattle.ft_trace.specs.Acts.{is_writing, mem, view_after, stage}
use Rattle.ft_trace.specs.Addresses.{class_of, container_count, slots}
use Rattle.ft_trace.specs.Boxes.{named_in_root, known_box_word}
use Rattle.ft_trace.specs.Holds.{held_words, held_unboxed, known_state, in_hand, hand_unboxed}
use Rattle.ft_trace.specs.Kinds.{rows, version_at, SoundAs, IsKeyed}
use Rattle.ft_trace.specs.OddVersions.{Shut}
use Rattle.ft_trace.specs.Traces.{IsReachable}
use Rattle.ft_trace.specs.ContainerStates.{kind_in}
use Rattle.ft_trace.specs.Pictures.{root_in, entry_field}
use Rattle.ft_trace.proofs.ByKind.{keyed_fit}
use Rattle.ft_trace.proofs.Cases.{hit}
use Rattle.ft_trace.proofs.DictWrites as dict
use Rattle.ft_trace.proofs.DictWrites.{FirstEntriesArePairs}
use Rattle.ft_trace.proofs.Pieces.{table_long}
use Rattle.ft_trace.proofs.ReadTables.{rows_long}
use Rattle.ft_trace.proofs.SetKnown as set
use Rattle.ft_trace.proofs.SetKnown.{FirstEntriesAreElements}
use Rattle.ft_bank.specs.declared.table.Table.{Table}
use Rattle.ft_bank.specs.SameBoxes.{named_in_words}
use Rattle.ft_bank.specs.TableNames.{table_id, IsTableIn}
use Rattle.ft_bank.specs.WriteSteps.{IsShut, MayPutRoot}
use Rattle.ft_bank.proofs.TableAddresses.{class_is, named}
use Rattle.ft_search.specs.Held.{IsHeldAt}
use Rattle.ft_search.specs.Rounds.{kind_by}
use Rattle.ft_search.proofs.Changing.{kind_is, shut_known}
use Rattle.ft_search.proofs.WordPlaces.{slots_of_class}
use Rattle.ft_search.proofs.Puts.{keyed_version, table_class}
use Rattle.ft_new_keys.specs.declared.counts.Counts.{Counts}
use Rattle.ft_new_keys.specs.Moving.{live_in_root, HasMoved}
use Rattle.ft_new_keys.proofs.GoneEntries.{split_names}
use Rattle.ft_new_keys.proofs.UnstoredBoxes.{taken_unnamed}
use Rattle.ft_new_keys.specs.KeyGrowth.{MayBeginKeyed, IsFreeFor}
use Rattle.ft_new_keys.specs.Placing.{AreCounts, StoresAs, counted}
use Rattle.ft_new_keys.proofs.Keyed.{Heads, way_is, counts_known}
use Rattle.ft_new_keys.proofs.Placed.{Fresh, use_with, none_used, counted_head, kind_shut}

-- ---- readers of a table that stands for a content

pub sound_in : (first_pair : FirstEntriesArePairs) (first_element : FirstEntriesAreElements) (texts b l : List ℕ) (class fill : ℕ) (d : Content) → IsKeyed (kind_of d) → IsClass class → StandsAs texts b (0 ∷ 0 ∷ l) (use_with class fill) d → SoundAs (kind_of d) texts class l d
sound_in first_pair first_element texts b l class fill (content.Dict pairs) keyed is_class is = record {
  right = λ p key low even live. dict.dict_right first_pair texts b class fill is_class pairs l is p key low live;
  named = λ s p less low e. dict.dict_named first_pair texts b class fill is_class pairs l is s p less e;
  reached = λ key fits some. dict.dict_reached first_pair texts b class fill is_class pairs l is key fits some;
}
sound_in first_pair first_element texts b l class fill (content.Set elements) keyed is_class is = record {
  right = λ p key low even live. set.set_right first_element texts b class fill is_class elements l is p key low live;
  named = λ s p less low e. set.set_named first_element texts b class fill is_class elements l is s p less e;
  reached = λ key fits some. set.set_reached first_element texts b class fill is_class elements l is key fits some;
}
sound_in first_pair first_element texts b l class fill (content.List values) keyed is_class is = absurd keyed
sound_in first_pair first_element texts b l class fill (content.Deque deque) keyed is_class is = absurd keyed

-- a key that the content hasn't is in no entry that is there
pub absent_in : (texts b l : List ℕ) (class fill : ℕ) (d : Content) (by : Way) (key : Key) → kind_of d ≡ kind_by by → StandsAs texts b (0 ∷ 0 ∷ l) (use_with class fill) d → IsHeldAt d key None → (used : List UsedEntry) × IsTableOf by texts (class_mask class) used (0 ∷ 0 ∷ l) × All (λ (e : UsedEntry). e.key ≢ key) (filter is_live used)
absent_in texts b l class fill (content.Dict pairs) way.Dict key same is absent = (is.used, is.table, subst (All (λ (e : UsedEntry). e.key ≢ key)) (sym is.entries.live) (none_used _ pairs.pairs key absent))
absent_in texts b l class fill (content.Set elements) way.Set key same is absent = (is.used, is.table, subst (All (λ (e : UsedEntry). e.key ≢ key)) (sym is.entries.live) (none_used _ elements.elements key absent))
absent_in texts b l class fill (content.Dict pairs) way.Set key same is absent = absurd (cc)
absent_in texts b l class fill (content.Set elements) way.Dict key same is absent = absurd (cc)
absent_in texts b l class fill (content.List values) way.Dict key same is absent = absurd (cc)
absent_in texts b l class fill (content.Deque deque) way.Dict key same is absent = absurd (cc)
absent_in texts b l class fill (content.List values) way.Set key same is absent = absurd (cc)
absent_in texts b l class fill (content.Deque deque) way.Set key same is absent = absurd (cc)

-- ---- a block with another root

pub rooted_head : (b : List ℕ) (class : Option ℕ) (k : Shape) (table : Table) (count fill next : ℕ) → IsBlock b class count fill next → IsTableIn k table → IsBlock (slice_set b 0 (suc (table_id table))) (Some (class_of (table_id table))) count fill next
rooted_head b class k table count fill next h table_in =
    let size_is = h.size in
    let names : slice_index (slice_set b 0 (suc (table_id table))) 0 ≡ suc (table_id table) = get_or-set_same b 0 (suc (table_id table)) 0 (omega (arith, size_is)) in
    let other : (i : ℕ) → i ≢ 0 → slice_index (slice_set b 0 (suc (table_id table))) i ≡ slice_index b i = λ i ne. get_or-set_other b 0 i (suc (table_id table)) 0 ne in
    let c = class_is table table_in.2 in
    record {
      size = length-set b 0 (suc (table_id table)) ∙ h.size;
      root = subst (λ (r : ℕ). IsRoot r (Some (class_of (table_id table)))) (sym names) (table.number, (table_class k table table_in, table_in.2, omega (arith, c)));
      count_is = other 1 (λ e. absurd (omega (arith, e))) ∙ h.count_is;
      fill_is = other 2 (λ e. absurd (omega (arith, e))) ∙ h.fill_is;
      next_is = other 3 (λ e. absurd (omega (arith, e))) ∙ h.next_is;
      spare = (other 4 (λ e. absurd (omega (arith, e))) ∙ h.spare.0, other 5 (λ e. absurd (omega (arith, e))) ∙ h.spare.1);
    }

-- ---- the root

module _ (first_pair : FirstEntriesArePairs) (first_element : FirstEntriesAreElements) (heads : Heads) (k : Shape) (o : ℕ) (old : Option Table) (table : Table) (v : View) (may : MayBeginKeyed k o old table v) (shape : v.shape ≡ k) (possible : ∥ IsReachable v ∥₁) (moved : HasMoved k o table v) where
  abbrev c : ℕ
  c = class_of (table_id table)

  abbrev d : Content
  d = (known_state o v).content

  abbrev ws : List ℕ
  ws = hand_unboxed o (table_id table) v

  abbrev b : List ℕ
  b = slice_set (held_unboxed o v).block 0 (suc (table_id table))

  content_kind : kind_of d ≡ kind_in k.starts o
  content_kind = kind_is k v o shape possible may.keyed.locked

  keyed_d : IsKeyed (kind_of d)
  keyed_d = subst IsKeyed (sym content_kind) may.keyed.keyed

  is_class : IsClass c
  is_class = (named k table may.table_in).0

  head : IsBlock b (Some c) (length_of d) (known_state o v).table.fill (serial_of d)
  head = rooted_head (held_unboxed o v).block (known_state o v).table.class k table (length_of d) (known_state o v).table.fill (serial_of d) (heads k.texts (held_unboxed o v).block (0 ∷ 0 ∷ (held_unboxed o v).table) (known_state o v).table d may.keyed.stands) may.table_in

  abbrev before : List ℕ
  before = counted b (length_of d) (length_of d) (serial_of d)

  pub filled_says : StandsAs k.texts before (0 ∷ 0 ∷ ws) (use_with c (length_of d)) d
  filled_says = moved.says before (counted_head b (Some c) (length_of d) (known_state o v).table.fill (serial_of d) (length_of d) (length_of d) (serial_of d) head)

  the_one : (t : Table) → Some table ≡ Some t → table ≡ t
  the_one t e = ap (λ (z : Option Table). unwrap_or z table) e

  kind_v : kind_of d ≡ kind_in v.shape.starts o
  kind_v = content_kind ∙ sym (ap (λ (z : Shape). kind_in z.starts o) shape)

  texts_v : k.texts ≡ v.shape.texts
  texts_v = sym (ap (λ (z : Shape). z.texts) shape)

  sound_here : SoundAs (kind_in v.shape.starts o) v.shape.texts c ws d
  sound_here = subst (λ (z : Kind × List ℕ). SoundAs z.0 z.1 c ws d) (λ i. (kind_v i, texts_v i)) (sound_in first_pair first_element k.texts before ws c (length_of d) d keyed_d is_class filled_says)

  -- each version is 0
  version_zero : (p : ℕ) → p < rows (kind_of d) c → entry_field (slots c) ws p 0 ≡ 0
  version_zero p low = moved.versions p (subst (λ (z : Kind). p < rows z c) content_kind low)

  young_here : (p : ℕ) → p < rows (kind_in v.shape.starts o) c → slice_index ws (version_at (kind_in v.shape.starts o) c p) ≡ 0
  young_here =
      subst (λ (z : Kind). (p : ℕ) → p < rows z c → slice_index ws (version_at z c p) ≡ 0) kind_v
      (λ p low. ap (slice_index ws) (keyed_version (kind_of d) keyed_d c p) ∙ version_zero p low)

  -- it names no box more often than the table that the root names
  abbrev named_new : ℕ → ℕ
  named_new b = named_in_root b (kind_in v.shape.starts o) (suc (table_id table)) (in_hand (table_id table) v)

  names_fewer : (b : ℕ) → named_new b ≤ named_in_words b (kind_in v.shape.starts o) (held_words o v)
  names_fewer b =
      let names = (λ d. named_in_root b (kind_in (shape d).starts o) (suc (table_id table)) (in_hand (table_id table) v)) ∙ (moved.names b ∙ (λ d. live_in_root b (kind_in (sym shape d).starts o) (root_in (held_words o v)) (held_words o v).table)) in
      let both = split_names b (kind_in v.shape.starts o) (root_in (held_words o v)) (held_words o v).table in
      omega (arith, names, both)

  shut_here : IsShut o v
  shut_here t names = subst (λ (z : Kind). Shut (version_at z (class_of t)) (rows z (class_of t)) (held_unboxed o v).table) kind_v (shut_known k v o t shape possible may.keyed.container may.keyed.locked may.keyed.even names)

  pub may_root : (f : ℕ) → MayPutRoot (view_after (StartWrite o f) v) o (Some table)
  may_root f = record {
    odd = hit o true (is_writing o v.log);
    fresh = λ t e. subst (λ (z : Table). stage (table_id z) v.log ≡ 1) (the_one t e) may.fresh;
    sound = λ t e. subst (λ (z : Table). SoundAs (kind_in v.shape.starts o) v.shape.texts (class_of (table_id z)) (hand_unboxed o (table_id z) v) d) (the_one t e)
        sound_here;
    young = λ t p e row.
        let here = subst (λ (z : Table). (q : ℕ) → q < rows (kind_in v.shape.starts o) (class_of (table_id z)) → slice_index (hand_unboxed o (table_id z) v) (version_at (kind_in v.shape.starts o) (class_of (table_id z)) q) ≡ 0) (the_one t e)
        young_here p row in
        (omega (arith, here), (λ late. here));
    shut = shut_here;
    spare = λ some_one. may.used;
    early = λ e. absurd (true≢false (ap is_some e));
    references = record {
      few = may.few;
      enough = λ b. let fewer = names_fewer b in omega (arith, fewer);
      known = λ b none some. absurd (some (let fewer = names_fewer b in omega (arith, fewer, none)));
      stored = λ b taken.
          let fewer = names_fewer b in
          let none = taken_unnamed v o b possible (subst (λ (z : Shape). o < container_count z) (sym shape) may.keyed.container) may.keyed.locked may.keyed.even taken in
          omega (arith, fewer, none);
    };
  }

  -- no version is odd there
  pub shut_rooted : Shut (version_at (kind_of d) c) (rows (kind_of d) c) ws
  shut_rooted = kind_shut (kind_of d) keyed_d c (rows (kind_of d) c) ws (λ p less. let z = version_zero p less in omega (arith, z))

  -- a new key there
  pub fresh_rooted : (by : Way) → kind_in k.starts o ≡ kind_by by → (slot : ℕ) (counts : Counts) (key : Key) (stored : Stored) → AreCounts (held_unboxed o v).block counts → FitsKey key → hash_of k.texts key < 2 ^ 64 → StoresAs (kind_by by) stored → FitsStored stored → IsHeldAt d key None → IsFreeFor k.texts by table.class key ws slot → counts.count < rows (kind_by by) c
      → Fresh k.texts (record { block = b; table = ws }) (table_id table) slot (record { count = counts.count; fill = counts.count; next = counts.next }) d key stored
  fresh_rooted by kind_eq slot counts key stored are fits low stores ok absent free room =
      let same = class_is table may.table_in.2 in
      let kinds : kind_of d ≡ kind_by by = content_kind ∙ kind_eq in
      let many = (counts_known heads k o old v counts may.keyed are).0 in
      let some = slots_of_class c in
      let slot_low = free.0 in
      let last : class_mask table.class ≡ class_mask c = ap class_mask (sym same) in
      let long = rows_long (λ b i. known_box_word v.shape b i v.log) (kind_in v.shape.starts o) c (rows (kind_in v.shape.starts o) c) (in_hand (table_id table) v) ∙ table_long v.shape (table_id table) (mem v.shape v.log) in
      record {
        is_class = is_class;
        keyed = keyed_d;
        fits = fits;
        low = low;
        stores = subst (λ (z : Kind). StoresAs z stored) (sym kinds) stores;
        ok = ok;
        before = before;
        says = subst (λ (n : ℕ). StandsAs k.texts before (0 ∷ 0 ∷ ws) (use_with c n) d) (sym many) filled_says;
        had = (known_state o v).table.fill;
        head = head;
        count_is = many;
        room = subst (λ (z : Kind). counts.count < rows z c) (sym kinds) room;
        long = let f = keyed_fit (kind_of d) keyed_d c in omega (arith, f, long);
        in_index = omega (arith, some, slot_low, last);
        free = subst (λ (z : Way × ℕ). FirstFree (0 ∷ 0 ∷ ws) (walk_slots z.0 (hash_of k.texts key) (class_mask z.1)) (Some slot)) (λ i. (sym (way_is d by kinds) i, sym same i)) free.1;
        absent = absent;
        even = let z = version_zero counts.count (subst (λ (y : Kind). counts.count < rows y c) (sym kinds) room) in omega (arith, z);
      }
