-- A dict or a set in the midst of a write that joins another one to it: before the first key, after each, at the end.
use Rattle.std.proofs.Common.{◌≡◌, ℕ, suc, ◌+◌, ◌^◌, ◌%◌, ◌<◌, ◌≤◌, ⊎_elim, true, false, true≢false, List, [], ◌∷◌, length, drop, Option, Some, None, refl, sym, ap, ◌∙◌, subst, arith, ltb-false, ◌≢◌}
use Rattle.std.specs.Prelude.{is_some, slice_index_or}
use Rattle.std.proofs.lemmas.List.{drop_all, drop_more}
use Rattle.ft_model.specs.declared.call.Call.{Call}
use Rattle.ft_model.specs.declared.content.Content.{Content}
use Rattle.ft_model.specs.declared.content.Content.TheVariants as content
use Rattle.ft_model.specs.declared.data.Key.{Key}
use Rattle.ft_model.specs.declared.reply.Reply.TheVariants as reply
use Rattle.ft_model.specs.declared.script.Kind.{Kind}
use Rattle.ft_model.specs.TableUses.{StoredWorld, TableUse, after_stored, passes_cap, takes_in}
use Rattle.ft_model.specs.Worlds.{kind_of, length_of, serial_of}
use Rattle.ft_layout.specs.declared.slot.Stored.{Stored}
use Rattle.ft_layout.specs.Containers.{class_mask}
use Rattle.ft_layout.specs.Tables.{UsedEntry, hash_of}
use Rattle.ft_layout.specs.Words.{FitsKey, FitsStored}
use Rattle.ft_keys.specs.declared.walk.Way.{Way}
use Rattle.ft_keys.specs.Ways.{IsTableOf}
use Rattle.ft_trace.specs.declared.Shape.{Shape}
use Rattle.ft_trace.specs.declared.View.{View}
use Rattle.ft_trace.specs.Acts.{has_emptied, is_writing, owes}
use Rattle.ft_trace.specs.Addresses.{class_of, container_count, slots}
use Rattle.ft_trace.specs.Boxes.{place_use, use_taken}
use Rattle.ft_trace.specs.Carefuls.{HasLiveKey, OpensChanged}
use Rattle.ft_trace.specs.Holds.{held_unboxed, known_state}
use Rattle.ft_trace.specs.Kinds.{ClearAs, IsKeyed, rows, under}
use Rattle.ft_trace.specs.Pictures.{ContainerWords, root_in}
use Rattle.ft_trace.specs.ContainerStates.{ContainerState, changes, state_at, kind_in, reply_in}
use Rattle.ft_trace.specs.WholeWrites.{MayPuts, with_puts}
use Rattle.ft_bank.specs.declared.table.Table.{Table}
use Rattle.ft_bank.specs.TableNames.{table_id}
use Rattle.ft_bank.specs.Whole.{OnlyLoaded, OnlyWritten}
use Rattle.ft_bank.specs.WriteSteps.{MayCommit, MayHave}
use Rattle.ft_bank.proofs.KnownAfterWrites.{work_knows}
use Rattle.ft_search.specs.Held.{IsHeldAt}
use Rattle.ft_search.specs.Rounds.{kind_by}
use Rattle.ft_search.specs.OneEntryWrites.{WritesEntries}
use Rattle.ft_search.proofs.Calling.{plain_replied}
use Rattle.ft_search.proofs.Puts.{table_class}
use Rattle.ft_search.proofs.OtherValues.{ValueLaws}
use Rattle.ft_new_keys.specs.declared.counts.Counts.{Counts}
use Rattle.ft_new_keys.specs.KeyGrowth.{IsFreeFor, KnowsKeyed, holds, most_of}
use Rattle.ft_new_keys.specs.Placing.{StoresAs, with_key}
use Rattle.ft_new_keys.specs.Internal.Laying.{with_entry}
use Rattle.ft_new_keys.proofs.FinishedKeys.{Since, has_since}
use Rattle.ft_new_keys.proofs.Placed.{PlaceLaws, pair_for, use_with}
use Rattle.ft_new_keys.proofs.Wanted.{most_few}
use Rattle.ft_merging.specs.Joining.{JoinsKeys, joined, joined_state, new_keys}
use Rattle.ft_merging.specs.Internal.JoiningSteps.{AreLeft, IsJoining, NoneAhead, NoneGone, NoneOf, lacking, stored_puts}
use Rattle.ft_merging.specs.Internal.EntriesAtOnce.{IsMidway, MayFinishAll, version_of}
use Rattle.ft_merging.proofs.Ending.{Laws, clear_of, parity, read_same}
use Rattle.ft_merging.proofs.JoinedContents.{counts_more, counts_same, joined_counts, kind_with, left_dead, left_new, left_stores, left_there, rest_none, empty_of, new_still}
use Rattle.ft_merging.proofs.JoinedReads.{Source, holds_none}
use Rattle.ft_merging.proofs.JoinedStep.{ahead_put, alive_put, midway_put, lacks_mid}
use Rattle.ft_merging.proofs.JoinedValues.{ahead_there, there_may, there_put, there_still}
use Rattle.ft_merging.proofs.Thinned.{midway_loaded}

-- ---- after loads

pub joining_loaded : (k : Shape) (o : ℕ) (by : Way) (own : Table) (t : ℕ) (table : Table) (goal : Content) (end place : ℕ) (counts : Counts) (v w : View) → v.shape ≡ k → OnlyLoaded v w → KnowsKeyed k t (Some table) v → IsJoining k o by own t table goal end place counts v → IsJoining k o by own t table goal end place counts w
joining_loaded k o by own t table goal end place counts v w shape only knows j =
    let other : held_unboxed t v ≡ held_unboxed t w = sym (read_same k t v w shape knows.container knows.locked only) in
    let mine : held_unboxed o v ≡ held_unboxed o w = sym (read_same k o v w shape j.midway.writes.container j.midway.writes.locked only) in
    record {
      mid = j.mid;
      midway = midway_loaded k o own (record { content = j.mid; table = use_with (class_of (table_id own)) counts.fill }) v w shape only j.midway;
      kept = subst (λ (z : ContainerState). (key : Key) → under z.content key ≢ [] → under j.mid key ≢ []) (sym (work_knows v w o only.work)) j.kept;
      same_kind = j.same_kind;
      kind_is = j.kind_is;
      count_is = j.count_is;
      next_is = j.next_is;
      alive = subst (λ (x : ContainerWords). NoneGone (table_id own) (rows (kind_in k.starts o) (class_of (table_id own))) x) mine j.alive;
      room = j.room;
      used = j.used;
      filled = j.filled ∙ ap (λ (z : ContainerState). z.table.fill) (sym (work_knows v w t only.work));
      source = subst (λ (x : ContainerWords). IsTableOf by k.texts (class_mask (class_of (table_id table))) j.used (0 ∷ 0 ∷ x.table)) other j.source;
      left = j.left;
      ahead = subst (λ (x : ContainerWords). NoneAhead (table_id own) (rows (kind_in k.starts o) (class_of (table_id own))) x (drop place j.used)) mine j.ahead;
    }

-- ---- one more entry

module _ (k : Shape) (o : ℕ) (by : Way) (own : Table) (t : ℕ) (table : Table) (goal : Content) (end place : ℕ) (counts : Counts) (v : View) (j : IsJoining k o by own t table goal end place counts v) (low : place < (known_state t v).table.fill) (any : UsedEntry) where
  abbrev e : UsedEntry
  e = slice_index_or j.used place any

  abbrev later : List UsedEntry
  later = drop (place + 1) j.used

  pub inside : place < length j.used
  inside = let f = j.filled in omega (arith, low, f)

  step : (key : Key) (s : Option Stored) → e.key ≡ key → e.stored ≡ s → AreLeft (kind_by by) j.mid goal counts.fill end (record { key = key; serial = e.serial; stored = s } ∷ later)
  step key s same is = subst (AreLeft (kind_by by) j.mid goal counts.fill end) (drop_more j.used place any inside ∙ (λ i. record { key = same i; serial = e.serial; stored = is i } ∷ later)) j.left

  -- the entries that are left after it
  abbrev m : ℕ
  m = rows (kind_in k.starts o) (class_of (table_id own))

  ahead_here : NoneAhead (table_id own) m (held_unboxed o v) (e ∷ later)
  ahead_here = subst (NoneAhead (table_id own) m (held_unboxed o v)) (drop_more j.used place any inside) j.ahead

  ahead_later : NoneAhead (table_id own) m (held_unboxed o v) later
  ahead_later p key less odd fits live i d few = ahead_here p key less odd fits live (suc i) d (omega (arith, few))

  -- it was deleted
  pub joining_dead : e.stored ≡ None → IsJoining k o by own t table goal end (place + 1) counts v
  joining_dead dead = record {
    mid = j.mid;
    midway = j.midway;
    kept = j.kept;
    same_kind = j.same_kind;
    kind_is = j.kind_is;
    count_is = j.count_is;
    next_is = j.next_is;
    alive = j.alive;
    room = j.room;
    used = j.used;
    filled = j.filled;
    source = j.source;
    left = left_dead (kind_by by) j.mid goal j.same_kind counts.fill end e.key e.serial later (step e.key None refl dead);
    ahead = ahead_later;
  }

  module _ (key : Key) (stored : Stored) (same : e.key ≡ key) (is : e.stored ≡ Some stored) where
    pub stores : StoresAs (kind_of j.mid) stored
    stores = left_stores (kind_by by) j.mid goal j.same_kind counts.fill end key e.serial later stored (step key (Some stored) same is)

    -- no entry that is left has the key
    none_later : NoneOf key later
    none_later = rest_none (record { key = key; serial = e.serial; stored = Some stored }) later refl (step key (Some stored) same is).apart

    -- its key is there, at this place
    module _ (laws : ValueLaws) (fits : FitsKey key) (ok : FitsStored stored) (at : ℕ) (room : at < rows (kind_by by) (class_of (table_id own))) (live : HasLiveKey (slots (class_of (table_id own))) (held_unboxed o v).table at key) where
      pub there_low : at < m
      there_low = subst (λ (y : Kind). at < rows y (class_of (table_id own))) (sym j.kind_is) room

      -- it isn't written yet
      pub even : version_of (table_id own) (held_unboxed o v) at % 2 ≡ 0
      even =
          ⊎_elim (λ (two : version_of (table_id own) (held_unboxed o v) at % 2 ≡ 0). two)
          (λ (odd : version_of (table_id own) (held_unboxed o v) at % 2 ≡ 1). absurd (ahead_here at key there_low odd fits live 0 e (omega arith) (ap is_some is) (sym same)))
          (parity (version_of (table_id own) (held_unboxed o v) at))

      kinds : kind_of j.mid ≡ kind_in k.starts o
      kinds = j.same_kind ∙ sym j.kind_is

      pub joining_may : (before : Content) → MayPuts (kind_in k.starts o) (table_id own) before false (held_unboxed o v) (stored_puts (slots (class_of (table_id own))) (held_unboxed o v).table at stored)
      joining_may before = there_may laws k o own counts.fill v at key fits there_low live even j.mid stored j.midway kinds stores ok before

      pub joining_there : holds j.mid key ≡ true → (z : View) → OnlyWritten o v z → held_unboxed o z ≡ with_puts (held_unboxed o v) (stored_puts (slots (class_of (table_id own))) (held_unboxed o v).table at stored) → WritesEntries k o own z → held_unboxed t z ≡ held_unboxed t v → IsJoining k o by own t table goal end (place + 1) counts z
      joining_there there z only words writes other =
          let put = there_put laws k o own counts.fill v at key fits there_low live even j.mid stored j.midway kinds stores ok there j.alive z only words writes in
          let more = counts_same j.mid key stored stores there in
          let c = j.count_is in
          let d = j.next_is in
          let c1 = more.0 in
          let d1 = more.1 in
          record {
            mid = with_key j.mid key stored;
            midway = put.midway;
            kept = subst (λ (y : ContainerState). (a : Key) → under y.content a ≢ [] → under (with_key j.mid key stored) a ≢ []) (sym (work_knows v z o only.work))
                (λ a some. there_still laws k o own counts.fill v at key fits there_low live even j.mid stored j.midway kinds stores ok there a (j.kept a some));
            same_kind = kind_with j.mid key stored stores ∙ j.same_kind;
            kind_is = j.kind_is;
            count_is = omega (arith, c, c1);
            next_is = omega (arith, d, d1);
            alive = put.alive;
            room = j.room;
            used = j.used;
            filled = j.filled ∙ ap (λ (y : ContainerState). y.table.fill) (sym (work_knows v z t only.work));
            source = subst (λ (x : ContainerWords). IsTableOf by k.texts (class_mask (class_of (table_id table))) j.used (0 ∷ 0 ∷ x.table)) (sym other) j.source;
            left = left_there (kind_by by) j.mid goal j.same_kind counts.fill end key e.serial later stored (step key (Some stored) same is) there;
            ahead = ahead_there k o own (with_key j.mid key stored) counts.fill at v z put key fits live later ahead_later none_later;
          }

    -- its key is new
    module _ (absent : IsHeldAt j.mid key None) where
      abbrev next : AreLeft (kind_by by) (with_key j.mid key stored) goal (counts.fill + 1) end later × (counts.fill < end) × (length_of j.mid < 65536) × (serial_of j.mid + 1 < 2 ^ 63)
      next = left_new (kind_by by) j.mid goal j.same_kind counts.fill end key e.serial later stored (step key (Some stored) same is) (holds_none j.mid key absent)

      pub new_room : counts.fill < rows (kind_in k.starts o) (class_of (table_id own))
      new_room = let n = next.1 in let r = j.room in omega (arith, n, r)

      pub new_few : (counts.count < 65536) × (counts.next + 1 < 2 ^ 63)
      new_few = let a = next.2 in let b = next.3 in let c = j.count_is in let d = j.next_is in (omega (arith, a, c), omega (arith, b, d))

      module _ (laws : PlaceLaws) (slot : ℕ) (fits : FitsKey key) (hash : hash_of k.texts key < 2 ^ 64) (ok : FitsStored stored) (free : IsFreeFor k.texts by own.class key (held_unboxed o v).table slot) (z : View) (only : OnlyWritten o v z) (words : held_unboxed o z ≡ with_entry (table_id own) slot counts (pair_for k.texts j.mid key stored) (held_unboxed o v)) (writes : WritesEntries k o own z) (other : held_unboxed t z ≡ held_unboxed t v) where
        room_by : counts.fill < rows (kind_by by) (class_of (table_id own))
        room_by = subst (λ (y : Kind). counts.fill < rows y (class_of (table_id own))) j.kind_is new_room

        pub joining_new : IsJoining k o by own t table goal end (place + 1) (record { count = counts.count + 1; fill = counts.fill + 1; next = counts.next + 1 }) z
        joining_new =
            let more = counts_more j.mid key stored stores (holds_none j.mid key absent) in
            let c = j.count_is in
            let d = j.next_is in
            let c1 = more.0 in
            let d1 = more.1 in
            record {
              mid = with_key j.mid key stored;
              midway = midway_put laws k o by own j.mid counts v j.midway j.same_kind j.kind_is j.count_is j.alive slot key stored fits hash stores ok absent free room_by z only words writes
                  (empty_of (under (known_state o v).content key) (λ some. j.kept key some (lacks_mid laws k o by own j.mid counts v j.midway j.same_kind j.kind_is j.count_is j.alive slot key stored fits hash stores ok absent free room_by)));
              kept = subst (λ (y : ContainerState). (a : Key) → under y.content a ≢ [] → under (with_key j.mid key stored) a ≢ []) (sym (work_knows v z o only.work)) (λ a some. new_still j.mid key stored stores absent a (j.kept a some));
              same_kind = kind_with j.mid key stored stores ∙ j.same_kind;
              kind_is = j.kind_is;
              count_is = omega (arith, c, c1);
              next_is = omega (arith, d, d1);
              alive = alive_put laws k o by own j.mid counts v j.midway j.same_kind j.kind_is j.count_is j.alive slot key stored fits hash stores ok absent free room_by z only words writes;
              room = j.room;
              used = j.used;
              filled = j.filled ∙ ap (λ (y : ContainerState). y.table.fill) (sym (work_knows v z t only.work));
              source = subst (λ (x : ContainerWords). IsTableOf by k.texts (class_mask (class_of (table_id table))) j.used (0 ∷ 0 ∷ x.table)) (sym other) j.source;
              left = next.0;
              ahead = ahead_put laws k o by own j.mid counts v j.midway j.same_kind j.kind_is j.count_is j.alive slot key stored fits hash stores ok absent free room_by z only words writes later ahead_later none_later;
            }

-- ---- before the first one

-- how many there are at most
pub cap_few : (d : Content) → passes_cap d ≡ false → length_of d ≤ most_of d
cap_few (content.Dict pairs) not = ltb-false _ _ not
cap_few (content.Set elements) not = ltb-false _ _ not
cap_few (content.List values) not = ltb-false _ _ not
cap_few (content.Deque deque) not = ltb-false _ _ not

-- what there is then
pub joined_more : (k : Shape) (by : Way) (t : ℕ) (table : Table) (v : View) (s : Source k by t table v) (d : Content) → kind_of d ≡ kind_by by → (length_of (joined d (known_state t v).content) ≡ length_of d + lacking d s.used) × (new_keys d (known_state t v).content ≡ lacking d s.used) × (serial_of (joined d (known_state t v).content) ≡ serial_of d + lacking d s.used)
joined_more k by t table v s d same_kind =
    let comes = s.comes d same_kind in
    let counts = joined_counts (kind_by by) s.used d same_kind s.apart s.stores in
    let n : length_of (joined d (known_state t v).content) ≡ length_of d + lacking d s.used = ap length_of (sym comes) ∙ counts.0 in
    let r : serial_of (joined d (known_state t v).content) ≡ serial_of d + lacking d s.used = ap serial_of (sym comes) ∙ counts.1 in
    (n, omega (arith, r), r)

pub joining_begins : (k : Shape) (o : ℕ) (by : Way) (own : Table) (t : ℕ) (table : Table) (d : Content) (counts : Counts) (more : ℕ) (u : View) → IsMidway k o own (record { content = d; table = use_with (class_of (table_id own)) counts.fill }) u → kind_of d ≡ kind_by by → kind_in k.starts o ≡ kind_by by → counts.count ≡ length_of d → counts.next ≡ serial_of d
    → NoneGone (table_id own) (rows (kind_in k.starts o) (class_of (table_id own))) (held_unboxed o u) → ((p : ℕ) → p < rows (kind_in k.starts o) (class_of (table_id own)) → version_of (table_id own) (held_unboxed o u) p % 2 ≡ 0) → Source k by t table u → passes_cap (joined d (known_state t u).content) ≡ false → serial_of d + 65536 < 2 ^ 63 → more ≡ new_keys d (known_state t u).content → counts.fill + more ≤ rows (kind_in k.starts o) (class_of (table_id own)) → d ≡ (known_state o u).content
    → IsJoining k o by own t table (joined d (known_state t u).content) (counts.fill + more) 0 counts u
joining_begins k o by own t table d counts more u midway same_kind kind_eq count_is next_is alive evens s cap serials more_is room is_known =
    let j = joined_more k by t table u s d same_kind in
    let n = j.0 in
    let m = j.1 in
    let few = cap_few (joined d (known_state t u).content) cap in
    let most = most_few (joined d (known_state t u).content) in
    record {
      mid = d;
      midway = midway;
      kept = subst (λ (z : Content). (key : Key) → under z key ≢ [] → under d key ≢ []) is_known (λ key some. some);
      same_kind = same_kind;
      kind_is = kind_eq;
      count_is = count_is;
      next_is = next_is;
      alive = alive;
      room = room;
      used = s.used;
      filled = s.filled;
      source = s.table_is;
      left = record {
        comes = s.comes d same_kind;
        fits = omega (arith, m, more_is);
        few = omega (arith, n, few, most);
        serials = omega (arith, n, few, most, serials);
        apart = s.apart;
        stores = s.stores;
      };
      ahead = λ p key less odd fits live. let e = evens p less in absurd (omega (arith, e, odd));
    }

-- ---- after the last one

module _ (laws : Laws) (k : Shape) (o : ℕ) (by : Way) (own : Table) (t : ℕ) (table : Table) (end fill : ℕ) (counts : Counts) (v u : View) (since : Since o v u) (shape : v.shape ≡ k) (low : o < container_count k) (some : 0 < v.left) (untaken : (b : ℕ) → place_use b v.log ≢ use_taken) (called : Call) (joins : JoinsKeys o t called v) (cap : passes_cap (joined (known_state o v).content (known_state t v).content) ≡ false)
    (takes : (found : StoredWorld) (class : ℕ) → MayHave v found → owes v.log ≡ suc class → takes_in found called ≡ Some class) (left_table : (joined_state (known_state o v) (known_state t v).content).table ≡ use_with (class_of (table_id own)) end) (j : IsJoining k o by own t table (joined (known_state o v).content (known_state t v).content) end fill counts u) (all : fill ≡ (known_state t u).table.fill) where
  abbrev c : ℕ
  c = class_of (table_id own)

  abbrev goal : Content
  goal = joined (known_state o v).content (known_state t v).content

  abbrev left : ContainerState
  left = joined_state (known_state o v) (known_state t v).content

  none_left : drop fill j.used ≡ []
  none_left = drop_all fill j.used (let f = j.filled in omega (arith, f, all))

  at_end : AreLeft (kind_by by) j.mid goal counts.fill end []
  at_end = subst (AreLeft (kind_by by) j.mid goal counts.fill end) none_left j.left

  midway : IsMidway k o own left u
  midway =
      let comes = at_end.comes in
      let fits = at_end.fits in
      let f : counts.fill ≡ end = omega (arith, fits) in
      subst (λ (z : ContainerState). IsMidway k o own z u) ((λ i. record { content = comes i; table = use_with c (f i) }) ∙ (λ i. record { content = goal; table = sym left_table i })) j.midway

  kind_goal : kind_of goal ≡ kind_by by
  kind_goal = ap kind_of (sym at_end.comes) ∙ j.same_kind

  kind_u : kind_of goal ≡ kind_in u.shape.starts o
  kind_u = kind_goal ∙ (sym j.kind_is ∙ sym (ap (λ (z : Shape). kind_in z.starts o) (since.shape ∙ shape)))

  texts_u : k.texts ≡ u.shape.texts
  texts_u = sym (ap (λ (z : Shape). z.texts) (since.shape ∙ shape))

  left_since : (found : StoredWorld) → MayHave u found → state_at (after_stored found called) o ≡ left
  left_since found has = joins.left_is found (has_since o v u since found has)

  here : ClearAs (kind_of goal) k.texts c (held_unboxed o u).table (known_state o v).content goal
  here =
      clear_of laws k.texts (held_unboxed o u) (table_id own) (table_class k own midway.writes.table_in) midway.writes.root goal left refl (subst IsKeyed (sym (kind_goal ∙ sym j.kind_is)) midway.writes.keyed) midway.stands (known_state o v).content
      (λ p key less even live. midway.same p key (subst (λ (z : Kind). p < rows z c) (kind_goal ∙ sym j.kind_is) less) even live ∙ ap (λ (z : ContainerState). under z.content key) (since.knows o))
      (subst (λ (z : Kind × ContainerState). OpensChanged (slots c) (rows z.0 c) (held_unboxed o u).table (under z.1.content) (under goal)) (λ d. ((j.kind_is ∙ sym kind_goal) d, since.knows o d)) midway.opens)

  clears : (found : StoredWorld) (q : ℕ) → MayHave u found → root_in (held_unboxed o u) ≡ suc q → ClearAs (kind_in u.shape.starts o) u.shape.texts (class_of q) (held_unboxed o u).table (known_state o u).content (state_at (after_stored found called) o).content
  clears found q has names =
      let same : table_id own ≡ q = let e : suc (table_id own) ≡ suc q = sym midway.writes.root ∙ names in omega (arith, e) in
      let l = left_since found has in
      subst (λ (n : ℕ). ClearAs (kind_in u.shape.starts o) u.shape.texts (class_of n) (held_unboxed o u).table (known_state o u).content (state_at (after_stored found called) o).content) same
      (subst (λ (z : Kind × List ℕ × ContainerState × ContainerState). ClearAs z.0 z.1 c (held_unboxed o u).table z.2.content z.3.content) (λ d. (kind_u d, texts_u d, sym (since.knows o) d, sym l d)) here)

  commits : MayCommit u called reply.Done
  commits =
      let name : o ≡ changes called = sym joins.changed in
      record {
        write = joins.write;
        container = subst (λ (n : ℕ). n < container_count u.shape) name (subst (λ (z : Shape). o < container_count z) (sym (since.shape ∙ shape)) low);
        odd = subst (λ (n : ℕ). is_writing n u.log ≡ true) name since.odd;
        left = subst (λ (n : ℕ). 0 < n) (sym since.left) some;
        words = joins.words;
        reply_is = λ found has. plain_replied called reply.Done (reply_in found called) joins.write (joins.replied found (has_since o v u since found has));
        declared = λ found has. joins.declared found (has_since o v u since found has);
        fits = λ found has. joins.over found (has_since o v u since found has) ∙ cap;
        clear = subst (λ (n : ℕ). (found : StoredWorld) (q : ℕ) → MayHave u found → root_in (held_unboxed n u) ≡ suc q → ClearAs (kind_in u.shape.starts n) u.shape.texts (class_of q) (held_unboxed n u).table (known_state n u).content (state_at (after_stored found called) n).content) name clears;
        takes = λ found class has owed. takes found class (has_since o v u since found has) (sym since.owes ∙ owed);
        empties = λ e. absurd (true≢false (sym e ∙ subst (λ (n : ℕ). has_emptied n u.log ≡ false) name since.emptied));
        locks = λ p e. since.locks p ∙ joins.locks p e;
        stores = λ found has. ((λ b taken. absurd (untaken b (since.places b taken))), (λ b c taken other. absurd (untaken b (since.places b taken))));
      }

  pub joined_finishes : MayFinishAll k o own end called reply.Done u
  joined_finishes = record {
    may = commits;
    changed = joins.changed;
    left = left;
    left_is = left_since;
    used = ap (λ (z : TableUse). z.fill) left_table;
    midway = midway;
  }
