-- Keys of two dicts whose values stand in the same boxes.
use Rattle.std.proofs.Common.{◌≡◌, ◌≢◌, ◌⊎◌, ℕ, suc, ◌+◌, ◌-◌, ◌*◌, ◌%◌, ◌<◌, ◌≤◌, Bool, true, false, List, [], ◌∷◌, length, Option, Some, None, refl, sym, ap, ◌∙◌, subst, inl, inr, ⊎_elim, arith, get_or-set_other, true≢false}
use Rattle.std.specs.Prelude.{if◌then◌else◌, is_some, slice_index_or, slice_set}
use Rattle.std.proofs.lemmas.Bool.{cases_lt}
use Rattle.std.proofs.lemmas.List.{get_or_past}
use mathlib.Core.Logic.{dite}
use native.Mathlib.Decide.{ℕ_discrete}
use Rattle.ft_model.specs.declared.content.Content.{Content}
use Rattle.ft_model.specs.declared.content.Content.TheVariants as content
use Rattle.ft_model.specs.declared.content.DictPair.{DictPair}
use Rattle.ft_model.specs.declared.data.Key.{Key}
use Rattle.ft_model.specs.declared.data.Value.{Value}
use Rattle.ft_model.specs.declared.script.Kind.{Kind}
use Rattle.ft_model.specs.declared.script.Kind.TheVariants as kind
use Rattle.ft_model.specs.Contents.{DictContent, dict_set, dict_update, has_key}
use Rattle.ft_model.specs.Worlds.{kind_of, length_of}
use Rattle.ft_layout.specs.declared.slot.Ref.{Ref}
use Rattle.ft_layout.specs.declared.slot.Stored.{Stored}
use Rattle.ft_layout.specs.declared.slot.Stored.TheVariants.{Boxed, Empty, Plain}
use Rattle.ft_layout.specs.Containers.{IsDictWords, class_mask}
use Rattle.ft_layout.specs.Tables.{UsedEntry, dict_room, entry_word, hash_of, is_live, slot_of, slot_with}
use Rattle.ft_layout.specs.Words.{FitsKey, IsEntry, key_kind, key_payload, stored_kind, stored_payload}
use Rattle.ft_layout.proofs.WordLaws.{gone_is, kind_range, same_key}
use Rattle.ft_keys.specs.declared.walk.Way.{Way}
use Rattle.ft_keys.specs.declared.walk.Way.TheVariants as way
use Rattle.ft_keys.specs.Ways.{walk_slots}
use Rattle.ft_trace.specs.declared.Shape.{Shape}
use Rattle.ft_trace.specs.declared.View.{View}
use Rattle.ft_trace.specs.Acts.{has_lock}
use Rattle.ft_trace.specs.Addresses.{class_of, places, size, slots}
use Rattle.ft_trace.specs.BoxWords.{box_kind}
use Rattle.ft_trace.specs.Carefuls.{HasLiveKey}
use Rattle.ft_trace.specs.ContainerStates.{ContainerState, kind_in}
use Rattle.ft_trace.specs.EntryWrites.{value_puts}
use Rattle.ft_trace.specs.Holds.{held_words, held_unboxed, known_state}
use Rattle.ft_trace.specs.Kinds.{IsKeyed, rows, under}
use Rattle.ft_trace.specs.Pictures.{ContainerWords, Represents, entry_field, entry_offset, root_in}
use Rattle.ft_trace.specs.Traces.{IsReachable}
use Rattle.ft_trace.specs.WholeWrites.{with_puts}
use Rattle.ft_trace.proofs.DictWrites as words
use Rattle.ft_trace.proofs.GrownDicts as dict
use Rattle.ft_trace.proofs.Known.{class_known, table_is_long}
use Rattle.ft_trace.proofs.Tellings.{word_is}
use Rattle.ft_bank.specs.declared.table.Table.{Table}
use Rattle.ft_bank.specs.BoxSteps.{box_id}
use Rattle.ft_bank.specs.TableNames.{table_id, IsTableIn}
use Rattle.ft_search.specs.Held.{IsHeldAt}
use Rattle.ft_search.specs.HeldValues.{NamesBoxAt}
use Rattle.ft_search.specs.OneEntryWrites.{are_of_value}
use Rattle.ft_search.specs.Rounds.{kind_by}
use Rattle.ft_search.proofs.FoundInContents.{of_way}
use Rattle.ft_search.proofs.Puts.{entry_reads, table_class}
use Rattle.ft_new_keys.specs.declared.counts.Counts.{Counts}
use Rattle.ft_new_keys.specs.Placing.{StoresAs}
use Rattle.ft_new_keys.proofs.Placed.{PlaceLaws, right_in}
use Rattle.ft_merging.specs.Joining.{HaveEqual, SharesValues, new_keys}
use Rattle.ft_merging.specs.Internal.EntriesAtOnce.{version_of}
use Rattle.ft_merging.specs.Internal.JoiningSteps.{Apart, IsJoining, SharesBelow, stored_puts}
use Rattle.ft_merging.proofs.JoinedPairs.{update_next}
use Rattle.ft_merging.proofs.JoinedReads.{apart_used, entry_used}
use Rattle.ft_merging.proofs.JoinedSame.{no_length}

-- ---- entries that name boxes

-- One names its box still, where its words but its version stand as they stood in the table t, which the root names.
pub names_on : (k : Shape) (o t : ℕ) (v w : View) → v.shape ≡ k → w.shape ≡ k → IsKeyed (kind_in k.starts o) → root_in (held_words o v) ≡ suc t → root_in (held_words o w) ≡ suc t → (key : Key) (b : Ref) (named : NamesBoxAt o key b v)
    → ((word : ℕ) → 0 < word → word < 8 → entry_field (slots (class_of t)) (held_words o w).table named.place word ≡ entry_field (slots (class_of t)) (held_words o v).table named.place word) → NamesBoxAt o key b w
names_on k o t v w shape then_ keyed root root_w key b named keeps = record {
  table = named.table;
  place = named.place;
  root = root_then;
  live = (field 2 (omega arith) (omega arith) (λ e. absurd (omega (arith, e))) (λ e. absurd (omega (arith, e))) ∙ named.live.0, field 3 (omega arith) (omega arith) (λ e. absurd (omega (arith, e))) (λ e. absurd (omega (arith, e))) ∙ named.live.1);
  kind = here 4 (omega arith) (omega arith) ∙ named.kind;
  payload = here 5 (omega arith) (omega arith) ∙ named.payload;
}
  where
    same : t ≡ named.table
    same = let r = named.root in omega (arith, root, r)

    root_then : root_in (held_words o w) ≡ suc named.table
    root_then = root_w ∙ ap suc same

    here : (word : ℕ) → 0 < word → word < 8 → entry_field (slots (class_of named.table)) (held_words o w).table named.place word ≡ entry_field (slots (class_of named.table)) (held_words o v).table named.place word
    here = subst (λ (i : ℕ). (word : ℕ) → 0 < word → word < 8 → entry_field (slots (class_of i)) (held_words o w).table named.place word ≡ entry_field (slots (class_of i)) (held_words o v).table named.place word) same keeps

    keyed_in : (u : View) → u.shape ≡ k → IsKeyed (kind_in u.shape.starts o)
    keyed_in u is = subst (λ (z : Shape). IsKeyed (kind_in z.starts o)) (sym is) keyed

    field : (word : ℕ) → 0 < word → word < 8 → word ≢ 4 → word ≢ 5 → entry_field (slots (class_of named.table)) (held_unboxed o w).table named.place word ≡ entry_field (slots (class_of named.table)) (held_unboxed o v).table named.place word
    field word some_ few not4 not5 =
        entry_reads w o named.table named.place word (keyed_in w then_) root_then few not4 not5
        ∙ (here word some_ few ∙ sym (entry_reads v o named.table named.place word (keyed_in v shape) named.root few not4 not5))

-- and where all its container's words stand and read as before
pub names_same : (o : ℕ) (v w : View) → held_words o w ≡ held_words o v → held_unboxed o w ≡ held_unboxed o v → (key : Key) (b : Ref) → NamesBoxAt o key b v → NamesBoxAt o key b w
names_same o v w stand reads key b named =
    let field = λ (x : ContainerWords) (word : ℕ). entry_field (slots (class_of named.table)) x.table named.place word in
    record {
      table = named.table;
      place = named.place;
      root = ap root_in stand ∙ named.root;
      live = (ap (λ (x : ContainerWords). field x 2) reads ∙ named.live.0, ap (λ (x : ContainerWords). field x 3) reads ∙ named.live.1);
      kind = ap (λ (x : ContainerWords). field x 4) stand ∙ named.kind;
      payload = ap (λ (x : ContainerWords). field x 5) stand ∙ named.payload;
    }

pub equal_same : (o t : ℕ) (key : Key) (v w : View) → known_state o w ≡ known_state o v → known_state t w ≡ known_state t v → HaveEqual o t key v → HaveEqual o t key w
equal_same o t key v w mine other equal =
    (equal.0, subst (λ (z : ContainerState). IsHeldAt z.content key (Some equal.0)) (sym mine) equal.1, subst (λ (z : ContainerState). IsHeldAt z.content key (Some equal.0)) (sym other) equal.2)

-- what is shared, seen from before steps that leave what the pass knows
pub shares_from : (o t : ℕ) (v u w : View) → held_words t u ≡ held_words t v → held_unboxed t u ≡ held_unboxed t v → known_state o u ≡ known_state o v → known_state t u ≡ known_state t v → SharesValues o t u w → SharesValues o t v w
shares_from o t v u w stand reads mine other shares key b fits named =
    ⊎_elim (λ (n : NamesBoxAt o key b w). inl n) (λ (e : HaveEqual o t key u). inr (equal_same o t key u v (sym mine) (sym other) e)) (shares key b fits (names_same t v u stand reads key b named))

-- and from after them
pub shares_to : (o t : ℕ) (v u w : View) → held_words o w ≡ held_words o u → held_unboxed o w ≡ held_unboxed o u → SharesValues o t v u → SharesValues o t v w
shares_to o t v u w stand reads shares key b fits named =
    ⊎_elim (λ (n : NamesBoxAt o key b u). inl (names_same o u w stand reads key b n)) (λ (e : HaveEqual o t key v). inr e) (shares key b fits named)

-- ---- one more entry

module _ (o t : ℕ) (table : Table) (place : ℕ) (v w : View) (stand : held_words t w ≡ held_words t v) (reads : held_unboxed t w ≡ held_unboxed t v) (mine : known_state o w ≡ known_state o v) (other : known_state t w ≡ known_state t v) where
  abbrev m : ℕ
  m = slots (class_of (table_id table))

  pub shares_next : ((p : ℕ) (key : Key) (b : Ref) → p < place → FitsKey key → HasLiveKey (slots (class_of (table_id table))) (held_unboxed t v).table p key → NamesBoxAt o key b v → NamesBoxAt o key b w)
      → ((key : Key) (b : Ref) → FitsKey key → HasLiveKey (slots (class_of (table_id table))) (held_unboxed t v).table place key → entry_field (slots (class_of (table_id table))) (held_words t v).table place 4 ≡ box_kind → entry_field (slots (class_of (table_id table))) (held_words t v).table place 5 ≡ box_id b → NamesBoxAt o key b w ⊎ HaveEqual o t key v)
      → SharesBelow o t table place v → SharesBelow o t table (place + 1) w
  shares_next keep new below p key b less fits live four named =
      let live_v : HasLiveKey m (held_unboxed t v).table p key = (sym (ap (λ (x : ContainerWords). entry_field m x.table p 2) reads) ∙ live.0, sym (ap (λ (x : ContainerWords). entry_field m x.table p 3) reads) ∙ live.1) in
      let four_v : entry_field m (held_words t v).table p 4 ≡ box_kind = sym (ap (λ (x : ContainerWords). entry_field m x.table p 4) stand) ∙ four in
      let named_v : entry_field m (held_words t v).table p 5 ≡ box_id b = sym (ap (λ (x : ContainerWords). entry_field m x.table p 5) stand) ∙ named in
      let again = λ (e : HaveEqual o t key v). equal_same o t key v w mine other e in
      dite (ℕ_discrete p place)
      (λ (e : p ≡ place).
      let there = new key b fits (subst (λ (q : ℕ). HasLiveKey m (held_unboxed t v).table q key) e live_v) (ap (λ (q : ℕ). entry_field m (held_words t v).table q 4) (sym e) ∙ four_v) (ap (λ (q : ℕ). entry_field m (held_words t v).table q 5) (sym e) ∙ named_v) in
      ⊎_elim (λ (n : NamesBoxAt o key b w). inl n) (λ (x : HaveEqual o t key v). inr (again x)) there)
      (λ ne.
      let low : p < place = le_ne p place less ne in
      ⊎_elim (λ (n : NamesBoxAt o key b v). inl (keep p key b low fits live_v n)) (λ (x : HaveEqual o t key v). inr (again x)) (below p key b low fits live_v four_v named_v))
    where
      le_ne : (a b : ℕ) → a < b + 1 → a ≢ b → a < b
      le_ne a b low ne = ⊎_elim (λ (l : a < b). l) (λ (l : b ≤ a). absurd (ne (omega (arith, low, l)))) (cases_lt a b)

-- ---- used entries

-- the words of a used entry that have this key say that it is there with it
pub used_live : (texts : List ℕ) (e : UsedEntry) (word : ℕ → ℕ) (key : Key) → IsEntry word (slot_of texts e) → FitsKey key → (word 2 ≡ key_kind key) × (word 3 ≡ key_payload key) → (is_live e ≡ true) × (e.key ≡ key)
used_live texts e word key entry fits live = by e.stored refl entry
  where
    by : (s : Option Stored) → e.stored ≡ s → IsEntry word (slot_with (hash_of texts e.key) e.key e.serial s) → (is_live e ≡ true) × (e.key ≡ key)
    by None dead w =
        let gone = w.key_is.kind_is in
        let kind = live.0 in
        let is = gone_is e.key in
        let some_ = (kind_range e.key).0 in
        let few = (kind_range key).1 in
        absurd (omega (arith, gone, kind, is, some_, few))
    by (Some s) is w = (ap is_some is, same_key e.key key w.key.fits fits (sym w.key.kind_is ∙ live.0) (sym w.key.payload_is ∙ live.1))

-- an element of a set has no value
pub plain_value : (stored : Stored) → StoresAs kind.Dict stored → (value : Value) × (stored ≡ Plain value)
plain_value (Plain value) ok = (value, refl)
plain_value Empty ok = absurd ok
plain_value (Boxed block) ok = absurd ok

-- the content has what its words say
pub held_of : (d : Content) (key : Key) (a b serial : ℕ) → under d key ≡ a ∷ b ∷ serial ∷ [] → IsHeldAt d key (Some (a, b))
held_of (content.Dict pairs) key a b serial is = (serial, is)
held_of (content.Set elements) key a b serial is = (serial, is)
held_of (content.List values) key a b serial is = absurd (cc)
held_of (content.Deque deque) key a b serial is = absurd (cc)

-- a put of what an entry stores leaves its key
pub key_kept : (n : ℕ) (x : ContainerWords) (place : ℕ) (stored : Stored) (word : ℕ) → 0 < word → word < 4 → entry_field n (with_puts x (stored_puts n x.table place stored)).table place word ≡ entry_field n x.table place word
key_kept n x place Empty word some_ few = refl
key_kept n x place (Boxed block) word some_ few = refl
key_kept n x place (Plain value) word some_ few =
    let first = slice_set x.table (entry_offset n place 0) (entry_field n x.table place 0 + 1) in
    let second = slice_set first (entry_offset n place 4) (stored_kind (Plain value)) in
    elim (are_of_value (entry_field n x.table place 4) (entry_field n x.table place 5) value) as (λ b. entry_field n (with_puts x (if b then [] else value_puts n x.table place None value)).table place word ≡ entry_field n x.table place word) [
      | true ↦ refl
      | false ↦ get_or-set_other second (entry_offset n place 5) (entry_offset n place word) (stored_payload (Plain value)) 0 (λ e. absurd (omega (arith, e, few)))
          ∙ (get_or-set_other first (entry_offset n place 4) (entry_offset n place word) (stored_kind (Plain value)) 0 (λ e. absurd (omega (arith, e, few)))
          ∙ get_or-set_other x.table (entry_offset n place 0) (entry_offset n place word) (entry_field n x.table place 0 + 1) 0 (λ e. absurd (omega (arith, e, some_))))
    ]

-- ---- a dict whose lock the pass has

-- a live entry is one of a table's places
live_inside : (ws : List ℕ) (c p : ℕ) (key : Key) → length ws ≡ size c → HasLiveKey (slots c) ws p key → p < places c
live_inside ws c p key long live =
    ⊎_elim (λ (less : p < places c). less)
    (λ (past : places c ≤ p).
    let none : entry_field (slots c) ws p 2 ≡ 0 = get_or_past ws (entry_offset (slots c) p 2) 0 (omega (arith, long, past)) in
    let kind = live.0 in
    let some_ = (kind_range key).0 in
    absurd (omega (arith, none, kind, some_)))
    (cases_lt p (places c))

module _ (pairs : words.FirstEntriesArePairs) (k : Shape) (o t : ℕ) (v : View) (shape : v.shape ≡ k) (possible : ∥ IsReachable v ∥₁) (mine : has_lock o v.log ≡ true) (stands : Represents k.texts (held_unboxed o v) (known_state o v)) (names : root_in (held_unboxed o v) ≡ suc t) (dicts : kind_in k.starts o ≡ kind.Dict) where
  abbrev c : ℕ
  c = class_of t

  abbrev ws : List ℕ
  ws = (held_unboxed o v).table

  abbrev fill : ℕ
  fill = (known_state o v).table.fill

  known : (d : DictContent) × ((known_state o v).content ≡ content.Dict d)
  known = of_way way.Dict v o possible mine (ap (λ (z : Shape). kind_in z.starts o) shape ∙ dicts)

  says : IsDictWords k.texts (held_unboxed o v).block (0 ∷ 0 ∷ (held_unboxed o v).table) (Some (class_of t)) (known_state o v).table.fill known.0
  says =
      let class = class_known k.texts (held_unboxed o v) (known_state o v) t stands names in
      let as_dict : Represents k.texts (held_unboxed o v) (record { content = content.Dict known.0; table = (known_state o v).table }) = subst (λ (z : Content). Represents k.texts (held_unboxed o v) (record { content = z; table = (known_state o v).table })) known.1 stands in
      subst (λ (z : Option ℕ). IsDictWords k.texts (held_unboxed o v).block (0 ∷ 0 ∷ (held_unboxed o v).table) z fill known.0) class as_dict

  -- a live entry was used
  pub live_used : (p : ℕ) (key : Key) → HasLiveKey (slots (class_of t)) (held_unboxed o v).table p key → p < (known_state o v).table.fill
  live_used p key live =
      let is_class = says.head.root.1.0 in
      let inside = live_inside ws c p key (table_is_long v o t names) live in
      ⊎_elim (λ (less : p < fill). less)
      (λ (past : fill ≤ p).
      let full = says.filled in
      let room : dict_room (class_mask c) ≡ places c = words.room_is pairs k.texts (held_unboxed o v).block c fill is_class known.0 ws says in
      let never = (says.table.unused p (omega (arith, past, full)) (omega (arith, inside, room))).kind in
      let at = word_is (λ hash. walk_slots way.Dict hash (class_mask c)) (dict_room (class_mask c)) k.texts c is_class says.used ws says.table p 2 in
      let kind = live.0 in
      let some_ = (kind_range key).0 in
      absurd (omega (arith, never, at, kind, some_)))
      (cases_lt p fill)

  -- and the dict has what it says
  pub live_held : (p : ℕ) (key : Key) → HasLiveKey (slots (class_of t)) (held_unboxed o v).table p key → IsHeldAt (known_state o v).content key (Some (entry_field (slots (class_of t)) (held_unboxed o v).table p 4, entry_field (slots (class_of t)) (held_unboxed o v).table p 5))
  live_held p key live =
      let is_class = says.head.root.1.0 in
      let right = words.dict_right pairs k.texts (held_unboxed o v).block c fill is_class known.0 ws says p key (live_inside ws c p key (table_is_long v o t names) live) live in
      subst (λ (z : Content). IsHeldAt z key (Some (entry_field (slots c) ws p 4, entry_field (slots c) ws p 5))) (sym known.1) (entry_field (slots c) ws p 6, right)

-- ---- a dict that gets the keys of another one

module _ (k : Shape) (o : ℕ) (by : Way) (own : Table) (t : ℕ) (table : Table) (goal : Content) (end place : ℕ) (counts : Counts) (v : View) (j : IsJoining k o by own t table goal end place counts v) where
  -- what the container had before the write is what an entry says that isn't written yet
  pub held_before : PlaceLaws → (at : ℕ) (key : Key) → at < rows (kind_by by) (class_of (table_id own)) → HasLiveKey (slots (class_of (table_id own))) (held_unboxed o v).table at key → version_of (table_id own) (held_unboxed o v) at % 2 ≡ 0
      → IsHeldAt (known_state o v).content key (Some (entry_field (slots (class_of (table_id own))) (held_unboxed o v).table at 4, entry_field (slots (class_of (table_id own))) (held_unboxed o v).table at 5))
  held_before laws at key low live even =
      let cl = class_of (table_id own) in
      let n = slots (class_of (table_id own)) in
      let x = held_unboxed o v in
      let row : at < rows (kind_of j.mid) cl = subst (λ (z : Kind). at < rows z cl) (sym j.same_kind) low in
      let here : at < rows (kind_in k.starts o) cl = subst (λ (z : Kind). at < rows z cl) (sym j.kind_is) low in
      let keyed : IsKeyed (kind_of j.mid) = subst IsKeyed (j.kind_is ∙ sym j.same_kind) j.midway.writes.keyed in
      let said = right_in laws.first_pair laws.first_element k.texts x.block x.table cl counts.fill j.mid keyed (table_class k own j.midway.writes.table_in) j.midway.stands at key row live in
      held_of (known_state o v).content key (entry_field n x.table at 4) (entry_field n x.table at 5) (entry_field n x.table at 6) (sym (j.midway.same at key here even live) ∙ said)

  -- an earlier entry that is there has another key than this one
  pub other_key : (any : UsedEntry) → IsTableIn k table → place < length j.used → is_live (slice_index_or j.used place any) ≡ true → (p : ℕ) (key : Key) → p < place → FitsKey key → HasLiveKey (slots (class_of (table_id table))) (held_unboxed t v).table p key → (slice_index_or j.used place any).key ≢ key
  other_key any table_in inside there p key less fits live same =
      let low : p < length j.used = omega (arith, less, inside) in
      let was = used_live k.texts (slice_index_or j.used p any) (entry_field (slots (class_of (table_id table))) (held_unboxed t v).table p) key (entry_used by k.texts k table table_in j.used (held_unboxed t v).table j.source p any low) fits live in
      apart_used j.used j.source.distinct p place any less inside was.0 there (was.1 ∙ sym same)

-- ---- a dict that has no keys

bare_lacks : (base : DictContent) → base.pairs ≡ [] → (es : List DictPair) → (dict_update base es).next - base.next ≡ 0 → es ≡ []
bare_lacks base bare [] none = refl
bare_lacks base bare (e ∷ es) none =
    let first : (dict_set base e.key e.value).next ≡ base.next + 1 = dict.added_next base e.key e.value (ap (λ (z : List DictPair). has_key z e.key) bare) in
    let rest = update_next es (dict_set base e.key e.value) in
    absurd (omega (arith, first, rest, none))

-- another one that has no new key for it has none
pub none_held : (d others : Content) → kind_of d ≡ kind.Dict → kind_of others ≡ kind.Dict → length_of d ≡ 0 → new_keys d others ≡ 0 → (key : Key) (read : ℕ × ℕ) → IsHeldAt others key (Some read) → ⊥
none_held (content.Dict base) (content.Dict others) is other bare none key read held =
    let empty = bare_lacks base (no_length base.pairs bare) others.pairs none in
    let nothing : under (content.Dict others) key ≡ [] = ap (λ (es : List DictPair). under (content.Dict (record { next = others.next; pairs = es })) key) empty in
    let no : read.0 ∷ read.1 ∷ held.0 ∷ [] ≡ [] = sym held.1 ∙ nothing in
    absurd (cc)
none_held (content.Dict base) (content.Set others) is other bare none key read held = absurd (cc)
none_held (content.Dict base) (content.List values) is other bare none key read held = absurd (cc)
none_held (content.Dict base) (content.Deque deque) is other bare none key read held = absurd (cc)
none_held (content.Set base) others is other bare none key read held = absurd (cc)
none_held (content.List values) others is other bare none key read held = absurd (cc)
none_held (content.Deque deque) others is other bare none key read held = absurd (cc)
