-- What the words of one entry say of the used entries of its table.
use Rattle.std.proofs.Common.{◌≡◌, ◌≢◌, ℕ, suc, ◌≤◌, true, true≢false, List, ◌∷◌, length, Option, Some, None, refl, sym, ap, ◌∙◌, subst, arith}
use Rattle.std.specs.Prelude.{slice_index, slice_index_or, option_map, is_some, ◌↔◌, IfSome}
use Rattle.ft_layout.specs.declared.slot.Stored.{Stored}
use Rattle.ft_layout.specs.declared.slot.Stored.TheVariants.{Boxed, Empty, Plain}
use Rattle.ft_layout.specs.Containers.{IsDictWords, IsSetWords, StandsAs, class_mask}
use Rattle.ft_layout.specs.Tables.{UsedEntry, dict_room, entry_word, hash_of, slot_with}
use Rattle.ft_layout.specs.Words.{FitsKey, IsEntry, IsKey, IsStored, gone_kind, key_kind}
use Rattle.ft_layout.proofs.FieldLaws.{sizes_of_class}
use Rattle.ft_layout.proofs.WordLaws.{stored_is_one}
use Rattle.ft_keys.specs.declared.walk.Way.{Way}
use Rattle.ft_keys.specs.declared.walk.Way.TheVariants as way
use Rattle.ft_keys.specs.Ways.{IsTableOf, room}
use Rattle.ft_model.specs.declared.content.Content.{Content}
use Rattle.ft_model.specs.declared.content.Content.TheVariants as content
use Rattle.ft_model.specs.declared.data.Key.{Key}
use Rattle.ft_model.specs.declared.data.Key.TheVariants as key
use Rattle.ft_model.specs.declared.data.Value.{Value}
use Rattle.ft_model.specs.Classes.{IsClass, dict_entries}
use Rattle.ft_model.specs.Worlds.{kind_of}
use Rattle.ft_trace.specs.declared.Shape.{Shape}
use Rattle.ft_trace.specs.Addresses.{class_of, places, size, slots}
use Rattle.ft_trace.specs.Carefuls.{HasLiveKey}
use Rattle.ft_trace.specs.Kinds.{rows, IsKeyed}
use Rattle.ft_trace.specs.Pictures.{ContainerWords, Represents, entry_field, root_in}
use Rattle.ft_trace.specs.ContainerStates.{ContainerState}
use Rattle.ft_trace.proofs.Known.{class_known}
use Rattle.ft_bank.specs.declared.table.Table.{Table}
use Rattle.ft_bank.specs.TableNames.{IsTableIn, table_id}
use Rattle.ft_bank.proofs.TableAddresses.{class_is}
use Rattle.ft_search.proofs.KnownTableWords.{entry_after_header}
use Rattle.ft_search.proofs.WordPlaces.{places_is, slots_of_class}
use Rattle.ft_search.specs.Rounds.{kind_by}
use Rattle.ft_search.specs.declared.boxed.SeenValue.{SeenValue}
use Rattle.ft_whole_tables.specs.TableEntries.{AreEntriesOf, IsKeyAt, IsPlainAt, IsSeenAt, live_key, plain_with}

-- where a word of an entry lies
pub word_is : (c : ℕ) (ws : List ℕ) (place word : ℕ) → entry_word (class_mask c) (0 ∷ 0 ∷ ws) place word ≡ entry_field (slots c) ws place word
word_is c ws place word = entry_after_header ws (class_mask c) place word ∙ ap (slice_index ws) (let e = slots_of_class c in omega (arith, e))

pub places_of : (c : ℕ) → places c ≡ dict_entries c
unfolding places
places_of c = refl

-- a table has as many words as its class says
pub words_long : (c : ℕ) → IsClass c → (way : Way) (texts : List ℕ) (used : List UsedEntry) (ws : List ℕ) → IsTableOf way texts (class_mask c) used (0 ∷ 0 ∷ ws) → length ws ≡ size c
words_long c is way texts used ws table =
    let long = table.size in
    let room = (sizes_of_class c is).0 in
    let n = slots_of_class c in
    let p = places_of c in
    omega (arith, long, room, n, p)

-- how many entries it has
pub room_is : (way : Way) (c : ℕ) → IsClass c → room way (class_mask c) ≡ rows (kind_by way) c
room_is way.Dict c is = (sizes_of_class c is).0 ∙ sym (places_of c)
room_is way.Set c is = (sizes_of_class c is).1

-- no kind of a key that is there is that of a deleted one
other_kind : (a b : Key) → gone_kind a ≢ key_kind b
other_kind (key.Int n) (key.Int m) e = absurd (omega (arith, e))
other_kind (key.Int n) (key.Text t) e = absurd (omega (arith, e))
other_kind (key.Text s) (key.Int m) e = absurd (omega (arith, e))
other_kind (key.Text s) (key.Text t) e = absurd (omega (arith, e))

module _ (word : ℕ → ℕ) (kind payload : ℕ) (kind_is : kind ≡ word 2) (payload_is : payload ≡ word 3) where
  key_there : (key : Key) → IsKey (word 2) (word 3) key → IsKey kind payload key
  key_there key is = record { fits = is.fits; kind_is = kind_is ∙ is.kind_is; payload_is = payload_is ∙ is.payload_is }

  -- what was read of the key, by what the entry is
  key_of_slot : (found : Option Key) → ((key : Key) → IsKey kind payload key ↔ (found ≡ Some key)) → (hash : ℕ) (k : Key) (serial : ℕ) (stored : Option Stored) → IsEntry word (slot_with hash k serial stored) → found ≡ option_map (λ (s : Stored). k) stored
  key_of_slot found says hash k serial (Some s) is = (says k).0 (key_there k is.key)
  key_of_slot found says hash k serial None is = by found refl
    where
      by : (z : Option Key) → found ≡ z → z ≡ None
      by None e = refl
      by (Some other) e = absurd (other_kind k other (sym is.key_is.kind_is ∙ (sym kind_is ∙ ((says other).1 e).kind_is)))

-- and of its value
module _ (word : ℕ → ℕ) where
  value_of_slot : (value_kind value : ℕ) → value_kind ≡ word 4 → value ≡ word 5 → (found : Option Value) → ((v : Value) → IsStored value_kind value (Plain v) ↔ (found ≡ Some v)) → (hash : ℕ) (k : Key) (serial : ℕ) (stored : Option Stored) → IsEntry word (slot_with hash k serial stored) → is_some stored ≡ true
      → option_map (λ (v : Value). (k, v)) found ≡ plain_with k stored
  value_of_slot value_kind value value_kind_is value_is found says hash k serial (Some s) is live = by s found refl (record { fits = is.value.fits; kind_is = value_kind_is ∙ is.value.kind_is; payload_is = value_is ∙ is.value.payload_is })
    where
      by : (s : Stored) (z : Option Value) → found ≡ z → IsStored value_kind value s → option_map (λ (v : Value). (k, v)) found ≡ plain_with k (Some s)
      by (Plain v) z e stored = ap (option_map (λ (v : Value). (k, v))) ((says v).0 stored)
      by Empty None e stored = ap (option_map (λ (v : Value). (k, v))) e
      by Empty (Some v) e stored = absurd (let same = stored_is_one value_kind value (Plain v) Empty ((says v).1 e) stored in cc)
      by (Boxed box) None e stored = ap (option_map (λ (v : Value). (k, v))) e
      by (Boxed box) (Some v) e stored = absurd (let same = stored_is_one value_kind value (Plain v) (Boxed box) ((says v).1 e) stored in cc)
  value_of_slot value_kind value value_kind_is value_is found says hash k serial None is live = absurd (true≢false (sym live))

-- the pair that is there, or another one
abbrev pub pair_in : {A B : Type 0} → Option (A × B) → A × B → A × B
pair_in (Some pair) other = pair
pair_in None other = other

-- ---- in a table that a root names

module _ (k : Shape) (t place kind payload : ℕ) (x : ContainerWords) (kind_is : root_in x ≡ suc t → kind ≡ entry_field (slots (class_of t)) x.table place 2) (payload_is : root_in x ≡ suc t → payload ≡ entry_field (slots (class_of t)) x.table place 3) where
  abbrev c : ℕ
  c = class_of t

  pub key_read : (found : Option Key) → ((key : Key) → IsKey kind payload key ↔ (found ≡ Some key)) → IsKeyAt k t place found x
  key_read found says = (
    (λ names way used table any low.
        let e = slice_index_or used place any in
        let words = 0 ∷ 0 ∷ x.table in
        key_of_slot (entry_word (class_mask c) words place) kind payload (kind_is names ∙ sym (word_is c x.table place 2)) (payload_is names ∙ sym (word_is c x.table place 3)) found says (hash_of k.texts e.key) e.key e.serial e.stored (table.entries place any low)),
    (λ names key is. let says' = (says key).1 is in (sym (kind_is names) ∙ says'.kind_is, sym (payload_is names) ∙ says'.payload_is)),
  )

-- the key and the value of an entry, once the key was read
pub value_read : (k : Shape) (t place : ℕ) (seen : SeenValue) (x : ContainerWords) (key : Key) → IsClass (class_of t) → IsKeyAt k t place (Some key) x → IsSeenAt t place seen x
    → (found : Option Value) → ((v : Value) → IsStored seen.kind seen.value (Plain v) ↔ (found ≡ Some v)) → IsPlainAt k t place (option_map {U = Key × Value} (λ (v : Value). (key, v)) found) x
value_read k t place seen x key is_class at seen_is found says = (
  (λ names way used table any low.
      let c = class_of t in
      let e = slice_index_or used place any in
      let words = 0 ∷ 0 ∷ x.table in
      let is = at.0 names way used table any low in
      let both = of_live e key is in
      let reads = seen_is names (words_long c is_class way k.texts used x.table table) in
      ap (λ (z : Key). option_map (λ (v : Value). (z, v)) found) both.0
      ∙ value_of_slot (entry_word (class_mask c) words place) seen.kind seen.value (reads.0 ∙ sym (word_is c x.table place 4)) (reads.1 ∙ sym (word_is c x.table place 5)) found says (hash_of k.texts e.key) e.key e.serial e.stored (table.entries place any low) both.1),
  (λ names other v is. by found v other is (λ same. subst (HasLiveKey (slots (class_of t)) x.table place) same (at.1 names key refl))),
)
  where
    of_live : (e : UsedEntry) (key : Key) → Some key ≡ live_key e → (key ≡ e.key) × (is_some e.stored ≡ true)
    of_live e key is = with_stored e.stored is
      where
        with_stored : (stored : Option Stored) → Some key ≡ option_map (λ (s : Stored). e.key) stored → (key ≡ e.key) × (is_some stored ≡ true)
        with_stored (Some s) same = ((let e = same in cc), refl)
        with_stored None same = absurd (cc)

    by : (found : Option Value) (v : Value) (other : Key) → option_map {U = Key × Value} (λ (w : Value). (key, w)) found ≡ Some (other, v) → ((key ≡ other) → HasLiveKey (slots (class_of t)) x.table place other) → HasLiveKey (slots (class_of t)) x.table place other
    by (Some w) v other is f = f (ap (λ (z : Option (Key × Value)). (pair_in z (key, w)).0) is)
    by None v other is f = absurd (cc)

pub missing_read : (k : Shape) (t place : ℕ) (x : ContainerWords) → IsKeyAt k t place None x → IsPlainAt k t place None x
missing_read k t place x at = (
  (λ names way used table any low. let e = slice_index_or used place any in by e e.stored (at.0 names way used table any low)),
  (λ names key value is. absurd (cc)),
)
  where
    by : (e : UsedEntry) (stored : Option Stored) → None ≡ option_map (λ (s : Stored). e.key) stored → None ≡ plain_with e.key stored
    by e (Some s) same = absurd (cc)
    by e None same = refl

-- ---- the used entries of what words stand for

-- a dict or a set whose root names the table t has entries there
pub entries_of : (k : Shape) (x : ContainerWords) (kept : ContainerState) (t : ℕ) → IsKeyed (kind_of kept.content) → Represents k.texts x kept → root_in x ≡ suc t
    → (way : Way) × ((used : List UsedEntry) × IsTableOf way k.texts (class_mask (class_of t)) used (0 ∷ 0 ∷ x.table) × (length used ≡ slice_index x.block 2) × AreEntriesOf used kept.content)
entries_of k x kept t keyed stands names = by kept.content keyed stands
  where
    class_eq : kept.table.class ≡ Some (class_of t)
    class_eq = class_known k.texts x kept t stands names

    by : (c : Content) → IsKeyed (kind_of c) → StandsAs k.texts x.block (0 ∷ 0 ∷ x.table) kept.table c → (way : Way) × ((used : List UsedEntry) × IsTableOf way k.texts (class_mask (class_of t)) used (0 ∷ 0 ∷ x.table) × (length used ≡ slice_index x.block 2) × AreEntriesOf used c)
    by (content.Dict dict) is s =
        let says = subst (λ (z : Option ℕ). IsDictWords k.texts x.block (0 ∷ 0 ∷ x.table) z kept.table.fill dict) class_eq s in
        (way.Dict, (says.used, says.table, says.filled ∙ sym says.head.fill_is, says.entries))
    by (content.Set set) is s =
        let says = subst (λ (z : Option ℕ). IsSetWords k.texts x.block (0 ∷ 0 ∷ x.table) z kept.table.fill set) class_eq s in
        (way.Set, (says.used, says.table, says.filled ∙ sym says.head.fill_is, says.entries))
    by (content.List values) is s = absurd is
    by (content.Deque deque) is s = absurd is

-- ---- a table has no such place

room_low : (way : Way) (mask : ℕ) → room way mask ≤ dict_room mask
room_low way.Dict mask = omega arith
room_low way.Set mask = omega arith

module _ (k : Shape) (table : Table) (is_in : IsTableIn k table) (place : ℕ) (past : dict_entries table.class ≤ place) (x : ContainerWords) where
  abbrev past_class : ℕ
  past_class = class_of (table_id table)

  past_place : (way : Way) (used : List UsedEntry) → IsTableOf way k.texts (class_mask past_class) used (0 ∷ 0 ∷ x.table) → length used ≤ place
  past_place way used is =
      let few = is.fill in
      let low = room_low way (class_mask past_class) in
      let same : class_mask past_class ≡ class_mask table.class = ap class_mask (class_is table is_in.2) in
      let all = places_is k table (class_mask past_class) is_in same in
      let more = places_of past_class ∙ ap dict_entries (class_is table is_in.2) in
      omega (arith, few, low, all, more, past)

  pub past_key : IsKeyAt k (table_id table) place None x
  past_key = (
    (λ names way used is any low. let few = past_place way used is in absurd (omega (arith, few, low))),
    (λ names key e. absurd (cc)),
  )

-- the place and the key of what was read
pub within_key : (P : Type 0) (kind payload : ℕ) (found : Option Key) → P → ((key : Key) → IsKey kind payload key ↔ (found ≡ Some key)) → IfSome found (λ key. P × FitsKey key)
within_key P kind payload (Some key) p says = (p, ((says key).1 refl).fits)
within_key P kind payload None p says = tt

pub within_pair : (P : Type 0) (key : Key) (found : Option Value) → P × FitsKey key → IfSome (option_map {U = Key × Value} (λ (v : Value). (key, v)) found) (λ pair. P × FitsKey pair.0)
within_pair P key (Some v) p = p
within_pair P key None p = tt
