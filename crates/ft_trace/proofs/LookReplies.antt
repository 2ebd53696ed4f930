-- What a log shows of a key or an item that was looked up without the lock is the reply of the plain containers.
use Rattle.std.proofs.Common.{⊎_elim, ◌≡◌, ◌≢◌, ◌⊎◌, inl, inr, ℕ, zero, suc, pos, ◌<◌, ◌≤◌, Bool, true, false, cond, List, [], ◌∷◌, length, Option, Some, None, refl, sym, ap, ◌∙◌, subst, arith}
use Rattle.std.specs.Prelude.{All, find, is_some, nat_lt, option_map, slice_get, slice_index, slice_index_or, if◌then◌else◌}
use Rattle.std.specs.Option.{option_map_or, unwrap_or}
use Rattle.std.proofs.lemmas.Bool.{lt-ltb, le-ltb}
use Rattle.std.proofs.lemmas.List.Elements.{All-head, All-tail}
use Rattle.ft_model.specs.declared.call.Call.{Call}
use Rattle.ft_model.specs.declared.call.Call.TheVariants as call
use Rattle.ft_model.specs.declared.call.ListCall.TheVariants as list
use Rattle.ft_model.specs.declared.call.SetCall.TheVariants as set
use Rattle.ft_model.specs.declared.content.Content.{Content}
use Rattle.ft_model.specs.declared.content.Content.TheVariants as content
use Rattle.ft_model.specs.declared.content.DictPair.{DictPair}
use Rattle.ft_model.specs.declared.content.Element.{Element}
use Rattle.ft_model.specs.declared.data.Key.{Key}
use Rattle.ft_model.specs.declared.data.Value.{Value}
use Rattle.ft_model.specs.declared.data.Value.TheVariants as value
use Rattle.ft_model.specs.declared.reply.Reply.{Reply}
use Rattle.ft_model.specs.declared.reply.Reply.TheVariants as reply
use Rattle.ft_model.specs.declared.reply.Raise.TheVariants as raise
use Rattle.ft_model.specs.declared.script.Kind.{Kind}
use Rattle.ft_model.specs.declared.script.Kind.TheVariants as kind
use Rattle.ft_model.specs.Keys.{same_key}
use Rattle.ft_model.specs.Contents.{DictContent, SetContent, empty_dict, empty_set, is_at, dict_get, has_key, has_element}
use Rattle.ft_model.specs.Lists.{index_in}
use Rattle.ft_model.specs.Worlds.{kind_of, no_hands, dict_of, set_of, list_of, dict_at, set_at, list_at, length_of}
use Rattle.ft_model.specs.Answers.{shows}
use Rattle.ft_model.specs.TableUses.{StoredWorld, stored_newest}
use Rattle.ft_layout.specs.declared.slot.Stored.TheVariants.{Empty, Plain}
use Rattle.ft_layout.specs.Words.{FitsKey, IsStored, FitsStored, stored_kind, stored_payload}
use Rattle.ft_trace.specs.declared.Act.{Act}
use Rattle.ft_trace.specs.declared.Act.TheVariants.{Commit, ReadTable, ReadBox}
use Rattle.ft_trace.specs.declared.Shape.{Shape}
use Rattle.ft_trace.specs.declared.View.{View}
use Rattle.ft_trace.specs.Addresses.{container_count, class_of, slots}
use Rattle.ft_trace.specs.Pictures.{entry_offset, item_offset}
use Rattle.ft_trace.specs.LoggedReads.{Among}
use Rattle.ft_trace.specs.LoggedLookUps.{IsReadInPlace, IsReadAsBox, IsReadAt}
use Rattle.ft_trace.specs.FitCalls.{FitsValue, FitsContent}
use Rattle.ft_trace.specs.ItemWords.{value_words, words_at}
use Rattle.ft_trace.specs.Kinds.{is_key, pair_words, element_words, under, rows, IsKeyed, IsItems}
use Rattle.ft_trace.specs.ContainerStates.{container_after, state_at, kind_in, first_writes, reply_in}
use Rattle.ft_trace.specs.Traces.{Event, did, forked, joined, sent, history, writes_of, Valid}
use Rattle.ft_trace.specs.LookReplies.{key_reply, item_reply, DictReplies, stored_at, DictHitsAreReplied, SetHitsAreReplied, MissesAreReplied, ItemsAreReplied, PastItemsAreReplied, IsValueRead, IsItemRead}
use Rattle.ft_trace.specs.HeldReads.{IsEntryReadHeld, IsItemReadHeld}
use Rattle.ft_trace.proofs.HeldReads.{held_hits_are_right, held_items_are_right}
use Rattle.ft_trace.proofs.FitCalls.{contents_fit}
use Rattle.ft_trace.proofs.ItemPuts.{none_at}
use Rattle.ft_trace.proofs.Known.{at_any, kind_then}
use Rattle.ft_trace.proofs.Untouched.{as_many}
use Rattle.ft_trace.proofs.SameKeys.{same_keys, same_find, found_has, any_found}
use Rattle.ft_trace.proofs.Rule.{hits_are_right, misses_are_right, bare_roots_are_right, items_are_right, lists_fit_their_tables}
use Rattle.ft_layout.proofs.WordLaws.{stored_is_one}

-- ---- an earlier history

-- the first writes are the history of a trace
pub record Earlier (k : Shape) (n : ℕ) (cs : List Call) : Type 0 where
  pub older : List Event
  pub valid : Valid k older
  pub is : history older ≡ first_writes n cs

earlier_by : (k : Shape) (n id : ℕ) (v : View) (es : List Event) (a : Act) → Valid k (did id v a ∷ es) → Earlier k n (history es) → Earlier k n (writes_of a (history es))
earlier_by k n id v es (Commit c r f s) valid old =
    elim (nat_lt (length (history es)) n) as (λ b. nat_lt (length (history es)) n ≡ b → Earlier k n (c ∷ history es)) [
      | true ↦ λ e. record { older = did id v (Commit c r f s) ∷ es; valid = valid; is = sym (ap (λ (b : Bool). cond b (c ∷ history es) (first_writes n (history es))) e) }
      | false ↦ λ e. record { older = old.older; valid = old.valid; is = old.is ∙ sym (ap (λ (b : Bool). cond b (c ∷ history es) (first_writes n (history es))) e) }
    ] refl
earlier_by k n id v es act valid old = old

pub earlier : (k : Shape) (es : List Event) → Valid k es → (n : ℕ) → Earlier k n (history es)
earlier k [] valid n = record { older = []; valid = valid; is = refl }
earlier k (did id v a ∷ es) valid n = earlier_by k n id v es a valid (earlier k es valid.0 n)
earlier k (forked id v ∷ es) valid n = earlier k es valid.0 n
earlier k (sent id v given ∷ es) valid n = earlier k es valid.0 n
earlier k (joined id v other w ∷ es) valid n = earlier k es valid.0 n

-- ---- what stands at a place

dict_is : (c : Content) → kind_of c ≡ kind.Dict → c ≡ content.Dict (dict_of c)
dict_is (content.Dict dict) e = refl
dict_is (content.List items) e = absurd (cc)
dict_is (content.Set set) e = absurd (cc)
dict_is (content.Deque deque) e = absurd (cc)

set_is : (c : Content) → kind_of c ≡ kind.Set → c ≡ content.Set (set_of c)
set_is (content.Dict dict) e = absurd (cc)
set_is (content.List items) e = absurd (cc)
set_is (content.Set set) e = refl
set_is (content.Deque deque) e = absurd (cc)

-- ---- what a dict, a set or a list replies

module _ (stored : StoredWorld) (o : ℕ) where
  pub replies : (key : Key) (found : Option Value) → dict_get (dict_at stored.world o).pairs key ≡ found → DictReplies stored o key found
  replies key found is =
      let pairs = (dict_at stored.world o).pairs in
      let has : has_key pairs key ≡ is_some found = any_found (is_at key) pairs ∙ (by_get (find (is_at key) pairs) ∙ ap is_some is) in
      record {
        get = ap (λ (z : Option Value). (option_map_or (λ value. shows stored.world no_hands (reply.Value value)) z (shows stored.world no_hands (reply.Raised raise.NoKey))).reply) is ∙ by_found found;
        get_or = λ default. ap (λ (z : Option Value). reply.Value (unwrap_or z default)) is;
        has = ap reply.Truth has;
      }
    where
      by_get : (z : Option DictPair) → is_some z ≡ is_some (option_map (λ (pair : DictPair). pair.value) z)
      by_get (Some pair) = refl
      by_get None = refl

      by_found : (z : Option Value) → (option_map_or (λ value. shows stored.world no_hands (reply.Value value)) z (shows stored.world no_hands (reply.Raised raise.NoKey))).reply ≡ key_reply z
      by_found (Some value) = refl
      by_found None = refl

  pub item_in : (place : ℕ) (found : Option Value) → slice_get (list_at stored.world o) place ≡ found → reply_in stored (call.List o (list.Get (pos place))) ≡ item_reply found
  item_in place found is = by_list (list_at stored.world o) place found is
    where
      answered : List Value → ℕ → Reply
      answered items place = (option_map_or (λ at. shows stored.world no_hands (reply.Value (slice_index_or items at value.Nothing))) (index_in (length items) (pos place)) (shows stored.world no_hands (reply.Raised raise.NoIndex))).reply

      inside : (items : List Value) (place : ℕ) (v : Value) → slice_get items place ≡ Some v → (place < length items) × (slice_index_or items place value.Nothing ≡ v)
      inside [] place v e = absurd (cc)
      inside (x ∷ xs) zero v e = (omega arith, cc)
      inside (x ∷ xs) (suc place) v e = let r = inside xs place v e in let low = r.0 in (omega (arith, low), r.1)

      outside : (items : List Value) (place : ℕ) → slice_get items place ≡ None → length items ≤ place
      outside [] place e = omega arith
      outside (x ∷ xs) zero e = absurd (cc)
      outside (x ∷ xs) (suc place) e = let r = outside xs place e in omega (arith, r)

      by_list : (items : List Value) (place : ℕ) (found : Option Value) → slice_get items place ≡ found → answered items place ≡ item_reply found
      by_list items place (Some v) e =
          let r = inside items place v e in
          ap (λ (b : Bool). (option_map_or (λ at. shows stored.world no_hands (reply.Value (slice_index_or items at value.Nothing))) (if b then Some place else None) (shows stored.world no_hands (reply.Raised raise.NoIndex))).reply) (lt-ltb place (length items) r.0) ∙ ap reply.Value r.1
      by_list items place None e =
          ap (λ (b : Bool). (option_map_or (λ at. shows stored.world no_hands (reply.Value (slice_index_or items at value.Nothing))) (if b then Some place else None) (shows stored.world no_hands (reply.Raised raise.NoIndex))).reply) (le-ltb place (length items) (outside items place e))

-- ---- by the words of a key

module _ (dict : DictContent) (key : Key) (fits : FitsKey key) (each : All (λ pair. FitsKey pair.key × FitsValue pair.value) dict.pairs) where
  abbrev at_key : Option DictPair
  at_key = find (is_at key) dict.pairs

  under_is : under (content.Dict dict) key ≡ option_map_or pair_words at_key []
  under_is = ap (λ (z : Option DictPair). option_map_or pair_words z []) (same_find (λ pair. is_key pair.key key) (is_at key) (λ pair. FitsKey pair.key × FitsValue pair.value) (λ pair f. same_keys pair.key key f.0 fits) dict.pairs each)

  pub there : under (content.Dict dict) key ≢ [] → (pair : DictPair) × (at_key ≡ Some pair)
  there some_words = by at_key refl
    where
      by : (z : Option DictPair) → at_key ≡ z → (pair : DictPair) × (at_key ≡ Some pair)
      by (Some pair) e = (pair, e)
      by None e = absurd (some_words (under_is ∙ ap (λ (z : Option DictPair). option_map_or pair_words z []) e))

  pub not_there : under (content.Dict dict) key ≡ [] → dict_get dict.pairs key ≡ None
  not_there no_words = by at_key refl
    where
      by : (z : Option DictPair) → at_key ≡ z → dict_get dict.pairs key ≡ None
      by (Some pair) e = absurd (let w = sym no_words ∙ (under_is ∙ ap (λ (z : Option DictPair). option_map_or pair_words z []) e) in cc)
      by None e = ap (option_map (λ (pair : DictPair). pair.value)) e

  pub value_there : (some_words : under (content.Dict dict) key ≢ []) (kind payload : ℕ) → slice_index (under (content.Dict dict) key) 0 ≡ kind → slice_index (under (content.Dict dict) key) 1 ≡ payload → (value : Value) × IsStored kind payload (Plain value) × (dict_get dict.pairs key ≡ Some value)
  value_there some_words kind payload one two =
      let p = there some_words in
      let words = under_is ∙ ap (λ (z : Option DictPair). option_map_or pair_words z []) p.1 in
      let f = found_has (is_at key) (λ pair. FitsKey pair.key × FitsValue pair.value) dict.pairs p.0 each p.1 in
      (p.0.value, record { fits = f.1; kind_is = sym one ∙ ap (λ (l : List ℕ). slice_index l 0) words; payload_is = sym two ∙ ap (λ (l : List ℕ). slice_index l 1) words }, ap (option_map (λ (pair : DictPair). pair.value)) p.1)

  -- where the words under the key are those of a value, it is the value at the key
  pub value_said : (value : Value) → FitsStored (Plain value) → (kind payload serial : ℕ) → under (content.Dict dict) key ≡ kind ∷ payload ∷ serial ∷ [] → kind ≡ stored_kind (Plain value) → payload ≡ stored_payload (Plain value) → dict_get dict.pairs key ≡ Some value
  value_said value ok kind payload serial words is_kind is_payload =
      let some : under (content.Dict dict) key ≢ [] = λ none. let x : kind ∷ payload ∷ serial ∷ [] ≡ [] = sym words ∙ none in absurd (cc) in
      let got = value_there some kind payload (ap (λ (l : List ℕ). slice_index l 0) words) (ap (λ (l : List ℕ). slice_index l 1) words) in
      let one : Plain got.0 ≡ Plain value = stored_is_one kind payload (Plain got.0) (Plain value) got.1 (record { fits = ok; kind_is = is_kind; payload_is = is_payload }) in
      let same : got.0 ≡ value = cc in
      got.2 ∙ ap (λ (z : Value). Some z) same

module _ (set : SetContent) (key : Key) (fits : FitsKey key) (each : All (λ element. FitsKey element.key) set.elements) where
  set_under_is : under (content.Set set) key ≡ option_map_or element_words (find (λ element. same_key element.key key) set.elements) []
  set_under_is = ap (λ (z : Option Element). option_map_or element_words z []) (same_find (λ element. is_key element.key key) (λ element. same_key element.key key) (λ element. FitsKey element.key) (λ element f. same_keys element.key key f fits) set.elements each)

  pub element_there : under (content.Set set) key ≢ [] → has_element set.elements key ≡ true
  element_there some_words = any_found (λ element. same_key element.key key) set.elements ∙ by (find (λ element. same_key element.key key) set.elements) refl
    where
      by : (z : Option Element) → find (λ element. same_key element.key key) set.elements ≡ z → is_some z ≡ true
      by (Some element) e = refl
      by None e = absurd (some_words (set_under_is ∙ ap (λ (z : Option Element). option_map_or element_words z []) e))

  pub element_missing : under (content.Set set) key ≡ [] → has_element set.elements key ≡ false
  element_missing no_words = any_found (λ element. same_key element.key key) set.elements ∙ by (find (λ element. same_key element.key key) set.elements) refl
    where
      by : (z : Option Element) → find (λ element. same_key element.key key) set.elements ≡ z → is_some z ≡ false
      by (Some element) e = absurd (let w = sym no_words ∙ (set_under_is ∙ ap (λ (z : Option Element). option_map_or element_words z []) e) in cc)
      by None e = refl

-- ---- in a trace, after its first writes

module _ (k : Shape) (es : List Event) (valid : Valid k es) (o n : ℕ) (low : o < container_count k) where
  abbrev then_ : StoredWorld
  then_ = stored_at k es n

  abbrev at : Content
  at = (state_at then_ o).content

  past : Earlier k n (history es)
  past = earlier k es valid n

  stored_is : stored_newest k.starts (history past.older) ≡ then_
  stored_is = ap (stored_newest k.starts) past.is

  many : o < length then_.world
  many = let l = as_many k.starts (first_writes n (history es)) in omega (arith, l, low)

  fit : FitsContent at
  fit = subst (All FitsContent) (ap (λ (z : StoredWorld). z.world) stored_is) (contents_fit k past.older past.valid) o (content.List []) many

  kind_is : kind_of at ≡ kind_in k.starts o
  kind_is = ap (λ (z : StoredWorld). kind_of (state_at z o).content) (sym stored_is) ∙ kind_then k past.older past.valid o

  dict_there : kind_in k.starts o ≡ kind.Dict → at ≡ content.Dict (dict_at then_.world o)
  dict_there is = dict_is at (kind_is ∙ is) ∙ ap (λ (z : Content). content.Dict (dict_of z)) (at_any then_.world o (content.List []) (content.Dict empty_dict) many)

  set_there : kind_in k.starts o ≡ kind.Set → at ≡ content.Set (set_at then_.world o)
  set_there is = set_is at (kind_is ∙ is) ∙ ap (λ (z : Content). content.Set (set_of z)) (at_any then_.world o (content.List []) (content.Set empty_set) many)

  pairs_fit : (is : kind_in k.starts o ≡ kind.Dict) → All (λ pair. FitsKey pair.key × FitsValue pair.value) (dict_at then_.world o).pairs
  pairs_fit is = subst FitsContent (dict_there is) fit

  elements_fit : (is : kind_in k.starts o ≡ kind.Set) → All (λ element. FitsKey element.key) (set_at then_.world o).elements
  elements_fit is = subst FitsContent (set_there is) fit

  -- nothing under a key, or nothing at all
  absent_dict : (key : Key) → FitsKey key → (is : kind_in k.starts o ≡ kind.Dict) → under at key ≡ [] → DictReplies then_ o key None
  absent_dict key fits is none = replies then_ o key None (not_there (dict_at then_.world o) key fits (pairs_fit is) (ap (λ (z : Content). under z key) (sym (dict_there is)) ∙ none))

  absent_set : (key : Key) → FitsKey key → (is : kind_in k.starts o ≡ kind.Set) → under at key ≡ [] → reply_in then_ (call.Set o (set.Has key)) ≡ reply.Truth false
  absent_set key fits is none = ap reply.Truth (element_missing (set_at then_.world o) key fits (elements_fit is) (ap (λ (z : Content). under z key) (sym (set_there is)) ∙ none))

empty_under : (c : Content) (key : Key) → length_of c ≡ 0 → under c key ≡ []
empty_under (content.Dict dict) key none = by dict.pairs none
  where
    by : (pairs : List DictPair) → length pairs ≡ 0 → option_map_or pair_words (find (λ pair. is_key pair.key key) pairs) [] ≡ []
    by [] e = refl
    by (x ∷ xs) e = absurd (omega (arith, e))
empty_under (content.List items) key none = refl
empty_under (content.Deque deque) key none = refl
empty_under (content.Set set) key none = by set.elements none
  where
    by : (elements : List Element) → length elements ≡ 0 → option_map_or element_words (find (λ element. is_key element.key key) elements) [] ≡ []
    by [] e = refl
    by (x ∷ xs) e = absurd (omega (arith, e))

empty_list : (c : Content) → length_of c ≡ 0 → length (list_of c) ≡ 0
empty_list (content.Dict dict) none = refl
empty_list (content.List items) none = none
empty_list (content.Set set) none = refl
empty_list (content.Deque deque) none = refl

-- ---- the laws

keyed_dict : {a : Kind} → a ≡ kind.Dict → IsKeyed a
keyed_dict is = subst IsKeyed (sym is) tt

keyed_set : {a : Kind} → a ≡ kind.Set → IsKeyed a
keyed_set is = subst IsKeyed (sym is) tt

listed : {a : Kind} → a ≡ kind.List → IsItems a
listed is = subst IsItems (sym is) tt

-- the two words of a value, however it was read
read_words : (t kind_at payload_at : ℕ) (mid : List Act) (Is : ℕ → ℕ → Type 0) → ((f : ℕ) → Among (ReadTable t kind_at f) mid → IsReadInPlace t kind_at mid → Is 0 f) → ((f : ℕ) → Among (ReadTable t payload_at f) mid → IsReadInPlace t kind_at mid → Is 1 f)
    → ((b f : ℕ) → IsReadAsBox t kind_at payload_at b mid → (Among (ReadBox b 1 f) mid → Is 0 f) × (Among (ReadBox b 2 f) mid → Is 1 f)) → (kind payload : ℕ) → IsReadAt t kind_at payload_at kind payload mid → Is 0 kind × Is 1 payload
read_words t kind_at payload_at mid Is one two boxed kind payload (inl r) = (one kind r.1 r.0, two payload r.2 r.0)
read_words t kind_at payload_at mid Is one two boxed kind payload (inr r) = ((boxed r.0 kind r.1).0 r.2, (boxed r.0 payload r.1).1 r.3)

pub dict_hits_are_replied : DictHitsAreReplied
dict_hits_are_replied k es valid o t place key n low is fits small j u at h =
    let r = hits_are_right k es valid o t place key n low (keyed_dict is) (subst (λ (z : Kind). place < rows z (class_of t)) (sym is) small) j u at h in
    let dict = dict_at (stored_at k es n).world o in
    let content_is = dict_there k es valid o n low is in
    let each = pairs_fit k es valid o n low is in
    let some_words : under (content.Dict dict) key ≢ [] = λ e. r.1 (ap (λ (z : Content). under z key) content_is ∙ e) in
    let word : (w : ℕ) → slice_index (under (container_after k.starts (first_writes n (history es)) o).content key) w ≡ slice_index (under (content.Dict dict) key) w = λ w. ap (λ (z : Content). slice_index (under z key) w) content_is in
    let p = there dict key fits each some_words in (
      (replies (stored_at k es n) o key (Some p.0.value) (ap (option_map (λ (pair : DictPair). pair.value)) p.1)).has,
      λ kind payload read.
          let small_as : place < rows (kind_in k.starts o) (class_of t) = subst (λ (z : Kind). place < rows z (class_of t)) (sym is) small in
          let Word : ℕ → ℕ → Type 0 = λ w f. slice_index (under (container_after k.starts (first_writes n (history es)) o).content key) w ≡ f in
          let two : Word 0 kind × Word 1 payload =
          ⊎_elim
          (λ (among : IsValueRead t place kind payload h.mid). read_words t (entry_offset (slots (class_of t)) place 4) (entry_offset (slots (class_of t)) place 5) h.mid Word
          (λ f m in_place. r.2 0 f (omega arith) m (inr in_place)) (λ f m in_place. r.2 1 f (omega arith) m (inr in_place)) r.3 kind payload among)
          (λ (held : IsEntryReadHeld k u.log o t place key n h kind payload). (
            held_hits_are_right k es valid o t place key n low (keyed_dict is) small_as j u at h held.0 1 kind held.1 (inl refl) held.2,
            held_hits_are_right k es valid o t place key n low (keyed_dict is) small_as j u at h held.0 2 payload held.1 (inr refl) held.3,
          ))
          read in
          let v = value_there dict key fits each some_words kind payload (sym (word 0) ∙ two.0) (sym (word 1) ∙ two.1) in
          (v.0, v.1, replies (stored_at k es n) o key (Some v.0) v.2),
    )

pub set_hits_are_replied : SetHitsAreReplied
set_hits_are_replied k es valid o t place key n low is fits small j u at h =
    let r = hits_are_right k es valid o t place key n low (keyed_set is) (subst (λ (z : Kind). place < rows z (class_of t)) (sym is) small) j u at h in
    ap reply.Truth (element_there (set_at (stored_at k es n).world o) key fits (elements_fit k es valid o n low is) (λ e. r.1 (ap (λ (z : Content). under z key) (set_there k es valid o n low is) ∙ e)))

pub misses_are_replied : MissesAreReplied
misses_are_replied k es valid o key n low fits j u at (inl m) =
    let none : (is : IsKeyed (kind_in k.starts o)) → under (container_after k.starts (first_writes n (history es)) o).content key ≡ [] = λ keyed. (misses_are_right k es valid o m.0 key n fits low keyed j u at m.1).1 in
    (λ is. absent_dict k es valid o n low key fits is (none (keyed_dict is)), λ is. absent_set k es valid o n low key fits is (none (keyed_set is)))
misses_are_replied k es valid o key n low fits j u at (inr bare) =
    let none = empty_under (container_after k.starts (first_writes n (history es)) o).content key (bare_roots_are_right k es valid o n low j u at bare).1.1 in
    (λ is. absent_dict k es valid o n low key fits is none, λ is. absent_set k es valid o n low key fits is none)

list_fits : (c : Content) → FitsContent c → All FitsValue (list_of c)
list_fits (content.Dict dict) f = λ i d low. absurd (let none : i < 0 = low in omega (arith, none))
list_fits (content.List items) f = f
list_fits (content.Set set) f = λ i d low. absurd (let none : i < 0 = low in omega (arith, none))
list_fits (content.Deque deque) f = λ i d low. absurd (let none : i < 0 = low in omega (arith, none))

got : (items : List Value) (i : ℕ) (value : Value) → All FitsValue items → slice_get items i ≡ Some value → FitsValue value
got [] i value each e = absurd (cc)
got (x ∷ xs) zero value each e = let is : x ≡ value = cc in subst FitsValue is (All-head FitsValue x xs each)
got (x ∷ xs) (suc i) value each e = got xs i value (All-tail FitsValue x xs each) e

-- the words of an item are those of a value, or of nothing
item_says : (items : List Value) (place kind payload : ℕ) → All FitsValue items → (z : Option Value) → slice_get items place ≡ z → slice_index (words_at items place) 0 ≡ kind → slice_index (words_at items place) 1 ≡ payload
    → ((value : Value) × IsStored kind payload (Plain value) × (slice_get items place ≡ Some value)) ⊎ (IsStored kind payload Empty × (slice_get items place ≡ None))
item_says items place kind payload each (Some value) e one two =
    let words = ap (λ (z : Option Value). option_map_or value_words z (0 ∷ 0 ∷ [])) e in
    inl (value, record { fits = got items place value each e; kind_is = sym one ∙ ap (λ (l : List ℕ). slice_index l 0) words; payload_is = sym two ∙ ap (λ (l : List ℕ). slice_index l 1) words }, e)
item_says items place kind payload each None e one two =
    let words = ap (λ (z : Option Value). option_map_or value_words z (0 ∷ 0 ∷ [])) e in
    inr (record { fits = tt; kind_is = sym one ∙ ap (λ (l : List ℕ). slice_index l 0) words; payload_is = sym two ∙ ap (λ (l : List ℕ). slice_index l 1) words }, e)

pub items_are_replied : ItemsAreReplied
items_are_replied k es valid o t place n low is small j u at h kind payload read =
    let stored = stored_at k es n in
    let items = list_at stored.world o in
    let r = items_are_right k es valid o t place n low (listed is) small j u at h in
    let Word : ℕ → ℕ → Type 0 = λ w f. slice_index (words_at (list_of (container_after k.starts (first_writes n (history es)) o).content) place) w ≡ f in
    let small_as : place < slots (class_of t) = small in
    let two : Word 0 kind × Word 1 payload =
    ⊎_elim
    (λ (among : IsItemRead t place kind payload h.mid). read_words t (item_offset place 1) (item_offset place 2) h.mid Word
    (λ f m in_place. r.1 0 f (omega arith) m in_place) (λ f m in_place. r.1 1 f (omega arith) m in_place) r.2 kind payload among)
    (λ (held : IsItemReadHeld k u.log o t place n h kind payload). (
      held_items_are_right k es valid o t place n low (listed is) small_as j u at h held.0 1 kind held.1 (inl refl) held.2,
      held_items_are_right k es valid o t place n low (listed is) small_as j u at h held.0 2 payload held.1 (inr refl) held.3,
    ))
    read in
    let fits : All FitsValue items = list_fits (container_after k.starts (first_writes n (history es)) o).content (fit k es valid o n low) in
    ⊎_elim
    (λ some_one. inl (some_one.0, some_one.1, item_in stored o place (Some some_one.0) some_one.2))
    (λ none. inr (none.0, item_in stored o place None none.1))
    (item_says items place kind payload fits (slice_get items place) refl two.0 two.1)

pub past_items_are_replied : PastItemsAreReplied
past_items_are_replied k es valid o index n low is j u at (inl p) =
    let short = (lists_fit_their_tables k es valid o p.0 n low (listed is) j u at p.2).1 in
    let beyond = p.1 in
    item_in (stored_at k es n) o index None (none_at (list_at (stored_at k es n).world o) index (omega (arith, short, beyond)))
past_items_are_replied k es valid o index n low is j u at (inr bare) =
    let none = empty_list (container_after k.starts (first_writes n (history es)) o).content (bare_roots_are_right k es valid o n low j u at bare).1.1 in
    item_in (stored_at k es n) o index None (none_at (list_at (stored_at k es n).world o) index (omega (arith, none)))
