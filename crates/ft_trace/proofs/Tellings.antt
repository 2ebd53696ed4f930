-- What the words of a table that stands for a dict or a set say under each key: an entry that is live says what is there,
-- and what is there has a live entry.
use Rattle.std.proofs.Common.{◌≤◌, ◌≡◌, ◌≢◌, ℕ, zero, suc, ◌<◌, Bool, true, false, true≢false, cond, eqb, eq-eqb, eqb-true, List, [], ◌∷◌, length, get_or, find, Option, Some, None, refl, sym, ap, ◌∙◌, subst, arith, ◌+◌, ◌%◌, inl}
use Rattle.std.specs.Prelude.{◌&&◌, All, filter, is_some, map, pos, slice_get, slice_index, option_map}
use Rattle.std.specs.Option.{option_map_or}
use Rattle.std.proofs.Math.Decide.{dec_lt}
use Rattle.std.proofs.lemmas.List.{length-map}
use Rattle.ft_model.proofs.KnownKeys.{length-filter-le}
use Rattle.std.proofs.lemmas.Option.{slice_get-get_or, get_or_from_slice_get, slice_get_within}
use mathlib.Core.Logic.{dite}
use Rattle.ft_model.specs.declared.data.Key.{Key}
use Rattle.ft_model.specs.declared.data.Key.TheVariants.{Int}
use Rattle.ft_model.specs.Classes.{IsClass}
use Rattle.ft_layout.specs.declared.slot.Stored.{Stored}
use Rattle.ft_layout.specs.Words.{key_kind, key_payload, FitsKey, stored_kind, stored_payload, IsEntry}
use Rattle.ft_layout.specs.Tables.{UsedEntry, is_live, hash_of, slot_with, slot_of, entry_word, Meets, IsTable}
use Rattle.ft_layout.specs.Tables as layout
use Rattle.ft_layout.specs.Containers.{class_mask}
use Rattle.ft_layout.proofs.LiveLaws.{Differ, distinct-used}
use Rattle.ft_layout.proofs.WordLaws.{gone_is, kind_range, same_key}
use Rattle.ft_layout.proofs.Powers.{slots_range}
use Rattle.ft_trace.specs.Addresses.{slots}
use Rattle.ft_trace.specs.Pictures.{index_field, entry_offset, entry_field, Met}
use Rattle.ft_trace.specs.Carefuls.{Pairs, said_of, HasLiveKey, Reached, Clear, OpensChanged}
use Rattle.ft_trace.specs.Kinds.{is_key}
use Rattle.ft_trace.proofs.Known.{past_header}

-- what a used entry says of its key, in words
abbrev pub said_by : UsedEntry → List ℕ
said_by entry = option_map_or (λ stored. stored_kind stored ∷ stored_payload stored ∷ entry.serial ∷ []) entry.stored []

pub key_is : (a b : Key) → key_kind a ≡ key_kind b → key_payload a ≡ key_payload b → is_key a b ≡ true
key_is a b k p = ap (λ (z : Bool). z && (eqb (key_payload a) (key_payload b))) (eq-eqb (key_kind a) (key_kind b) k) ∙ eq-eqb (key_payload a) (key_payload b) p

both_true : (a b : Bool) → (a && b) ≡ true → (a ≡ true) × (b ≡ true)
both_true true b e = (refl, e)
both_true false b e = absurd (true≢false (sym e))

-- two numbers and two others
pub equal_both : (a b c d : ℕ) → a ≡ b → c ≡ d → (eqb a b && eqb c d) ≡ true
equal_both a b c d e f = ap (λ (z : Bool). z && eqb c d) (eq-eqb a b e) ∙ eq-eqb c d f

pub both_equal : (a b c d : ℕ) → (eqb a b && eqb c d) ≡ true → (a ≡ b) × (c ≡ d)
both_equal a b c d e = let h = both_true (eqb a b) (eqb c d) e in (eqb-true a b h.0, eqb-true c d h.1)

pub key_words : (a b : Key) → is_key a b ≡ true → (key_kind a ≡ key_kind b) × (key_payload a ≡ key_payload b)
key_words a b e = let h = both_true (eqb (key_kind a) (key_kind b)) (eqb (key_payload a) (key_payload b)) e in (eqb-true (key_kind a) (key_kind b) h.0, eqb-true (key_payload a) (key_payload b) h.1)

-- ---- the first that passes a test

find_first : {X : Type 0} (test : X → Bool) (xs : List X) (p : ℕ) (x : X) → slice_get xs p ≡ Some x → test x ≡ true → ((q : ℕ) (y : X) → q < p → slice_get xs q ≡ Some y → test y ≡ true → ⊥) → find test xs ≡ Some x
find_first test [] p x at passed none = absurd (cc)
find_first {X} test (y ∷ ys) zero x at passed none = let same : y ≡ x = cc in ap (λ (b : Bool). cond b (Some y) (find test ys)) (ap test same ∙ passed) ∙ ap (λ (z : X). Some z) same
find_first test (y ∷ ys) (suc p) x at passed none =
    let rest = find_first test ys p x at passed (λ q z less there passes. none (suc q) z (omega arith) there passes) in
    elim (test y) as (λ b. test y ≡ b → find test (y ∷ ys) ≡ Some x) [
      | true ↦ λ e. absurd (none 0 y (omega arith) refl e)
      | false ↦ λ e. ap (λ (b : Bool). cond b (Some y) (find test ys)) e ∙ rest
    ] refl

found_at : {X : Type 0} (test : X → Bool) (xs : List X) (x : X) → find test xs ≡ Some x → (p : ℕ) × (slice_get xs p ≡ Some x) × (test x ≡ true)
found_at test [] x e = absurd (cc)
found_at {X} test (y ∷ ys) x e =
    elim (test y) as (λ b. test y ≡ b → (p : ℕ) × (slice_get (y ∷ ys) p ≡ Some x) × (test x ≡ true)) [
      | true ↦ λ yes. let same : Some y ≡ Some x = sym (ap (λ (b : Bool). cond b (Some y) (find test ys)) yes) ∙ e in let is : y ≡ x = cc in (0, same, ap test (sym is) ∙ yes)
      | false ↦ λ no. let rest = found_at test ys x (sym (ap (λ (b : Bool). cond b (Some y) (find test ys)) no) ∙ e) in (suc rest.0, rest.1, rest.2)
    ] refl

-- ---- entries of a table

module _ (walk : ℕ → List ℕ) (room : ℕ) (texts : List ℕ) (c : ℕ) (is_class : IsClass c) (used : List UsedEntry) (ws : List ℕ) (table : IsTable walk room texts (class_mask c) used (0 ∷ 0 ∷ ws)) where
  abbrev n : ℕ
  n = slots c

  pub word_is : (p w : ℕ) → entry_word (class_mask c) (0 ∷ 0 ∷ ws) p w ≡ entry_field n ws p w
  unfolding slots
  word_is p w = let r = (slots_range c is_class).0 in past_header ws (layout.entry_at (class_mask c) p w) (entry_offset n p w) (omega (arith, r))

  -- what the words say of a used entry, where they are those of a key that is there
  says : (word : ℕ → ℕ) (hash : ℕ) (mine key : Key) (serial : ℕ) (stored : Option Stored) → IsEntry word (slot_with hash mine serial stored) → word 2 ≡ key_kind key → word 3 ≡ key_payload key
      → (is_some stored ≡ true) × (is_key mine key ≡ true) × (option_map_or (λ s. stored_kind s ∷ stored_payload s ∷ serial ∷ []) stored [] ≡ word 4 ∷ word 5 ∷ word 6 ∷ []) × FitsKey mine
  says word hash mine key serial (Some s) is kind payload =
      let k = is.value.kind_is in
      let p = is.value.payload_is in
      let o = is.serial in
      (refl, key_is mine key (sym is.key.kind_is ∙ kind) (sym is.key.payload_is ∙ payload), (λ d. sym k d ∷ sym p d ∷ sym o d ∷ []), is.key.fits)
  says word hash mine key serial None is kind payload =
      let g = is.key_is.kind_is in
      let a = gone_is mine in
      let b = (kind_range mine).0 in
      let h = (kind_range key).1 in
      absurd (omega (arith, g, a, b, h, kind))

  -- a live entry of a key
  pub record Telling (p : ℕ) (key : Key) : Type 0 where
    pub entry : UsedEntry
    pub at : slice_get used p ≡ Some entry
    pub live : is_live entry ≡ true
    pub mine : is_key entry.key key ≡ true
    pub said : said_by entry ≡ said_of n ws p
    pub fits : FitsKey entry.key

  pub live_tells : (p : ℕ) (key : Key) → p < room → HasLiveKey n ws p key → Telling p key
  live_tells p key low live =
      let any : UsedEntry = record { key = key; serial = 0; stored = None } in
      let kind : entry_word (class_mask c) (0 ∷ 0 ∷ ws) p 2 ≡ key_kind key = word_is p 2 ∙ live.0 in
      let payload : entry_word (class_mask c) (0 ∷ 0 ∷ ws) p 3 ≡ key_payload key = word_is p 3 ∙ live.1 in
      dite (dec_lt p (length used))
      (λ (inside : p < length used).
      let e = get_or used p any in
      let s = says (entry_word (class_mask c) (0 ∷ 0 ∷ ws) p) (hash_of texts e.key) e.key key e.serial e.stored (table.entries p any inside) kind payload in
      let w4 = word_is p 4 in
      let w5 = word_is p 5 in
      let w6 = word_is p 6 in
      record { entry = e; at = slice_get-get_or used p any inside; live = s.0; mine = s.1; said = s.2 ∙ (λ d. w4 d ∷ w5 d ∷ w6 d ∷ []); fits = s.3 })
      (λ past. let u = (table.unused p (omega (arith, past)) low).kind in let r = (kind_range key).0 in absurd (omega (arith, u, r, kind)))

  -- no two live entries are of one key
  pub one_tells : (p q : ℕ) (key : Key) → p < q → Telling p key → Telling q key → ⊥
  one_tells p q key less a b =
      let any = a.entry in
      let low = slice_get_within used q b.entry b.at in
      let at_p : get_or used p any ≡ a.entry = get_or_from_slice_get used p a.entry any a.at in
      let at_q : get_or used q any ≡ b.entry = get_or_from_slice_get used q b.entry any b.at in
      let differ : Differ a.entry b.entry = subst (λ (z : UsedEntry × UsedEntry). Differ z.0 z.1) (λ d. (at_p d, at_q d)) (distinct-used used table.distinct p q any less low) in
      let k = key_words a.entry.key key a.mine in
      let h = key_words b.entry.key key b.mine in
      differ a.live b.live (same_key a.entry.key b.entry.key a.fits b.fits (k.0 ∙ sym h.0) (k.1 ∙ sym h.1))

  -- nor are two that are live of keys with the same words
  pub other_key : (p q : ℕ) (key other : Key) → p < room → q < room → q ≢ p → HasLiveKey n ws p key → HasLiveKey n ws q other → is_key key other ≡ true → ⊥
  other_key p q key other low less ne mine theirs same =
      let w = key_words key other same in
      let one = live_tells p other low (mine.0 ∙ w.0, mine.1 ∙ w.1) in
      let two = live_tells q other less theirs in
      dite (dec_lt p q) (λ (before : p < q). one_tells p q other before one two) (λ after. one_tells q p other (omega (arith, after, ne)) two one)

  alive_words : (word : ℕ → ℕ) (hash : ℕ) (mine : Key) (serial : ℕ) (stored : Option Stored) → is_some stored ≡ true → IsEntry word (slot_with hash mine serial stored) → (word 2 ≡ key_kind mine) × (word 3 ≡ key_payload mine)
  alive_words word hash mine serial (Some s) live is = (is.key.kind_is, is.key.payload_is)
  alive_words word hash mine serial None live is = absurd (true≢false (sym live))

  -- a used entry that is live has its key in the words
  pub used_tells : (p : ℕ) (entry : UsedEntry) (key : Key) → slice_get used p ≡ Some entry → is_live entry ≡ true → is_key entry.key key ≡ true → Telling p key × HasLiveKey n ws p key
  used_tells p entry key at live mine =
      let low = slice_get_within used p entry at in
      let word = entry_word (class_mask c) (0 ∷ 0 ∷ ws) p in
      let is : IsEntry word (slot_of texts entry) = subst (λ (z : UsedEntry). IsEntry word (slot_of texts z)) (get_or_from_slice_get used p entry entry at) (table.entries p entry low) in
      let w = alive_words word (hash_of texts entry.key) entry.key entry.serial entry.stored live is in
      let k = key_words entry.key key mine in
      let kind : word 2 ≡ key_kind key = w.0 ∙ k.0 in
      let payload : word 3 ≡ key_payload key = w.1 ∙ k.1 in
      let s = says word (hash_of texts entry.key) entry.key key entry.serial entry.stored is kind payload in
      let w4 = word_is p 4 in
      let w5 = word_is p 5 in
      let w6 = word_is p 6 in
      (record { entry = entry; at = at; live = live; mine = mine; said = s.2 ∙ (λ d. w4 d ∷ w5 d ∷ w6 d ∷ []); fits = s.3 }, (sym (word_is p 2) ∙ kind, sym (word_is p 3) ∙ payload))

  -- ---- what there is under keys: `of` makes used entries of pairs or of elements

  module _ {Y : Type 0} (of : Y → UsedEntry) (ys : List Y) (first : (test : UsedEntry → Bool) → find (λ entry. is_live entry && test entry) used ≡ option_map of (find (λ y. test (of y)) ys)) where
    abbrev pub there_under : Key → List ℕ
    there_under key = option_map_or (λ y. said_by (of y)) (find (λ y. is_key (of y).key key) ys) []

    said_as : (o : Option Y) → option_map_or (λ y. said_by (of y)) o [] ≡ option_map_or said_by (option_map of o) []
    said_as None = refl
    said_as (Some y) = refl

    there_is : (key : Key) → there_under key ≡ option_map_or said_by (find (λ entry. is_live entry && is_key entry.key key) used) []
    there_is key = said_as (find (λ y. is_key (of y).key key) ys) ∙ ap (λ (o : Option UsedEntry). option_map_or said_by o []) (sym (first (λ entry. is_key entry.key key)))

    -- a live entry says what there is
    pub live_is_right : (p : ℕ) (key : Key) → p < room → HasLiveKey n ws p key → there_under key ≡ said_of n ws p
    live_is_right p key low live =
        let t = live_tells p key low live in
        let test : UsedEntry → Bool = λ entry. is_live entry && is_key entry.key key in
        let passes : test t.entry ≡ true = ap (λ (z : Bool). z && is_key t.entry.key key) t.live ∙ t.mine in
        let found : find test used ≡ Some t.entry =
        find_first test used p t.entry t.at passes
        (λ q y less at yes_too. let both = both_true (is_live y) (is_key y.key key) yes_too in one_tells q p key less (used_tells q y key at both.0 both.1).0 t) in
        there_is key ∙ (ap (λ (o : Option UsedEntry). option_map_or said_by o []) found ∙ t.said)

    -- and what there is has its live entry
    pub right_is_live : (key : Key) → there_under key ≢ [] → (p : ℕ) × (p < length used) × HasLiveKey n ws p key
    right_is_live key some = by (find test used) refl
      where
        test : UsedEntry → Bool
        test entry = is_live entry && is_key entry.key key

        by : (o : Option UsedEntry) → find test used ≡ o → (p : ℕ) × (p < length used) × HasLiveKey n ws p key
        by None e = absurd (some (there_is key ∙ ap (λ (o : Option UsedEntry). option_map_or said_by o []) e))
        by (Some entry) e =
            let at = found_at test used entry e in
            let both = both_true (is_live entry) (is_key entry.key key) at.2 in
            (at.0, slice_get_within used at.0 entry at.1, (used_tells at.0 entry key at.1 both.0 both.1).1)

    -- one of as many entries as are known
    pub live_below : (m : ℕ) → room ≤ m → (key : Key) → there_under key ≢ [] → (p : ℕ) × (p < m) × HasLiveKey n ws p key
    live_below m up key some = let r = right_is_live key some in let f = table.fill in let low = r.1 in (r.0, omega (arith, f, up, low), r.2)

  -- no more are there than entries
  pub few_live : {Y : Type 0} (of : Y → UsedEntry) (ys : List Y) → filter is_live used ≡ map of ys → length ys ≤ room
  few_live of ys live =
      let a : length (filter is_live used) ≡ length ys = ap (λ (l : List UsedEntry). length l) live ∙ length-map ys of in
      let b = length-filter-le is_live used in
      let f = table.fill in
      omega (arith, a, b, f)

-- ---- what is clear of two lists of words: an entry with an even version is in the second as it is in the first

pub words_clear : (walk : Key → List ℕ) (n m : ℕ) (ws zs : List ℕ) (c d : Pairs) → ((q : ℕ) (key : Key) → q < m → HasLiveKey n ws q key → c key ≡ said_of n ws q) → ((q : ℕ) (key : Key) → q < m → HasLiveKey n zs q key → d key ≡ said_of n zs q)
    → ((key : Key) → FitsKey key → d key ≢ [] → Reached n m zs (walk key) key) → ((q w : ℕ) → q < m → entry_field n zs q 0 % 2 ≡ 0 → w < 8 → entry_field n zs q w ≡ entry_field n ws q w) → OpensChanged n m zs c d → Clear walk n m zs c d
words_clear walk n m ws zs c d was now reached same opens = record {
  keeps = λ q key less two l.
      let w : (i : ℕ) → i < 8 → entry_field n zs q i ≡ entry_field n ws q i = λ i few. same q i less two few in
      let w4 = w 4 (omega arith) in
      let w5 = w 5 (omega arith) in
      let w6 = w 6 (omega arith) in
      let old : HasLiveKey n ws q key = (sym (w 2 (omega arith)) ∙ l.0, sym (w 3 (omega arith)) ∙ l.1) in
      let said : said_of n zs q ≡ said_of n ws q = λ d. w4 d ∷ w5 d ∷ w6 d ∷ [] in
      now q key less l ∙ (said ∙ sym (was q key less old));
  opens = opens;
  adds = λ key fits none some. reached key fits some;
}

-- ---- where the walk of a key meets its entry

module _ (walk : ℕ → List ℕ) (room : ℕ) (texts : List ℕ) (c : ℕ) (is_class : IsClass c) (used : List UsedEntry) (ws : List ℕ) (table : IsTable walk room texts (class_mask c) used (0 ∷ 0 ∷ ws)) (within : (hash : ℕ) → All (λ slot. slot ≤ class_mask c) (walk hash)) where
  index_is : (slot : ℕ) → layout.index_word (0 ∷ 0 ∷ ws) slot ≡ index_field ws slot
  index_is slot = past_header ws (slot + 2) slot refl

  in_slots : (hash j : ℕ) → j < length (walk hash) → slice_index (walk hash) j < slots c
  unfolding slots
  in_slots hash j low = let r = (slots_range c is_class).0 in let h = within hash j 0 low in omega (arith, r, h)

  pub key_met : (p : ℕ) (entry : UsedEntry) (key : Key) → slice_get used p ≡ Some entry → entry.key ≡ key → Met (slots c) ws (walk (hash_of texts key)) (suc p)
  key_met p entry key at same =
      let low = slice_get_within used p entry at in
      let is : (get_or used p entry).key ≡ key = ap (λ (e : UsedEntry). e.key) (get_or_from_slice_get used p entry entry at) ∙ same in
      let m = subst (λ (k : Key). Meets (0 ∷ 0 ∷ ws) (walk (hash_of texts k)) p) is (table.met p entry low) in
      let slot = slice_index (walk (hash_of texts key)) m.step in
      let here = m.here in
      record {
        step = m.step;
        low = m.low;
        inside = λ j less. let l = m.low in in_slots (hash_of texts key) j (omega (arith, less, l));
        here = sym (index_is slot) ∙ (here ∙ omega arith);
        before = λ j less. λ e. m.before j less (index_is (slice_index (walk (hash_of texts key)) j) ∙ e);
      }

  -- an index word names an entry that has a key
  pub key_named : (s p : ℕ) → s < slots c → index_field ws s ≡ suc p → entry_field (slots c) ws p 2 ≢ 0
  unfolding slots
  key_named s p less names =
      let r = (slots_range c is_class).0 in
      let n = table.names s (omega (arith, less, r)) in
      let i = index_is s in
      let low : p < length used = omega (arith, n, i, names) in
      let any : UsedEntry = record { key = Int (pos 0); serial = 0; stored = None } in
      let e = get_or used p any in
      let k = by (entry_word (class_mask c) (0 ∷ 0 ∷ ws) p) (hash_of texts e.key) e.key e.serial e.stored (table.entries p any low) in
      let w = word_is walk room texts c is_class used ws table p 2 in
      λ z. absurd (omega (arith, k, w, z))
    where
      by : (word : ℕ → ℕ) (hash : ℕ) (mine : Key) (serial : ℕ) (stored : Option Stored) → IsEntry word (slot_with hash mine serial stored) → 1 ≤ word 2
      by word hash mine serial (Some s) is = let k = is.key.kind_is in let r = (kind_range mine).0 in omega (arith, k, r)
      by word hash mine serial None is = let k = is.key_is.kind_is in let r = (kind_range mine).0 in let g = gone_is mine in omega (arith, k, r, g)

  -- what there is under a key that fits its words has an entry that the key's walk meets
  pub key_reached : {Y : Type 0} (of : Y → UsedEntry) (ys : List Y) (first : (test : UsedEntry → Bool) → find (λ entry. is_live entry && test entry) used ≡ option_map of (find (λ y. test (of y)) ys)) (m : ℕ) → room ≤ m → (key : Key) → FitsKey key → there_under walk room texts c is_class used ws table of ys first key ≢ []
      → Reached (slots c) m ws (walk (hash_of texts key)) key
  key_reached of ys first m up key fits some =
      let l = right_is_live walk room texts c is_class used ws table of ys first key some in
      let f = table.fill in
      let low = l.1 in
      let t = live_tells walk room texts c is_class used ws table l.0 key (omega (arith, low, f)) l.2 in
      let w = key_words t.entry.key key t.mine in
      record {
        place = l.0;
        low = omega (arith, low, f, up);
        mine = inl l.2;
        met = key_met l.0 t.entry key t.at (same_key t.entry.key key t.fits fits w.0 w.1);
        alive = inl l.2.0;
      }
