-- A key that is there when a dict or a set is written: what another value in its entry leaves.
use Rattle.std.proofs.Common.{◌≡◌, ◌≢◌, ◌⊎◌, ℕ, ◌+◌, ◌*◌, ◌%◌, ◌<◌, ◌≤◌, true, false, List, [], ◌∷◌, length, None, Some, refl, sym, ap, ◌∙◌, subst, inl, inr, arith, ⊎_elim, true≢false}
use mathlib.Core.Logic.{dite}
use native.Mathlib.Decide.{ℕ_discrete}
use Rattle.ft_model.specs.declared.content.Content.{Content}
use Rattle.ft_model.specs.declared.content.Content.TheVariants as content
use Rattle.ft_model.specs.declared.data.Key.{Key}
use Rattle.ft_model.specs.declared.data.Value.{Value}
use Rattle.ft_model.specs.declared.script.Kind.{Kind}
use Rattle.ft_model.specs.declared.script.Kind.TheVariants as kind
use Rattle.ft_model.specs.Classes.{IsClass}
use Rattle.ft_model.specs.Contents.{DictContent, dict_set}
use Rattle.ft_model.specs.Worlds.{kind_of}
use Rattle.ft_layout.specs.declared.slot.Stored.{Stored}
use Rattle.ft_layout.specs.declared.slot.Stored.TheVariants.{Boxed, Empty, Plain}
use Rattle.ft_layout.specs.Containers.{IsDictWords}
use Rattle.ft_layout.specs.Tables.{UsedEntry}
use Rattle.ft_layout.specs.Words.{FitsKey, FitsStored, gone_kind, stored_kind, stored_payload}
use Rattle.ft_layout.proofs.WordLaws.{gone_is, kind_range, same_key}
use Rattle.ft_trace.specs.declared.Shape.{Shape}
use Rattle.ft_trace.specs.declared.View.{View}
use Rattle.ft_trace.specs.Addresses.{class_of, places, slots}
use Rattle.ft_trace.specs.Carefuls.{IsDead, HasLiveKey, Pairs, said_of, IsOf, OpensChanged}
use Rattle.ft_trace.specs.EntryWrites.{value_puts}
use Rattle.ft_trace.specs.Holds.{held_unboxed, known_state}
use Rattle.ft_trace.specs.Kinds.{rows, under}
use Rattle.ft_trace.specs.Pictures.{ContainerWords, entry_field, Represents}
use Rattle.ft_trace.specs.ContainerStates.{ContainerState, kind_in}
use Rattle.ft_trace.specs.WholeWrites.{MayPuts, with_puts}
use Rattle.ft_trace.proofs.DictWrites as dict
use Rattle.ft_trace.proofs.EntryPuts.{key3, other3, ver3, value_changed}
use Rattle.ft_trace.proofs.Known.{table_is_long}
use Rattle.ft_bank.specs.declared.table.Table.{Table}
use Rattle.ft_bank.specs.TableNames.{table_id}
use Rattle.ft_bank.specs.Whole.{OnlyWritten}
use Rattle.ft_bank.proofs.KnownAfterWrites.{work_knows}
use Rattle.ft_search.specs.OneEntryWrites.{WritesEntries, are_of_value}
use Rattle.ft_search.proofs.Puts.{table_class}
use Rattle.ft_search.proofs.OtherValues.{ValueLaws, value_early, value_stands, value_used, same_again}
use Rattle.ft_new_keys.specs.KeyGrowth.{holds}
use Rattle.ft_new_keys.specs.Placing.{StoresAs, with_key}
use Rattle.ft_new_keys.proofs.Placed.{use_with}
use Rattle.ft_merging.specs.Internal.JoiningSteps.{NoneAhead, NoneGone, NoneOf, stored_puts}
use Rattle.ft_merging.specs.Internal.EntriesAtOnce.{IsMidway, version_of}
use Rattle.ft_merging.proofs.JoinedContents.{set_same}
use Rattle.ft_trace.proofs.Tellings.{equal_both, both_equal}
use Rattle.std.specs.Prelude.{if◌then◌else◌}

-- The entry at this place was written, whose key stays, and no other.
pub record IsPutThere (k : Shape) (o : ℕ) (own : Table) (mid : Content) (fill at : ℕ) (v z : View) : Type 0 where
  pub midway : IsMidway k o own (record { content = mid; table = use_with (class_of (table_id own)) fill }) z
  pub alive : NoneGone (table_id own) (rows (kind_in k.starts o) (class_of (table_id own))) (held_unboxed o z)
  pub keys : (q w : ℕ) → (w ≡ 2) ⊎ (w ≡ 3) → entry_field (slots (class_of (table_id own))) (held_unboxed o z).table q w ≡ entry_field (slots (class_of (table_id own))) (held_unboxed o v).table q w
  pub others : (q : ℕ) → q ≢ at → version_of (table_id own) (held_unboxed o z) q ≡ version_of (table_id own) (held_unboxed o v) q

-- the key is none of those that are left
pub ahead_there : (k : Shape) (o : ℕ) (own : Table) (mid : Content) (fill at : ℕ) (v z : View) → IsPutThere k o own mid fill at v z → (key : Key) → FitsKey key → HasLiveKey (slots (class_of (table_id own))) (held_unboxed o v).table at key → (left : List UsedEntry)
    → NoneAhead (table_id own) (rows (kind_in k.starts o) (class_of (table_id own))) (held_unboxed o v) left → NoneOf key left → NoneAhead (table_id own) (rows (kind_in k.starts o) (class_of (table_id own))) (held_unboxed o z) left
ahead_there k o own mid fill at v z put key fits live left before none q a less odd fits_a live_now =
    let was : HasLiveKey (slots (class_of (table_id own))) (held_unboxed o v).table q a = (sym (put.keys q 2 (inl refl)) ∙ live_now.0, sym (put.keys q 3 (inr refl)) ∙ live_now.1) in
    dite (ℕ_discrete q at)
    (λ (e : q ≡ at).
    let here : HasLiveKey (slots (class_of (table_id own))) (held_unboxed o v).table at a = subst (λ (i : ℕ). HasLiveKey (slots (class_of (table_id own))) (held_unboxed o v).table i a) e was in
    subst (λ (i : Key). NoneOf i left) (same_key key a fits fits_a (sym live.0 ∙ here.0) (sym live.1 ∙ here.1)) none)
    (λ ne. let same = put.others q ne in before q a less (omega (arith, same, odd)) fits_a was)

-- ---- a dict

module _ (laws : ValueLaws) (k : Shape) (o : ℕ) (own : Table) (pairs : DictContent) (fill : ℕ) (v : View) (midway : IsMidway k o own (record { content = content.Dict pairs; table = use_with (class_of (table_id own)) fill }) v) (kind_eq : kind_in k.starts o ≡ kind.Dict) (at : ℕ) (key : Key) (value : Value) (fits : FitsKey key) (ok : FitsStored (Plain value)) (low : at < rows (kind_in k.starts o) (class_of (table_id own))) (live : HasLiveKey (slots (class_of (table_id own))) (held_unboxed o v).table at key)
    (even : version_of (table_id own) (held_unboxed o v) at % 2 ≡ 0) where
  abbrev t : ℕ
  t = table_id own

  abbrev x : ContainerWords
  x = held_unboxed o v

  abbrev c : ℕ
  c = class_of t

  abbrev n : ℕ
  n = slots c

  abbrev m : ℕ
  m = rows (kind_in k.starts o) c

  abbrev was : Pairs
  was = under (content.Dict pairs)

  abbrev news : DictContent
  news = dict_set pairs key value

  abbrev will : Pairs
  will = under (content.Dict news)

  abbrev kw : ℕ
  kw = stored_kind (Plain value)

  abbrev pw : ℕ
  pw = stored_payload (Plain value)

  is_class : IsClass c
  is_class = table_class k own midway.writes.table_in

  row : (q : ℕ) → q < m → q < places c
  row q less = subst (λ (z : Kind). q < rows z c) kind_eq less

  long : n + 8 * places c ≤ length x.table
  long = let l = table_is_long v o t midway.writes.root in omega (arith, l)

  says : IsDictWords k.texts x.block (0 ∷ 0 ∷ x.table) (Some c) fill pairs
  says = midway.stands

  abbrev y : ContainerWords
  y = with_puts x (value_puts n x.table at None value)

  pub dict_may : (before : Content) → MayPuts (kind_in k.starts o) t before false x (value_puts n x.table at None value)
  dict_may before = subst (λ (z : Kind). MayPuts z t before false x (value_puts n x.table at None value)) (sym kind_eq) (value_early laws k.texts x (use_with c fill) t is_class pairs says refl midway.writes.root long at key value even (row at low) live fits ok before)

  used_here : at < fill
  used_here = value_used laws k.texts x (use_with c fill) t is_class pairs says refl midway.writes.root long at key value even (row at low) live fits ok

  says_now : IsDictWords k.texts y.block (0 ∷ 0 ∷ y.table) (Some c) fill news
  says_now = value_stands laws k.texts x (use_with c fill) t is_class pairs says refl midway.writes.root long at key value even (row at low) live fits ok

  ver_now : version_of t y at ≡ version_of t x at + 1
  ver_now = ver3 n (places c) x.table was will at key kw pw (row at low) long even live

  others_now : (q w : ℕ) → q ≢ at → w < 8 → entry_field n y.table q w ≡ entry_field n x.table q w
  others_now = other3 n (places c) x.table was will at key kw pw (row at low) long even live

  keys_now : (q w : ℕ) → (w ≡ 2) ⊎ (w ≡ 3) → entry_field n y.table q w ≡ entry_field n x.table q w
  keys_now = key3 n (places c) x.table was will at key kw pw (row at low) long even live

  apart : (q : ℕ) → version_of t y q % 2 ≡ 0 → q ≢ at
  apart q two e = let o = ver_now in let same : version_of t y q ≡ version_of t y at = ap (version_of t y) e in omega (arith, o, same, two, even)

  right_before : (q : ℕ) (a : Key) → q < places c → HasLiveKey n x.table q a → was a ≡ said_of n x.table q
  right_before = dict.dict_right laws.first k.texts x.block c fill is_class pairs x.table says

  right_now : (q : ℕ) (a : Key) → q < places c → HasLiveKey n y.table q a → will a ≡ said_of n y.table q
  right_now = dict.dict_right laws.first k.texts y.block c fill is_class news y.table says_now

  -- what is under the key of another entry stays
  under_other : (q : ℕ) (a : Key) → q < m → q ≢ at → HasLiveKey n y.table q a → will a ≡ was a
  under_other q a less ne live_now =
      let e4 = others_now q 4 ne (omega arith) in
      let e5 = others_now q 5 ne (omega arith) in
      let e6 = others_now q 6 ne (omega arith) in
      let old : HasLiveKey n x.table q a = (sym (keys_now q 2 (inl refl)) ∙ live_now.0, sym (keys_now q 3 (inr refl)) ∙ live_now.1) in
      let said : said_of n y.table q ≡ said_of n x.table q = λ i. e4 i ∷ (e5 i ∷ (e6 i ∷ [])) in
      right_now q a (row q less) live_now ∙ (said ∙ sym (right_before q a (row q less) old))

  -- an entry with an even version says what the container had
  same_now : (q : ℕ) (a : Key) → q < m → version_of t y q % 2 ≡ 0 → HasLiveKey n y.table q a → will a ≡ under (known_state o v).content a
  same_now q a less two live_now =
      let ne = apart q two in
      let ver = others_now q 0 ne (omega arith) in
      under_other q a less ne live_now ∙ midway.same q a less (omega (arith, ver, two)) (sym (keys_now q 2 (inl refl)) ∙ live_now.0, sym (keys_now q 3 (inr refl)) ∙ live_now.1)

  -- what is under a key stays there
  pub dict_still : (a : Key) → was a ≢ [] → will a ≢ []
  dict_still a some none =
      let p = dict.dict_live laws.first k.texts x.block c fill is_class pairs x.table says a some in
      let here : HasLiveKey n y.table p.0 a = (keys_now p.0 2 (inl refl) ∙ p.2.0, keys_now p.0 3 (inr refl) ∙ p.2.1) in
      let bare : said_of n y.table p.0 ≡ [] = sym (right_now p.0 a p.1 here) ∙ none in
      absurd (cc)

  -- the value is the one that is there
  pub dict_again : entry_field n x.table at 4 ≡ kw → entry_field n x.table at 5 ≡ pw → news ≡ pairs
  dict_again = same_again laws k.texts x (use_with c fill) t is_class pairs says refl midway.writes.root long at key value even (row at low) live fits ok

  -- one with an odd version is of a key under which something else is
  opens_now : (entry_field n x.table at 4 ≡ kw → entry_field n x.table at 5 ≡ pw → ⊥) → NoneGone t m x → OpensChanged n m y.table (under (known_state o v).content) will
  opens_now other alive q less odd =
      dite (ℕ_discrete q at)
      (λ (e : q ≡ at).
      let changed = value_changed n (places c) x.table was will at key kw pw (row at low) long even live right_before right_now (λ a some. dict.dict_live laws.first k.texts y.block c fill is_class news y.table says_now a some) other in
      let here : HasLiveKey n y.table at key = (keys_now at 2 (inl refl) ∙ live.0, keys_now at 3 (inr refl) ∙ live.1) in
      (key, subst (λ (i : ℕ). IsOf n y.table i key) (sym e) (inl here), λ same. changed (same ∙ sym (midway.same at key low even live))))
      (λ ne.
      let ver = others_now q 0 ne (omega arith) in
      let odd_before : version_of t x q % 2 ≡ 1 = omega (arith, ver, odd) in
      let old = midway.opens q less odd_before in
      ⊎_elim
      (λ (l : HasLiveKey n x.table q old.0).
      let here : HasLiveKey n y.table q old.0 = (keys_now q 2 (inl refl) ∙ l.0, keys_now q 3 (inr refl) ∙ l.1) in
      (old.0, inl here, λ same. old.2 (sym (under_other q old.0 less ne here) ∙ same)))
      (λ (dead : IsDead n x.table q old.0). absurd (alive q old.0 less odd_before dead))
      old.1)

  opened_now : (q : ℕ) → q < m → version_of t y q % 2 ≡ 1 → q < fill
  opened_now q less odd =
      dite (ℕ_discrete q at)
      (λ (e : q ≡ at). let u = used_here in omega (arith, u, e))
      (λ ne. let ver = others_now q 0 ne (omega arith) in midway.opened q less (omega (arith, ver, odd)))

  alive_now : NoneGone t m x → NoneGone t m y
  alive_now alive q a less odd dead =
      let kind = keys_now q 2 (inl refl) in
      let old : IsDead n x.table q a = (sym kind ∙ dead.0, sym (keys_now q 3 (inr refl)) ∙ dead.1) in
      dite (ℕ_discrete q at)
      (λ (e : q ≡ at).
      let here : entry_field n x.table at 2 ≡ gone_kind a = subst (λ (i : ℕ). entry_field n x.table i 2 ≡ gone_kind a) e old.0 in
      let l = live.0 in
      let g = gone_is a in
      let b = (kind_range a).0 in
      let h = (kind_range key).1 in
      let no : ⊥ = omega (arith, here, l, g, b, h) in
      no)
      (λ ne. let ver = others_now q 0 ne (omega arith) in alive q a less (omega (arith, ver, odd)) old)

  pub dict_put : (entry_field n x.table at 4 ≡ kw → entry_field n x.table at 5 ≡ pw → ⊥) → NoneGone t m x → (z : View) → OnlyWritten o v z → held_unboxed o z ≡ y → WritesEntries k o own z → IsPutThere k o own (content.Dict news) fill at v z
  dict_put other alive z only words writes =
      let back : y ≡ held_unboxed o z = sym words in
      let knows : known_state o v ≡ known_state o z = sym (work_knows v z o only.work) in
      let gone : NoneGone t m (held_unboxed o z) = subst (λ (w : ContainerWords). NoneGone t m w) back (alive_now alive) in
      record {
        midway = record {
          writes = writes;
          early = only.work.committed o ∙ midway.early;
          stands = subst (λ (w : ContainerWords). Represents k.texts w (record { content = content.Dict news; table = use_with c fill })) back says_now;
          same = subst (λ (w : ContainerWords × ContainerState). (q : ℕ) (a : Key) → q < m → version_of t w.0 q % 2 ≡ 0 → HasLiveKey n w.0.table q a → will a ≡ under w.1.content a) (λ i. (back i, knows i)) same_now;
          opens = subst (λ (w : ContainerWords × ContainerState). OpensChanged n m w.0.table (under w.1.content) will) (λ i. (back i, knows i)) (opens_now other alive);
          gone = λ q a less odd dead. absurd (gone q a less odd dead);
          opened = subst (λ (w : ContainerWords). (q : ℕ) → q < m → version_of t w q % 2 ≡ 1 → q < fill) back opened_now;
        };
        alive = gone;
        keys = λ q w which. ap (λ (u : ContainerWords). entry_field n u.table q w) words ∙ keys_now q w which;
        others = λ q ne. ap (λ (u : ContainerWords). version_of t u q) words ∙ others_now q 0 ne (omega arith);
      }

-- ---- either

module _ (laws : ValueLaws) (k : Shape) (o : ℕ) (own : Table) (fill : ℕ) (v : View) (at : ℕ) (key : Key) (fits : FitsKey key) (low : at < rows (kind_in k.starts o) (class_of (table_id own))) (live : HasLiveKey (slots (class_of (table_id own))) (held_unboxed o v).table at key) (even : version_of (table_id own) (held_unboxed o v) at % 2 ≡ 0) where
  pub there_may : (mid : Content) (stored : Stored) → IsMidway k o own (record { content = mid; table = use_with (class_of (table_id own)) fill }) v → kind_of mid ≡ kind_in k.starts o → StoresAs (kind_of mid) stored → FitsStored stored → (before : Content)
      → MayPuts (kind_in k.starts o) (table_id own) before false (held_unboxed o v) (stored_puts (slots (class_of (table_id own))) (held_unboxed o v).table at stored)
  there_may (content.Dict pairs) (Plain value) midway kinds stores ok before =
      let n = slots (class_of (table_id own)) in
      let x = held_unboxed o v in
      elim (are_of_value (entry_field n x.table at 4) (entry_field n x.table at 5) value) as (λ b. MayPuts (kind_in k.starts o) (table_id own) before false x (if b then [] else value_puts n x.table at None value)) [
        | true ↦ tt
        | false ↦ dict_may laws k o own pairs fill v midway (sym kinds) at key value fits ok low live even before
      ]
  there_may (content.Dict pairs) Empty midway kinds stores ok before = tt
  there_may (content.Dict pairs) (Boxed block) midway kinds stores ok before = tt
  there_may (content.Set elements) Empty midway kinds stores ok before = tt
  there_may (content.Set elements) (Plain value) midway kinds stores ok before = absurd stores
  there_may (content.Set elements) (Boxed block) midway kinds stores ok before = tt
  there_may (content.List values) stored midway kinds stores ok before = absurd stores
  there_may (content.Deque deque) stored midway kinds stores ok before = absurd stores

  -- nothing is put
  there_kept : (mid : Content) → IsMidway k o own (record { content = mid; table = use_with (class_of (table_id own)) fill }) v → NoneGone (table_id own) (rows (kind_in k.starts o) (class_of (table_id own))) (held_unboxed o v) → (z : View) → OnlyWritten o v z → held_unboxed o z ≡ held_unboxed o v → WritesEntries k o own z → IsPutThere k o own mid fill at v z
  there_kept mid midway alive z only words writes =
      let back : held_unboxed o v ≡ held_unboxed o z = sym words in
      let knows : known_state o v ≡ known_state o z = sym (work_knows v z o only.work) in
      let n = slots (class_of (table_id own)) in
      let m = rows (kind_in k.starts o) (class_of (table_id own)) in
      let gone = subst (λ (w : ContainerWords). NoneGone (table_id own) m w) back alive in
      record {
        midway = record {
          writes = writes;
          early = only.work.committed o ∙ midway.early;
          stands = subst (λ (w : ContainerWords). Represents k.texts w (record { content = mid; table = use_with (class_of (table_id own)) fill })) back midway.stands;
          same = subst (λ (w : ContainerWords × ContainerState). (q : ℕ) (a : Key) → q < m → version_of (table_id own) w.0 q % 2 ≡ 0 → HasLiveKey n w.0.table q a → under mid a ≡ under w.1.content a) (λ i. (back i, knows i)) midway.same;
          opens = subst (λ (w : ContainerWords × ContainerState). OpensChanged n m w.0.table (under w.1.content) (under mid)) (λ i. (back i, knows i)) midway.opens;
          gone = λ q a less odd dead. absurd (gone q a less odd dead);
          opened = subst (λ (w : ContainerWords). (q : ℕ) → q < m → version_of (table_id own) w q % 2 ≡ 1 → q < fill) back midway.opened;
        };
        alive = gone;
        keys = λ q w which. ap (λ (u : ContainerWords). entry_field n u.table q w) words;
        others = λ q ne. ap (λ (u : ContainerWords). version_of (table_id own) u q) words;
      }

  pub there_still : (mid : Content) (stored : Stored) → IsMidway k o own (record { content = mid; table = use_with (class_of (table_id own)) fill }) v → kind_of mid ≡ kind_in k.starts o → StoresAs (kind_of mid) stored → FitsStored stored → holds mid key ≡ true → (a : Key) → under mid a ≢ [] → under (with_key mid key stored) a ≢ []
  there_still (content.Dict pairs) (Plain value) midway kinds stores ok there = dict_still laws k o own pairs fill v midway (sym kinds) at key value fits ok low live even
  there_still (content.Set elements) Empty midway kinds stores ok there = λ a some. subst (λ (d : Content). under d a ≢ []) (sym (set_same (content.Set elements) key Empty refl there)) some
  there_still (content.Dict pairs) Empty midway kinds stores ok there = absurd stores
  there_still (content.Dict pairs) (Boxed block) midway kinds stores ok there = absurd stores
  there_still (content.Set elements) (Plain value) midway kinds stores ok there = absurd stores
  there_still (content.Set elements) (Boxed block) midway kinds stores ok there = absurd stores
  there_still (content.List values) stored midway kinds stores ok there = absurd stores
  there_still (content.Deque deque) stored midway kinds stores ok there = absurd stores

  pub there_put : (mid : Content) (stored : Stored) → IsMidway k o own (record { content = mid; table = use_with (class_of (table_id own)) fill }) v → kind_of mid ≡ kind_in k.starts o → StoresAs (kind_of mid) stored → FitsStored stored → holds mid key ≡ true → NoneGone (table_id own) (rows (kind_in k.starts o) (class_of (table_id own))) (held_unboxed o v)
      → (z : View) → OnlyWritten o v z → held_unboxed o z ≡ with_puts (held_unboxed o v) (stored_puts (slots (class_of (table_id own))) (held_unboxed o v).table at stored) → WritesEntries k o own z → IsPutThere k o own (with_key mid key stored) fill at v z
  there_put (content.Dict pairs) (Plain value) midway kinds stores ok there alive z only words writes =
      let n = slots (class_of (table_id own)) in
      let x = held_unboxed o v in
      let k4 = entry_field n x.table at 4 in
      let p5 = entry_field n x.table at 5 in
      let kw = stored_kind (Plain value) in
      let pw = stored_payload (Plain value) in
      elim (are_of_value k4 p5 value) as (λ b. are_of_value k4 p5 value ≡ b → held_unboxed o z ≡ with_puts x (if b then [] else value_puts n x.table at None value) → IsPutThere k o own (content.Dict (dict_set pairs key value)) fill at v z) [
        | true ↦ λ yes same.
            let w = both_equal k4 kw p5 pw yes in
            subst (λ (d : DictContent). IsPutThere k o own (content.Dict d) fill at v z) (sym (dict_again laws k o own pairs fill v midway (sym kinds) at key value fits ok low live even w.0 w.1))
            (there_kept (content.Dict pairs) midway alive z only same writes)
        | false ↦ λ no put. dict_put laws k o own pairs fill v midway (sym kinds) at key value fits ok low live even (λ a b. true≢false (sym (equal_both k4 kw p5 pw a b) ∙ no)) alive z only put writes
      ] refl words
  there_put (content.Set elements) Empty midway kinds stores ok there alive z only words writes =
      subst (λ (d : Content). IsPutThere k o own d fill at v z) (sym (set_same (content.Set elements) key Empty refl there)) (there_kept (content.Set elements) midway alive z only words writes)
  there_put (content.Dict pairs) Empty midway kinds stores ok there alive z only words writes = absurd stores
  there_put (content.Dict pairs) (Boxed block) midway kinds stores ok there alive z only words writes = absurd stores
  there_put (content.Set elements) (Plain value) midway kinds stores ok there alive z only words writes = absurd stores
  there_put (content.Set elements) (Boxed block) midway kinds stores ok there alive z only words writes = absurd stores
  there_put (content.List values) stored midway kinds stores ok there alive z only words writes = absurd stores
  there_put (content.Deque deque) stored midway kinds stores ok there alive z only words writes = absurd stores
