-- A new key that is put into a dict or a set in the midst of a write of several: what its entry leaves.
use Rattle.std.proofs.Common.{◌≡◌, ◌≢◌, ℕ, ◌+◌, length-set, ◌*◌, ◌^◌, ◌%◌, ◌<◌, ◌≤◌, List, [], ◌∷◌, length, Some, None, sym, ap, ◌∙◌, subst, ⊎_elim, arith, get_or-set_same, get_or-set_other, inl}
use Rattle.std.specs.Prelude.{slice_set}
use mathlib.Core.Logic.{dite}
use native.Mathlib.Decide.{ℕ_discrete}
use Rattle.ft_model.specs.declared.content.Content.{Content}
use Rattle.ft_model.specs.declared.data.Key.{Key}
use Rattle.ft_model.specs.declared.script.Kind.{Kind}
use Rattle.ft_model.specs.Worlds.{kind_of, length_of}
use Rattle.ft_layout.specs.declared.slot.Pair.{Pair}
use Rattle.ft_layout.specs.declared.slot.Stored.{Stored}
use Rattle.ft_layout.specs.Containers.{class_mask, StandsAs}
use Rattle.ft_layout.specs.Tables.{UsedEntry, hash_of}
use Rattle.ft_layout.specs.Words.{FitsKey, FitsStored, entry_words, gone_kind, key_kind, key_payload, stored_kind, stored_payload}
use Rattle.ft_layout.proofs.WordLaws.{gone_is, kind_range, same_key}
use Rattle.ft_keys.specs.declared.walk.Way.{Way}
use Rattle.ft_keys.specs.TableChanges.{FirstFree}
use Rattle.ft_keys.specs.Ways.{walk_slots}
use Rattle.ft_trace.specs.declared.Shape.{Shape}
use Rattle.ft_trace.specs.declared.View.{View}
use Rattle.ft_trace.specs.Addresses.{class_of, slots}
use Rattle.ft_trace.specs.Carefuls.{IsDead, HasLiveKey, said_of, IsOf, OpensChanged}
use Rattle.ft_trace.specs.Holds.{held_unboxed, known_state}
use Rattle.ft_trace.specs.Kinds.{IsKeyed, rows, under}
use Rattle.ft_trace.specs.Pictures.{ContainerWords, entry_offset, entry_field, Represents}
use Rattle.ft_trace.specs.ContainerStates.{ContainerState, kind_in}
use Rattle.ft_trace.proofs.ByKind.{keyed_fit}
use Rattle.ft_trace.proofs.Known.{table_is_long}
use Rattle.ft_bank.specs.declared.table.Table.{Table}
use Rattle.ft_bank.specs.TableNames.{table_id}
use Rattle.ft_bank.specs.Whole.{OnlyWritten}
use Rattle.ft_bank.proofs.TableAddresses.{class_is}
use Rattle.ft_bank.proofs.KnownAfterWrites.{work_knows}
use Rattle.ft_search.specs.Held.{IsHeldAt}
use Rattle.ft_search.specs.Rounds.{kind_by}
use Rattle.ft_search.specs.OneEntryWrites.{WritesEntries}
use Rattle.ft_search.proofs.WordPlaces.{slots_of_class}
use Rattle.ft_search.proofs.Puts.{table_class}
use Rattle.ft_new_keys.specs.declared.counts.Counts.{Counts}
use Rattle.ft_new_keys.specs.KeyGrowth.{IsFreeFor}
use Rattle.ft_new_keys.specs.Placing.{StoresAs, with_key}
use Rattle.ft_new_keys.specs.Internal.Laying.{IsUnused, laid, with_entry}
use Rattle.ft_new_keys.proofs.Keyed.{way_is}
use Rattle.ft_new_keys.proofs.Placed.{Fresh, PlaceLaws, now, opened_now, said_now, pair_for, place_unused, right_in, use_with, next_payload, payload_laid, lacks}
use Rattle.ft_new_keys.proofs.Stages.{At, body, body_puts, body_stage, opened}
use Rattle.ft_merging.specs.Internal.JoiningSteps.{NoneAhead, NoneGone, NoneOf}
use Rattle.ft_merging.specs.Internal.EntriesAtOnce.{IsMidway, version_of}
use Rattle.ft_merging.proofs.Ending.{parity}

module _ (laws : PlaceLaws) (k : Shape) (o : ℕ) (by : Way) (own : Table) (mid : Content) (counts : Counts) (v : View) (midway : IsMidway k o own (record { content = mid; table = use_with (class_of (table_id own)) counts.fill }) v) (same_kind : kind_of mid ≡ kind_by by) (kind_eq : kind_in k.starts o ≡ kind_by by) (count_is : counts.count ≡ length_of mid)
    (alive : NoneGone (table_id own) (rows (kind_in k.starts o) (class_of (table_id own))) (held_unboxed o v)) (slot : ℕ) (key : Key) (stored : Stored) (fits : FitsKey key) (low : hash_of k.texts key < 2 ^ 64) (stores : StoresAs (kind_of mid) stored) (ok : FitsStored stored) (absent : IsHeldAt mid key None) (free : IsFreeFor k.texts by own.class key (held_unboxed o v).table slot) (room : counts.fill < rows (kind_by by) (class_of (table_id own))) where
  abbrev t : ℕ
  t = table_id own

  abbrev x : ContainerWords
  x = held_unboxed o v

  abbrev c : ℕ
  c = class_of t

  abbrev n : ℕ
  n = slots c

  abbrev m : ℕ
  m = rows (kind_of mid) c

  abbrev p : ℕ
  p = counts.fill

  class_same : class_of t ≡ own.class
  class_same = class_is own midway.writes.table_in.2

  kinds : kind_of mid ≡ kind_in k.starts o
  kinds = same_kind ∙ sym kind_eq

  row : (q : ℕ) → q < m → q < rows (kind_in k.starts o) c
  row q less = subst (λ (z : Kind). q < rows z c) kinds less

  unrow : (q : ℕ) → q < rows (kind_in k.starts o) c → q < m
  unrow q less = subst (λ (z : Kind). q < rows z c) (sym kinds) less

  room_here : p < m
  room_here = subst (λ (z : Kind). p < rows z c) (sym same_kind) room

  pub even_here : version_of t x p % 2 ≡ 0
  even_here = ⊎_elim (λ (e : version_of t x p % 2 ≡ 0). e) (λ (odd : version_of t x p % 2 ≡ 1). let up = midway.opened p (row p room_here) odd in absurd (omega (arith, up))) (parity (version_of t x p))

  keyed : IsKeyed (kind_of mid)
  keyed = subst IsKeyed (sym kinds) midway.writes.keyed

  -- what the key finds there
  pub fresh_midway : Fresh k.texts x t slot counts mid key stored
  fresh_midway =
      let some = slots_of_class c in
      let slot_low = free.0 in
      let last : class_mask own.class ≡ class_mask c = ap class_mask (sym class_same) in
      let long = table_is_long v o t midway.writes.root in
      record {
        is_class = table_class k own midway.writes.table_in;
        keyed = keyed;
        fits = fits;
        low = low;
        stores = stores;
        ok = ok;
        before = x.block;
        says = midway.stands;
        had = counts.fill;
        head = laws.head k.texts x.block (0 ∷ 0 ∷ x.table) (use_with c counts.fill) mid midway.stands;
        count_is = count_is;
        room = room_here;
        long = subst (λ (z : Kind). n + 8 * rows z c ≤ length x.table) (sym kinds) (let f = keyed_fit (kind_in k.starts o) midway.writes.keyed c in omega (arith, f, long));
        in_index = omega (arith, some, slot_low, last);
        free = subst (λ (z : Way × ℕ). FirstFree (0 ∷ 0 ∷ x.table) (walk_slots z.0 (hash_of k.texts key) (class_mask z.1)) (Some slot)) (λ i. (sym (way_is mid by same_kind) i, sym class_same i)) free.1;
        absent = absent;
        even = even_here;
      }

  abbrev pair : Pair
  pair = pair_for k.texts mid key stored

  abbrev y : ContainerWords
  y = with_entry t slot counts pair x

  abbrev news : Content
  news = with_key mid key stored

  un : IsUnused n m x.table slot p
  un = place_unused laws k.texts x t slot counts mid key stored fresh_midway

  pub unused_here : IsUnused n (rows (kind_in k.starts o) c) x.table slot p
  unused_here = subst (λ (z : Kind). IsUnused n (rows z c) x.table slot p) kinds un

  abbrev l : List ℕ
  l = laid n (body p (entry_words pair)) (opened n m x.table slot p un)

  stage : At n m x.table slot p un l
  stage = body_stage n m x.table slot p un (body p (entry_words pair)) (body_puts p (entry_words pair))

  -- the words of the other entries
  pub others_same : (q w : ℕ) → q ≢ p → w < 8 → entry_field n y.table q w ≡ entry_field n x.table q w
  others_same q w ne few =
      let in_index = un.in_index in
      get_or-set_other (slice_set l (entry_offset n p 2) (key_kind key)) slot (entry_offset n q w) (p + 1) 0 (λ e. absurd (omega (arith, e, in_index)))
      ∙ (get_or-set_other l (entry_offset n p 2) (entry_offset n q w) (key_kind key) 0 (λ e. ne (omega (arith, e, few))) ∙ stage.rest q w ne few)

  pub kind_now : entry_field n y.table p 2 ≡ key_kind key
  kind_now =
      let in_index = un.in_index in
      let less = un.low in
      let long = stage.size in
      get_or-set_other (slice_set l (entry_offset n p 2) (key_kind key)) slot (entry_offset n p 2) (p + 1) 0 (λ e. absurd (omega (arith, e, in_index))) ∙ get_or-set_same l (entry_offset n p 2) (key_kind key) 0 (omega (arith, less, long))

  pub payload_now : entry_field n y.table p 3 ≡ key_payload key
  payload_now =
      let in_index = un.in_index in
      let less = un.low in
      let size = length-set x.table (entry_offset n p 0) (entry_field n x.table p 0 + 1) in
      let long = un.long in
      let none : entry_field n (opened n m x.table slot p un) p 3 ≡ 0 = get_or-set_other x.table (entry_offset n p 0) (entry_offset n p 3) (entry_field n x.table p 0 + 1) 0 (λ e. absurd (omega (arith, e))) ∙ next_payload laws.first_pair laws.first_element k.texts x.block x.table c p mid keyed fresh_midway.is_class midway.stands room_here in
      get_or-set_other (slice_set l (entry_offset n p 2) (key_kind key)) slot (entry_offset n p 3) (p + 1) 0 (λ e. absurd (omega (arith, e, in_index)))
      ∙ (get_or-set_other l (entry_offset n p 2) (entry_offset n p 3) (key_kind key) 0 (λ e. absurd (omega (arith, e)))
      ∙ payload_laid n p (entry_words pair) (opened n m x.table slot p un) none (omega (arith, less, long, size)))

  odd_now : version_of t y p % 2 ≡ 1
  odd_now = let o = opened_now laws k.texts x t slot counts mid key stored fresh_midway in let e = even_here in omega (arith, o, e)

  -- the entry of the key reads what is stored
  pub new_reads : (entry_field n y.table p 0 % 2 ≡ 1) × (entry_field n y.table p 4 ≡ stored_kind stored) × (entry_field n y.table p 5 ≡ stored_payload stored)
  new_reads = let s = said_now laws k.texts x t slot counts mid key stored fresh_midway in (odd_now, s.1, s.2)

  says_now : StandsAs k.texts y.block (0 ∷ 0 ∷ y.table) (use_with c (p + 1)) news × (kind_of news ≡ kind_of mid)
  says_now = now laws k.texts x t slot counts mid key stored fresh_midway

  live_before : (q : ℕ) (a : Key) → q ≢ p → HasLiveKey n y.table q a → HasLiveKey n x.table q a
  live_before q a ne live = (sym (others_same q 2 ne (omega arith)) ∙ live.0, sym (others_same q 3 ne (omega arith)) ∙ live.1)

  dead_before : (q : ℕ) (a : Key) → q ≢ p → IsDead n y.table q a → IsDead n x.table q a
  dead_before q a ne dead = (sym (others_same q 2 ne (omega arith)) ∙ dead.0, sym (others_same q 3 ne (omega arith)) ∙ dead.1)

  apart : (q : ℕ) → version_of t y q % 2 ≡ 0 → q ≢ p
  apart q even e = let o = odd_now in let same : version_of t y q ≡ version_of t y p = ap (version_of t y) e in omega (arith, o, same, even)

  -- what is under the key of another entry stays
  under_other : (q : ℕ) (a : Key) → q < rows (kind_in k.starts o) c → q ≢ p → HasLiveKey n y.table q a → under news a ≡ under mid a
  under_other q a less ne live =
      let old = live_before q a ne live in
      let e4 = others_same q 4 ne (omega arith) in
      let e5 = others_same q 5 ne (omega arith) in
      let e6 = others_same q 6 ne (omega arith) in
      let said : said_of n y.table q ≡ said_of n x.table q = λ i. e4 i ∷ (e5 i ∷ (e6 i ∷ [])) in
      let here : q < rows (kind_of news) c = subst (λ (z : Kind). q < rows z c) (sym says_now.1) (unrow q less) in
      right_in laws.first_pair laws.first_element k.texts y.block y.table c (p + 1) news (subst IsKeyed (sym says_now.1) keyed) fresh_midway.is_class says_now.0 q a here live
      ∙ (said ∙ sym (right_in laws.first_pair laws.first_element k.texts x.block x.table c p mid keyed fresh_midway.is_class midway.stands q a (unrow q less) old))

  -- an entry with an even version says what the container had
  same_now : (q : ℕ) (a : Key) → q < rows (kind_in k.starts o) c → version_of t y q % 2 ≡ 0 → HasLiveKey n y.table q a → under news a ≡ under (known_state o v).content a
  same_now q a less even live =
      let ne = apart q even in
      let was = others_same q 0 ne (omega arith) in
      under_other q a less ne live ∙ midway.same q a less (omega (arith, was, even)) (live_before q a ne live)

  -- nothing was under the key
  pub lacks_mid : under mid key ≡ []
  lacks_mid = lacks laws k.texts x t slot counts mid key stored fresh_midway

  -- and so one with an odd version is of a key under which something else is
  opens_now : under (known_state o v).content key ≡ [] → OpensChanged n (rows (kind_in k.starts o) c) y.table (under (known_state o v).content) (under news)
  opens_now none q less odd =
      dite (ℕ_discrete q p)
      (λ (e : q ≡ p).
      let live : HasLiveKey n y.table p key = (kind_now, payload_now) in
      let row_p : p < rows (kind_of news) c = subst (λ (z : Kind). p < rows z c) (sym says_now.1) room_here in
      let said = right_in laws.first_pair laws.first_element k.texts y.block y.table c (p + 1) news (subst IsKeyed (sym says_now.1) keyed) fresh_midway.is_class says_now.0 p key row_p live in
      (key, subst (λ (z : ℕ). IsOf n y.table z key) (sym e) (inl live), λ same. let bare : said_of n y.table p ≡ [] = sym said ∙ (same ∙ none) in absurd (cc)))
      (λ ne.
      let was = others_same q 0 ne (omega arith) in
      let odd_before : version_of t x q % 2 ≡ 1 = omega (arith, was, odd) in
      let old = midway.opens q less odd_before in
      ⊎_elim
      (λ (live : HasLiveKey n x.table q old.0).
      let here : HasLiveKey n y.table q old.0 = (others_same q 2 ne (omega arith) ∙ live.0, others_same q 3 ne (omega arith) ∙ live.1) in
      (old.0, inl here, λ same. old.2 (sym (under_other q old.0 less ne here) ∙ same)))
      (λ (dead : IsDead n x.table q old.0). absurd (alive q old.0 less odd_before dead))
      old.1)

  opened_then : (q : ℕ) → q < rows (kind_in k.starts o) c → version_of t y q % 2 ≡ 1 → q < p + 1
  opened_then q less odd =
      dite (ℕ_discrete q p)
      (λ (e : q ≡ p). omega (arith, e))
      (λ ne. let was = others_same q 0 ne (omega arith) in let up = midway.opened q less (omega (arith, was, odd)) in omega (arith, up))

  alive_then : NoneGone t (rows (kind_in k.starts o) c) y
  alive_then q a less odd dead =
      dite (ℕ_discrete q p)
      (λ (e : q ≡ p).
      let here : entry_field n y.table p 2 ≡ gone_kind a = subst (λ (z : ℕ). entry_field n y.table z 2 ≡ gone_kind a) e dead.0 in
      let kind = kind_now in
      let g = gone_is a in
      let b = (kind_range a).0 in
      let h = (kind_range key).1 in
      let no : ⊥ = omega (arith, here, kind, g, b, h) in
      no)
      (λ ne. let was = others_same q 0 ne (omega arith) in alive q a less (omega (arith, was, odd)) (dead_before q a ne dead))

  -- the key that is put is none of those that are left
  ahead_then : (left : List UsedEntry) → NoneAhead t (rows (kind_in k.starts o) c) x left → NoneOf key left → NoneAhead t (rows (kind_in k.starts o) c) y left
  ahead_then left before none q a less odd fits_a live =
      dite (ℕ_discrete q p)
      (λ (e : q ≡ p).
      let kind : key_kind key ≡ key_kind a = sym kind_now ∙ subst (λ (i : ℕ). entry_field n y.table i 2 ≡ key_kind a) e live.0 in
      let payload : key_payload key ≡ key_payload a = sym payload_now ∙ subst (λ (i : ℕ). entry_field n y.table i 3 ≡ key_payload a) e live.1 in
      subst (λ (i : Key). NoneOf i left) (same_key key a fits fits_a kind payload) none)
      (λ ne. let was = others_same q 0 ne (omega arith) in before q a less (omega (arith, was, odd)) fits_a (live_before q a ne live))

  module _ (z : View) (only : OnlyWritten o v z) (words : held_unboxed o z ≡ y) (writes : WritesEntries k o own z) where
    back : y ≡ held_unboxed o z
    back = sym words

    knows : known_state o v ≡ known_state o z
    knows = sym (work_knows v z o only.work)

    pub alive_put : NoneGone t (rows (kind_in k.starts o) c) (held_unboxed o z)
    alive_put = subst (λ (w : ContainerWords). NoneGone t (rows (kind_in k.starts o) c) w) back alive_then

    pub ahead_put : (left : List UsedEntry) → NoneAhead t (rows (kind_in k.starts o) c) x left → NoneOf key left → NoneAhead t (rows (kind_in k.starts o) c) (held_unboxed o z) left
    ahead_put left before none = subst (λ (w : ContainerWords). NoneAhead t (rows (kind_in k.starts o) c) w left) back (ahead_then left before none)

    pub midway_put : under (known_state o v).content key ≡ [] → IsMidway k o own (record { content = news; table = use_with c (p + 1) }) z
    midway_put none = record {
      writes = writes;
      early = only.work.committed o ∙ midway.early;
      stands = subst (λ (w : ContainerWords). Represents k.texts w (record { content = news; table = use_with c (p + 1) })) back says_now.0;
      same = subst (λ (w : ContainerWords × ContainerState). (q : ℕ) (a : Key) → q < rows (kind_in k.starts o) c → version_of t w.0 q % 2 ≡ 0 → HasLiveKey n w.0.table q a → under news a ≡ under w.1.content a) (λ i. (back i, knows i)) same_now;
      opens = subst (λ (w : ContainerWords × ContainerState). OpensChanged n (rows (kind_in k.starts o) c) w.0.table (under w.1.content) (under news)) (λ i. (back i, knows i)) (opens_now none);
      gone = λ q a less odd dead. absurd (alive_put q a less odd dead);
      opened = subst (λ (w : ContainerWords). (q : ℕ) → q < rows (kind_in k.starts o) c → version_of t w q % 2 ≡ 1 → q < p + 1) back opened_then;
    }
