-- Readers of keys and items are stopped by writes of what they look for.
use Rattle.std.proofs.Common.{◌≡◌, ◌≢◌, ℕ, suc, ◌+◌, ◌%◌, ◌<◌, ◌≤◌, List, [], ◌∷◌, ◌++◌, refl, sym, ap, ◌∙◌, subst, inl, inr, ⊎_elim, arith}
use Rattle.std.specs.Prelude.{slice_index, ◌==◌, ◌&&◌}
use Rattle.std.specs.List.{find}
use Rattle.std.specs.Option.{option_map_or}
use Rattle.std.specs.Prelude.{All}
use Rattle.std.proofs.lemmas.List.Elements.{All-head, All-tail}
use mathlib.Core.Option.{some}
use lib.ListN.{get_elem?}
use Rattle.ft_model.specs.declared.content.Content.{Content}
use Rattle.ft_model.specs.declared.content.Content.TheVariants as content
use Rattle.ft_model.specs.declared.data.Key.{Key}
use Rattle.ft_model.specs.declared.script.Kind.{Kind}
use Rattle.ft_model.specs.declared.script.Kind.TheVariants as kind
use Rattle.ft_model.specs.Worlds.{list_of}
use Rattle.ft_layout.specs.Words.{key_kind, gone_kind, key_payload}
use Rattle.ft_hash.proofs.Walks.{dict_slots-within, set_slots-within}
use Rattle.ft_layout.proofs.Powers.{slots_range}
use Rattle.ft_hash.specs.Probes.{dict_slots, set_slots}
use Rattle.ft_layout.specs.Tables.{hash_of}
use Rattle.ft_layout.specs.Containers.{class_mask}
use Rattle.ft_model.specs.Classes.{IsClass}
use Rattle.ft_trace.specs.declared.Act.{Act}
use Rattle.ft_trace.specs.declared.Act.TheVariants.{ReadTable}
use Rattle.ft_trace.specs.declared.Shape.{Shape}
use Rattle.ft_trace.specs.declared.View.{View}
use Rattle.ft_trace.specs.Addresses.{class_of, container_count, slots, size}
use Rattle.ft_trace.specs.Ages.{whose}
use Rattle.ft_trace.specs.Carefuls.{IsOf, HasLiveKey, IsDead, Later, OpensChanged}
use Rattle.ft_trace.specs.ContainerStates.{container_after, kind_in, changes}
use Rattle.ft_trace.specs.ItemWords.{OpensChangedItems}
use Rattle.ft_trace.specs.Kinds.{rows, version_at, under, pair_words, element_words, IsKeyed, IsItems}
use Rattle.ft_trace.specs.LoggedReads.{Among}
use Rattle.ft_trace.specs.OpenedEntries.{OpensChangedAs, OpensChangedBy}
use Rattle.ft_trace.specs.Pictures.{entry_offset, entry_field, index_field, item_offset, walk_of}
use Rattle.ft_trace.specs.StoppedLookUps.{Stopped, MetKey, ChangesKey, ChangesIndex, ReadersOfKeysAreStoppedByWrites, ReadersOfItemsAreStoppedByWrites}
use Rattle.ft_trace.specs.Traces.{Event, run, history, Valid}
use Rattle.ft_trace.proofs.ByKind.{keyed_later, keyed_low}
use Rattle.ft_trace.proofs.Carefuls.{kind_is, later_used, used_of}
use Rattle.ft_trace.proofs.Contents.{tab}
use Rattle.ft_trace.proofs.Sounds.{LaterIn, sound_named}
use Rattle.ft_trace.proofs.Spots.{Under, Back, named_by, found}
use Rattle.ft_trace.proofs.StoppedLookUps as stopped

-- ---- by kind

in_list : (xs : List ℕ) (P : ℕ → Type 0) (before after : List ℕ) (x : ℕ) → xs ≡ before ++ x ∷ after → All P xs → P x
in_list xs P before after x split all = All-head P x after (All-after P before (x ∷ after) (subst (All P) split all))
  where
    All-after : (P : ℕ → Type 0) (xs ys : List ℕ) → All P (xs ++ ys) → All P ys
    All-after P [] ys all = all
    All-after P (x ∷ xs) ys all = All-after P xs ys (All-tail P x (xs ++ ys) all)

keyed_version : (kind : Kind) → IsKeyed kind → (c p : ℕ) → version_at kind c p ≡ entry_offset (slots c) p 0
keyed_version kind.Dict is c p = refl
keyed_version kind.Set is c p = refl
keyed_version kind.List is c p = absurd is
keyed_version (kind.Deque bound) is c p = absurd is

keyed_opens : (kind : Kind) → IsKeyed kind → (c : ℕ) (ws : List ℕ) (d e : Content) → OpensChangedAs kind c ws d e → OpensChanged (slots c) (rows kind c) ws (under d) (under e)
keyed_opens kind.Dict is c ws d e opens = opens
keyed_opens kind.Set is c ws d e opens = opens
keyed_opens kind.List is c ws d e opens = absurd is
keyed_opens (kind.Deque bound) is c ws d e opens = absurd is

items_version : (kind : Kind) → IsItems kind → (c p : ℕ) → version_at kind c p ≡ item_offset p 0
items_version kind.List is c p = refl
items_version kind.Dict is c p = absurd is
items_version kind.Set is c p = absurd is
items_version (kind.Deque bound) is c p = absurd is

items_opens : (kind : Kind) → IsItems kind → (c : ℕ) (ws : List ℕ) (d e : Content) → OpensChangedAs kind c ws d e → OpensChangedItems (rows kind c) ws (list_of d) (list_of e)
items_opens kind.List is c ws d e opens = opens
items_opens kind.Dict is c ws d e opens = absurd is
items_opens kind.Set is c ws d e opens = absurd is
items_opens (kind.Deque bound) is c ws d e opens = absurd is

-- the slots of a probe are the table's
probe_low : (kind : Kind) → IsKeyed kind → (texts : List ℕ) (c : ℕ) → IsClass c → (key : Key) (passed left : List ℕ) (slot : ℕ) → walk_of kind texts c key ≡ passed ++ slot ∷ left → slot < slots c
unfolding walk_of slots
probe_low kind.Dict keyed texts c is key passed left slot split =
    let r = (slots_range c is).0 in
    let low : slot ≤ class_mask c = in_list (dict_slots (hash_of texts key) (class_mask c) (class_mask c + 14)) (λ s. s ≤ class_mask c) passed left slot split (dict_slots-within (hash_of texts key) (class_mask c) (class_mask c + 14)) in
    omega (arith, r, low)
probe_low kind.Set keyed texts c is key passed left slot split =
    let r = (slots_range c is).0 in
    let low : slot ≤ class_mask c = in_list (set_slots (hash_of texts key) (class_mask c) (class_mask c + 14)) (λ s. s ≤ class_mask c) passed left slot split (set_slots-within (hash_of texts key) (class_mask c) (class_mask c + 14)) in
    omega (arith, r, low)
probe_low kind.List keyed texts c is key passed left slot split = absurd keyed
probe_low (kind.Deque bound) keyed texts c is key passed left slot split = absurd keyed

-- ---- the words of a key

abbrev under_words : Content → ℕ → ℕ → List ℕ
under_words (content.Dict dict) kind payload = option_map_or pair_words (find (λ pair. (key_kind pair.key == kind) && (key_payload pair.key == payload)) dict.pairs) []
under_words (content.Set set) kind payload = option_map_or element_words (find (λ element. (key_kind element.key == kind) && (key_payload element.key == payload)) set.elements) []
under_words (content.List values) kind payload = []
under_words (content.Deque deque) kind payload = []

under_is : (c : Content) (key : Key) → under c key ≡ under_words c (key_kind key) (key_payload key)
under_is (content.Dict dict) key = refl
under_is (content.Set set) key = refl
under_is (content.List values) key = refl
under_is (content.Deque deque) key = refl

under_same : (c : Content) (key other : Key) → key_kind key ≡ key_kind other → key_payload key ≡ key_payload other → under c key ≡ under c other
under_same c key other kinds payloads = under_is c key ∙ (ap (λ (z : ℕ). under_words c z (key_payload key)) kinds ∙ (ap (under_words c (key_kind other)) payloads ∙ sym (under_is c other)))

-- what one entry says of two keys
same_key : (n : ℕ) (ws : List ℕ) (p : ℕ) (key other : Key) → IsOf n ws p key → IsOf n ws p other → (key_kind key ≡ key_kind other) × (key_payload key ≡ key_payload other)
same_key n ws p key other mine theirs =
    let a = kind_is key in
    let b = kind_is other in
    let a0 = a.0 in
    let a1 = a.1 in
    let a2 = a.2 in
    let b0 = b.0 in
    let b1 = b.1 in
    let b2 = b.2 in
    ⊎_elim
    (λ (x : HasLiveKey n ws p key). ⊎_elim (λ (y : HasLiveKey n ws p other). (sym x.0 ∙ y.0, sym x.1 ∙ y.1)) (λ (y : IsDead n ws p other). let x0 = x.0 in let y0 = y.0 in absurd (omega (arith, x0, y0, a1, b0, b2))) theirs)
    (λ (x : IsDead n ws p key). ⊎_elim (λ (y : HasLiveKey n ws p other). let x0 = x.0 in let y0 = y.0 in absurd (omega (arith, x0, y0, b1, a0, a2))) (λ (y : IsDead n ws p other). let x0 = x.0 in let y0 = y.0 in (omega (arith, x0, y0, a2, b2), sym x.1 ∙ y.1)) theirs)
    mine

-- an entry keeps its key
later_key : (n m : ℕ) (ws zs : List ℕ) (p : ℕ) (key : Key) → Later n m ws zs → p < m → IsOf n ws p key → IsOf n zs p key
later_key n m ws zs p key later low is =
    let used = used_of n ws p key is in
    let payload = later.key p low used in
    let h = kind_is key in
    let h2 = h.2 in
    ⊎_elim
    (λ (x : HasLiveKey n ws p key).
    ⊎_elim
    (λ (e : entry_field n zs p 2 ≡ entry_field n ws p 2). inl (e ∙ x.0, payload ∙ x.1))
    (λ (e : (entry_field n ws p 2 < 3) × (entry_field n zs p 2 ≡ entry_field n ws p 2 + 2)). let e1 = e.1 in let x0 = x.0 in inr (omega (arith, e1, x0, h2), payload ∙ x.1))
    (later.kind p low used))
    (λ (x : IsDead n ws p key).
    ⊎_elim
    (λ (e : entry_field n zs p 2 ≡ entry_field n ws p 2). inr (e ∙ x.0, payload ∙ x.1))
    (λ (e : (entry_field n ws p 2 < 3) × (entry_field n zs p 2 ≡ entry_field n ws p 2 + 2)). let e0 = e.0 in let x0 = x.0 in let h0 = h.0 in absurd (omega (arith, e0, x0, h0, h2)))
    (later.kind p low used))
    is

-- ---- keys

module _ (k : Shape) (es : List Event) (valid : Valid k es) (o t p a b : ℕ) (key : Key) (low : o < container_count k) (keyed : IsKeyed (kind_in k.starts o)) (small : p < rows (kind_in k.starts o) (class_of t)) (j : ℕ) (u : View) (at : get_elem? (run k es).views j ≡ some u) (s : Stopped k u.log o t p a b) (met : MetKey k o t p key s.rest) where
  abbrev N : ℕ
  N = slots (class_of t)

  abbrev R : ℕ
  R = rows (kind_in k.starts o) (class_of t)

  abbrev start : List Act
  start = s.window.rest

  abbrev E1 : List Event
  E1 = stopped.E1 k o t p low small es valid a b j u at s

  abbrev M : List Event
  M = stopped.M k o t p low small es valid a b j u at s

  whom1 : whose E1 t ≡ o
  whom1 = stopped.whom1 k o t p low small es valid a b j u at s

  fits : (w : ℕ) → w < 8 → entry_offset N p w < size (class_of t)
  fits w less = keyed_low (kind_in k.starts o) keyed (class_of t) p w small less

  read : (c : Act) (m : Among c s.rest) → Back k t j start E1 c m.rest
  read c m = stopped.read_back k o t p low small es valid a b j u at s m.newer c m.rest m.is

  later_from : (from : List Event) (c : Act) (rest : List Act) → whose from t ≡ o → (y : Back k t j start from c rest) → Later N R (tab k y.spot.es t) (tab k from t)
  later_from from c rest whom y = keyed_later (kind_in k.starts o) keyed (class_of t) (tab k y.spot.es t) (tab k from t) (subst (λ (z : ℕ). LaterIn k z t (tab k y.spot.es t) (tab k from t)) whom y.later)

  abbrev payload_read : Act
  payload_read = ReadTable t (entry_offset N p 3) (key_payload key)

  at_payload : Back k t j start E1 payload_read met.payload.rest
  at_payload = read payload_read met.payload

  abbrev slot_read : Act
  slot_read = ReadTable t met.slot (suc p)

  at_slot : Back k t j start at_payload.spot.es slot_read met.named.rest
  at_slot = stopped.back k o t p low small es valid a b j u at s met.payload.rest at_payload.spot met.named.newer slot_read met.named.rest met.named.is

  -- where a slot names the entry it has a key
  used_then : entry_field N (tab k at_payload.spot.es t) p 2 ≢ 0
  used_then =
      let whom_p = at_payload.whom ∙ whom1 in
      let table = (stopped.open_ k o t p low small es valid a b j u at s).table in
      let then_ = at_slot.spot.es in
      let names = named_by k then_ at_slot.spot.valid o t table at_slot.spot.now (at_slot.whom ∙ whom_p) in
      let less = probe_low (kind_in k.starts o) keyed k.texts (class_of t) table.0 key met.passed met.left met.slot met.probe in
      let gave : suc p ≡ index_field (tab k then_ t) met.slot = found k t j met.slot (suc p) start met.named.rest at_payload.spot.es (omega (arith, less)) at_slot in
      later_used N R (tab k then_ t) (tab k at_payload.spot.es t) (later_from at_payload.spot.es slot_read met.named.rest whom_p at_slot) p small (sound_named k then_ at_slot.spot.valid o low keyed t names met.slot p less small (sym gave))

  payload1 : entry_field N (tab k E1 t) p 3 ≡ key_payload key
  payload1 = (later_from E1 payload_read met.payload.rest whom1 at_payload).key p small used_then ∙ sym (found k t j (entry_offset N p 3) (key_payload key) start met.payload.rest E1 (fits 3 (omega arith)) at_payload)

  key1 : IsOf N (tab k E1 t) p key
  key1 =
      let h = kind_is key in
      let h0 = h.0 in
      let h2 = h.2 in
      ⊎_elim
      (λ (m : Among (ReadTable t (entry_offset N p 2) (key_kind key)) s.rest).
      let c : Act = ReadTable t (entry_offset N p 2) (key_kind key) in
      let y = read c m in
      let ws = tab k y.spot.es t in
      let gave : key_kind key ≡ entry_field N ws p 2 = found k t j (entry_offset N p 2) (key_kind key) start m.rest E1 (fits 2 (omega arith)) y in
      ⊎_elim
      (λ (e : entry_field N (tab k E1 t) p 2 ≡ entry_field N ws p 2). inl (e ∙ sym gave, payload1))
      (λ (e : (entry_field N ws p 2 < 3) × (entry_field N (tab k E1 t) p 2 ≡ entry_field N ws p 2 + 2)). let e1 = e.1 in inr (omega (arith, e1, gave, h2), payload1))
      ((later_from E1 c m.rest whom1 y).kind p small (λ z. omega (arith, z, gave, h0))))
      (λ (m : Among (ReadTable t (entry_offset N p 2) (gone_kind key)) s.rest).
      let c : Act = ReadTable t (entry_offset N p 2) (gone_kind key) in
      let y = read c m in
      let ws = tab k y.spot.es t in
      let gave : gone_kind key ≡ entry_field N ws p 2 = found k t j (entry_offset N p 2) (gone_kind key) start m.rest E1 (fits 2 (omega arith)) y in
      ⊎_elim
      (λ (e : entry_field N (tab k E1 t) p 2 ≡ entry_field N ws p 2). inr (e ∙ sym gave, payload1))
      (λ (e : (entry_field N ws p 2 < 3) × (entry_field N (tab k E1 t) p 2 ≡ entry_field N ws p 2 + 2)). let e0 = e.0 in absurd (omega (arith, e0, gave, h0, h2)))
      ((later_from E1 c m.rest whom1 y).kind p small (λ z. omega (arith, z, gave, h2))))
      met.kind

  -- the entry is the key's when it is open
  key_then : IsOf N (tab k M t) p key
  key_then =
      let stays = stopped.later_on k o t p low small E1 M (stopped.valid_then k o t p low small es valid a b j u at s) (stopped.under_then k o t p low small es valid a b j u at s) (stopped.names1 k o t p low small es valid a b j u at s) (sym (stopped.meanwhile k o t p low small es valid a b j u at s).aged) in
      later_key N R (tab k E1 t) (tab k M t) p key (keyed_later (kind_in k.starts o) keyed (class_of t) (tab k E1 t) (tab k M t) stays) small key1

  abbrev x : ℕ
  x = (stopped.meanwhile k o t p low small es valid a b j u at s).x

  -- and when the write commits
  changes_key : (n : stopped.NearCommit k es M o t p x) → changes n.c ≡ o → OpensChangedBy k n.sooner o t n.c → ChangesKey k o key n.sooner n.c
  changes_key n same by =
      let ws = tab k n.sooner t in
      let d = (container_after k.starts (history n.sooner) o).content in
      let e = (container_after k.starts (n.c ∷ history n.sooner) o).content in
      let opens = keyed_opens (kind_in k.starts o) keyed (class_of t) ws d e by in
      let odd : entry_field N ws p 0 % 2 ≡ 1 = ap (λ (z : ℕ). slice_index ws z % 2) (sym (keyed_version (kind_in k.starts o) keyed (class_of t) p)) ∙ (ap (λ (z : ℕ). z % 2) n.open_here.1 ∙ n.open_here.2) in
      let its = opens p small odd in
      let other = its.0 in
      let alike : (key_kind key ≡ key_kind other) × (key_payload key ≡ key_payload other) =
      ⊎_elim
      (λ (y : Under n.sooner M).
      let stays = stopped.later_on k o t p low small n.sooner M (stopped.valid_then k o t p low small es valid a b j u at s) y n.open_here.0 n.aged in
      same_key N (tab k M t) p key other key_then (later_key N R ws (tab k M t) p other (keyed_later (kind_in k.starts o) keyed (class_of t) ws (tab k M t) stays) small its.1))
      (λ (y : Under M n.sooner).
      let stays = stopped.later_on k o t p low small M n.sooner n.valid.0 y (stopped.meanwhile k o t p low small es valid a b j u at s).open_here.0 (sym n.aged) in
      same_key N ws p key other (later_key N R (tab k M t) ws p key (keyed_later (kind_in k.starts o) keyed (class_of t) (tab k M t) ws stays) small key_then) its.1)
      n.near in
      λ kept. its.2 (sym (under_same e key other alike.0 alike.1) ∙ (kept ∙ under_same d key other alike.0 alike.1))

pub readers_of_keys : ReadersOfKeysAreStoppedByWrites
readers_of_keys k es valid o t p a b key low keyed small j u at s met = (
  (stopped.meanwhile k o t p low small es valid a b j u at s).x,
  stopped.is_meanwhile k o t p low small es valid a b j u at s,
  stopped.is_written k o t p low small es valid a b j u at s (ChangesKey k o key) (changes_key k es valid o t p a b key low keyed small j u at s met),
)

pub readers_of_items : ReadersOfItemsAreStoppedByWrites
readers_of_items k es valid o t p a b low items small j u at s = (
  (stopped.meanwhile k o t p low small es valid a b j u at s).x,
  stopped.is_meanwhile k o t p low small es valid a b j u at s,
  stopped.is_written k o t p low small es valid a b j u at s (ChangesIndex k o p)
      (λ n same by.
      let ws = tab k n.sooner t in
      items_opens (kind_in k.starts o) items (class_of t) ws (container_after k.starts (history n.sooner) o).content (container_after k.starts (n.c ∷ history n.sooner) o).content by p small
      (ap (λ (z : ℕ). slice_index ws z % 2) (sym (items_version (kind_in k.starts o) items (class_of t) p)) ∙ (ap (λ (z : ℕ). z % 2) n.open_here.1 ∙ n.open_here.2))),
)
