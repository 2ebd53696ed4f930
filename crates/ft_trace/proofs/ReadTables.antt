-- The words of a table as they read through boxes: which words are as they stand, what a value reads, and what stays of
-- them in a step.
use Rattle.std.proofs.Common.{◌≡◌, ◌≢◌, ◌⊎◌, ℕ, zero, suc, ◌%◌, ◌<◌, ◌≤◌, List, [], ◌∷◌, length, set, refl, sym, ap, ◌∙◌, subst, inl, inr, ⊎_elim, arith, length-set, get_or-set_other, get_or-set_same}
use Rattle.std.specs.Prelude.{slice_index}
use mathlib.Core.Logic.{dite}
use native.Mathlib.Decide.{ℕ_discrete}
use Rattle.ft_model.specs.declared.content.Content.{Content}
use Rattle.ft_model.specs.declared.data.Key.{Key}
use Rattle.ft_layout.specs.Words.{key_kind}
use Rattle.ft_model.specs.declared.script.Kind.{Kind}
use Rattle.ft_model.specs.declared.script.Kind.TheVariants as kind
use Rattle.ft_model.specs.Classes.{IsClass, set_entries}
use Rattle.ft_model.specs.Worlds.{list_of}
use Rattle.ft_trace.specs.declared.Shape.{Shape}
use Rattle.ft_trace.specs.declared.View.{View}
use Rattle.ft_trace.specs.declared.Act.{Act}
use Rattle.ft_trace.specs.Addresses.{container_count, class_of, slots, places, size}
use Rattle.ft_trace.specs.ContainerStates.{kind_in}
use Rattle.ft_trace.specs.Pictures.{inner, index_field, entry_offset, entry_field, item_offset, item_field, walk_of}
use Rattle.ft_trace.specs.Carefuls.{Pairs, HasLiveKey, IsDead, Reached, OpensChanged}
use Rattle.ft_trace.specs.Kinds.{rows, version_at, under, SoundAs, CarefulAs, IsKeyed}
use Rattle.ft_trace.specs.Boxes.{value_at, names_box_at, named_in_root, named_in_container}
use Rattle.ft_trace.specs.BoxTraces.{references}
use Rattle.ft_trace.specs.OddValues.{SameButValue, SameButItem}
use Rattle.ft_trace.specs.Unboxed.{box_word_in, unboxed_kind, unboxed_payload, with_value, unboxed_rows, unboxed_words}
use Rattle.ft_trace.specs.OpenedEntries.{OpensChangedAs}
use Rattle.ft_trace.specs.Traces.{Event, did, run, CarefulFor, Valid}
use Rattle.ft_trace.proofs.Contents.{tab}
use Rattle.ft_trace.proofs.TablePlaces.{root}
use Rattle.ft_trace.proofs.Sums.{sum_at}
use Rattle.ft_trace.proofs.BoxValues.{value_stays}
use Rattle.ft_trace.proofs.Unboxed.{rows_same, named_row}
use Rattle.ft_trace.proofs.ValuePuts.{word_kept}
use Rattle.ft_trace.proofs.ByKind.{CarefulWordsAs, items_fit, sets_fit}
use Rattle.ft_trace.proofs.Carefuls.{CarefulWords, careful_words}
use Rattle.ft_trace.proofs.Items.{ItemCarefulWords, item_careful_words}
use Rattle.ft_trace.proofs.OddValues.{values_free, item_values_free}

-- ---- lists of words

module _ (box : ℕ → ℕ → ℕ) (kind : Kind) (class : ℕ) where
  abbrev Place : ℕ → ℕ
  Place p = value_at kind class p

  abbrev Rows : ℕ → List ℕ → List ℕ
  Rows n t = unboxed_rows box kind class n t

  pub rows_long : (n : ℕ) (t : List ℕ) → length (Rows n t) ≡ length t
  rows_long zero t = refl
  rows_long (suc p) t =
      let x : ℕ = unboxed_kind box (slice_index t (Place p)) (slice_index t (suc (Place p))) in
      let y : ℕ = unboxed_payload box (slice_index t (Place p)) (slice_index t (suc (Place p))) in
      length-set (set (Rows p t) (Place p) x) (suc (Place p)) y ∙ (length-set (Rows p t) (Place p) x ∙ rows_long p t)

  -- a word that is no value's
  pub rows_else : (n j : ℕ) (t : List ℕ) → ((q : ℕ) → q < n → (j ≢ Place q) × (j ≢ suc (Place q))) → slice_index (Rows n t) j ≡ slice_index t j
  rows_else zero j t far = refl
  rows_else (suc p) j t far =
      let n = far p (omega arith) in
      let x : ℕ = unboxed_kind box (slice_index t (Place p)) (slice_index t (suc (Place p))) in
      let y : ℕ = unboxed_payload box (slice_index t (Place p)) (slice_index t (suc (Place p))) in
      get_or-set_other (set (Rows p t) (Place p) x) (suc (Place p)) j y 0 n.1 ∙ (get_or-set_other (Rows p t) (Place p) j x 0 n.0 ∙ rows_else p j t (λ q less. far q (omega (arith, less))))

  -- the two words of a value
  pub rows_at : (n q : ℕ) (t : List ℕ) → q < n → suc (Place q) < length t → (slice_index (Rows n t) (Place q) ≡ unboxed_kind box (slice_index t (Place q)) (slice_index t (suc (Place q)))) × (slice_index (Rows n t) (suc (Place q)) ≡ unboxed_payload box (slice_index t (Place q)) (slice_index t (suc (Place q))))
  rows_at zero q t less long = absurd (omega (arith, less))
  rows_at (suc p) q t less long =
      dite (ℕ_discrete q p)
      (λ (e : q ≡ p).
      let x : ℕ = unboxed_kind box (slice_index t (Place q)) (slice_index t (suc (Place q))) in
      let y : ℕ = unboxed_payload box (slice_index t (Place q)) (slice_index t (suc (Place q))) in
      let l = rows_long q t in
      let m : length (set (Rows q t) (Place q) x) ≡ length (Rows q t) = length-set (Rows q t) (Place q) x in
      let here : (slice_index (Rows (suc q) t) (Place q) ≡ x) × (slice_index (Rows (suc q) t) (suc (Place q)) ≡ y) = (
        get_or-set_other (set (Rows q t) (Place q) x) (suc (Place q)) (Place q) y 0 (λ z. omega (arith, z)) ∙ get_or-set_same (Rows q t) (Place q) x 0 (omega (arith, l, long)),
        get_or-set_same (set (Rows q t) (Place q) x) (suc (Place q)) y 0 (omega (arith, l, m, long)),
      ) in
      subst (λ (z : ℕ). (slice_index (Rows (suc z) t) (Place q) ≡ x) × (slice_index (Rows (suc z) t) (suc (Place q)) ≡ y)) e here)
      (λ ne.
      let x : ℕ = unboxed_kind box (slice_index t (Place p)) (slice_index t (suc (Place p))) in
      let y : ℕ = unboxed_payload box (slice_index t (Place p)) (slice_index t (suc (Place p))) in
      let kept = word_kept box kind class p q x y (Rows p t) (λ z. ne (sym z)) in
      let rest = rows_at p q t (omega (arith, less, ne)) long in
      (kept.0 ∙ rest.0, kept.1 ∙ rest.1))

-- a word that is put over by itself
pub set_self : (t : List ℕ) (i : ℕ) → set t i (slice_index t i) ≡ t
set_self [] i = refl
set_self (y ∷ ys) zero = refl
set_self (y ∷ ys) (suc i) = ap (λ (l : List ℕ). y ∷ l) (set_self ys i)

-- the put of one of the two words of a value is the put of a value
pub as_value : (t : List ℕ) (place i x : ℕ) → (i ≡ place) ⊎ (i ≡ suc place) → (a : ℕ) × (b : ℕ) × (set t i x ≡ with_value place a b t)
as_value t place i x (inl e) =
    let other : slice_index (set t place x) (suc place) ≡ slice_index t (suc place) = get_or-set_other t place (suc place) x 0 (λ z. omega (arith, z)) in
    (x, slice_index t (suc place), ap (λ (z : ℕ). set t z x) e ∙ sym (ap (λ (z : ℕ). set (set t place x) (suc place) z) (sym other) ∙ set_self (set t place x) (suc place)))
as_value t place i x (inr e) =
    (slice_index t place, x, ap (λ (z : ℕ). set t z x) e ∙ sym (ap (λ (l : List ℕ). set l (suc place) x) (set_self t place)))

-- ---- where the words of values lie

pub value_low : (kind : Kind) (c p : ℕ) → IsClass c → p < rows kind c → suc (value_at kind c p) < size c
value_low kind.List c p is low = let f = items_fit c is in omega (arith, f, low)
value_low kind.Dict c p is low = omega (arith, low)
value_low kind.Set c p is low = let few = sets_fit c in omega (arith, low, few)
value_low (kind.Deque bound) c p is low = absurd (omega (arith, low))

pub version_apart : (kind : Kind) (c p q : ℕ) → p < rows kind c → (version_at kind c p ≢ value_at kind c q) × (version_at kind c p ≢ suc (value_at kind c q))
version_apart kind.List c p q low = ((λ z. omega (arith, z)), (λ z. omega (arith, z)))
version_apart kind.Dict c p q low = ((λ z. omega (arith, z)), (λ z. omega (arith, z)))
version_apart kind.Set c p q low = ((λ z. omega (arith, z)), (λ z. omega (arith, z)))
version_apart (kind.Deque bound) c p q low = absurd (omega (arith, low))

-- a word is one of a value's, or it is not
pub which_word : (kind : Kind) (c i : ℕ) → ((p : ℕ) × (p < rows kind c) × ((i ≡ value_at kind c p) ⊎ (i ≡ suc (value_at kind c p)))) ⊎ ((q : ℕ) → q < rows kind c → (i ≢ value_at kind c q) × (i ≢ suc (value_at kind c q)))
which_word kind c i = go (rows kind c)
  where
    go : (n : ℕ) → ((p : ℕ) × (p < n) × ((i ≡ value_at kind c p) ⊎ (i ≡ suc (value_at kind c p)))) ⊎ ((q : ℕ) → q < n → (i ≢ value_at kind c q) × (i ≢ suc (value_at kind c q)))
    go zero = inr (λ q less. absurd (omega (arith, less)))
    go (suc m) =
        dite (ℕ_discrete i (value_at kind c m))
        (λ (e : i ≡ value_at kind c m). inl (m, omega arith, inl e))
        (λ n1. dite (ℕ_discrete i (suc (value_at kind c m)))
        (λ (e : i ≡ suc (value_at kind c m)). inl (m, omega arith, inr e))
        (λ n2. ⊎_elim
        (λ (h : (p : ℕ) × (p < m) × ((i ≡ value_at kind c p) ⊎ (i ≡ suc (value_at kind c p)))). let less = h.1 in inl (h.0, omega (arith, less), h.2))
        (λ (far : (q : ℕ) → q < m → (i ≢ value_at kind c q) × (i ≢ suc (value_at kind c q))). inr (λ q less. dite (ℕ_discrete q m) (λ (e : q ≡ m). subst (λ (z : ℕ). (i ≢ value_at kind c z) × (i ≢ suc (value_at kind c z))) (sym e) (n1, n2)) (λ ne. far q (omega (arith, less, ne)))))
        (go m)))

-- ---- fields of a table as it reads

module _ (box : ℕ → ℕ → ℕ) (c m : ℕ) (t : List ℕ) where
  pub read_version : (kind : Kind) → m ≡ rows kind c → (p : ℕ) → p < m → slice_index (unboxed_rows box kind c m t) (version_at kind c p) ≡ slice_index t (version_at kind c p)
  read_version kind is p low = rows_else box kind c m (version_at kind c p) t (λ q less. version_apart kind c p q (omega (arith, is, low)))

  pub read_index : (kind : Kind) → IsKeyed kind → (s : ℕ) → s < slots c → index_field (unboxed_rows box kind c m t) s ≡ index_field t s
  read_index kind.Dict is s low = rows_else box kind.Dict c m s t (λ q less. ((λ z. omega (arith, z, low)), (λ z. omega (arith, z, low))))
  read_index kind.Set is s low = rows_else box kind.Set c m s t (λ q less. ((λ z. omega (arith, z, low)), (λ z. omega (arith, z, low))))
  read_index kind.List is s low = absurd is
  read_index (kind.Deque bound) is s low = absurd is

  pub read_entry : (kind : Kind) → IsKeyed kind → (p w : ℕ) → w < 8 → w ≢ 4 → w ≢ 5 → entry_field (slots c) (unboxed_rows box kind c m t) p w ≡ entry_field (slots c) t p w
  read_entry kind.Dict is p w few n4 n5 = rows_else box kind.Dict c m (entry_offset (slots c) p w) t (λ q less. ((λ z. n4 (omega (arith, z, few))), (λ z. n5 (omega (arith, z, few)))))
  read_entry kind.Set is p w few n4 n5 = rows_else box kind.Set c m (entry_offset (slots c) p w) t (λ q less. ((λ z. n4 (omega (arith, z, few))), (λ z. n5 (omega (arith, z, few)))))
  read_entry kind.List is p w few n4 n5 = absurd is
  read_entry (kind.Deque bound) is p w few n4 n5 = absurd is

  pub read_item : (p w : ℕ) → w < 4 → w ≢ 1 → w ≢ 2 → item_field (unboxed_rows box kind.List c m t) p w ≡ item_field t p w
  read_item p w few n1 n2 = rows_else box kind.List c m (item_offset p w) t (λ q less. ((λ z. n1 (omega (arith, z, few))), (λ z. n2 (omega (arith, z, few)))))

-- ---- a put that is careful of what the words read is careful of the words

-- what is asked of a put but for what the content has
raw_words : (n m i x : ℕ) (ws zs : List ℕ) → ((s : ℕ) → s < n → index_field zs s ≡ index_field ws s) → ((p w : ℕ) → p < m → w < 8 → w ≢ 4 → w ≢ 5 → entry_field n zs p w ≡ entry_field n ws p w) → CarefulWords n m zs i x → CarefulWords n m ws i x
raw_words n m i x ws zs same_index same_field c = record {
  index = λ s low e. sym (same_index s low) ∙ c.index s low e;
  names = λ s low e p less y z. c.names s low e p less y (kind p less ∙ z);
  odd = λ p w less a b e. ap (λ (z : ℕ). z % 2) (sym (version p less)) ∙ c.odd p w less a b e;
  key = λ p w less h e. sym (kind p less) ∙ c.key p w less h e;
  kind = λ p less e. c.kind p less e;
  dies = λ p less e ne.
      let k = kind p less in
      let d = c.dies p less e (λ z. ne (sym k ∙ z)) in
      let d0 = d.0 in
      let d1 = d.1 in
      (omega (arith, k, d0), omega (arith, k, d1));
  version = λ p less e. c.version p less e ∙ ap suc (version p less);
  opens = λ p less e odd. let k = kind p less in let d = c.opens p less e odd in omega (arith, k, d);
}
  where
    version : (p : ℕ) → p < m → entry_field n zs p 0 ≡ entry_field n ws p 0
    version p less = same_field p 0 less (omega arith) (λ z. omega (arith, z)) (λ z. omega (arith, z))

    kind : (p : ℕ) → p < m → entry_field n zs p 2 ≡ entry_field n ws p 2
    kind p less = same_field p 2 less (omega arith) (λ z. omega (arith, z)) (λ z. omega (arith, z))

raw_items : (n i x : ℕ) (ws zs : List ℕ) → ((p : ℕ) → p < n → item_field zs p 0 ≡ item_field ws p 0) → ItemCarefulWords n zs i x → ItemCarefulWords n ws i x
raw_items n i x ws zs same c = record {
  odd = λ p w less a b e. ap (λ (z : ℕ). z % 2) (sym (same p less)) ∙ c.odd p w less a b e;
  version = λ p less e. c.version p less e ∙ ap suc (same p less);
}

pub raw_careful : (kind : Kind) (c : ℕ) (box : ℕ → ℕ → ℕ) (ws : List ℕ) (d : Content) (i x : ℕ) → CarefulAs kind c (unboxed_rows box kind c (rows kind c) ws) d i x → CarefulWordsAs kind c ws i x
raw_careful kind.List c box ws d i x care = raw_items (slots c) i x ws (unboxed_rows box kind.List c (rows kind.List c) ws) (λ p less. read_item box c (rows kind.List c) ws p 0 (omega arith) (λ z. omega (arith, z)) (λ z. omega (arith, z))) (item_careful_words (slots c) (unboxed_rows box kind.List c (rows kind.List c) ws) (list_of d) i x care)
raw_careful kind.Dict c box ws d i x care = raw_words (slots c) (places c) i x ws (unboxed_rows box kind.Dict c (rows kind.Dict c) ws) (read_index box c (rows kind.Dict c) ws kind.Dict tt) (λ p w less. read_entry box c (rows kind.Dict c) ws kind.Dict tt p w) (careful_words (slots c) (places c) (unboxed_rows box kind.Dict c (rows kind.Dict c) ws) (under d) i x care)
raw_careful kind.Set c box ws d i x care = raw_words (slots c) (set_entries c) i x ws (unboxed_rows box kind.Set c (rows kind.Set c) ws) (read_index box c (rows kind.Set c) ws kind.Set tt) (λ p w less. read_entry box c (rows kind.Set c) ws kind.Set tt p w) (careful_words (slots c) (set_entries c) (unboxed_rows box kind.Set c (rows kind.Set c) ws) (under d) i x care)
raw_careful (kind.Deque bound) c box ws d i x care = tt

-- ---- what holds of the words that don't tell a value holds of them as they stand

keyed_opens : (n m : ℕ) (ws zs : List ℕ) (c d : Pairs) → ((p w : ℕ) → p < m → w < 8 → w ≢ 4 → w ≢ 5 → entry_field n zs p w ≡ entry_field n ws p w) → OpensChanged n m zs c d → OpensChanged n m ws c d
keyed_opens n m ws zs c d same_field opens p less odd =
    let version = same_field p 0 less (omega arith) (λ z. omega (arith, z)) (λ z. omega (arith, z)) in
    let use_is = same_field p 2 less (omega arith) (λ z. omega (arith, z)) (λ z. omega (arith, z)) in
    let payload = same_field p 3 less (omega arith) (λ z. omega (arith, z)) (λ z. omega (arith, z)) in
    let h = opens p less (ap (λ (z : ℕ). z % 2) version ∙ odd) in
    (h.0, ⊎_elim (λ (z : HasLiveKey n zs p h.0). inl (sym use_is ∙ z.0, sym payload ∙ z.1)) (λ (z : IsDead n zs p h.0). inr (sym use_is ∙ z.0, sym payload ∙ z.1)) h.1, h.2)

pub raw_opens : (kind : Kind) (c : ℕ) (box : ℕ → ℕ → ℕ) (ws : List ℕ) (d e : Content) → OpensChangedAs kind c (unboxed_rows box kind c (rows kind c) ws) d e → OpensChangedAs kind c ws d e
raw_opens kind.List c box ws d e opens = λ p less odd. opens p less (ap (λ (z : ℕ). z % 2) (read_item box c (rows kind.List c) ws p 0 (omega arith) (λ z. omega (arith, z)) (λ z. omega (arith, z))) ∙ odd)
raw_opens kind.Dict c box ws d e opens = keyed_opens (slots c) (rows kind.Dict c) ws (unboxed_rows box kind.Dict c (rows kind.Dict c) ws) (under d) (under e) (λ p w less. read_entry box c (rows kind.Dict c) ws kind.Dict tt p w) opens
raw_opens kind.Set c box ws d e opens = keyed_opens (slots c) (rows kind.Set c) ws (unboxed_rows box kind.Set c (rows kind.Set c) ws) (under d) (under e) (λ p w less. read_entry box c (rows kind.Set c) ws kind.Set tt p w) opens
raw_opens (kind.Deque bound) c box ws d e opens = tt

pub raw_reached : (n m : ℕ) (ws zs walk : List ℕ) (key : Key) → ((s : ℕ) → s < n → index_field zs s ≡ index_field ws s) → ((p w : ℕ) → p < m → w < 8 → w ≢ 4 → w ≢ 5 → entry_field n zs p w ≡ entry_field n ws p w) → Reached n m zs walk key → Reached n m ws walk key
raw_reached n m ws zs walk key same_index same_field r =
    let version = same_field r.place 0 r.low (omega arith) (λ z. omega (arith, z)) (λ z. omega (arith, z)) in
    let use_is = same_field r.place 2 r.low (omega arith) (λ z. omega (arith, z)) (λ z. omega (arith, z)) in
    let payload = same_field r.place 3 r.low (omega arith) (λ z. omega (arith, z)) (λ z. omega (arith, z)) in
    record {
      place = r.place;
      low = r.low;
      mine = ⊎_elim (λ (z : HasLiveKey n zs r.place key). inl (sym use_is ∙ z.0, sym payload ∙ z.1)) (λ (z : IsDead n zs r.place key). inr (sym use_is ∙ z.0, sym payload ∙ z.1)) r.mine;
      met = record {
        step = r.met.step;
        low = r.met.low;
        inside = r.met.inside;
        here = sym (same_index (slice_index walk r.met.step) (r.met.inside r.met.step (omega arith))) ∙ r.met.here;
        before = λ j less z. r.met.before j less (same_index (slice_index walk j) (r.met.inside j (omega (arith, less))) ∙ z);
      };
      alive = ⊎_elim (λ (z : entry_field n zs r.place 2 ≡ key_kind key). inl (sym use_is ∙ z)) (λ (z : entry_field n zs r.place 0 % 2 ≡ 1). inr (ap (λ (y : ℕ). y % 2) (sym version) ∙ z)) r.alive;
    }

-- ---- the put of a value

-- the version of its row is odd
pub value_odd : (kind : Kind) (c : ℕ) (ws : List ℕ) (i x p : ℕ) → CarefulWordsAs kind c ws i x → p < rows kind c → (i ≡ value_at kind c p) ⊎ (i ≡ suc (value_at kind c p)) → slice_index ws (version_at kind c p) % 2 ≡ 1
value_odd kind.List c ws i x p care low (inl e) = care.odd p 1 low (omega arith) (omega arith) e
value_odd kind.List c ws i x p care low (inr e) = care.odd p 2 low (omega arith) (omega arith) (omega (arith, e))
value_odd kind.Dict c ws i x p care low (inl e) = care.odd p 4 low (omega arith) (omega arith) e
value_odd kind.Dict c ws i x p care low (inr e) = care.odd p 5 low (omega arith) (omega arith) (omega (arith, e))
value_odd kind.Set c ws i x p care low (inl e) = care.odd p 4 low (omega arith) (omega arith) e
value_odd kind.Set c ws i x p care low (inr e) = care.odd p 5 low (omega arith) (omega arith) (omega (arith, e))
value_odd (kind.Deque bound) c ws i x p care low e = absurd (omega (arith, low))

-- another word than those of the value in row p
value_else : (place a b j : ℕ) (t : List ℕ) → j ≢ place → j ≢ suc place → slice_index (with_value place a b t) j ≡ slice_index t j
value_else place a b j t n1 n2 = get_or-set_other (set t place a) (suc place) j b 0 n2 ∙ get_or-set_other t place j a 0 n1

entry_but : (n m p a b : ℕ) (ws : List ℕ) → SameButValue n m p ws (with_value (entry_offset n p 4) a b ws)
entry_but n m p a b ws = record {
  index = λ s low. value_else (entry_offset n p 4) a b s ws (λ z. omega (arith, z, low)) (λ z. omega (arith, z, low));
  words = λ q w low few n4 n5. value_else (entry_offset n p 4) a b (entry_offset n q w) ws (λ z. n4 (omega (arith, z, few))) (λ z. n5 (omega (arith, z, few)));
  others = λ q w low ne few. value_else (entry_offset n p 4) a b (entry_offset n q w) ws (λ z. ne (omega (arith, z, few))) (λ z. ne (omega (arith, z, few)));
}

item_but : (n p a b : ℕ) (ws : List ℕ) → SameButItem n p ws (with_value (item_offset p 1) a b ws)
item_but n p a b ws = record {
  versions = λ q low. value_else (item_offset p 1) a b (item_offset q 0) ws (λ z. omega (arith, z)) (λ z. omega (arith, z));
  others = λ q w low ne few. value_else (item_offset p 1) a b (item_offset q w) ws (λ z. ne (omega (arith, z, few))) (λ z. ne (omega (arith, z, few)));
}

pub sound_value : (kind : Kind) (texts : List ℕ) (c : ℕ) (ws : List ℕ) (d : Content) (p a b : ℕ) → slice_index ws (version_at kind c p) % 2 ≡ 1 → SoundAs kind texts c ws d → SoundAs kind texts c (with_value (value_at kind c p) a b ws) d
sound_value kind.List texts c ws d p a b odd old = item_values_free (slots c) p ws (with_value (item_offset p 1) a b ws) (list_of d) old (item_but (slots c) p a b ws) odd
sound_value kind.Dict texts c ws d p a b odd old = values_free (walk_of kind.Dict texts c) (slots c) (places c) p ws (with_value (entry_offset (slots c) p 4) a b ws) (under d) old (entry_but (slots c) (places c) p a b ws) odd
sound_value kind.Set texts c ws d p a b odd old = values_free (walk_of kind.Set texts c) (slots c) (set_entries c) p ws (with_value (entry_offset (slots c) p 4) a b ws) (under d) old (entry_but (slots c) (set_entries c) p a b ws) odd
sound_value (kind.Deque bound) texts c ws d p a b odd old = tt

-- ---- steps

abbrev pub read_tab : Shape → List Event → ℕ → ℕ → List ℕ
read_tab k es o t = unboxed_words k o t (run k es).words

-- a value of a table that a root names is a reference
pub refs_in_table : (k : Shape) (es : List Event) (o : ℕ) → o < container_count k → (t p : ℕ) → root k es o ≡ suc t → p < rows (kind_in k.starts o) (class_of t) → slice_index (tab k es t) (value_at (kind_in k.starts o) (class_of t) p) ≡ 4 → references k (slice_index (tab k es t) (suc (value_at (kind_in k.starts o) (class_of t) p))) es ≢ 0
refs_in_table k es o low t p names_it less is =
    let ws : List ℕ = (run k es).words in
    let kd : Kind = kind_in k.starts o in
    let table : List ℕ = tab k es t in
    let b : ℕ = slice_index table (suc (value_at kd (class_of t) p)) in
    let one = named_row b kd (class_of t) table p is refl in
    let s = sum_at (names_box_at b kd (class_of t) table) (rows kd (class_of t)) p less in
    let r : named_in_container k b o ws ≡ named_in_root b kd (suc t) table = ap (λ (z : ℕ). named_in_root b kd z (inner k z ws)) names_it in
    let l = sum_at (λ q. named_in_container k b q ws) (container_count k) o low in
    λ z. absurd (omega (arith, one, s, r, l, z))

-- the values in the boxes that a current table names stay in each step
pub boxes_stay : (k : Shape) (es : List Event) (id : ℕ) (v : View) (a : Act) → Valid k (did id v a ∷ es) → (o : ℕ) → o < container_count k → (t : ℕ) → root k es o ≡ suc t → (n : ℕ) → n ≤ rows (kind_in k.starts o) (class_of t)
    → unboxed_rows (box_word_in k (run k (did id v a ∷ es)).words) (kind_in k.starts o) (class_of t) n (tab k es t) ≡ unboxed_rows (box_word_in k (run k es).words) (kind_in k.starts o) (class_of t) n (tab k es t)
boxes_stay k es id v a valid o low t names_it n few =
    let kd : Kind = kind_in k.starts o in
    rows_same (box_word_in k (run k (did id v a ∷ es)).words) (box_word_in k (run k es).words) kd (class_of t) n (tab k es t)
    (λ p i less is which.
    let b : ℕ = slice_index (tab k es t) (suc (value_at kd (class_of t) p)) in
    let r = refs_in_table k es o low t p names_it (omega (arith, less, few)) is in
    value_stays k es id v b i valid.0 valid.1.0 r (which_low i which) (which_up i which) (which_not i which) a valid.1.3)
  where
    which_low : (i : ℕ) → (i ≡ 1) ⊎ (i ≡ 2) → i < 4
    which_low i (inl e) = omega (arith, e)
    which_low i (inr e) = omega (arith, e)

    which_up : (i : ℕ) → (i ≡ 1) ⊎ (i ≡ 2) → i ≢ 0
    which_up i (inl e) z = omega (arith, e, z)
    which_up i (inr e) z = omega (arith, e, z)

    which_not : (i : ℕ) → (i ≡ 1) ⊎ (i ≡ 2) → i ≢ 3
    which_not i (inl e) z = omega (arith, e, z)
    which_not i (inr e) z = omega (arith, e, z)

-- what a put that may be made is careful of, whatever the content has
pub raw_careful_for : (k : Shape) (es : List Event) (o t : ℕ) (d : Content) (i x : ℕ) → CarefulFor k (run k es).words o t d i x → CarefulWordsAs (kind_in k.starts o) (class_of t) (tab k es t) i x
raw_careful_for k es o t d i x care = raw_careful (kind_in k.starts o) (class_of t) (box_word_in k (run k es).words) (tab k es t) d i x care
