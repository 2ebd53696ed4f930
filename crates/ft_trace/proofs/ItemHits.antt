-- The look-up of one index of a list: what it answers holds at the counter that it loaded, whatever was written meanwhile at other indexes, and also where the table grew.
use Rattle.std.proofs.Common.{◌≡◌, ◌≢◌, ◌⊎◌, ℕ, suc, zero, ◌+◌, ◌%◌, ◌<◌, ◌≤◌, List, ◌∷◌, ◌++◌, length, refl, sym, ap, ◌∙◌, subst, inl, inr, arith, append_assoc}
use Rattle.std.specs.Prelude.{slice_index}
use mathlib.Core.Option.{some}
use lib.ListN.{get_elem?}
use Rattle.ft_model.specs.declared.call.Call.{Call}
use Rattle.ft_model.specs.Worlds.{list_of}
use Rattle.ft_trace.specs.declared.Shape.{Shape}
use Rattle.ft_trace.specs.declared.View.{View}
use Rattle.ft_trace.specs.declared.Act.{Act}
use Rattle.ft_trace.specs.declared.Act.TheVariants.{ReadTable, ReadCounter, ReadBox}
use Rattle.ft_trace.specs.Addresses.{container_count, box_word, class_of, slots, IsBoxName}
use Rattle.ft_trace.specs.BoxTraces.{references}
use Rattle.ft_trace.specs.Ages.{whose}
use Rattle.ft_trace.specs.ContainerStates.{container_after, first_writes, kind_in}
use Rattle.ft_trace.specs.Pictures.{item_offset, item_field}
use Rattle.ft_trace.specs.ItemWords.{said_at, words_at, ItemLater}
use Rattle.ft_trace.specs.Kinds.{rows, IsItems}
use Rattle.ft_trace.specs.LoggedReads.{Among}
use Rattle.ft_trace.specs.LoggedLookUps.{ItemHit, ItemPast, IsReadInPlace, IsReadAsBox}
use Rattle.ft_trace.specs.Unboxed.{box_word_in, unboxed_kind, unboxed_payload}
use Rattle.ft_trace.specs.Traces.{Event, run, word, history, Valid}
use Rattle.ft_trace.proofs.Cases.{miss, here}
use Rattle.ft_trace.proofs.Pieces.{table_long}
use Rattle.ft_trace.proofs.TablePlaces.{root}
use Rattle.ft_trace.proofs.Contents.{count, tab}
use Rattle.ft_trace.proofs.ByKind.{items_fit, items_later, items_sound}
use Rattle.ft_trace.proofs.BoxValues.{box_name, box_there}
use Rattle.ft_trace.proofs.ReadTables.{value_low, read_version, read_tab, refs_in_table}
use Rattle.ft_trace.proofs.Sounds.{LaterIn, sound_at}
use Rattle.ft_trace.proofs.BoxedReads.{box_quiet, items_places, value_read}
use Rattle.ft_trace.proofs.Spots.{under_trans, stamp_then, Spot, Back, go, Opened, open_window, named_by, found}

module _ (k : Shape) (es : List Event) (valid : Valid k es) (o t p n : ℕ) (low : o < container_count k) (items : IsItems (kind_in k.starts o)) (small : p < slots (class_of t)) (j : ℕ) (u : View) (at : get_elem? (run k es).views j ≡ some u) (h : ItemHit u.log o t p n) where
  abbrev load : Act
  load = ReadTable t (item_offset p 0) h.version

  abbrev start : List Act
  start = h.window.rest

  abbrev open_ : Opened k es o t j start h.walk
  open_ = open_window k es valid j u at o t low h.walk h.window

  abbrev pub back : (walk : List Act) (s : Spot k t j start walk) (xs : List Act) (a : Act) (rest : List Act) → walk ≡ xs ++ a ∷ rest → Back k t j start s.es a rest
  back walk s xs a rest is = go k t j start walk open_.table h.window.before s xs a rest is

  abbrev top : Back k t j start open_.spot.es load (h.mid ++ load ∷ h.rest)
  top = back h.walk open_.spot h.newer load (h.mid ++ load ∷ h.rest) h.is

  abbrev now : List Event
  now = top.spot.es

  whom_now : whose now t ≡ o
  whom_now = top.whom ∙ open_.whom

  later_from : (from : List Event) (a : Act) (rest : List Act) → whose from t ≡ o → (b : Back k t j start from a rest) → ItemLater (slots (class_of t)) (tab k b.spot.es t) (tab k from t)
  later_from from a rest whom b = items_later (kind_in k.starts o) items (class_of t) (tab k b.spot.es t) (tab k from t) (subst (λ (z : ℕ). LaterIn k z t (tab k b.spot.es t) (tab k from t)) whom b.later)

  abbrev pub in_now : (a : Act) (m : Among a h.mid) → Back k t j start now a (m.rest ++ load ∷ h.rest)
  in_now a m = back (h.mid ++ load ∷ h.rest) top.spot m.newer a (m.rest ++ load ∷ h.rest) (ap (λ (l : List Act). l ++ load ∷ h.rest) m.is ∙ append_assoc m.newer (a ∷ m.rest) (load ∷ h.rest))

  whom_in : (a : Act) (m : Among a h.mid) → whose (in_now a m).spot.es t ≡ o
  whom_in a m = (in_now a m).whom ∙ whom_now

  first : (a : Act) (m : Among a h.mid) → Back k t j start (in_now a m).spot.es load h.rest
  first a m = back (m.rest ++ load ∷ h.rest) (in_now a m).spot m.rest load h.rest refl

  -- a read of a word of the item
  read_is : (w f : ℕ) (rest : List Act) (from : List Event) → w < 4 → (b : Back k t j start from (ReadTable t (item_offset p w) f) rest) → f ≡ item_field (tab k b.spot.es t) p w
  read_is w f rest from less b = found k t j (item_offset p w) f start rest from (let x = items_fit (class_of t) open_.table.0 in omega (arith, x, small, less)) b

  same_version : (a : Act) (m : Among a h.mid) → (item_field (tab k now t) p 0 ≡ h.version) × (item_field (tab k (in_now a m).spot.es t) p 0 ≡ h.version)
  same_version a m =
      let w = in_now a m in
      let f = first a m in
      let end : h.version ≡ item_field (tab k now t) p 0 = read_is 0 h.version (h.mid ++ load ∷ h.rest) open_.spot.es (omega arith) top in
      let begin : h.version ≡ item_field (tab k f.spot.es t) p 0 = read_is 0 h.version h.rest w.spot.es (omega arith) f in
      let up = (later_from now a (m.rest ++ load ∷ h.rest) whom_now w).version p small in
      let from = (later_from w.spot.es load h.rest (whom_in a m) f).version p small in
      (sym end, omega (arith, end, begin, up, from))

  same_word : (a : Act) (m : Among a h.mid) → (w : ℕ) → 0 < w → w < 4 → item_field (tab k now t) p w ≡ item_field (tab k (in_now a m).spot.es t) p w
  same_word a m w up less =
      let v = same_version a m in
      (later_from now a (m.rest ++ load ∷ h.rest) whom_now (in_now a m)).same p w small up less (ap (λ (z : ℕ). z % 2) v.1 ∙ h.even) (v.0 ∙ sym v.1)

  abbrev pub then_ : List Event
  then_ = (in_now (ReadCounter n) h.stamp).spot.es

  word_then : (w f : ℕ) → 0 < w → w < 4 → Among (ReadTable t (item_offset p w) f) h.mid → item_field (tab k then_ t) p w ≡ f
  word_then w f up less m =
      let b = in_now (ReadTable t (item_offset p w) f) m in
      sym (same_word (ReadCounter n) h.stamp w up less) ∙ (same_word (ReadTable t (item_offset p w) f) m w up less ∙ sym (read_is w f (m.rest ++ load ∷ h.rest) now less b))

  names_then : root k then_ o ≡ suc t
  names_then = let w = in_now (ReadCounter n) h.stamp in named_by k then_ w.spot.valid o t open_.table w.spot.now (whom_in (ReadCounter n) h.stamp)

  abbrev R : ℕ
  R = rows (kind_in k.starts o) (class_of t)

  in_rows : p < R
  in_rows = let l = (items_places (kind_in k.starts o) items (class_of t) p).3 in omega (arith, l, small)

  abbrev pub Box : ℕ → ℕ → ℕ
  Box = box_word_in k (run k then_).words

  -- the list at the stamp has at the index what the item said then, as its value read
  pub item_hit_at : (n ≤ count k es) × (words_at (list_of (container_after k.starts (first_writes n (history es)) o).content) p ≡ said_at (read_tab k then_ o t) p)
  item_hit_at =
      let w = in_now (ReadCounter n) h.stamp in
      let v = same_version (ReadCounter n) h.stamp in
      let places = items_places (kind_in k.starts o) items (class_of t) p in
      let sound = items_sound (kind_in k.starts o) items k.texts (class_of t) (read_tab k then_ o t) (container_after k.starts (history then_) o).content (sound_at k then_ w.spot.valid o low t names_then) in
      let read : item_field (read_tab k then_ o t) p 0 ≡ item_field (tab k then_ t) p 0 =
      ap (slice_index (read_tab k then_ o t)) (sym places.0) ∙ (read_version Box (class_of t) R (tab k then_ t) (kind_in k.starts o) refl p in_rows ∙ ap (slice_index (tab k then_ t)) places.0) in
      let right = sound.right p small (ap (λ (z : ℕ). z % 2) (read ∙ v.1) ∙ h.even) in
      let s = stamp_then k then_ es w.spot.valid valid (under_trans then_ now es w.under (under_trans now open_.spot.es es top.under open_.under)) n w.tells in
      (s.0, ap (λ (cs : List Call). words_at (list_of (container_after k.starts cs o).content) p) s.1 ∙ right)

  -- what the words of the value read then
  pub reads_then : (item_field (read_tab k then_ o t) p 1 ≡ unboxed_kind Box (item_field (tab k then_ t) p 1) (item_field (tab k then_ t) p 2)) × (item_field (read_tab k then_ o t) p 2 ≡ unboxed_payload Box (item_field (tab k then_ t) p 1) (item_field (tab k then_ t) p 2))
  reads_then =
      let places = items_places (kind_in k.starts o) items (class_of t) p in
      let long = table_long k t (run k then_).words in
      let l = value_low (kind_in k.starts o) (class_of t) p open_.table.0 in_rows in
      value_read Box (kind_in k.starts o) (class_of t) R p (tab k then_ t) (item_offset p 1) (item_offset p 2) places.1 places.2 in_rows (omega (arith, l, long))

  in_place : IsReadInPlace t (item_offset p 1) h.mid → item_field (tab k then_ t) p 1 ≢ 4
  in_place r z = r.1 (sym (word_then 1 r.0 (omega arith) (omega arith) r.2) ∙ z)

  -- a word of the item that was read between
  pub item_word : (w f : ℕ) → w < 2 → Among (ReadTable t (item_offset p (1 + w)) f) h.mid → IsReadInPlace t (item_offset p 1) h.mid → slice_index (words_at (list_of (container_after k.starts (first_writes n (history es)) o).content) p) w ≡ f
  item_word w f less m r = ap (λ (l : List ℕ). slice_index l w) item_hit_at.1 ∙ (by w less ∙ word_then (1 + w) f (omega arith) (omega arith) m)
    where
      by : (w : ℕ) → w < 2 → slice_index (said_at (read_tab k then_ o t) p) w ≡ item_field (tab k then_ t) p (1 + w)
      by zero less = reads_then.0 ∙ miss (item_field (tab k then_ t) p 1) 4 (Box (item_field (tab k then_ t) p 2) 1) (item_field (tab k then_ t) p 1) (in_place r)
      by (suc zero) less = reads_then.1 ∙ miss (item_field (tab k then_ t) p 1) 4 (Box (item_field (tab k then_ t) p 2) 2) (item_field (tab k then_ t) p 2) (in_place r)
      by (suc (suc w)) less = absurd (omega arith)

  -- ---- a value in a box
  module _ (b : ℕ) (named : IsReadAsBox t (item_offset p 1) (item_offset p 2) b h.mid) where
    pub four : item_field (tab k then_ t) p 1 ≡ 4
    four = word_then 1 4 (omega arith) (omega arith) named.0

    pub is_box : item_field (tab k then_ t) p 2 ≡ b
    is_box = word_then 2 b (omega arith) (omega arith) named.1

    -- from the moment of an action between, the box has kept its value
    kept_since : (a : Act) (m : Among a h.mid) (i : ℕ) → (i ≡ 1) ⊎ (i ≡ 2) → word k now (box_word b i) ≡ word k (in_now a m).spot.es (box_word b i)
    kept_since a m i which =
        let w = in_now a m in
        let older = w.spot.es in
        let places = items_places (kind_in k.starts o) items (class_of t) p in
        let v = same_version a m in
        let names = named_by k older w.spot.valid o t open_.table w.spot.now (whom_in a m) in
        let k4 : item_field (tab k older t) p 1 ≡ 4 = sym (same_word a m 1 (omega arith) (omega arith)) ∙ (same_word (ReadCounter n) h.stamp 1 (omega arith) (omega arith) ∙ four) in
        let k5 : item_field (tab k older t) p 2 ≡ b = sym (same_word a m 2 (omega arith) (omega arith)) ∙ (same_word (ReadCounter n) h.stamp 2 (omega arith) (omega arith) ∙ is_box) in
        box_quiet k older now top.spot.valid w.under o low t p i b names w.same in_rows
        (ap (λ (z : ℕ). slice_index (tab k older t) z % 2) places.0 ∙ (ap (λ (z : ℕ). z % 2) v.1 ∙ h.even))
        (ap (slice_index (tab k now t)) places.0 ∙ (v.0 ∙ (sym v.1 ∙ sym (ap (slice_index (tab k older t)) places.0))))
        (ap (slice_index (tab k older t)) places.1 ∙ k4)
        (ap (slice_index (tab k older t)) places.2 ∙ k5)
        which

    box_then : (i f : ℕ) → (i ≡ 1) ⊎ (i ≡ 2) → Among (ReadBox b i f) h.mid → word k then_ (box_word b i) ≡ f
    box_then i f which m = sym (kept_since (ReadCounter n) h.stamp i which) ∙ (kept_since (ReadBox b i f) m i which ∙ sym (in_now (ReadBox b i f) m).tells)

    pub item_boxed : (f : ℕ) → (Among (ReadBox b 1 f) h.mid → slice_index (words_at (list_of (container_after k.starts (first_writes n (history es)) o).content) p) 0 ≡ f) × (Among (ReadBox b 2 f) h.mid → slice_index (words_at (list_of (container_after k.starts (first_writes n (history es)) o).content) p) 1 ≡ f)
    item_boxed f =
        let F : ℕ = item_field (tab k then_ t) p 1 in
        let P : ℕ = item_field (tab k then_ t) p 2 in (
          (λ m. ap (λ (l : List ℕ). slice_index l 0) item_hit_at.1 ∙ (reads_then.0 ∙ (here F 4 (Box P 1) F four ∙ (ap (λ (z : ℕ). Box z 1) is_box ∙ box_then 1 f (inl refl) m)))),
          λ m. ap (λ (l : List ℕ). slice_index l 1) item_hit_at.1 ∙ (reads_then.1 ∙ (here F 4 (Box P 2) P four ∙ (ap (λ (z : ℕ). Box z 2) is_box ∙ box_then 2 f (inr refl) m))),
        )

    -- the box is one of the bank's
    pub item_named : IsBoxName k b
    item_named =
        let w = in_now (ReadCounter n) h.stamp in
        let places = items_places (kind_in k.starts o) items (class_of t) p in
        let refs = refs_in_table k then_ o low t p names_then in_rows (ap (slice_index (tab k then_ t)) places.1 ∙ four) in
        let some_ : references k b then_ ≢ 0 = subst (λ (z : ℕ). references k z then_ ≢ 0) (ap (slice_index (tab k then_ t)) places.2 ∙ is_box) refs in
        let up = box_there k b then_ w.spot.valid some_ in
        box_name k b then_ w.spot.valid (λ z. absurd (omega (arith, up, z)))

-- the list at the stamp is no longer than the table
pub item_past_at : (k : Shape) (es : List Event) (valid : Valid k es) (o t n : ℕ) (low : o < container_count k) (items : IsItems (kind_in k.starts o)) (j : ℕ) (u : View) (at : get_elem? (run k es).views j ≡ some u) → ItemPast u.log o t n → (n ≤ count k es) × (length (list_of (container_after k.starts (first_writes n (history es)) o).content) ≤ slots (class_of t))
item_past_at k es valid o t n low items j u at h =
    let open_ = open_window k es valid j u at o t low h.walk h.window in
    let b = go k t j h.window.rest h.walk open_.table h.window.before open_.spot h.stamp.newer (ReadCounter n) h.stamp.rest h.stamp.is in
    let names = named_by k b.spot.es b.spot.valid o t open_.table b.spot.now (b.whom ∙ open_.whom) in
    let sound = items_sound (kind_in k.starts o) items k.texts (class_of t) (read_tab k b.spot.es o t) (container_after k.starts (history b.spot.es) o).content (sound_at k b.spot.es b.spot.valid o low t names) in
    let s = stamp_then k b.spot.es es b.spot.valid valid (under_trans b.spot.es open_.spot.es es b.under open_.under) n b.tells in
    (s.0, subst (λ (cs : List Call). length (list_of (container_after k.starts cs o).content) ≤ slots (class_of t)) (sym s.1) sound.short)
