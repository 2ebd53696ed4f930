-- The look-up of one key: what it answers holds at the counter that it loaded, whatever was written meanwhile under other keys, and also where the table grew.
use Rattle.std.proofs.Common.{◌≡◌, ◌≢◌, ◌⊎◌, ℕ, suc, ◌+◌, ◌%◌, ◌<◌, ◌≤◌, List, ◌∷◌, ◌++◌, refl, sym, ap, ◌∙◌, subst, inl, inr, arith, append_assoc}
use Rattle.std.specs.Prelude.{zero, slice_index}
use mathlib.Core.Option.{some}
use lib.ListN.{get_elem?}
use Rattle.ft_model.specs.declared.data.Key.{Key}
use Rattle.ft_layout.specs.Words.{key_kind, key_payload}
use Rattle.ft_trace.specs.declared.Shape.{Shape}
use Rattle.ft_trace.specs.declared.View.{View}
use Rattle.ft_trace.specs.declared.Act.{Act}
use Rattle.ft_trace.specs.declared.Act.TheVariants.{ReadTable, ReadCounter, ReadBox}
use Rattle.ft_trace.specs.Addresses.{container_count, box_word, class_of, slots, IsBoxName}
use Rattle.ft_trace.specs.BoxTraces.{references}
use Rattle.ft_trace.specs.ContainerStates.{container_after, first_writes, kind_in}
use Rattle.ft_trace.specs.Pictures.{entry_offset, entry_field}
use Rattle.ft_trace.specs.Carefuls.{said_of, Later}
use Rattle.ft_trace.specs.Kinds.{rows, under, IsKeyed}
use Rattle.ft_trace.specs.LoggedReads.{Among}
use Rattle.ft_trace.specs.LoggedLookUps.{Hit, IsReadInPlace, IsReadAsBox}
use Rattle.ft_trace.specs.Unboxed.{box_word_in, unboxed_kind, unboxed_payload}
use Rattle.ft_trace.specs.Traces.{Event, run, word, history, Valid}
use Rattle.ft_trace.proofs.Cases.{miss, here}
use Rattle.ft_trace.proofs.Pieces.{table_long}
use Rattle.ft_trace.proofs.TablePlaces.{root}
use Rattle.ft_trace.proofs.Contents.{count, tab}
use Rattle.ft_model.specs.declared.call.Call.{Call}
use Rattle.ft_trace.specs.Ages.{whose}
use Rattle.ft_trace.proofs.Carefuls.{kind_is, later_used}
use Rattle.ft_trace.proofs.ByKind.{keyed_low, keyed_later}
use Rattle.ft_trace.proofs.BoxValues.{box_name, box_there}
use Rattle.ft_trace.proofs.ReadTables.{value_low, read_entry, read_tab, refs_in_table}
use Rattle.ft_trace.proofs.Sounds.{LaterIn, sound_right}
use Rattle.ft_trace.proofs.BoxedReads.{box_quiet, keyed_places, value_read}
use Rattle.ft_trace.proofs.Spots.{under_trans, stamp_then, Spot, Back, go, Opened, open_window, named_by, found}

module _ (k : Shape) (es : List Event) (valid : Valid k es) (o t p : ℕ) (key : Key) (n : ℕ) (low : o < container_count k) (keyed : IsKeyed (kind_in k.starts o)) (small : p < rows (kind_in k.starts o) (class_of t)) (j : ℕ) (u : View) (at : get_elem? (run k es).views j ≡ some u) (h : Hit u.log o t p key n) where
  abbrev N : ℕ
  N = slots (class_of t)

  abbrev load : Act
  load = ReadTable t (entry_offset N p 0) h.version

  abbrev start : List Act
  start = h.window.rest

  abbrev open_ : Opened k es o t j start h.walk
  open_ = open_window k es valid j u at o t low h.walk h.window

  abbrev pub back : (walk : List Act) (s : Spot k t j start walk) (xs : List Act) (a : Act) (rest : List Act) → walk ≡ xs ++ a ∷ rest → Back k t j start s.es a rest
  back walk s xs a rest is = go k t j start walk open_.table h.window.before s xs a rest is

  abbrev top : Back k t j start open_.spot.es load (h.mid ++ load ∷ h.rest)
  top = back h.walk open_.spot h.newer load (h.mid ++ load ∷ h.rest) h.is

  abbrev now : List Event
  now = top.spot.es

  whom_now : whose now t ≡ o
  whom_now = top.whom ∙ open_.whom

  -- what stays of the table, which is that of o all the while
  later_from : (from : List Event) (a : Act) (rest : List Act) → whose from t ≡ o → (b : Back k t j start from a rest) → Later N (rows (kind_in k.starts o) (class_of t)) (tab k b.spot.es t) (tab k from t)
  later_from from a rest whom b = keyed_later (kind_in k.starts o) keyed (class_of t) (tab k b.spot.es t) (tab k from t) (subst (λ (z : ℕ). LaterIn k z t (tab k b.spot.es t) (tab k from t)) whom b.later)

  abbrev pub in_now : (a : Act) (m : Among a h.mid) → Back k t j start now a (m.rest ++ load ∷ h.rest)
  in_now a m = back (h.mid ++ load ∷ h.rest) top.spot m.newer a (m.rest ++ load ∷ h.rest) (ap (λ (l : List Act). l ++ load ∷ h.rest) m.is ∙ append_assoc m.newer (a ∷ m.rest) (load ∷ h.rest))

  whom_in : (a : Act) (m : Among a h.mid) → whose (in_now a m).spot.es t ≡ o
  whom_in a m = (in_now a m).whom ∙ whom_now

  -- the first load, from the moment of an action after it
  first : (a : Act) (m : Among a h.mid) → Back k t j start (in_now a m).spot.es load h.rest
  first a m = back (m.rest ++ load ∷ h.rest) (in_now a m).spot m.rest load h.rest refl

  same_version : (a : Act) (m : Among a h.mid) → (entry_field N (tab k now t) p 0 ≡ h.version) × (entry_field N (tab k (in_now a m).spot.es t) p 0 ≡ h.version)
  same_version a m =
      let w = in_now a m in
      let f = first a m in
      let end : h.version ≡ entry_field N (tab k now t) p 0 = found k t j (entry_offset N p 0) h.version start (h.mid ++ load ∷ h.rest) open_.spot.es (keyed_low (kind_in k.starts o) keyed (class_of t) p 0 small (omega arith)) top in
      let begin : h.version ≡ entry_field N (tab k f.spot.es t) p 0 = found k t j (entry_offset N p 0) h.version start h.rest w.spot.es (keyed_low (kind_in k.starts o) keyed (class_of t) p 0 small (omega arith)) f in
      let up = (later_from now a (m.rest ++ load ∷ h.rest) whom_now w).version p small in
      let from = (later_from w.spot.es load h.rest (whom_in a m) f).version p small in
      (sym end, omega (arith, end, begin, up, from))

  -- the words of the entry are the same at each moment between
  same_word : (a : Act) (m : Among a h.mid) → (w : ℕ) → 0 < w → w < 8 → entry_field N (tab k now t) p w ≡ entry_field N (tab k (in_now a m).spot.es t) p w
  same_word a m w up less =
      let v = same_version a m in
      (later_from now a (m.rest ++ load ∷ h.rest) whom_now (in_now a m)).same p w small up less (ap (λ (z : ℕ). z % 2) v.1 ∙ h.even) (v.0 ∙ sym v.1)

  abbrev pub then_ : List Event
  then_ = (in_now (ReadCounter n) h.stamp).spot.es

  names_then : root k then_ o ≡ suc t
  names_then = let w = in_now (ReadCounter n) h.stamp in named_by k then_ w.spot.valid o t open_.table w.spot.now (whom_in (ReadCounter n) h.stamp)

  -- a word that was read between
  word_then : (w f : ℕ) → 0 < w → w < 8 → Among (ReadTable t (entry_offset N p w) f) h.mid → entry_field N (tab k then_ t) p w ≡ f
  word_then w f up less m =
      let b = in_now (ReadTable t (entry_offset N p w) f) m in
      let e : f ≡ entry_field N (tab k b.spot.es t) p w = found k t j (entry_offset N p w) f start (m.rest ++ load ∷ h.rest) now (keyed_low (kind_in k.starts o) keyed (class_of t) p w small (omega arith)) b in
      sym (same_word (ReadCounter n) h.stamp w up less) ∙ (same_word (ReadTable t (entry_offset N p w) f) m w up less ∙ sym e)

  kind_then : entry_field N (tab k then_ t) p 2 ≡ key_kind key
  kind_then = word_then 2 (key_kind key) (omega arith) (omega arith) h.live

  -- the key that the search read is still the entry's
  key_then : entry_field N (tab k then_ t) p 3 ≡ key_payload key
  key_then =
      let f = first (ReadCounter n) h.stamp in
      let ka : Act = ReadTable t (entry_offset N p 3) (key_payload key) in
      let ua : Act = ReadTable t (entry_offset N p 2) (key_kind key) in
      let kw = back h.rest f.spot h.searched ka (h.between ++ ua ∷ h.before) h.key_is in
      let uw = back (h.between ++ ua ∷ h.before) kw.spot h.between ua h.before refl in
      let f_whom = f.whom ∙ whom_in (ReadCounter n) h.stamp in
      let k_whom = kw.whom ∙ f_whom in
      let key_read : key_payload key ≡ entry_field N (tab k kw.spot.es t) p 3 = found k t j (entry_offset N p 3) (key_payload key) start (h.between ++ ua ∷ h.before) f.spot.es (keyed_low (kind_in k.starts o) keyed (class_of t) p 3 small (omega arith)) kw in
      let use_read : key_kind key ≡ entry_field N (tab k uw.spot.es t) p 2 = found k t j (entry_offset N p 2) (key_kind key) start h.before kw.spot.es (keyed_low (kind_in k.starts o) keyed (class_of t) p 2 small (omega arith)) uw in
      let some_kind = (kind_is key).0 in
      let l1 = later_from kw.spot.es ua h.before k_whom uw in
      let l2 = later_from f.spot.es ka (h.between ++ ua ∷ h.before) f_whom kw in
      let l3 = later_from then_ load h.rest (whom_in (ReadCounter n) h.stamp) f in
      let used0 : entry_field N (tab k uw.spot.es t) p 2 ≢ 0 = λ none. omega (arith, none, use_read, some_kind) in
      let used = later_used N (rows (kind_in k.starts o) (class_of t)) (tab k uw.spot.es t) (tab k kw.spot.es t) l1 p small used0 in
      l3.key p small (later_used N (rows (kind_in k.starts o) (class_of t)) (tab k kw.spot.es t) (tab k f.spot.es t) l2 p small used) ∙ (l2.key p small used ∙ sym key_read)

  -- the content at the stamp has under the key what the entry said then, as its value read
  pub hit_at : (n ≤ count k es) × (under (container_after k.starts (first_writes n (history es)) o).content key ≡ said_of N (read_tab k then_ o t) p)
  hit_at =
      let w = in_now (ReadCounter n) h.stamp in
      let v = same_version (ReadCounter n) h.stamp in
      let right = sound_right k then_ w.spot.valid o low keyed t names_then p key small (ap (λ (z : ℕ). z % 2) v.1 ∙ h.even) (kind_then, key_then) in
      let s = stamp_then k then_ es w.spot.valid valid (under_trans then_ now es w.under (under_trans now open_.spot.es es top.under open_.under)) n w.tells in
      (s.0, ap (λ (cs : List Call). under (container_after k.starts cs o).content key) s.1 ∙ right)

  abbrev R : ℕ
  R = rows (kind_in k.starts o) (class_of t)

  abbrev pub Box : ℕ → ℕ → ℕ
  Box = box_word_in k (run k then_).words

  -- what the words of the value read then
  pub reads_then : (entry_field N (read_tab k then_ o t) p 4 ≡ unboxed_kind Box (entry_field N (tab k then_ t) p 4) (entry_field N (tab k then_ t) p 5)) × (entry_field N (read_tab k then_ o t) p 5 ≡ unboxed_payload Box (entry_field N (tab k then_ t) p 4) (entry_field N (tab k then_ t) p 5))
  reads_then =
      let places = keyed_places (kind_in k.starts o) keyed (class_of t) p in
      let long = table_long k t (run k then_).words in
      let l = value_low (kind_in k.starts o) (class_of t) p open_.table.0 small in
      value_read Box (kind_in k.starts o) (class_of t) R p (tab k then_ t) (entry_offset N p 4) (entry_offset N p 5) places.1 places.2 small (omega (arith, l, long))

  in_place : IsReadInPlace t (entry_offset N p 4) h.mid → entry_field N (tab k then_ t) p 4 ≢ 4
  in_place r z = r.1 (sym (word_then 4 r.0 (omega arith) (omega arith) r.2) ∙ z)

  -- a word of the value or serial that was read between
  pub hit_word : (w f : ℕ) → w < 3 → Among (ReadTable t (entry_offset N p (4 + w)) f) h.mid → (w ≡ 2) ⊎ IsReadInPlace t (entry_offset N p 4) h.mid → slice_index (under (container_after k.starts (first_writes n (history es)) o).content key) w ≡ f
  hit_word w f less m how = ap (λ (l : List ℕ). slice_index l w) hit_at.1 ∙ (by w less how ∙ word_then (4 + w) f (omega arith) (omega arith) m)
    where
      by : (w : ℕ) → w < 3 → (w ≡ 2) ⊎ IsReadInPlace t (entry_offset N p 4) h.mid → slice_index (said_of N (read_tab k then_ o t) p) w ≡ entry_field N (tab k then_ t) p (4 + w)
      by zero less (inl e) = absurd (omega (arith, e))
      by zero less (inr r) = reads_then.0 ∙ miss (entry_field N (tab k then_ t) p 4) 4 (Box (entry_field N (tab k then_ t) p 5) 1) (entry_field N (tab k then_ t) p 4) (in_place r)
      by (suc zero) less (inl e) = absurd (omega (arith, e))
      by (suc zero) less (inr r) = reads_then.1 ∙ miss (entry_field N (tab k then_ t) p 4) 4 (Box (entry_field N (tab k then_ t) p 5) 2) (entry_field N (tab k then_ t) p 5) (in_place r)
      by (suc (suc zero)) less e = read_entry Box (class_of t) R (tab k then_ t) (kind_in k.starts o) keyed p 6 (omega arith) (λ z. omega (arith, z)) (λ z. omega (arith, z))
      by (suc (suc (suc w))) less e = absurd (omega arith)

  -- ---- a value in a box
  module _ (b : ℕ) (named : IsReadAsBox t (entry_offset N p 4) (entry_offset N p 5) b h.mid) where
    pub four : entry_field N (tab k then_ t) p 4 ≡ 4
    four = word_then 4 4 (omega arith) (omega arith) named.0

    pub is_box : entry_field N (tab k then_ t) p 5 ≡ b
    is_box = word_then 5 b (omega arith) (omega arith) named.1

    -- from the moment of an action between, the box has kept its value
    kept_since : (a : Act) (m : Among a h.mid) (i : ℕ) → (i ≡ 1) ⊎ (i ≡ 2) → word k now (box_word b i) ≡ word k (in_now a m).spot.es (box_word b i)
    kept_since a m i which =
        let w = in_now a m in
        let older = w.spot.es in
        let places = keyed_places (kind_in k.starts o) keyed (class_of t) p in
        let v = same_version a m in
        let names = named_by k older w.spot.valid o t open_.table w.spot.now (whom_in a m) in
        let k4 : entry_field N (tab k older t) p 4 ≡ 4 = sym (same_word a m 4 (omega arith) (omega arith)) ∙ (same_word (ReadCounter n) h.stamp 4 (omega arith) (omega arith) ∙ four) in
        let k5 : entry_field N (tab k older t) p 5 ≡ b = sym (same_word a m 5 (omega arith) (omega arith)) ∙ (same_word (ReadCounter n) h.stamp 5 (omega arith) (omega arith) ∙ is_box) in
        box_quiet k older now top.spot.valid w.under o low t p i b names w.same small
        (ap (λ (z : ℕ). slice_index (tab k older t) z % 2) places.0 ∙ (ap (λ (z : ℕ). z % 2) v.1 ∙ h.even))
        (ap (slice_index (tab k now t)) places.0 ∙ (v.0 ∙ (sym v.1 ∙ sym (ap (slice_index (tab k older t)) places.0))))
        (ap (slice_index (tab k older t)) places.1 ∙ k4)
        (ap (slice_index (tab k older t)) places.2 ∙ k5)
        which

    box_then : (i f : ℕ) → (i ≡ 1) ⊎ (i ≡ 2) → Among (ReadBox b i f) h.mid → word k then_ (box_word b i) ≡ f
    box_then i f which m = sym (kept_since (ReadCounter n) h.stamp i which) ∙ (kept_since (ReadBox b i f) m i which ∙ sym (in_now (ReadBox b i f) m).tells)

    pub hit_boxed : (f : ℕ) → (Among (ReadBox b 1 f) h.mid → slice_index (under (container_after k.starts (first_writes n (history es)) o).content key) 0 ≡ f) × (Among (ReadBox b 2 f) h.mid → slice_index (under (container_after k.starts (first_writes n (history es)) o).content key) 1 ≡ f)
    hit_boxed f =
        let F : ℕ = entry_field N (tab k then_ t) p 4 in
        let P : ℕ = entry_field N (tab k then_ t) p 5 in (
          (λ m. ap (λ (l : List ℕ). slice_index l 0) hit_at.1 ∙ (reads_then.0 ∙ (here F 4 (Box P 1) F four ∙ (ap (λ (z : ℕ). Box z 1) is_box ∙ box_then 1 f (inl refl) m)))),
          λ m. ap (λ (l : List ℕ). slice_index l 1) hit_at.1 ∙ (reads_then.1 ∙ (here F 4 (Box P 2) P four ∙ (ap (λ (z : ℕ). Box z 2) is_box ∙ box_then 2 f (inr refl) m))),
        )

    -- the box is one of the bank's
    pub hit_named : IsBoxName k b
    hit_named =
        let w = in_now (ReadCounter n) h.stamp in
        let places = keyed_places (kind_in k.starts o) keyed (class_of t) p in
        let refs = refs_in_table k then_ o low t p names_then small (ap (slice_index (tab k then_ t)) places.1 ∙ four) in
        let some_ : references k b then_ ≢ 0 = subst (λ (z : ℕ). references k z then_ ≢ 0) (ap (slice_index (tab k then_ t)) places.2 ∙ is_box) refs in
        let up = box_there k b then_ w.spot.valid some_ in
        box_name k b then_ w.spot.valid (λ z. absurd (omega (arith, up, z)))
