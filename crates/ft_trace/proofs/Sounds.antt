-- What holds at every moment of a table that a root names, and what stays of it.
use Rattle.std.proofs.Common.{◌≡◌, ◌≢◌, ◌⊎◌, ℕ, suc, ◌%◌, ◌<◌, List, [], ◌∷◌, ◌++◌, refl, sym, ap, ◌∙◌, subst, inl, inr, ⊎_elim, arith}
use Rattle.std.specs.Prelude.{slice_index, slice_set}
use mathlib.Core.Option.{some}
use mathlib.Core.Logic.{dite}
use native.Mathlib.Decide.{ℕ_discrete}
use lib.ListN.{get_elem?}
use Rattle.ft_trace.specs.declared.Shape.{Shape}
use Rattle.ft_trace.specs.declared.View.{View}
use Rattle.ft_trace.specs.declared.Act.{Act}
use Rattle.ft_trace.specs.declared.Act.TheVariants.{PutRoot, PutTable, PutFresh, Commit, ReadTable}
use Rattle.ft_model.specs.declared.data.Key.{Key}
use Rattle.ft_model.specs.declared.script.Kind.{Kind}
use Rattle.ft_layout.specs.Words.{FitsKey}
use Rattle.ft_trace.specs.Addresses.{container_count, cell, box_word, class_of, slots, size, IsTableName, at}
use Rattle.ft_trace.specs.Acts.{place}
use Rattle.ft_model.specs.declared.content.Content.{Content}
use Rattle.ft_trace.specs.ContainerStates.{ContainerState, container_after, kind_in, changes}
use Rattle.ft_trace.specs.Pictures.{index_field, entry_field, walk_of}
use Rattle.ft_trace.specs.Carefuls.{HasLiveKey, said_of, Reached, Sound}
use Rattle.ft_trace.specs.Kinds.{rows, version_at, under, SoundAs, LaterAs, IsKeyed}
use Rattle.ft_trace.specs.Boxes.{value_at}
use Rattle.ft_trace.specs.Unboxed.{box_word_in, unboxed_kind, unboxed_payload, with_value, unboxed_rows}
use Rattle.ft_trace.specs.Ages.{age, whose}
use Rattle.ft_trace.specs.Traces.{Event, did, forked, joined, sent, run, writes_of, history, CarefulFor, ClearFor, May, Valid}
use Rattle.ft_trace.proofs.Cases.{same_or}
use Rattle.ft_trace.proofs.Addresses.{at_low, block_first}
use Rattle.ft_trace.proofs.OneWord.{wide, stays, moves, loaded}
use Rattle.ft_trace.proofs.Pieces.{table_same, table_set, table_long}
use Rattle.ft_trace.proofs.TablePlaces.{root, on_root, root_table, placed}
use Rattle.ft_trace.proofs.Contents.{tab}
use Rattle.ft_trace.proofs.Ages.{ages_one, ages_rise, whose_same}
use Rattle.ft_trace.proofs.Untouched.{untouched}
use Rattle.ft_trace.proofs.BoxValues.{box_name, box_there}
use Rattle.ft_trace.proofs.Unboxed.{rows_same}
use Rattle.ft_trace.proofs.ValuePuts.{value_put, word_put}
use Rattle.ft_trace.proofs.ByKind.{as_self, as_trans, as_later, as_sound, as_clear, keyed_sound}
use Rattle.ft_trace.proofs.ReadTables.{rows_long, as_value, value_low, which_word, read_version, read_index, read_entry, raw_reached, value_odd, sound_value, read_tab, refs_in_table, boxes_stay, raw_careful_for}

-- what stays of t while it is the table of o, and what holds of it
abbrev pub LaterIn : Shape → ℕ → ℕ → List ℕ → List ℕ → Type 0
LaterIn k o t ws zs = LaterAs (kind_in k.starts o) (class_of t) ws zs

abbrev pub SoundIn : Shape → ℕ → ℕ → List ℕ → Content → Type 0
SoundIn k o t ws c = SoundAs (kind_in k.starts o) k.texts (class_of t) ws c

abbrev pub content : Shape → List Event → ℕ → Content
content k es o = (container_after k.starts (history es) o).content

pub in_self : (k : Shape) (o t : ℕ) (ws : List ℕ) → LaterIn k o t ws ws
in_self k o t ws = as_self (kind_in k.starts o) (class_of t) ws

pub in_trans : (k : Shape) (o t : ℕ) (ws ys zs : List ℕ) → LaterIn k o t ws ys → LaterIn k o t ys zs → LaterIn k o t ws zs
in_trans k o t ws ys zs a b = as_trans (kind_in k.starts o) (class_of t) ws ys zs a b

-- what the action is to the words of t
module _ (k : Shape) (es : List Event) (id : ℕ) (v : View) (t : ℕ) (table : IsTableName k t) (F : Act → Type 0) (put : (o i x : ℕ) → F (PutTable o t i x)) (fill : (i x : ℕ) → F (PutFresh t i x)) (other : (a : Act) → (May k (run k es) (history es) v a → tab k (did id v a ∷ es) t ≡ tab k es t) → F a) where
  apart_from : (a : Act) → ((i : ℕ) → place a ≢ cell t i) → May k (run k es) (history es) v a → tab k (did id v a ∷ es) t ≡ tab k es t
  apart_from a apart may = table_same k t (run k (did id v a ∷ es)).words (run k es).words (λ i low. stays k es id v a may (cell t i) (table, low) (apart i))

  pub on_cells : (a : Act) → F a
  on_cells (PutTable o q i x) = same_or (λ (z : ℕ). F (PutTable o z i x)) q t (put o i x) (λ ne. other (PutTable o q i x) (apart_from (PutTable o q i x) (λ j e. ne (cc))))
  on_cells (PutFresh q i x) = same_or (λ (z : ℕ). F (PutFresh z i x)) q t (fill i x) (λ ne. other (PutFresh q i x) (apart_from (PutFresh q i x) (λ j e. ne (cc))))
  on_cells (ReadTable q i f) = other (ReadTable q i f) (λ may. table_same k t (run k (did id v (ReadTable q i f) ∷ es)).words (run k es).words (λ j low. loaded k es id v (ReadTable q i f) (λ n. refl) (cell t j)))
  on_cells act = other act (apart_from act (λ j e. absurd (cc)))

pub put_tab : (k : Shape) (es : List Event) (id : ℕ) (v : View) (o t i x : ℕ) → IsTableName k t → i < size (class_of t) → tab k (did id v (PutTable o t i x) ∷ es) t ≡ slice_set (tab k es t) i x
put_tab k es id v o t i x table small = table_set k t (run k es).words i x small (subst (λ (n : ℕ). at k (cell t i) < n) (sym (wide k es)) (at_low k (cell t i) (table, small)))

-- a fresh table is not current
not_fresh : (k : Shape) (es : List Event) → Valid k es → (id : ℕ) (v : View) → get_elem? (run k es).views id ≡ some v → (t i x : ℕ) → age es t % 5 ≡ 2 → May k (run k es) (history es) v (PutFresh t i x) → ⊥
not_fresh k es valid id v at t i x two may =
    let one = may.2 in
    let a = ((placed k es valid t may.0).hands id v at (λ z. absurd (omega (arith, z, one)))).0 in
    absurd (omega (arith, a, two, one))

pub later_one : (k : Shape) (es : List Event) (e : Event) → Valid k (e ∷ es) → (t : ℕ) → IsTableName k t → age es t % 5 ≡ 2 → LaterIn k (whose es t) t (tab k es t) (tab k (e ∷ es) t)
later_one k es (did id v a) valid t table two =
    let ws = tab k es t in
    let o = whose es t in
    let F : Act → Type 0 = λ b. May k (run k es) (history es) v b → LaterIn k o t ws (tab k (did id v b ∷ es) t) in
    on_cells k es id v t table F
    (λ p i x may.
    let same : p ≡ o = sym ((placed k es valid.0 t table).roots p may.0 may.4).1 in
    let care = subst (λ (z : ℕ). CarefulFor k (run k es).words z t (content k es z) i x) same may.5 in
    subst (LaterIn k o t ws) (sym (put_tab k es id v p t i x table may.2)) (as_later (kind_in k.starts o) (class_of t) ws i x (table_long k t (run k es).words) may.2 (raw_careful_for k es o t (content k es o) i x care)))
    (λ i x may. absurd (not_fresh k es valid.0 id v valid.1.0 t i x two may))
    (λ b same may. subst (LaterIn k o t ws) (sym (same may)) (in_self k o t ws))
    a valid.1.3
later_one k es (forked id v) valid t table two = in_self k (whose es t) t (tab k es t)
later_one k es (sent id v given) valid t table two = in_self k (whose es t) t (tab k es t)
later_one k es (joined id v other w) valid t table two = in_self k (whose es t) t (tab k es t)

-- while t is current
pub laters : (k : Shape) (newer older : List Event) → Valid k (newer ++ older) → (t : ℕ) → IsTableName k t → age older t % 5 ≡ 2 → age (newer ++ older) t ≡ age older t → LaterIn k (whose older t) t (tab k older t) (tab k (newer ++ older) t)
laters k [] older valid t table two same = in_self k (whose older t) t (tab k older t)
laters k (e ∷ newer) older valid t table two same =
    let a = ages_rise newer older t in
    let b = (ages_one e (newer ++ older) t).up in
    let here : age (newer ++ older) t ≡ age older t = omega (arith, a, b, same) in
    let one = later_one k (newer ++ older) e valid t table (ap (λ (z : ℕ). z % 5) here ∙ two) in
    let one_here = subst (λ (z : ℕ). LaterIn k z t (tab k (newer ++ older) t) (tab k (e ∷ (newer ++ older)) t)) (whose_same newer older t here) one in
    in_trans k (whose older t) t (tab k older t) (tab k (newer ++ older) t) (tab k (e ∷ (newer ++ older)) t) (laters k newer older valid.0 t table two here) one_here

-- a commit that is clear
sound_content : (k : Shape) (es : List Event) (v : View) (o t : ℕ) → root k es o ≡ suc t → SoundIn k o t (read_tab k es o t) (content k es o) → (b : Act) → May k (run k es) (history es) v b → SoundIn k o t (read_tab k es o t) (container_after k.starts (writes_of b (history es)) o).content
sound_content k es v o t names old (Commit call r f s) may =
    let ws = read_tab k es o t in
    let cs = history es in
    dite (ℕ_discrete (changes call) o)
    (λ (e : changes call ≡ o).
    let clear : ClearFor k (run k es).words o t (container_after k.starts cs o).content (container_after k.starts (call ∷ cs) o).content = subst (λ (z : ℕ). (q : ℕ) → root k es z ≡ suc q → ClearFor k (run k es).words z q (container_after k.starts cs z).content (container_after k.starts (call ∷ cs) z).content) e may.5 t names in
    as_clear (kind_in k.starts o) k.texts (class_of t) ws (container_after k.starts cs o).content (container_after k.starts (call ∷ cs) o).content clear old)
    (λ ne. subst (λ (z : ContainerState). SoundIn k o t ws z.content) (sym (untouched k.starts call cs o ne)) old)
sound_content k es v o t names old act may = old

module _ (k : Shape) (es : List Event) (id : ℕ) (v : View) (o : ℕ) (low : o < container_count k) (t : ℕ) (table : IsTableName k t) where
  abbrev Kd : Kind
  Kd = kind_in k.starts o

  abbrev N : ℕ
  N = rows Kd (class_of t)

  abbrev Box : Act → ℕ → ℕ → ℕ
  Box a = box_word_in k (run k (did id v a ∷ es)).words

  abbrev Before : ℕ → ℕ → ℕ
  Before = box_word_in k (run k es).words

  -- a step that leaves the words of the table
  read_same : (a : Act) → Valid k (did id v a ∷ es) → root k es o ≡ suc t → tab k (did id v a ∷ es) t ≡ tab k es t → read_tab k (did id v a ∷ es) o t ≡ read_tab k es o t
  read_same a valid names same = ap (unboxed_rows (Box a) Kd (class_of t) N) same ∙ boxes_stay k es id v a valid o low t names N (omega arith)

  -- a root that names the table: the boxes that it names have references
  read_rooted : (r old : ℕ) → Valid k (did id v (PutRoot o r old) ∷ es) → root k (did id v (PutRoot o r old) ∷ es) o ≡ suc t → tab k (did id v (PutRoot o r old) ∷ es) t ≡ tab k es t → read_tab k (did id v (PutRoot o r old) ∷ es) o t ≡ read_tab k es o t
  read_rooted r old valid names same =
      let a : Act = PutRoot o r old in
      let new : List Event = did id v a ∷ es in
      rows_same (Box a) Before Kd (class_of t) N (tab k new t)
      (λ p i less is which.
      let b : ℕ = slice_index (tab k new t) (suc (value_at Kd (class_of t) p)) in
      let some_ = refs_in_table k new o low t p names less is in
      let up = box_there k b new valid some_ in
      let name = box_name k b new valid (λ z. absurd (omega (arith, z, up))) in
      stays k es id v a valid.1.3 (box_word b i) (name, which_low i which) (λ e. absurd (cc)))
      ∙ ap (unboxed_rows Before Kd (class_of t) N) same
    where
      which_low : (i : ℕ) → (i ≡ 1) ⊎ (i ≡ 2) → i < 4
      which_low i (inl e) = omega (arith, e)
      which_low i (inr e) = omega (arith, e)

  -- a put into the table
  read_put : (q i x : ℕ) → Valid k (did id v (PutTable q t i x) ∷ es) → root k es o ≡ suc t → (c : Content) → CarefulFor k (run k es).words o t c i x → SoundIn k o t (read_tab k es o t) c → SoundIn k o t (read_tab k (did id v (PutTable q t i x) ∷ es) o t) c
  read_put q i x valid names c care old =
      let a : Act = PutTable q t i x in
      let ws = tab k es t in
      let zs = read_tab k es o t in
      let small = valid.1.3.2 in
      let is : tab k (did id v a ∷ es) t ≡ slice_set ws i x = put_tab k es id v q t i x table small in
      let long = table_long k t (run k es).words in
      let boxes = boxes_stay k es id v a valid o low t names N (omega arith) in
      ⊎_elim
      (λ (h : (p : ℕ) × (p < N) × ((i ≡ value_at Kd (class_of t) p) ⊎ (i ≡ suc (value_at Kd (class_of t) p)))).
      let p = h.0 in
      let less = h.1 in
      let place : ℕ = value_at Kd (class_of t) p in
      let y = as_value ws place i x h.2 in
      let put = value_put (Box a) Kd (class_of t) N p y.0 y.1 ws less (let l = value_low Kd (class_of t) p table.0 less in omega (arith, l, long)) in
      let one : ℕ = unboxed_kind (Box a) y.0 y.1 in
      let two : ℕ = unboxed_payload (Box a) y.0 y.1 in
      let read : read_tab k (did id v a ∷ es) o t ≡ with_value place one two zs = ap (unboxed_rows (Box a) Kd (class_of t) N) (is ∙ y.2) ∙ (put ∙ ap (with_value place one two) boxes) in
      let odd : slice_index zs (version_at Kd (class_of t) p) % 2 ≡ 1 =
      ap (λ (z : ℕ). z % 2) (read_version Before (class_of t) N ws Kd refl p less) ∙ value_odd Kd (class_of t) ws i x p (raw_careful_for k es o t c i x care) less h.2 in
      subst (λ (z : List ℕ). SoundIn k o t z c) (sym read) (sound_value Kd k.texts (class_of t) zs c p one two odd old))
      (λ (far : (q : ℕ) → q < N → (i ≢ value_at Kd (class_of t) q) × (i ≢ suc (value_at Kd (class_of t) q))).
      let read : read_tab k (did id v a ∷ es) o t ≡ slice_set zs i x = ap (unboxed_rows (Box a) Kd (class_of t) N) is ∙ (word_put (Box a) Kd (class_of t) N i x ws far ∙ ap (λ (z : List ℕ). slice_set z i x) boxes) in
      subst (λ (z : List ℕ). SoundIn k o t z c) (sym read) (as_sound Kd k.texts (class_of t) zs c i x (rows_long Before Kd (class_of t) N ws ∙ long) small care old))
      (which_word Kd (class_of t) i)

-- also while the container's version is odd
pub sound_at : (k : Shape) (es : List Event) → Valid k es → (o : ℕ) → o < container_count k → (t : ℕ) → root k es o ≡ suc t → SoundIn k o t (read_tab k es o t) (content k es o)
sound_at k [] valid o low t e = let z : root k [] o ≡ 0 = block_first k o 0 low (omega arith) in absurd (omega (arith, z, e))
sound_at k (did id v a ∷ es) valid o low t e =
    let table = root_table k (did id v a ∷ es) valid o low t e in
    let F : Act → Type 0 = λ b. Valid k (did id v b ∷ es) → root k (did id v b ∷ es) o ≡ suc t → SoundIn k o t (read_tab k (did id v b ∷ es) o t) (content k (did id v b ∷ es) o) in
    on_root k es id v o low F
    (λ r old ok now.
    let is : r ≡ suc t = sym (moves k es id v (PutRoot o r old) ok.1.3) ∙ now in
    let same = table_same k t (run k (did id v (PutRoot o r old) ∷ es)).words (run k es).words (λ i small. stays k es id v (PutRoot o r old) ok.1.3 (cell t i) (table, small) (λ e. absurd (cc))) in
    subst (λ (z : List ℕ). SoundIn k o t z (content k es o)) (sym (read_rooted k es id v o low t table r old ok now same)) (ok.1.3.3 t is).2)
    (λ b stay ok now.
    let names : root k es o ≡ suc t = sym (stay ok.1.3) ∙ now in
    let two = (placed k es ok.0 t table).roots o low names in
    let then_ = sound_content k es v o t names (sound_at k es ok.0 o low t names) b ok.1.3 in
    let G : Act → Type 0 = λ b. Valid k (did id v b ∷ es) → SoundIn k o t (read_tab k es o t) (container_after k.starts (writes_of b (history es)) o).content → SoundIn k o t (read_tab k (did id v b ∷ es) o t) (container_after k.starts (writes_of b (history es)) o).content in
    on_cells k es id v t table G
    (λ p i x ok old.
    let may = ok.1.3 in
    let same : p ≡ o = sym ((placed k es ok.0 t table).roots p may.0 may.4).1 ∙ two.1 in
    let care = subst (λ (z : ℕ). CarefulFor k (run k es).words z t (content k es z) i x) same may.5 in
    read_put k es id v o low t table p i x ok names (content k es o) care old)
    (λ i x ok old. absurd (not_fresh k es ok.0 id v ok.1.0 t i x two.0 ok.1.3))
    (λ b same ok old. subst (λ (z : List ℕ). SoundIn k o t z (container_after k.starts (writes_of b (history es)) o).content) (sym (read_same k es id v o low t table b ok names (same ok.1.3))) old)
    b ok then_)
    a valid e
sound_at k (forked id v ∷ es) valid o low t e = sound_at k es valid.0 o low t e
sound_at k (sent id v given ∷ es) valid o low t e = sound_at k es valid.0 o low t e
sound_at k (joined id v other w ∷ es) valid o low t e = sound_at k es valid.0 o low t e

-- ---- what holds of the table's words as they stand

module _ (k : Shape) (es : List Event) (valid : Valid k es) (o : ℕ) (low : o < container_count k) (keyed : IsKeyed (kind_in k.starts o)) (t : ℕ) (names : root k es o ≡ suc t) where
  abbrev R : ℕ
  R = rows (kind_in k.starts o) (class_of t)

  keyed_at : Sound (walk_of (kind_in k.starts o) k.texts (class_of t)) (slots (class_of t)) R (read_tab k es o t) (under (content k es o))
  keyed_at = keyed_sound (kind_in k.starts o) keyed k.texts (class_of t) (read_tab k es o t) (content k es o) (sound_at k es valid o low t names)

  as_read : (p w : ℕ) → w < 8 → w ≢ 4 → w ≢ 5 → entry_field (slots (class_of t)) (read_tab k es o t) p w ≡ entry_field (slots (class_of t)) (tab k es t) p w
  as_read p w = read_entry (box_word_in k (run k es).words) (class_of t) R (tab k es t) (kind_in k.starts o) keyed p w

  as_indexed : (s : ℕ) → s < slots (class_of t) → index_field (read_tab k es o t) s ≡ index_field (tab k es t) s
  as_indexed s = read_index (box_word_in k (run k es).words) (class_of t) R (tab k es t) (kind_in k.starts o) keyed s

  -- an index word names an entry with a key
  pub sound_named : (s p : ℕ) → s < slots (class_of t) → p < R → index_field (tab k es t) s ≡ suc p → entry_field (slots (class_of t)) (tab k es t) p 2 ≢ 0
  sound_named s p less small e z = keyed_at.named s p less small (as_indexed s less ∙ e) (as_read p 2 (omega arith) (λ z. omega (arith, z)) (λ z. omega (arith, z)) ∙ z)

  -- the probe of a key that is there meets its entry
  pub sound_reached : (key : Key) → FitsKey key → under (content k es o) key ≢ [] → Reached (slots (class_of t)) R (tab k es t) (walk_of (kind_in k.starts o) k.texts (class_of t) key) key
  sound_reached key fits there = raw_reached (slots (class_of t)) R (tab k es t) (read_tab k es o t) (walk_of (kind_in k.starts o) k.texts (class_of t) key) key as_indexed (λ p w less. as_read p w) (keyed_at.reached key fits there)

  -- a live entry with an even version says what the content has, as its value reads
  pub sound_right : (p : ℕ) (key : Key) → p < R → entry_field (slots (class_of t)) (tab k es t) p 0 % 2 ≡ 0 → HasLiveKey (slots (class_of t)) (tab k es t) p key → under (content k es o) key ≡ said_of (slots (class_of t)) (read_tab k es o t) p
  sound_right p key small even live =
      keyed_at.right p key small (ap (λ (z : ℕ). z % 2) (as_read p 0 (omega arith) (λ z. omega (arith, z)) (λ z. omega (arith, z))) ∙ even)
      (as_read p 2 (omega arith) (λ z. omega (arith, z)) (λ z. omega (arith, z)) ∙ live.0, as_read p 3 (omega arith) (λ z. omega (arith, z)) (λ z. omega (arith, z)) ∙ live.1)
