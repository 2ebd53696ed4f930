-- Puts into the words of a table, counted after its header, by a pass that has the lock of its container. Neither the
-- value that stands in the entry nor the one that is put names a box.
use Rattle.std.proofs.Common.{◌≡◌, ◌≢◌, ◌⊎◌, ℕ, suc, ◌+◌, ◌*◌, ◌<◌, ◌≤◌, Bool, true, false, List, [], ◌∷◌, length, refl, sym, ap, ◌∙◌, subst, inl, inr, ⊎_elim, arith}
use Rattle.std.specs.Prelude.{slice_index, slice_set}
use mathlib.Core.Logic.{dite}
use native.Mathlib.Decide.{ℕ_discrete}
use Rattle.std.proofs.Math.Logic.{∥∥₁_elim}
use Rattle.std.proofs.Math.Nat.{ℕ_set}
use Rattle.ft_model.specs.declared.content.Content.{Content}
use Rattle.ft_model.specs.declared.script.Kind.{Kind}
use Rattle.ft_keys.specs.declared.words.Access.{Access}
use Rattle.ft_keys.specs.declared.words.Access.TheVariants.{Index, Entry, PutIndex, PutEntry, OldEntry}
use Rattle.ft_keys.specs.Accesses.{Runs, Allows, after, put_by}
use Rattle.ft_trace.specs.declared.Act.TheVariants.{PutTable}
use Rattle.ft_trace.specs.declared.Shape.{Shape}
use Rattle.ft_trace.specs.declared.View.{View}
use Rattle.ft_trace.specs.Acts.{has_lock, has_committed, mem, view_after}
use Rattle.ft_trace.specs.Addresses.{container_count, class_of, slots, size, extent, IsTableName}
use Rattle.ft_trace.specs.Boxes.{value_at, named_in_root, known_box_word, HasReferences}
use Rattle.ft_trace.specs.Holds.{held_words, held_unboxed, known_state}
use Rattle.ft_trace.specs.Kinds.{rows, version_at, CarefulAs, IsKeyed}
use Rattle.ft_trace.specs.OddVersions.{Timely}
use Rattle.ft_trace.specs.Pictures.{ContainerWords, entry_offset, entry_field, inner, root_in, root_of, table_words}
use Rattle.ft_trace.specs.ContainerStates.{ContainerState, kind_in}
use Rattle.ft_trace.specs.Traces.{IsReachable}
use Rattle.ft_trace.specs.Unboxed.{unboxed_table}
use Rattle.ft_trace.proofs.ByKind.{keyed_fit}
use Rattle.ft_trace.proofs.Pieces.{block_at}
use Rattle.ft_trace.proofs.PlainPuts.{by_root}
use Rattle.ft_trace.proofs.ReadTables.{value_low}
use Rattle.ft_trace.proofs.ReferencesOfPuts.{value_refs}
use Rattle.ft_trace.proofs.ValuePlaces.{keyed_far}
use Rattle.ft_bank.specs.Passes.{view}
use Rattle.ft_bank.specs.SameBoxes.{HoldsFew, SameReferences}
use Rattle.ft_bank.specs.TableNames.{table_id, IsTableIn}
use Rattle.ft_bank.specs.Whole.{OnlyPut}
use Rattle.ft_bank.specs.WriteSteps.{HasReferencesFor, IsCareful}
use Rattle.ft_bank.proofs.DoneBoxes.{same_named}
use Rattle.ft_bank.proofs.KnownAfterWrites.{put_same, put_then, work_knows}
use Rattle.ft_bank.proofs.Readying.{wide_for}
use Rattle.ft_bank.proofs.TableAddresses.{named}
use Rattle.ft_search.specs.declared.words.TableWords.{TableWords}
use Rattle.ft_new_keys.specs.Internal.Laying.{put_in, laid}
use Rattle.ft_search.specs.TableWords.{access_act, SamePlace, KnowsWords, MayMake, MadeAccess}
use Rattle.ft_search.proofs.KnownTableWords.{put_after_header, put_entry_after_header}
use Rattle.ft_search.proofs.Puts.{keyed_value}
use Rattle.ft_search.proofs.Running.{ran}
use Rattle.ft_search.proofs.Unboxing.{raw_table_long}
use Rattle.ft_new_keys.proofs.PlainCalls.{IsPlainCall, ArePlainCalls, keyed_slot_far, laid_names, laid_plain, laid_reads}

-- ---- with and without the header

pub put_in_after : (mask n : ℕ) → n ≡ mask + 1 → (a : Access) (l : List ℕ) → put_by mask a (0 ∷ 0 ∷ l) ≡ 0 ∷ 0 ∷ put_in n a l
put_in_after mask n is (PutIndex slot value) l = sym (put_after_header l slot value)
put_in_after mask n is (PutEntry place word value) l =
    let e : 8 * place + word + mask + 1 ≡ entry_offset n place word = omega (arith, is) in
    sym (put_entry_after_header l mask place word value) ∙ ap (λ (z : ℕ). 0 ∷ 0 ∷ slice_set l z value) e
put_in_after mask n is (Index slot value) l = refl
put_in_after mask n is (Entry place word value) l = refl
put_in_after mask n is (OldEntry place word value) l = refl

pub laid_after : (mask n : ℕ) → n ≡ mask + 1 → (calls : List Access) (l : List ℕ) → after mask calls (0 ∷ 0 ∷ l) ≡ 0 ∷ 0 ∷ laid n calls l
laid_after mask n is [] l = refl
laid_after mask n is (a ∷ calls) l = ap (put_by mask a) (laid_after mask n is calls l) ∙ put_in_after mask n is a (laid n calls l)

bare : (a b : List ℕ) → 0 ∷ 0 ∷ a ≡ 0 ∷ 0 ∷ b → a ≡ b
bare a b e = cc

-- ---- what calls leave of what a pass knows

pub record Laid (s : TableWords) (n : ℕ) (calls : List Access) (t : TableWords) : Type 0 where
  pub knows : KnowsWords t
  pub table : (held_words s.o (view t.pass.now)).table ≡ laid n calls (held_words s.o (view s.pass.now)).table
  pub block : (held_words s.o (view t.pass.now)).block ≡ (held_words s.o (view s.pass.now)).block
  pub boxes : (b i : ℕ) → known_box_word (view t.pass.now).shape b i (view t.pass.now).log ≡ known_box_word (view s.pass.now).shape b i (view s.pass.now).log
  pub only : OnlyPut s.o (view s.pass.now) (view t.pass.now)

-- a call loads no box
known_step : (o t : ℕ) (a : Access) (v w : View) → w ≡ view_after (access_act o t a) v → (b i : ℕ) → known_box_word w.shape b i w.log ≡ known_box_word v.shape b i v.log
known_step o t (Index slot value) v w is b i = ap (λ (z : View). known_box_word z.shape b i z.log) is
known_step o t (Entry place word value) v w is b i = ap (λ (z : View). known_box_word z.shape b i z.log) is
known_step o t (PutIndex slot value) v w is b i = ap (λ (z : View). known_box_word z.shape b i z.log) is
known_step o t (PutEntry place word value) v w is b i = ap (λ (z : View). known_box_word z.shape b i z.log) is
known_step o t (OldEntry place word value) v w is b i = ap (λ (z : View). known_box_word z.shape b i z.log) is

pub ran_laid : (s : TableWords) (n : ℕ) → n ≡ s.mask + 1 → (calls : List Access) (t : TableWords) → Runs MadeAccess s calls t → KnowsWords s → Laid s n calls t
ran_laid s n is [] t r knows = subst (λ (z : TableWords). Laid s n [] z) r (record { knows = knows; table = refl; block = refl; boxes = λ b i. refl; only = put_same (view s.pass.now) s.o })
ran_laid s n is (a ∷ calls) t r knows =
    let m = r.0 in
    let old = ran_laid s n is calls m r.1 knows in
    let place = (ran s calls m r.1).0 in
    let g = r.2 in
    let left = g.left old.knows in
    let last : t.o ≡ s.o = g.same.o ∙ place.o in
    let size : n ≡ m.mask + 1 = is ∙ sym (ap (λ (z : ℕ). z + 1) place.mask) in
    let made : (held_words t.o (view t.pass.now)).table ≡ put_in n a (held_words m.o (view m.pass.now)).table = bare _ _ (left.1 ∙ put_in_after m.mask n size a (held_words m.o (view m.pass.now)).table) in
    record {
      knows = left.0;
      table = ap (λ (o : ℕ). (held_words o (view t.pass.now)).table) (sym last) ∙ (made ∙ (ap (λ (o : ℕ). put_in n a (held_words o (view m.pass.now)).table) place.o ∙ ap (put_in n a) old.table));
      block = ap (λ (o : ℕ). (held_words o (view t.pass.now)).block) (sym place.o) ∙ (left.2 ∙ (ap (λ (o : ℕ). (held_words o (view m.pass.now)).block) place.o ∙ old.block));
      boxes = λ b i. known_step m.o (table_id m.table) a (view m.pass.now) (view t.pass.now) g.did.1 b i ∙ old.boxes b i;
      only = put_then (view s.pass.now) (view m.pass.now) (view t.pass.now) s.o old.only (subst (λ (o : ℕ). OnlyPut o (view m.pass.now) (view t.pass.now)) place.o g.only);
    }

-- ---- what that reads

module _ (s : TableWords) (calls : List Access) (t : TableWords) (p : ℕ) (keyed : IsKeyed (kind_in (view s.pass.now).shape.starts s.o)) (low : p < rows (kind_in (view s.pass.now).shape.starts s.o) (class_of (table_id s.table))) (knows : KnowsWords s) (plain : entry_field (slots (class_of (table_id s.table))) (held_words s.o (view s.pass.now)).table p 4 ≢ 4) (l : Laid s (slots (class_of (table_id s.table))) calls t)
    (are : ArePlainCalls (slots (class_of (table_id s.table))) p calls) where
  abbrev vs : View
  vs = view s.pass.now

  abbrev vt : View
  vt = view t.pass.now

  abbrev kind_s : Kind
  kind_s = kind_in vs.shape.starts s.o

  abbrev many : ℕ
  many = slots (class_of (table_id s.table))

  abbrev old : List ℕ
  old = (held_words s.o vs).table

  shape_t : vt.shape ≡ vs.shape
  shape_t = l.only.work.pass.shape

  wide_s : slots (class_of (table_id s.table)) + 8 * rows kind_s (class_of (table_id s.table)) ≤ length old
  wide_s =
      let f = keyed_fit kind_s keyed (class_of (table_id s.table)) in
      let long = raw_table_long vs s.o (table_id s.table) knows.1 in
      omega (arith, f, long)

  pub laid_same : SameReferences vs vt
  laid_same =
      same_named s.o vs vt l.only.moves
      (λ b.
      (λ d. named_in_root b (kind_in (shape_t d).starts s.o) (slice_index (l.block d) 0) (l.table d))
      ∙ ((λ d. named_in_root b kind_s (knows.1 d) (laid many calls old))
      ∙ (laid_names kind_s keyed (class_of (table_id s.table)) p low old wide_s plain calls are b (table_id s.table) refl
      ∙ sym (λ d. named_in_root b kind_s (knows.1 d) old))))

  pub laid_words : held_unboxed s.o vt ≡ record { block = (held_unboxed s.o vs).block; table = laid many calls (held_unboxed s.o vs).table }
  laid_words =
      let box : ℕ → ℕ → ℕ = λ b i. known_box_word vs.shape b i vs.log in
      let root : ℕ = root_in (held_words s.o vs) in
      let reads : unboxed_table box kind_s root (laid many calls old) ≡ laid many calls (unboxed_table box kind_s root old) =
      by_root box kind_s root (table_id s.table) (laid many calls old) knows.1
      ∙ (laid_reads kind_s keyed (class_of (table_id s.table)) p low old wide_s plain box calls are
      ∙ ap (laid many calls) (sym (by_root box kind_s root (table_id s.table) old knows.1))) in
      (λ d. record { block = l.block d; table = unboxed_table (λ x y. l.boxes x y d) (kind_in (shape_t d).starts s.o) (slice_index (l.block d) 0) (l.table d) })
      ∙ (λ d. record { block = (held_words s.o vs).block; table = reads d })

-- ---- references

-- a word of a value that names no box then needs none
pub plain_refs : (w : View) (o t p i x : ℕ) → ∥ IsReachable w ∥₁ → o < container_count w.shape → IsTableName w.shape t → has_lock o w.log ≡ true → root_in (held_words o w) ≡ suc t → p < rows (kind_in w.shape.starts o) (class_of t)
    → (i ≡ value_at (kind_in w.shape.starts o) (class_of t) p) ⊎ (i ≡ suc (value_at (kind_in w.shape.starts o) (class_of t) p)) → slice_index (slice_set (held_words o w).table i x) (value_at (kind_in w.shape.starts o) (class_of t) p) ≢ 4 → HoldsFew w → HasReferences w.shape w.log (PutTable o t i x) o
plain_refs w o t p i x possible low table mine names row which plain few =
    let k = w.shape in
    let kd : Kind = kind_in k.starts o in
    let at : ℕ = value_at kd (class_of t) p in
    let ws = mem k w.log in
    let there : root_of k o ws ≡ suc t = sym (block_at k o ws 0 (omega arith)) ∙ names in
    let wide : length ws ≡ extent k = ∥∥₁_elim {P = length ws ≡ extent k} possible (ℕ_set (length ws) (extent k)) (λ e. wide_for w o mine e.0 e.1 e.2) in
    let raw : (held_words o w).table ≡ table_words k t ws = ap (λ (r : ℕ). inner k r ws) there in
    let inside = value_low kd (class_of t) p table.0 row in
    let small : i < size (class_of t) = ⊎_elim (λ (e : i ≡ at). let less : i < size (class_of t) = omega (arith, e, inside) in less) (λ (e : i ≡ suc at). let less : i < size (class_of t) = omega (arith, e, inside) in less) which in
    value_refs k w.log o t i x low table small wide there p row which
    (λ four. absurd (plain (ap (λ (z : List ℕ). slice_index (slice_set z i x) at) raw ∙ four)))
    (λ b. let f = few b in omega (arith, f))

-- ---- calls that readers without the lock aren't misled by

-- the call may be made on these words of a table, before the commit of the write
abbrev pub IsCarefulCall : Kind → ℕ → Content → List ℕ → Access → Type 0
IsCarefulCall kind c d l (PutIndex slot value) = CarefulAs kind c l d slot value × Timely (version_at kind c) (rows kind c) slot value false
IsCarefulCall kind c d l (PutEntry place word value) =
    CarefulAs kind c l d (entry_offset (slots c) place word) value × Timely (version_at kind c) (rows kind c) (entry_offset (slots c) place word) value false
IsCarefulCall kind c d l access = Unit {0}

-- each of them, once the earlier ones were made
abbrev pub AreCarefulCalls : Kind → ℕ → Content → List ℕ → List Access → Type 0
AreCarefulCalls kind c d l [] = Unit {0}
AreCarefulCalls kind c d l (access ∷ earlier) = AreCarefulCalls kind c d l earlier × IsCarefulCall kind c d (laid (slots c) earlier l) access

pub careful_at : (k : Shape) (o t i x : ℕ) (l : List ℕ) (d : Content) (w : View) → w.shape ≡ k → has_committed o w.log ≡ false → (held_unboxed o w).table ≡ l → (known_state o w).content ≡ d
    → CarefulAs (kind_in k.starts o) (class_of t) l d i x → Timely (version_at (kind_in k.starts o) (class_of t)) (rows (kind_in k.starts o) (class_of t)) i x false → HasReferencesFor w o t i x → IsCareful w o t i x
careful_at k o t i x l d w shape early words content care timely references = record {
  care = subst (λ (z : Shape × List ℕ × Content). CarefulAs (kind_in z.0.starts o) (class_of t) z.1 z.2 i x) (sym (λ j. (shape j, words j, content j))) care;
  timely = subst (λ (z : Shape × Bool). Timely (version_at (kind_in z.0.starts o) (class_of t)) (rows (kind_in z.0.starts o) (class_of t)) i x z.1) (sym (λ j. (shape j, early j))) timely;
  references = references;
}

module _ (s : TableWords) (k : Shape) (p : ℕ) (shape : (view s.pass.now).shape ≡ k) (container : s.o < container_count k) (table_in : IsTableIn k s.table) (keyed : IsKeyed (kind_in k.starts s.o)) (size : slots (class_of (table_id s.table)) ≡ s.mask + 1) (knows : KnowsWords s) (early : has_committed s.o (view s.pass.now).log ≡ false) (few : HoldsFew (view s.pass.now)) (low : p < rows (kind_in k.starts s.o) (class_of (table_id s.table)))
    (plain : entry_field (slots (class_of (table_id s.table))) (held_words s.o (view s.pass.now)).table p 4 ≢ 4) where
  abbrev kind : Kind
  kind = kind_in k.starts s.o

  abbrev c : ℕ
  c = class_of (table_id s.table)

  abbrev n : ℕ
  n = slots (class_of (table_id s.table))

  abbrev d : Content
  d = (known_state s.o (view s.pass.now)).content

  abbrev ws : List ℕ
  ws = (held_unboxed s.o (view s.pass.now)).table

  abbrev raw : List ℕ
  raw = (held_words s.o (view s.pass.now)).table

  keyed_s : IsKeyed (kind_in (view s.pass.now).shape.starts s.o)
  keyed_s = subst (λ (z : Shape). IsKeyed (kind_in z.starts s.o)) (sym shape) keyed

  low_s : p < rows (kind_in (view s.pass.now).shape.starts s.o) c
  low_s = subst (λ (z : Shape). p < rows (kind_in z.starts s.o) c) (sym shape) low

  value_inside : entry_offset n p 4 < length raw
  value_inside =
      let f = keyed_fit kind keyed c in
      let long = raw_table_long (view s.pass.now) s.o (table_id s.table) knows.1 in
      omega (arith, f, long, low)

  -- a call has the references that it needs, once the earlier ones were made
  module _ (calls : List Access) (between : TableWords) (runs : Runs MadeAccess s calls between) (are : ArePlainCalls n p calls) where
    abbrev w : View
    w = view between.pass.now

    l : Laid s n calls between
    l = ran_laid s n size calls between runs knows

    place : SamePlace s between
    place = (ran s calls between runs).0

    shape_w : w.shape ≡ k
    shape_w = l.only.work.pass.shape ∙ shape

    keyed_w : IsKeyed (kind_in w.shape.starts s.o)
    keyed_w = subst (λ (z : Shape). IsKeyed (kind_in z.starts s.o)) (sym shape_w) keyed

    few_w : HoldsFew w
    few_w b =
        let same = laid_same s calls between p keyed_s low_s knows plain l are b in
        let f = few b in
        omega (arith, same, f)

    knows_w : (has_lock s.o w.log ≡ true) × (root_in (held_words s.o w) ≡ suc (table_id s.table))
    knows_w = subst (λ (z : ℕ × ℕ). (has_lock z.0 w.log ≡ true) × (root_in (held_words z.0 w) ≡ suc z.1)) (λ j. (place.o j, table_id (place.table j))) l.knows

    value_put : (word x : ℕ) → (word ≡ 4) ⊎ (word ≡ 5) → IsPlainCall n p (PutEntry p word x) → HasReferencesFor w s.o (table_id s.table) (entry_offset n p word) x
    value_put word x which one =
        let at : value_at (kind_in w.shape.starts s.o) c p ≡ entry_offset n p 4 = keyed_value (kind_in w.shape.starts s.o) keyed_w c p in
        let after = laid_plain n p (PutEntry p word x ∷ calls) (one, are) raw value_inside plain in
        inr
        (plain_refs w s.o (table_id s.table) p (entry_offset n p word) x between.pass.now.possible
        (subst (λ (z : Shape). s.o < container_count z) (sym shape_w) container)
        (subst (λ (z : Shape). IsTableName z (table_id s.table)) (sym shape_w) (named k s.table table_in))
        knows_w.0 knows_w.1
        (subst (λ (z : Shape). p < rows (kind_in z.starts s.o) c) (sym shape_w) low)
        (⊎_elim (λ (e : word ≡ 4). inl (omega (arith, e, at))) (λ (e : word ≡ 5). inr (omega (arith, e, at))) which)
        (λ four. after ((λ j. slice_index (slice_set (sym l.table j) (entry_offset n p word) x) (sym at j)) ∙ four))
        few_w)

    entry_put : (q word x : ℕ) → IsPlainCall n p (PutEntry q word x) → HasReferencesFor w s.o (table_id s.table) (entry_offset n q word) x
    entry_put q word x one =
        let here : IsPlainCall n p (PutEntry p word x) = (refl, one.1, one.2) in
        dite (ℕ_discrete word 4)
        (λ (e : word ≡ 4). subst (λ (z : ℕ). HasReferencesFor w s.o (table_id s.table) (entry_offset n z word) x) (sym one.0) (value_put word x (inl e) here))
        (λ n4. dite (ℕ_discrete word 5)
        (λ (e : word ≡ 5). subst (λ (z : ℕ). HasReferencesFor w s.o (table_id s.table) (entry_offset n z word) x) (sym one.0) (value_put word x (inr e) here))
        (λ n5. inl (keyed_far (kind_in w.shape.starts s.o) keyed_w c q word one.1 n4 n5, few_w)))

    may_make : (a : Access) → IsPlainCall n p a → IsCarefulCall kind c d (laid n calls ws) a → MayMake between a
    may_make a one care = by a one care
      where
        careful : (i x : ℕ) → CarefulAs kind c (laid n calls ws) d i x → Timely (version_at kind c) (rows kind c) i x false → HasReferencesFor w s.o (table_id s.table) i x → IsCareful w between.o (table_id between.table) i x
        careful i x h time references =
            subst (λ (z : ℕ × ℕ). IsCareful w z.0 z.1 i x) (sym (λ j. (place.o j, table_id (place.table j))))
            (careful_at k s.o (table_id s.table) i x (laid n calls ws) d w shape_w (l.only.work.committed s.o ∙ early)
            (ap (λ (z : ContainerWords). z.table) (laid_words s calls between p keyed_s low_s knows plain l are))
            (ap (λ (z : ContainerState). z.content) (work_knows (view s.pass.now) w s.o l.only.work)) h time references)

        by : (a : Access) → IsPlainCall n p a → IsCarefulCall kind c d (laid n calls ws) a → MayMake between a
        by (PutIndex slot value) one care = careful slot value care.0 care.1 (inl (keyed_slot_far (kind_in w.shape.starts s.o) keyed_w c slot one, few_w))
        by (PutEntry q word value) one care =
            subst (λ (z : ℕ). IsCareful w between.o (table_id between.table) (entry_offset (slots (class_of z)) q word) value) (sym (λ j. table_id (place.table j)))
            (careful (entry_offset n q word) value care.0 care.1 (entry_put q word value one))
        by (Index slot value) one care = tt
        by (Entry q word value) one care = tt
        by (OldEntry q word value) one care = tt

  pub allows_calls : (calls : List Access) → ArePlainCalls n p calls → AreCarefulCalls kind c d ws calls → Allows MadeAccess MayMake s calls
  allows_calls [] are each = tt
  allows_calls (a ∷ calls) are each = (allows_calls calls are.1 each.0, λ between runs. may_make calls between runs are.1 a are.0 each.1)
