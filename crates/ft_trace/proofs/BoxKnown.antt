-- What a pass knows of the values in the boxes that it keeps is so, and with it what the words of a container read whose
-- lock it has.
use Rattle.std.proofs.Common.{◌≡◌, ◌≢◌, ◌⊎◌, ℕ, zero, suc, ◌<◌, eqb, Bool, true, false, cond, List, [], ◌∷◌, refl, sym, ap, ◌∙◌, subst, inl, inr, ⊎_elim, arith}
use mathlib.Core.Option.{some}
use mathlib.Core.Logic.{dite}
use native.Mathlib.Decide.{ℕ_discrete}
use lib.ListN.{get_elem?}
use Rattle.std.specs.Prelude.{slice_index}
use Rattle.ft_model.specs.declared.script.Kind.{Kind}
use Rattle.ft_trace.specs.declared.Snap.{Snap}
use Rattle.ft_trace.specs.declared.Shape.{Shape}
use Rattle.ft_trace.specs.declared.View.{View}
use Rattle.ft_trace.specs.declared.Act.{Act}
use Rattle.ft_trace.specs.declared.Act.TheVariants.{Lock, Unlock, TakeTable, PutTable, PutRoot, TookOver, PutBox, PublishBox, ReadBox, RaiseLocal, DropLocal, ClearLocal, MergeCounts, RaiseShared, RaiseKept, DropShared}
use Rattle.ft_trace.specs.Addresses.{box_word, block, cell, class_of, container_count, IsBoxName, at}
use Rattle.ft_trace.specs.Owners.{had_locks, found_owners}
use Rattle.ft_trace.specs.Acts.{hands_over, tells, has_lock, mem, starter, view_after, maker, made, both, spent, sender, note}
use Rattle.ft_trace.specs.ContainerStates.{kind_in}
use Rattle.ft_trace.specs.Pictures.{ContainerWords, picture, root_of, root_in}
use Rattle.ft_trace.specs.Kinds.{rows}
use Rattle.ft_trace.specs.Sums.{sum_to}
use Rattle.ft_trace.specs.Boxes.{value_at, names_box_at, named_in_root, named_in_container, made_state, references_held, times_kept, known_box_word, knows_box_word, knows_box_word_next}
use Rattle.ft_trace.specs.BoxTraces.{references_held_by, references}
use Rattle.ft_trace.specs.Unboxed.{box_word_in, unboxed_table, unboxed, unboxed_picture}
use Rattle.ft_trace.specs.Traces.{Event, did, forked, joined, sent, run, word, history, May, Valid}
use Rattle.ft_trace.proofs.Sizes.{set_views, one_more, one_view, set_at}
use Rattle.ft_trace.proofs.Cases.{hit, miss, here, off, same_or}
use Rattle.ft_trace.proofs.OneWord.{stays, moves, loaded}
use Rattle.ft_trace.proofs.Pieces.{block_at, table_same, picture_same}
use Rattle.ft_trace.proofs.TablePlaces.{root_table}
use Rattle.ft_trace.proofs.Images.{imaged}
use Rattle.ft_trace.proofs.Sums.{sum_at, total_at}
use Rattle.ft_trace.proofs.NamedBoxes.{IsPut, unnamed_in, else_table, else_root, named_known, named_low}
use Rattle.ft_trace.proofs.BoxValues.{box_name, box_there, value_stays}
use Rattle.ft_trace.proofs.LocalWords.{IsMaker, one_maker}
use Rattle.ft_trace.proofs.Unboxed.{named_row, by_tables}

-- ---- why a pass keeps a box

sum_some : (f : ℕ → ℕ) (n : ℕ) → sum_to f n ≢ 0 → (i : ℕ) × (i < n) × (f i ≢ 0)
sum_some f zero some_ = absurd (some_ refl)
sum_some f (suc n) some_ =
    dite (ℕ_discrete (f n) 0)
    (λ (e : f n ≡ 0). let r = sum_some f n (λ z. some_ (omega (arith, e, z))) in let l = r.1 in (r.0, omega (arith, l), r.2))
    (λ ne. (n, omega arith, ne))

by_lock : (x : Bool) (n : ℕ) → cond x n 0 ≢ 0 → (x ≡ true) × (n ≢ 0)
by_lock true n some_ = (refl, some_)
by_lock false n some_ = absurd (some_ refl)

pub kept_why : (k : Shape) (es : List Event) → Valid k es → (j : ℕ) (u : View) → get_elem? (run k es).views j ≡ some u → (b : ℕ) → times_kept k b u.log ≢ 0 → IsMaker b u ⊎ (references k b es ≢ 0)
kept_why k es valid j u there b some_ =
    dite (ℕ_discrete (made_state b u.log) 1) (λ (e : made_state b u.log ≡ 1). inl (inl e))
    (λ no1. dite (ℕ_discrete (made_state b u.log) 2) (λ (e : made_state b u.log ≡ 2). inl (inr e))
    (λ no2. inr (dite (ℕ_discrete (references_held k b u.log) 0)
    (λ (e : references_held k b u.log ≡ 0).
    let one : ℕ = cond (eqb (made_state b u.log) 1) 1 0 in
    let two : ℕ = cond (eqb (made_state b u.log) 2) 1 0 in
    let a : one ≡ 0 = miss (made_state b u.log) 1 1 0 no1 in
    let c : two ≡ 0 = miss (made_state b u.log) 2 1 0 no2 in
    let f : ℕ → ℕ = λ o. cond (has_lock o u.log) (named_in_container k b o (mem k u.log)) 0 in
    let s = sum_some f (container_count k) (λ z. some_ (omega (arith, e, a, c, z))) in
    let l = by_lock (has_lock s.0 u.log) (named_in_container k b s.0 (mem k u.log)) s.2 in
    let n = named_known k es valid j u there b s.0 s.1 l.0 in
    let m = named_low k b s.0 (run k es).words s.1 in
    let g = l.1 in
    λ z. g (omega (arith, n, m, z)))
    (λ ne. let t = total_at (references_held_by k b) (run k es).views j u there in λ z. ne (omega (arith, t, z))))))

-- a box that a container names whose lock the pass has
pub keep_named : (k : Shape) (b o : ℕ) (l : List Act) → o < container_count k → has_lock o l ≡ true → named_in_container k b o (mem k l) ≢ 0 → times_kept k b l ≢ 0
keep_named k b o l low mine some_ z =
    let f : ℕ → ℕ = λ p. cond (has_lock p l) (named_in_container k b p (mem k l)) 0 in
    let s = sum_at f (container_count k) o low in
    let e : f o ≡ named_in_container k b o (mem k l) = ap (λ (x : Bool). cond x (named_in_container k b o (mem k l)) 0) mine in
    some_ (omega (arith, s, e, z))

-- who is sure keeps
pub sure_keeps : (k : Shape) (b i : ℕ) (l : List Act) → knows_box_word k b i l ≡ true → times_kept k b l ≢ 0
sure_keeps k b i [] s z = off s
sure_keeps k b i (a ∷ l) s z = off (sym (here (times_kept k b (a ∷ l)) 0 false (knows_box_word_next b i a (knows_box_word k b i l)) z) ∙ s)

sure_before : (k : Shape) (b i : ℕ) (a : Act) (l : List Act) → knows_box_word k b i (a ∷ l) ≡ true → knows_box_word_next b i a (knows_box_word k b i l) ≡ true
sure_before k b i a l s = sym (miss (times_kept k b (a ∷ l)) 0 false (knows_box_word_next b i a (knows_box_word k b i l)) (sure_keeps k b i (a ∷ l) s)) ∙ s

pub sure_after : (k : Shape) (b i : ℕ) (a : Act) (l : List Act) → times_kept k b (a ∷ l) ≢ 0 → knows_box_word_next b i a (knows_box_word k b i l) ≡ true → knows_box_word k b i (a ∷ l) ≡ true
sure_after k b i a l some_ s = miss (times_kept k b (a ∷ l)) 0 false (knows_box_word_next b i a (knows_box_word k b i l)) some_ ∙ s

-- an action never takes that away by itself
pub sure_stays : (b i : ℕ) (a : Act) (x : Bool) → x ≡ true → knows_box_word_next b i a x ≡ true
sure_stays b i (PutBox c j y) x e = either_true (eqb c b) (eqb j i) x e
  where
    either_true : (p q x : Bool) → x ≡ true → cond p (cond q true x) x ≡ true
    either_true true true x e = refl
    either_true true false x e = e
    either_true false q x e = e
sure_stays b i (ReadBox c j y) x e = either_true (eqb c b) (eqb j i) x e
  where
    either_true : (p q x : Bool) → x ≡ true → cond p (cond q true x) x ≡ true
    either_true true true x e = refl
    either_true true false x e = e
    either_true false q x e = e
sure_stays b i (Lock o f s) x e = refl
sure_stays b i (TakeTable t f s) x e = refl
sure_stays b i act x e = e

-- ---- what it knows is so

abbrev pub BoxKnown : Shape → List Event → View → Type 0
BoxKnown k es u = (b i : ℕ) → IsBoxName k b → (i ≡ 1) ⊎ (i ≡ 2) → knows_box_word k b i u.log ≡ true → known_box_word k b i u.log ≡ word k es (box_word b i)

which_low : (i : ℕ) → (i ≡ 1) ⊎ (i ≡ 2) → (i < 4) × (i ≢ 0) × (i ≢ 3)
which_low i (inl e) = (omega (arith, e), (λ z. omega (arith, e, z)), (λ z. omega (arith, e, z)))
which_low i (inr e) = (omega (arith, e), (λ z. omega (arith, e, z)), (λ z. omega (arith, e, z)))

-- an action that doesn't put the word
module _ (k : Shape) (es : List Event) (id : ℕ) (v : View) (b i : ℕ) (is : IsBoxName k b) (low : i < 4) (not_shared : i ≢ 0) (not_local : i ≢ 3) where
  apart_from : (c n : ℕ) → n ≢ i → box_word c n ≡ box_word b i → ⊥
  apart_from c n ne e = ne (cc)

  word_stays : (a : Act) → ((n x : ℕ) → a ≡ PutBox b n x → n ≢ i) → May k (run k es) (history es) v a → word k (did id v a ∷ es) (box_word b i) ≡ word k es (box_word b i)
  word_stays (PutBox c n x) other may =
      stays k es id v (PutBox c n x) may (box_word b i) (is, low)
      (λ (e : box_word c n ≡ box_word b i). let same : c ≡ b = cc in other n x (ap (λ (z : ℕ). PutBox z n x) same) (cc))
  word_stays (PublishBox c) other may = stays k es id v (PublishBox c) may (box_word b i) (is, low) (apart_from c 0 (λ z. not_shared (sym z)))
  word_stays (RaiseLocal c x) other may = stays k es id v (RaiseLocal c x) may (box_word b i) (is, low) (apart_from c 3 (λ z. not_local (sym z)))
  word_stays (DropLocal c x) other may = stays k es id v (DropLocal c x) may (box_word b i) (is, low) (apart_from c 3 (λ z. not_local (sym z)))
  word_stays (ClearLocal c) other may = stays k es id v (ClearLocal c) may (box_word b i) (is, low) (apart_from c 3 (λ z. not_local (sym z)))
  word_stays (MergeCounts c d f) other may = stays k es id v (MergeCounts c d f) may (box_word b i) (is, low) (apart_from c 0 (λ z. not_shared (sym z)))
  word_stays (RaiseShared c old f) other may = stays k es id v (RaiseShared c old f) may (box_word b i) (is, low) (apart_from c 0 (λ z. not_shared (sym z)))
  word_stays (RaiseKept c f) other may = stays k es id v (RaiseKept c f) may (box_word b i) (is, low) (apart_from c 0 (λ z. not_shared (sym z)))
  word_stays (DropShared c f) other may = stays k es id v (DropShared c f) may (box_word b i) (is, low) (apart_from c 0 (λ z. not_shared (sym z)))
  word_stays (ReadBox c n f) other may = loaded k es id v (ReadBox c n f) (λ z. refl) (box_word b i)
  word_stays act other may = stays k es id v act may (box_word b i) (is, low) (λ e. absurd (cc))

-- its own action
own_known : (k : Shape) (es : List Event) (id : ℕ) (v : View) → BoxKnown k es v → (a : Act) → Valid k (did id v a ∷ es) → BoxKnown k (did id v a ∷ es) (view_after a v)
own_known k es id v old (Lock o f s) ok b i is which su =
    let w = which_low i which in
    ap (λ (z : Snap). slice_index z.words (at k (box_word b i))) ok.1.3.2 ∙ sym (stays k es id v (Lock o f s) ok.1.3 (box_word b i) (is, w.0) (λ e. absurd (cc)))
own_known k es id v old (TakeTable t f s) ok b i is which su =
    let w = which_low i which in
    ap (λ (z : Snap). slice_index z.words (at k (box_word b i))) ok.1.3.2 ∙ sym (stays k es id v (TakeTable t f s) ok.1.3 (box_word b i) (is, w.0) (λ e. absurd (cc)))
own_known k es id v old (PutBox c j x) ok b i is which su =
    let w = which_low i which in
    let n : ℕ = known_box_word k b i v.log in
    let was = sure_before k b i (PutBox c j x) v.log su in
    dite (ℕ_discrete c b)
    (λ (e : c ≡ b).
    dite (ℕ_discrete j i)
    (λ (f : j ≡ i).
    let m : word k (did id v (PutBox c j x) ∷ es) (box_word c j) ≡ x = moves k es id v (PutBox c j x) ok.1.3 in
    let p : box_word c j ≡ box_word b i = λ d. box_word (e d) (f d) in
    here c b (cond (eqb j i) x n) n e ∙ (here j i x n f ∙ (sym m ∙ ap (word k (did id v (PutBox c j x) ∷ es)) p)))
    (λ ne.
    let s : knows_box_word k b i v.log ≡ true = sym (here c b (cond (eqb j i) true (knows_box_word k b i v.log)) (knows_box_word k b i v.log) e ∙ miss j i true (knows_box_word k b i v.log) ne) ∙ was in
    here c b (cond (eqb j i) x n) n e ∙ (miss j i x n ne ∙ (old b i is which s ∙ sym (stays k es id v (PutBox c j x) ok.1.3 (box_word b i) (is, w.0) (λ (z : box_word c j ≡ box_word b i). ne (cc)))))))
    (λ ne.
    let s : knows_box_word k b i v.log ≡ true = sym (miss c b (cond (eqb j i) true (knows_box_word k b i v.log)) (knows_box_word k b i v.log) ne) ∙ was in
    miss c b (cond (eqb j i) x n) n ne ∙ (old b i is which s ∙ sym (stays k es id v (PutBox c j x) ok.1.3 (box_word b i) (is, w.0) (λ (z : box_word c j ≡ box_word b i). ne (cc)))))
own_known k es id v old (ReadBox c j f) ok b i is which su =
    let n : ℕ = known_box_word k b i v.log in
    let was = sure_before k b i (ReadBox c j f) v.log su in
    let same : word k (did id v (ReadBox c j f) ∷ es) (box_word b i) ≡ word k es (box_word b i) = loaded k es id v (ReadBox c j f) (λ z. refl) (box_word b i) in
    dite (ℕ_discrete c b)
    (λ (e : c ≡ b).
    dite (ℕ_discrete j i)
    (λ (g : j ≡ i).
    let p : box_word c j ≡ box_word b i = λ d. box_word (e d) (g d) in
    let found : f ≡ word k es (box_word c j) = ok.1.2 in
    here c b (cond (eqb j i) f n) n e ∙ (here j i f n g ∙ (found ∙ (ap (word k es) p ∙ sym same))))
    (λ ne.
    let s : knows_box_word k b i v.log ≡ true = sym (here c b (cond (eqb j i) true (knows_box_word k b i v.log)) (knows_box_word k b i v.log) e ∙ miss j i true (knows_box_word k b i v.log) ne) ∙ was in
    here c b (cond (eqb j i) f n) n e ∙ (miss j i f n ne ∙ (old b i is which s ∙ sym same))))
    (λ ne.
    let s : knows_box_word k b i v.log ≡ true = sym (miss c b (cond (eqb j i) true (knows_box_word k b i v.log)) (knows_box_word k b i v.log) ne) ∙ was in
    miss c b (cond (eqb j i) f n) n ne ∙ (old b i is which s ∙ sym same))
own_known k es id v old act ok b i is which su =
    let w = which_low i which in
    old b i is which (sure_before k b i act v.log su) ∙ sym (word_stays k es id v b i is w.0 w.1 w.2 act (λ n x e. absurd (cc)) ok.1.3)

-- another's action
other_known : (k : Shape) (es : List Event) (id : ℕ) (v : View) (a : Act) → Valid k (did id v a ∷ es) → (j : ℕ) (u : View) → j ≢ id → get_elem? (run k es).views j ≡ some u → BoxKnown k es u → BoxKnown k (did id v a ∷ es) u
other_known k es id v a ok j u ne there old b i is which su =
    let w = which_low i which in
    old b i is which su
    ∙ sym (⊎_elim
    (λ (m : IsMaker b u). word_stays k es id v b i is w.0 w.1 w.2 a (λ n x e. absurd (one_maker k b es ok.0 j id u v ne there ok.1.0 m (putting n x e))) ok.1.3)
    (λ (r : references k b es ≢ 0). value_stays k es id v b i ok.0 ok.1.0 r w.0 w.1 w.2 a ok.1.3)
    (kept_why k es ok.0 j u there b (sure_keeps k b i u.log su)))
  where
    putting : (n x : ℕ) → a ≡ PutBox b n x → IsMaker b v
    putting n x e = inl (subst (λ (c : Act). May k (run k es) (history es) v c) e ok.1.3).2

nothing_sure : (k : Shape) (es : List Event) (u : View) → u.log ≡ [] → BoxKnown k es u
nothing_sure k es u e b i is which su = off (sym (ap (knows_box_word k b i) e) ∙ su)

-- a pass knows the values in the boxes that it keeps and is sure of
pub box_known : (k : Shape) (es : List Event) → Valid k es → (j : ℕ) (u : View) → get_elem? (run k es).views j ≡ some u → BoxKnown k es u
box_known k [] valid = one_view (λ j u. BoxKnown k [] u) (starter k) (nothing_sure k [] (starter k) refl)
box_known k (did id v a ∷ es) valid =
    let old = box_known k es valid.0 in
    set_views (λ j u. BoxKnown k (did id v a ∷ es) u) _ id (view_after a v) (own_known k es id v (old id v valid.1.0) a valid) (λ j u ne e. other_known k es id v a valid j u ne e (old j u e))
box_known k (forked id v ∷ es) valid =
    let old = box_known k es valid.0 in
    one_more (λ j u. BoxKnown k (forked id v ∷ es) u) _ (made v) (nothing_sure k (forked id v ∷ es) (made v) refl) (set_views (λ j u. BoxKnown k (forked id v ∷ es) u) _ id (maker v) (old id v valid.1.0) (λ j u _ e. old j u e))
box_known k (sent id v given ∷ es) valid =
    let old = box_known k es valid.0 in
    one_more (λ j u. BoxKnown k (sent id v given ∷ es) u) _ (note given v) (nothing_sure k (sent id v given ∷ es) (note given v) refl) (set_views (λ j u. BoxKnown k (sent id v given ∷ es) u) _ id (sender given v) (old id v valid.1.0) (λ j u _ e. old j u e))
box_known k (joined id v other w ∷ es) valid =
    let old = box_known k es valid.0 in
    set_views (λ j u. BoxKnown k (joined id v other w ∷ es) u) _ other spent (nothing_sure k (joined id v other w ∷ es) spent refl)
    (λ j u _. set_views (λ j u. BoxKnown k (joined id v other w ∷ es) u) _ id (both v w) (λ b i is which su. old id v valid.1.0 b i is which (sure_before k b i (TookOver (hands_over w.log) (had_locks w.number w.log) (found_owners w.log) (tells w)) v.log su)) (λ i2 y _ e. old i2 y e) j u)

-- ---- boxes that a locked container names

abbrev pub NamedSure : Shape → List Act → Type 0
NamedSure k l = (b o : ℕ) → o < container_count k → has_lock o l ≡ true → named_in_container k b o (mem k l) ≢ 0 → (knows_box_word k b 1 l ≡ true) × (knows_box_word k b 2 l ≡ true)

-- of what was sure before
carry : (k : Shape) (b : ℕ) (a : Act) (l : List Act) → times_kept k b (a ∷ l) ≢ 0 → (knows_box_word k b 1 l ≡ true) × (knows_box_word k b 2 l ≡ true) → (knows_box_word k b 1 (a ∷ l) ≡ true) × (knows_box_word k b 2 (a ∷ l) ≡ true)
carry k b a l some_ s = (sure_after k b 1 a l some_ (sure_stays b 1 a (knows_box_word k b 1 l) s.0), sure_after k b 2 a l some_ (sure_stays b 2 a (knows_box_word k b 2 l) s.1))

module _ (k : Shape) (es : List Event) (id : ℕ) (v : View) (old : NamedSure k v.log) where
  abbrev Sure' : Act → Type 0
  Sure' a = Valid k (did id v a ∷ es) → NamedSure k (a ∷ v.log)

  -- an action that is no put of a naming word and takes no lock
  by_same : (a : Act) → (IsPut a → ⊥) → ((o : ℕ) → has_lock o (a ∷ v.log) ≡ true → has_lock o v.log ≡ true) → Sure' a
  by_same a unput before ok b o low mine some_ =
      let had = before o mine in
      let there = set_at (run k es).views id v (view_after a v) ok.1.0 in
      let now = named_known k (did id v a ∷ es) ok id (view_after a v) there b o low mine in
      let then_ = named_known k es ok.0 id v ok.1.0 b o low had in
      let same = unnamed_in k es id v ok.0 ok.1.0 b a unput ok.1.3 o low in
      carry k b a v.log (keep_named k b o (a ∷ v.log) low mine some_) (old b o low had (λ z. some_ (now ∙ (same ∙ (sym then_ ∙ z)))))

  by_lock_of : (a : Act) → knows_box_word_next 0 0 a false ≡ true → ((b i : ℕ) (x : Bool) → knows_box_word_next b i a x ≡ true) → Sure' a
  by_lock_of a _ all ok b o low mine some_ =
      let kept_it = keep_named k b o (a ∷ v.log) low mine some_ in
      (sure_after k b 1 a v.log kept_it (all b 1 (knows_box_word k b 1 v.log)), sure_after k b 2 a v.log kept_it (all b 2 (knows_box_word k b 2 v.log)))

  unlock_before : (p o : ℕ) → has_lock o (Unlock p ∷ v.log) ≡ true → has_lock o v.log ≡ true
  unlock_before p o mine = same_or (λ (z : ℕ). cond (eqb z o) false (has_lock o v.log) ≡ true → has_lock o v.log ≡ true) p o (λ e. off (sym (hit o false (has_lock o v.log)) ∙ e)) (λ ne e. sym (miss p o false (has_lock o v.log) ne) ∙ e) mine

  named_sure_next : (a : Act) → Sure' a
  named_sure_next (Lock p f s) = by_lock_of (Lock p f s) refl (λ b i x. refl)
  named_sure_next (TakeTable t f s) = by_lock_of (TakeTable t f s) refl (λ b i x. refl)
  named_sure_next (Unlock p) = by_same (Unlock p) (λ z. z) (unlock_before p)
  named_sure_next (PutTable p t j x) = λ ok b o low mine some_.
      let a : Act = PutTable p t j x in
      let kept_it = keep_named k b o (a ∷ v.log) low mine some_ in
      dite (ℕ_discrete (named_in_container k b o (mem k v.log)) 0)
      (λ (z : named_in_container k b o (mem k v.log) ≡ 0).
      dite (ℕ_discrete o p)
      (λ (e : o ≡ p). carry k b a v.log kept_it ((ok.1.3.7 b).2 (ap (λ (y : ℕ). named_in_container k b y (mem k v.log)) (sym e) ∙ z) (λ n. some_ (ap (λ (y : ℕ). named_in_container k b y (mem k (a ∷ v.log))) e ∙ n))))
      (λ ne.
      let there = set_at (run k es).views id v (view_after a v) ok.1.0 in
      let now = named_known k (did id v a ∷ es) ok id (view_after a v) there b o low mine in
      let then_ = named_known k es ok.0 id v ok.1.0 b o low mine in
      let same = else_table k es id v ok.0 ok.1.0 b p t j x ok.1.3 o low ne in
      absurd (some_ (now ∙ (same ∙ (sym then_ ∙ z))))))
      (λ ne. carry k b a v.log kept_it (old b o low mine ne))
  named_sure_next (PutRoot p r was) = λ ok b o low mine some_.
      let a : Act = PutRoot p r was in
      let kept_it = keep_named k b o (a ∷ v.log) low mine some_ in
      dite (ℕ_discrete (named_in_container k b o (mem k v.log)) 0)
      (λ (z : named_in_container k b o (mem k v.log) ≡ 0).
      dite (ℕ_discrete o p)
      (λ (e : o ≡ p). carry k b a v.log kept_it ((ok.1.3.8 b).2 (ap (λ (y : ℕ). named_in_container k b y (mem k v.log)) (sym e) ∙ z) (λ n. some_ (ap (λ (y : ℕ). named_in_container k b y (mem k (a ∷ v.log))) e ∙ n))))
      (λ ne.
      let there = set_at (run k es).views id v (view_after a v) ok.1.0 in
      let now = named_known k (did id v a ∷ es) ok id (view_after a v) there b o low mine in
      let then_ = named_known k es ok.0 id v ok.1.0 b o low mine in
      let same = else_root k es id v ok.0 ok.1.0 b p r was ok.1.3 o low ne in
      absurd (some_ (now ∙ (same ∙ (sym then_ ∙ z))))))
      (λ ne. carry k b a v.log kept_it (old b o low mine ne))
  named_sure_next act = by_same act (λ z. z) (λ o mine. mine)

none_named : (k : Shape) (u : View) → u.log ≡ [] → NamedSure k u.log
none_named k u e b o low mine some_ = off (sym (ap (has_lock o) e) ∙ mine)

pub named_sure : (k : Shape) (es : List Event) → Valid k es → (j : ℕ) (u : View) → get_elem? (run k es).views j ≡ some u → NamedSure k u.log
named_sure k [] valid = one_view (λ j u. NamedSure k u.log) (starter k) (none_named k (starter k) refl)
named_sure k (did id v a ∷ es) valid =
    let old = named_sure k es valid.0 in
    set_views (λ j u. NamedSure k u.log) _ id (view_after a v) (named_sure_next k es id v (old id v valid.1.0) a valid) (λ j u _ e. old j u e)
named_sure k (forked id v ∷ es) valid =
    let old = named_sure k es valid.0 in
    one_more (λ j u. NamedSure k u.log) _ (made v) (none_named k (made v) refl) (set_views (λ j u. NamedSure k u.log) _ id (maker v) (old id v valid.1.0) (λ j u _ e. old j u e))
named_sure k (sent id v given ∷ es) valid =
    let old = named_sure k es valid.0 in
    one_more (λ j u. NamedSure k u.log) _ (note given v) (none_named k (note given v) refl) (set_views (λ j u. NamedSure k u.log) _ id (sender given v) (old id v valid.1.0) (λ j u _ e. old j u e))
named_sure k (joined id v other w ∷ es) valid =
    let old = named_sure k es valid.0 in
    set_views (λ j u. NamedSure k u.log) _ other spent (none_named k spent refl)
    (λ j u _. set_views (λ j u. NamedSure k u.log) _ id (both v w)
    (λ b o low mine some_. carry k b (TookOver (hands_over w.log) (had_locks w.number w.log) (found_owners w.log) (tells w)) v.log (keep_named k b o (both v w).log low mine some_) (old id v valid.1.0 b o low mine some_))
    (λ i2 y _ e. old i2 y e) j u)

-- ---- what a locked container reads, as its holder knows it

pub holder_reads : (k : Shape) (es : List Event) → Valid k es → (j : ℕ) (u : View) → get_elem? (run k es).views j ≡ some u → (o : ℕ) → o < container_count k → has_lock o u.log ≡ true → unboxed (λ b i. known_box_word k b i u.log) (kind_in k.starts o) (picture k o (mem k u.log)) ≡ unboxed_picture k o (run k es).words
holder_reads k es valid j u there o low mine =
    let ws : List ℕ = mem k u.log in
    let kd : Kind = kind_in k.starts o in
    let im = imaged k es valid j u there in
    let x : ContainerWords = picture k o ws in
    let box : ℕ → ℕ → ℕ = λ b i. known_box_word k b i u.log in
    let same : picture k o ws ≡ picture k o (run k es).words =
    picture_same k o ws (run k es).words (λ i small. im.words (block o i) (low, small) mine)
    (λ t names_it. table_same k t ws (run k es).words (λ i small. im.words (cell t i) (root_table k es valid o low t names_it, small) (inr (o, low, mine, names_it)))) in
    let root_is : root_in x ≡ root_of k o ws = block_at k o ws 0 (omega arith) in
    let step : unboxed_table box kd (root_in x) x.table ≡ unboxed_table (box_word_in k (run k es).words) kd (root_in x) x.table =
    by_tables kd box (box_word_in k (run k es).words) (root_in x) x.table
    (λ t p i names_it less four which.
    let b : ℕ = slice_index x.table (suc (value_at kd (class_of t) p)) in
    let one = named_row b kd (class_of t) x.table p four refl in
    let s = sum_at (names_box_at b kd (class_of t) x.table) (rows kd (class_of t)) p less in
    let r : named_in_container k b o ws ≡ named_in_root b kd (suc t) x.table = ap (λ (z : ℕ). named_in_root b kd z x.table) (sym root_is ∙ names_it) in
    let some_ : named_in_container k b o ws ≢ 0 = λ z. omega (arith, one, s, r, z) in
    let n = named_known k es valid j u there b o low mine in
    let m = named_low k b o (run k es).words low in
    let refs_some : references k b es ≢ 0 = λ z. some_ (omega (arith, n, m, z)) in
    let up = box_there k b es valid refs_some in
    let is = box_name k b es valid (λ z. absurd (omega (arith, up, z))) in
    let su = named_sure k es valid j u there b o low mine some_ in
    box_known k es valid j u there b i is which (of_which b i which su)) in
    (λ d. record { block = x.block; table = step d }) ∙ ap (unboxed (box_word_in k (run k es).words) kd) same
  where
    of_which : (b i : ℕ) → (i ≡ 1) ⊎ (i ≡ 2) → (knows_box_word k b 1 u.log ≡ true) × (knows_box_word k b 2 u.log ≡ true) → knows_box_word k b i u.log ≡ true
    of_which b i (inl e) s = ap (λ (z : ℕ). knows_box_word k b z u.log) e ∙ s.0
    of_which b i (inr e) s = ap (λ (z : ℕ). knows_box_word k b z u.log) e ∙ s.1
