-- What holds of each box, at every moment.
use Rattle.std.proofs.Common.{◌≡◌, ◌≢◌, ◌⊎◌, ℕ, zero, suc, ◌+◌, ◌-◌, ◌*◌, ◌/◌, ◌%◌, ◌^◌, ◌<◌, ◌≤◌, eqb, cond, List, [], ◌∷◌, refl, sym, ap, ◌∙◌, subst, inl, inr, ⊎_elim, arith}
use mathlib.Core.Option.{some}
use mathlib.Core.Logic.{dite}
use native.Mathlib.Decide.{ℕ_discrete}
use lib.ListN.{get_elem?}
use Rattle.ft_trace.specs.declared.Shape.{Shape}
use Rattle.ft_trace.specs.declared.View.{View}
use Rattle.ft_trace.specs.declared.Act.{Act}
use Rattle.ft_trace.specs.declared.Act.TheVariants.{PutRoot, PutTable, TakePlace, PutBox, PublishBox, RaiseLocal, DropLocal, ClearLocal, MergeCounts, RaiseShared, RaiseKept, DropShared, GivePlace}
use Rattle.ft_trace.specs.Bits.{bit}
use Rattle.ft_trace.specs.Addresses.{heap_bits, box_word, maker_of, place_word_of, place_bit_of, IsBoxName, at, container_count}
use Rattle.ft_trace.specs.Acts.{place, mem, view_after, maker, made, both, spent, sender, note}
use Rattle.ft_trace.specs.Entries.{total}
use Rattle.ft_trace.specs.Pictures.{root_of, inner}
use Rattle.ft_trace.specs.ContainerStates.{kind_in}
use Rattle.std.specs.Prelude.{slice_index}
use Rattle.ft_trace.specs.Boxes.{named_in_root, named_in_container, named_in_all, made_state, local_count, taken_out, place_to_give, references_held, KeepsBox, IsDoneWithBoxes, HasMergedBoxes}
use Rattle.ft_trace.specs.BoxTraces.{box_state, shared_count, making_box, has_in_default, maker_part, references_held_by, place_to_give_by, references, IsSharedWord, place_bit, BoxInvariant}
use Rattle.ft_trace.specs.Traces.{Event, did, forked, joined, sent, run, word, history, May, Valid}
use Rattle.ft_trace.proofs.Addresses.{place_first, box_first, block_first, place_bit_low}
use Rattle.ft_trace.proofs.Bits.{off_same, on_same, bit_small}
use Rattle.ft_trace.proofs.Cases.{hit, miss, here}
use Rattle.ft_trace.proofs.OneWord.{stays, moves}
use Rattle.ft_trace.proofs.Sizes.{sized, set_at}
use Rattle.ft_trace.proofs.Seats.{seated}
use Rattle.ft_trace.proofs.OddVersions.{writer_has}
use Rattle.ft_trace.proofs.Totals.{total_set, total_forked, total_joined}
use Rattle.ft_trace.proofs.Sums.{sum_none, total_at, total_gone}
use Rattle.ft_trace.proofs.NamedBoxes.{IsPut, unnamed, renamed_table, renamed_root, named_known, named_low}
use Rattle.ft_trace.proofs.BoxActs.{CalmBox, on_box}
use Rattle.ft_trace.proofs.BoxBounds.{refs_few, kept_few}
use Rattle.ft_trace.proofs.BoxCounts.{recount, took, opened_box, local_moved, shared_up, shared_down, merged_box, due_is, gave, referred, up_four, down_four, up_plain, down_plain, up_merge, three_is, is_three, not_three}

same_shared : (p q S T w x : ℕ) → p ≡ q → S ≡ T → w ≡ x → IsSharedWord p S w → IsSharedWord q T x
same_shared p q S T w x ep eS ew s =
    let s1 = subst (λ (z : ℕ). IsSharedWord z S w) ep s in
    let s2 = subst (λ (z : ℕ). IsSharedWord q z w) eS s1 in
    subst (λ (z : ℕ). IsSharedWord q T z) ew s2

module _ (k : Shape) (es : List Event) (id : ℕ) (v : View) (b : ℕ) where
  abbrev P : ℕ
  P = box_state b es

  abbrev S : ℕ
  S = shared_count b es

  abbrev M : ℕ
  M = total (making_box b) (run k es).views

  abbrev F : ℕ
  F = total (has_in_default b) (run k es).views

  abbrev K : ℕ
  K = total (maker_part b) (run k es).views

  abbrev R : ℕ
  R = references k b es

  abbrev D : ℕ
  D = total (place_to_give_by b) (run k es).views

  abbrev Next : Act → List Event
  Next a = did id v a ∷ es

  abbrev M' : Act → ℕ
  M' a = total (making_box b) (run k (Next a)).views

  abbrev F' : Act → ℕ
  F' a = total (has_in_default b) (run k (Next a)).views

  abbrev K' : Act → ℕ
  K' a = total (maker_part b) (run k (Next a)).views

  abbrev D' : Act → ℕ
  D' a = total (place_to_give_by b) (run k (Next a)).views

  abbrev Ok : Act → Type 0
  Ok a = Valid k (did id v a ∷ es)

  abbrev Step : Act → Type 0
  Step a = Ok a → BoxInvariant k b es → BoxInvariant k b (Next a)

  after : (f : View → ℕ) (a : Act) → Ok a → total f (run k (Next a)).views + f v ≡ total f (run k es).views + f (view_after a v)
  after f a ok = total_set f (run k es).views id v (view_after a v) ok.1.0

  keep : (f : View → ℕ) (a : Act) → Ok a → f (view_after a v) ≡ f v → total f (run k es).views ≡ total f (run k (Next a)).views
  keep f a ok e = let t = after f a ok in omega (arith, t, e)

  -- references, where words name the same
  refs_by : (a : Act) → Ok a → (IsPut a → ⊥) → references k b (Next a) + references_held k b v.log ≡ R + references_held k b (a ∷ v.log)
  refs_by a ok unput = let t = after (references_held_by k b) a ok in let n = unnamed k es id v ok.0 ok.1.0 b a unput ok.1.3 in omega (arith, t, n)

  -- where nothing changes of what is said of the box
  by_same : (a : Act) → Ok a → BoxInvariant k b es → made_state b (a ∷ v.log) ≡ made_state b v.log → maker_part b (view_after a v) ≡ maker_part b v → place_to_give b (a ∷ v.log) ≡ place_to_give b v.log → box_state b (Next a) ≡ P → shared_count b (Next a) ≡ S → references k b (Next a) ≡ R → (IsBoxName k b → word k (Next a) (box_word b 0) ≡ word k es (box_word b 0)) → (IsBoxName k b → place_bit k b (Next a) ≡ place_bit k b es) → BoxInvariant k b (Next a)
  by_same a ok old o ke d p s r w bt = record {
    counts = recount P (box_state b (Next a)) S (shared_count b (Next a)) M (M' a) F (F' a) K (K' a) R (references k b (Next a)) D (D' a) (sym p) (sym s)
        (keep (making_box b) a ok (ap (λ (n : ℕ). cond (eqb n 1) 1 0) o)) (keep (has_in_default b) a ok (ap (λ (n : ℕ). cond (eqb n 2) 1 0) o)) (keep (maker_part b) a ok ke) (sym r) (keep (place_to_give_by b) a ok d) old.counts;
    word = λ is. same_shared P (box_state b (Next a)) S (shared_count b (Next a)) (word k es (box_word b 0)) (word k (Next a) (box_word b 0)) (sym p) (sym s) (sym (w is)) (old.word is);
    free = λ is z. bt is ∙ old.free is (sym p ∙ z);
    taken = λ is ne. bt is ∙ old.taken is (λ z. ne (p ∙ z));
  }

  by_calm : (a : Act) → (May k (run k es) (history es) v a → CalmBox k es id v b a) → Step a
  by_calm a calm ok old =
      let c = calm ok.1.3 in
      let o : made_state b (a ∷ v.log) ≡ made_state b v.log = c.own_is (made_state b v.log) in
      let l : local_count b (a ∷ v.log) ≡ local_count b v.log = c.local_is (local_count b v.log) in
      let t : taken_out b (a ∷ v.log) ≡ taken_out b v.log = c.taken_is (local_count b v.log) (taken_out b v.log) in
      let h : references_held k b (a ∷ v.log) ≡ references_held k b v.log = c.held_is (mem k v.log) (mem k (a ∷ v.log)) (references_held k b v.log) in
      let r = refs_by a ok c.no_put in
      by_same a ok old o (λ d. cond (eqb (o d) 2) (l d + t d) 0) (c.due_is (place_to_give b v.log)) (c.phase_is P) (c.shared_is S) (omega (arith, r, h)) c.word_is c.bit_is

  -- ---- what is known of the box by who acts on it
  made_one : made_state b v.log ≡ 1 → making_box b v ≡ 1
  made_one e = here (made_state b v.log) 1 1 0 e

  is_making : (a : Act) → Ok a → BoxInvariant k b es → made_state b v.log ≡ 1 → P ≡ 1
  is_making a ok old e =
      let m = made_one e in
      let t = total_at (making_box b) (run k es).views id v ok.1.0 in
      dite (ℕ_discrete P 1) (λ (z : P ≡ 1). z) (λ ne. let n = old.counts.unmade ne in absurd (omega (arith, m, t, n)))

  is_default : (a : Act) → Ok a → BoxInvariant k b es → made_state b v.log ≡ 2 → P ≡ 2
  is_default a ok old e =
      let m : has_in_default b v ≡ 1 = here (made_state b v.log) 2 1 0 e in
      let t = total_at (has_in_default b) (run k es).views id v ok.1.0 in
      dite (ℕ_discrete P 2) (λ (z : P ≡ 2). z) (λ ne. let n = old.counts.other ne in absurd (omega (arith, m, t, n)))

  refs_some : (a : Act) → Ok a → 0 < references_held k b v.log → R ≢ 0
  refs_some a ok some_ z = let t = total_at (references_held_by k b) (run k es).views id v ok.1.0 in omega (arith, t, some_, z)

  kept_some : (a : Act) → Ok a → KeepsBox k b v.log → R ≢ 0
  kept_some a ok (inl some_) z = refs_some a ok some_ z
  kept_some a ok (inr h) z =
      let n = named_known k es ok.0 id v ok.1.0 b h.0 h.1 h.2 in
      let l = named_low k b h.0 (run k es).words h.1 in
      let m = h.3 in
      omega (arith, n, l, m, z)

  -- the shared count is in range
  ranged : Valid k es → BoxInvariant k b es → 2 ≤ P → (2 ^ 60 ≤ S) × (S < 2 ^ 61 + 2 ^ 40)
  ranged valid old up =
      let bal = old.counts.balance up in
      let few = refs_few k es valid b in
      let low = kept_few k es valid b in
      let f : F ≤ 1 = dite (ℕ_discrete P 2) (λ (z : P ≡ 2). let x = old.counts.default z in omega (arith, x)) (λ ne. let x = old.counts.other ne in omega (arith, x)) in
      let kk : K ≤ 2 ^ 60 = omega (arith, low, f) in
      (omega (arith, bal, kk), omega (arith, bal, few))

  word_at : (a : Act) → Ok a → place a ≡ box_word b 0 → word k es (place a) ≡ word k es (box_word b 0)
  word_at a ok e = ap (word k es) e

  -- ---- one action at a time
  by_take : (f : ℕ) → Step (TakePlace b f)
  by_take f ok old =
      let a : Act = TakePlace b f in
      let may = ok.1.3 in
      let is = may.0 in
      let found : bit (place_bit_of b) f ≡ place_bit k b es = ap (bit (place_bit_of b)) ok.1.2 in
      let now : place_bit k b (Next a) ≡ 0 = ap (bit (place_bit_of b)) (moves k es id v a may) ∙ off_same (place_bit_of b) (word k es (heap_bits (maker_of b) (place_word_of b))) (place_bit_low b) in
      let w : word k (Next a) (box_word b 0) ≡ word k es (box_word b 0) = stays k es id v a may (box_word b 0) (is, omega arith) (λ e. absurd (cc)) in
      dite (ℕ_discrete (bit (place_bit_of b) f) 1)
      (λ (one : bit (place_bit_of b) f ≡ 1).
      let p0 : P ≡ 0 = dite (ℕ_discrete P 0) (λ (z : P ≡ 0). z) (λ ne. let t = old.taken is ne in absurd (omega (arith, t, found, one))) in
      let o : made_state b (a ∷ v.log) ≡ 1 = hit b (cond (eqb (bit (place_bit_of b) f) 1) 1 (made_state b v.log)) (made_state b v.log) ∙ here (bit (place_bit_of b) f) 1 1 (made_state b v.log) one in
      let p : box_state b (Next a) ≡ 1 = hit b (cond (eqb (bit (place_bit_of b) f) 1) 1 P) P ∙ here (bit (place_bit_of b) f) 1 1 P one in
      let m : making_box b v ≡ 0 = miss (made_state b v.log) 1 1 0 may.2 in
      let m' : making_box b (view_after a v) ≡ 1 = here (made_state b (a ∷ v.log)) 1 1 0 o in
      let tm = after (making_box b) a ok in
      let not2 : made_state b (a ∷ v.log) ≢ 2 = λ z. absurd (omega (arith, z, o)) in
      let fe : has_in_default b (view_after a v) ≡ has_in_default b v = miss (made_state b (a ∷ v.log)) 2 1 0 not2 ∙ sym (miss (made_state b v.log) 2 1 0 may.3) in
      let ke : maker_part b (view_after a v) ≡ maker_part b v = miss (made_state b (a ∷ v.log)) 2 (local_count b (a ∷ v.log) + taken_out b (a ∷ v.log)) 0 not2 ∙ sym (miss (made_state b v.log) 2 (local_count b v.log + taken_out b v.log) 0 may.3) in
      let r = refs_by a ok (λ e. e) in
      let c = took P S M F K R D old.counts (M' a) p0 (omega (arith, tm, m, m')) in
      record {
        counts = recount 1 (box_state b (Next a)) S (shared_count b (Next a)) (M' a) (M' a) F (F' a) K (K' a) R (references k b (Next a)) D (D' a) (sym p) refl refl (keep (has_in_default b) a ok fe) (keep (maker_part b) a ok ke) (omega (arith, r)) (keep (place_to_give_by b) a ok refl) c;
        word = λ _. record { none = λ _. w ∙ (old.word is).none (omega (arith, p0)); default = λ z. absurd (omega (arith, z, p)); merged = λ z. absurd (omega (arith, z, p)) };
        free = λ _ z. absurd (omega (arith, z, p));
        taken = λ _ _. now;
      })
      (λ no.
      let o : made_state b (a ∷ v.log) ≡ made_state b v.log = hit b (cond (eqb (bit (place_bit_of b) f) 1) 1 (made_state b v.log)) (made_state b v.log) ∙ miss (bit (place_bit_of b) f) 1 1 (made_state b v.log) no in
      let p : box_state b (Next a) ≡ P = hit b (cond (eqb (bit (place_bit_of b) f) 1) 1 P) P ∙ miss (bit (place_bit_of b) f) 1 1 P no in
      let small = bit_small (place_bit_of b) f in
      let r = refs_by a ok (λ e. e) in
      let l : local_count b (a ∷ v.log) ≡ local_count b v.log = hit b (cond (eqb (bit (place_bit_of b) f) 1) (2 ^ 64) (local_count b v.log)) (local_count b v.log) ∙ miss (bit (place_bit_of b) f) 1 (2 ^ 64) (local_count b v.log) no in
      by_same a ok old o (λ d. cond (eqb (o d) 2) (l d + taken_out b v.log) 0) refl p refl (omega (arith, r)) (λ _. w) (λ _. omega (arith, now, found, small, no)))

  by_fill : (i x : ℕ) → Step (PutBox b i x)
  by_fill i x ok old =
      let a : Act = PutBox b i x in
      let may = ok.1.3 in
      let ne : made_state b v.log ≢ 2 = λ z. let y = may.2 in absurd (omega (arith, z, y)) in
      let r = refs_by a ok (λ e. e) in
      by_same a ok old refl (miss (made_state b v.log) 2 (local_count b (a ∷ v.log) + taken_out b v.log) 0 ne ∙ sym (miss (made_state b v.log) 2 (local_count b v.log + taken_out b v.log) 0 ne)) refl refl refl (omega (arith, r))
      (λ is. stays k es id v a may (box_word b 0) (is, omega arith) (λ (e : box_word b i ≡ box_word b 0). may.3 (cc)))
      (λ is. ap (bit (place_bit_of b)) (stays k es id v a may (heap_bits (maker_of b) (place_word_of b)) (is.0, is.2) (λ e. absurd (cc))))

  bit_calm : (a : Act) → Ok a → IsBoxName k b → place a ≡ box_word b 0 ⊎ place a ≡ box_word b 3 → place_bit k b (Next a) ≡ place_bit k b es
  bit_calm a ok is e =
      ap (bit (place_bit_of b)) (stays k es id v a ok.1.3 (heap_bits (maker_of b) (place_word_of b)) (is.0, is.2)
      (λ h. ⊎_elim (λ (x : place a ≡ box_word b 0). let y : box_word b 0 ≡ heap_bits (maker_of b) (place_word_of b) = sym x ∙ h in absurd (cc)) (λ (x : place a ≡ box_word b 3). let y : box_word b 3 ≡ heap_bits (maker_of b) (place_word_of b) = sym x ∙ h in absurd (cc)) e))

  by_open : Step (PublishBox b)
  by_open ok old =
      let a : Act = PublishBox b in
      let may = ok.1.3 in
      let is = may.0 in
      let p1 = is_making a ok old may.1 in
      let o : made_state b (a ∷ v.log) ≡ 2 = hit b 2 (made_state b v.log) in
      let p : box_state b (Next a) ≡ 2 = hit b 2 P in
      let s : shared_count b (Next a) ≡ 2 ^ 61 = hit b (2 ^ 61) S in
      let t0 : taken_out b (a ∷ v.log) ≡ 0 = hit b 0 (taken_out b v.log) in
      let h : references_held k b (a ∷ v.log) ≡ references_held k b v.log + 1 = hit b (references_held k b v.log + 1) (references_held k b v.log) in
      let m = made_one may.1 in
      let m' : making_box b (view_after a v) ≡ 0 = miss (made_state b (a ∷ v.log)) 1 1 0 (λ z. absurd (omega (arith, z, o))) in
      let f : has_in_default b v ≡ 0 = miss (made_state b v.log) 2 1 0 (λ z. let y = may.1 in absurd (omega (arith, z, y))) in
      let f' : has_in_default b (view_after a v) ≡ 1 = here (made_state b (a ∷ v.log)) 2 1 0 o in
      let ke : maker_part b v ≡ 0 = miss (made_state b v.log) 2 (local_count b v.log + taken_out b v.log) 0 (λ z. let y = may.1 in absurd (omega (arith, z, y))) in
      let ke' : maker_part b (view_after a v) ≡ local_count b v.log + taken_out b (a ∷ v.log) = here (made_state b (a ∷ v.log)) 2 (local_count b v.log + taken_out b (a ∷ v.log)) 0 o in
      let one = may.2 in
      let tm = after (making_box b) a ok in
      let tf = after (has_in_default b) a ok in
      let tk = after (maker_part b) a ok in
      let r = refs_by a ok (λ e. e) in
      let c = opened_box P S M F K R D old.counts (M' a) (F' a) (K' a) (references k b (Next a)) p1 (omega (arith, tm, m, m')) (omega (arith, tf, f, f')) (omega (arith, tk, ke, ke', one, t0)) (omega (arith, r, h)) in
      let w : word k (Next a) (box_word b 0) ≡ 0 = moves k es id v a may in
      record {
        counts = recount 2 (box_state b (Next a)) (2 ^ 61) (shared_count b (Next a)) (M' a) (M' a) (F' a) (F' a) (K' a) (K' a) (references k b (Next a)) (references k b (Next a)) D (D' a) (sym p) (sym s) refl refl refl refl (keep (place_to_give_by b) a ok refl) c;
        word = λ _. record { none = λ z. absurd (omega (arith, z, p)); default = λ _. omega (arith, w, s); merged = λ z. absurd (omega (arith, z, p)) };
        free = λ _ z. absurd (omega (arith, z, p));
        taken = λ _ _. bit_calm a ok is (inl refl) ∙ old.taken is (λ z. absurd (omega (arith, z, p1)));
      }

  -- the local count goes up or down
  by_local : (a : Act) → Ok a → BoxInvariant k b es → IsBoxName k b → place a ≡ box_word b 3 → made_state b v.log ≡ 2 → made_state b (a ∷ v.log) ≡ made_state b v.log → place_to_give b (a ∷ v.log) ≡ place_to_give b v.log → box_state b (Next a) ≡ P → shared_count b (Next a) ≡ S → (IsPut a → ⊥) → local_count b (a ∷ v.log) + taken_out b (a ∷ v.log) + references_held k b v.log ≡ local_count b v.log + taken_out b v.log + references_held k b (a ∷ v.log) → BoxInvariant k b (Next a)
  by_local a ok old is there two o d p s unput same =
      let may = ok.1.3 in
      let p2 = is_default a ok old two in
      let two' : made_state b (a ∷ v.log) ≡ 2 = o ∙ two in
      let ke : maker_part b v ≡ local_count b v.log + taken_out b v.log = here (made_state b v.log) 2 (local_count b v.log + taken_out b v.log) 0 two in
      let ke' : maker_part b (view_after a v) ≡ local_count b (a ∷ v.log) + taken_out b (a ∷ v.log) = here (made_state b (a ∷ v.log)) 2 (local_count b (a ∷ v.log) + taken_out b (a ∷ v.log)) 0 two' in
      let tk = after (maker_part b) a ok in
      let r = refs_by a ok unput in
      let h = total_at (references_held_by k b) (run k es).views id v ok.1.0 in
      let l = total_at (maker_part b) (run k es).views id v ok.1.0 in
      let c = local_moved P S M F K R D old.counts (K' a) (references k b (Next a)) p2 (omega (arith, tk, ke, ke', r, same)) in
      let w = stays k es id v a may (box_word b 0) (is, omega arith) (λ e. let y : box_word b 3 ≡ box_word b 0 = sym there ∙ e in absurd (three_zero (cc)))
      in record {
        counts = recount P (box_state b (Next a)) S (shared_count b (Next a)) M (M' a) F (F' a) (K' a) (K' a) (references k b (Next a)) (references k b (Next a)) D (D' a) (sym p) (sym s)
            (keep (making_box b) a ok (ap (λ (n : ℕ). cond (eqb n 1) 1 0) o)) (keep (has_in_default b) a ok (ap (λ (n : ℕ). cond (eqb n 2) 1 0) o)) refl refl (keep (place_to_give_by b) a ok d) c;
        word = λ _. same_shared P (box_state b (Next a)) S (shared_count b (Next a)) (word k es (box_word b 0)) (word k (Next a) (box_word b 0)) (sym p) (sym s) (sym w) (old.word is);
        free = λ _ z. absurd (omega (arith, z, p, p2));
        taken = λ _ _. bit_calm a ok is (inr there) ∙ old.taken is (λ z. absurd (omega (arith, z, p2)));
      }
    where
      three_zero : ◌≡◌ {A = ℕ} 3 0 → ⊥
      three_zero z = omega (arith, z)

  by_up_local : (x : ℕ) → Step (RaiseLocal b x)
  by_up_local x ok old =
      let may = ok.1.3 in
      let l = hit b x (local_count b v.log) in
      let h = hit b (references_held k b v.log + 1) (references_held k b v.log) in
      let e = may.2 in
      by_local (RaiseLocal b x) ok old may.0 refl may.1 refl refl refl refl (λ z. z) (omega (arith, l, h, e))

  by_down_local : (x : ℕ) → Step (DropLocal b x)
  by_down_local x ok old =
      let may = ok.1.3 in
      let l = hit b x (local_count b v.log) in
      let h = hit b (references_held k b v.log - 1) (references_held k b v.log) in
      let e = may.2 in
      let some_ = may.3 in
      by_local (DropLocal b x) ok old may.0 refl may.1 refl refl refl refl (λ z. z) (omega (arith, l, h, e, some_))

  by_empty : Step (ClearLocal b)
  by_empty ok old =
      let may = ok.1.3 in
      let l = hit b 0 (local_count b v.log) in
      let t = hit b (local_count b v.log) (taken_out b v.log) in
      let e = may.2 in
      by_local (ClearLocal b) ok old may.0 refl may.1 refl refl refl refl (λ z. z) (omega (arith, l, t, e))

  -- the pass knows whether it has brought the word to 3
  due_three : (n d : ℕ) → n ≡ 3 → cond (eqb n 3) 1 d ≡ 1
  due_three n d e = here n 3 1 d e

  by_merge : (d f : ℕ) → Step (MergeCounts b d f)
  by_merge d f ok old =
      let a : Act = MergeCounts b d f in
      let may = ok.1.3 in
      let is = may.0 in
      let p2 = is_default a ok old may.1 in
      let none = may.2 in
      let dd = may.3 in
      let o : made_state b (a ∷ v.log) ≡ 3 = hit b 3 (made_state b v.log) in
      let p : box_state b (Next a) ≡ 3 = hit b 3 P in
      let q : d / 4 ≡ taken_out b v.log = omega (arith, dd) in
      let s : shared_count b (Next a) ≡ S + taken_out b v.log = hit b (S + d / 4) S ∙ ap (λ (z : ℕ). S + z) q in
      let me' : making_box b (view_after a v) ≡ making_box b v = miss (made_state b (a ∷ v.log)) 1 1 0 (λ z. absurd (omega (arith, z, o))) ∙ sym (miss (made_state b v.log) 1 1 0 (λ z. let y = may.1 in absurd (omega (arith, z, y)))) in
      let fe : has_in_default b v ≡ 1 = here (made_state b v.log) 2 1 0 may.1 in
      let fe' : has_in_default b (view_after a v) ≡ 0 = miss (made_state b (a ∷ v.log)) 2 1 0 (λ z. absurd (omega (arith, z, o))) in
      let ke : maker_part b v ≡ local_count b v.log + taken_out b v.log = here (made_state b v.log) 2 (local_count b v.log + taken_out b v.log) 0 may.1 in
      let ke' : maker_part b (view_after a v) ≡ 0 = miss (made_state b (a ∷ v.log)) 2 (local_count b v.log + taken_out b (a ∷ v.log)) 0 (λ z. absurd (omega (arith, z, o))) in
      let tf = after (has_in_default b) a ok in
      let tk = after (maker_part b) a ok in
      let td = after (place_to_give_by b) a ok in
      let r = refs_by a ok (λ e. e) in
      let f1 = old.counts.default p2 in
      let gone : K' a ≡ 0 = total_gone (maker_part b) (has_in_default b) (run k (Next a)).views (λ u. idle_view u) (omega (arith, tf, fe, fe', f1)) in
      let found : f ≡ word k es (box_word b 0) = ok.1.2 in
      let was : f ≡ (4 * S + 2 ^ 63) % 2 ^ 64 = found ∙ (old.word is).default p2 in
      let now : (f + d) % 2 ^ 64 ≡ (4 * (S + taken_out b v.log) + 3 + 2 ^ 63) % 2 ^ 64 = up_merge S (taken_out b v.log) d f dd was in
      let w : word k (Next a) (box_word b 0) ≡ (f + d) % 2 ^ 64 = moves k es id v a may ∙ ap (λ (z : ℕ). (z + d) % 2 ^ 64) (sym found) in
      let rng = ranged ok.0 old (omega (arith, p2)) in
      let bal = old.counts.balance (omega (arith, p2)) in
      let few = refs_few k es ok.0 b in
      let live = old.counts.live (λ z. absurd (omega (arith, z, p2))) in
      let dv : place_to_give b v.log ≡ 0 = (let t = total_at (place_to_give_by b) (run k es).views id v ok.1.0 in omega (arith, t, live)) in
      let sum_is : S + taken_out b v.log ≡ R + 2 ^ 61 = omega (arith, bal, tk, ke, ke', gone, none) in
      let dead : R ≡ 0 → D' a ≡ 1 = λ z.
      let three = is_three (S + taken_out b v.log) ((f + d) % 2 ^ 64) (omega (arith, sum_is, z)) now in
      let x : place_to_give b (a ∷ v.log) ≡ 1 = hit b (cond (eqb ((f + d) % 2 ^ 64) 3) 1 (place_to_give b v.log)) (place_to_give b v.log) ∙ here ((f + d) % 2 ^ 64) 3 1 (place_to_give b v.log) three in
      omega (arith, td, x, dv, live) in
      let more : R ≢ 0 → D' a ≡ 0 = λ z.
      let low = rng.0 in
      let x : place_to_give b (a ∷ v.log) ≡ place_to_give b v.log = hit b (cond (eqb ((f + d) % 2 ^ 64) 3) 1 (place_to_give b v.log)) (place_to_give b v.log) ∙ miss ((f + d) % 2 ^ 64) 3 1 (place_to_give b v.log) (λ e. z (let g = three_is (S + taken_out b v.log) ((f + d) % 2 ^ 64) (omega (arith, low)) (omega (arith, sum_is, few)) now e in omega (arith, g, sum_is))) in
      omega (arith, td, x, live) in
      let c = merged_box P S M F K R D old.counts (S + taken_out b v.log) (F' a) (K' a) (D' a) (taken_out b v.log) p2 refl (omega (arith, tf, fe, fe')) (omega (arith, tk, ke, ke', none)) gone dead more in
      record {
        counts = recount 3 (box_state b (Next a)) (S + taken_out b v.log) (shared_count b (Next a)) M (M' a) (F' a) (F' a) (K' a) (K' a) R (references k b (Next a)) (D' a) (D' a) (sym p) (sym s) (keep (making_box b) a ok me') refl refl (omega (arith, r)) refl c;
        word = λ _. record { none = λ z. absurd (omega (arith, z, p)); default = λ z. absurd (omega (arith, z, p)); merged = λ _. w ∙ (now ∙ ap (λ (z : ℕ). (4 * z + 3 + 2 ^ 63) % 2 ^ 64) (sym s)) };
        free = λ _ z. absurd (omega (arith, z, p));
        taken = λ _ _. bit_calm a ok is (inl refl) ∙ old.taken is (λ z. absurd (omega (arith, z, p2)));
      }
    where
      idle_view : (u : View) → has_in_default b u ≡ 0 → maker_part b u ≡ 0
      idle_view u none = dite (ℕ_discrete (made_state b u.log) 2) (λ (e : made_state b u.log ≡ 2). let x : has_in_default b u ≡ 1 = here (made_state b u.log) 2 1 0 e in absurd (omega (arith, x, none))) (λ ne. miss (made_state b u.log) 2 (local_count b u.log + taken_out b u.log) 0 ne)

  -- the shared count goes up by one with a reference, where there is a box
  by_up : (a : Act) → Ok a → BoxInvariant k b es → IsBoxName k b → place a ≡ box_word b 0 → 2 ≤ P → (P ≡ 3 → R ≢ 0) → made_state b (a ∷ v.log) ≡ made_state b v.log → local_count b (a ∷ v.log) ≡ local_count b v.log → taken_out b (a ∷ v.log) ≡ taken_out b v.log → place_to_give b (a ∷ v.log) ≡ place_to_give b v.log → box_state b (Next a) ≡ P → shared_count b (Next a) ≡ S + 1 → (IsPut a → ⊥) → references_held k b (a ∷ v.log) ≡ references_held k b v.log + 1 → word k (Next a) (box_word b 0) ≡ (word k es (box_word b 0) + 4) % 2 ^ 64 → BoxInvariant k b (Next a)
  by_up a ok old is there up alive o l t d p s unput h w =
      let r = refs_by a ok unput in
      let c = shared_up P S M F K R D old.counts (S + 1) (references k b (Next a)) up alive refl (omega (arith, r, h)) in
      record {
        counts = recount P (box_state b (Next a)) (S + 1) (shared_count b (Next a)) M (M' a) F (F' a) K (K' a) (references k b (Next a)) (references k b (Next a)) D (D' a) (sym p) (sym s)
            (keep (making_box b) a ok (ap (λ (n : ℕ). cond (eqb n 1) 1 0) o)) (keep (has_in_default b) a ok (ap (λ (n : ℕ). cond (eqb n 2) 1 0) o)) (keep (maker_part b) a ok (λ i. cond (eqb (o i) 2) (l i + t i) 0)) refl (keep (place_to_give_by b) a ok d) c;
        word = λ _. record {
          none = λ z. absurd (omega (arith, z, p, up));
          default = λ z. w ∙ (up_plain S (word k es (box_word b 0)) ((old.word is).default (sym p ∙ z)) ∙ ap (λ (y : ℕ). (4 * y + 2 ^ 63) % 2 ^ 64) (sym s));
          merged = λ z. w ∙ (up_four S 3 (word k es (box_word b 0)) ((old.word is).merged (sym p ∙ z)) ∙ ap (λ (y : ℕ). (4 * y + 3 + 2 ^ 63) % 2 ^ 64) (sym s));
        };
        free = λ _ z. absurd (omega (arith, z, p, up));
        taken = λ _ _. bit_calm a ok is (inl there) ∙ old.taken is (λ z. absurd (omega (arith, z, up)));
      }

  by_keep : (f : ℕ) → Step (RaiseKept b f)
  by_keep f ok old =
      let may = ok.1.3 in
      let some_ = kept_some (RaiseKept b f) ok may.2 in
      by_up (RaiseKept b f) ok old may.0 refl (referred P S M F K R D old.counts some_) (λ _. some_) refl refl refl refl refl (hit b (S + 1) S) (λ z. z) (hit b (references_held k b v.log + 1) (references_held k b v.log)) (moves k es id v (RaiseKept b f) may)

  -- a word other than 3 is that of a box that is there
  alive_by : BoxInvariant k b es → IsBoxName k b → word k es (box_word b 0) ≢ 3 → 2 ≤ P
  alive_by old is ne = dite (ℕ_discrete P 0) (λ (z : P ≡ 0). absurd (ne ((old.word is).none (omega (arith, z))))) (λ x. dite (ℕ_discrete P 1) (λ (z : P ≡ 1). absurd (ne ((old.word is).none (omega (arith, z))))) (λ y. omega (arith, x, y)))

  by_raise : (before f : ℕ) → Step (RaiseShared b before f)
  by_raise before f ok old =
      let a : Act = RaiseShared b before f in
      let may = ok.1.3 in
      let is = may.0 in
      let found : f ≡ word k es (box_word b 0) = ok.1.2 in
      dite (ℕ_discrete f before)
      (λ (e : f ≡ before).
      let not3 : word k es (box_word b 0) ≢ 3 = λ z. may.2 (sym e ∙ (found ∙ z)) in
      let up = alive_by old is not3 in
      let alive : P ≡ 3 → R ≢ 0 = λ p3 z.
      let bal = old.counts.balance up in
      let i = old.counts.idle (λ y. absurd (omega (arith, y, p3))) in
      not3 (is_three S (word k es (box_word b 0)) (omega (arith, bal, i, z)) ((old.word is).merged p3)) in
      let w : word k (Next a) (box_word b 0) ≡ (word k es (box_word b 0) + 4) % 2 ^ 64 = moves k es id v a may ∙ (here (word k es (box_word b 0)) before ((before + 4) % 2 ^ 64) (word k es (box_word b 0)) (sym found ∙ e) ∙ ap (λ (z : ℕ). (z + 4) % 2 ^ 64) (sym e ∙ found)) in
      by_up a ok old is refl up alive refl refl refl refl refl (hit b (cond (eqb f before) (S + 1) S) S ∙ here f before (S + 1) S e) (λ z. z) (hit b (cond (eqb f before) (references_held k b v.log + 1) (references_held k b v.log)) (references_held k b v.log) ∙ here f before (references_held k b v.log + 1) (references_held k b v.log) e) w)
      (λ ne.
      let h : references_held k b (a ∷ v.log) ≡ references_held k b v.log = hit b (cond (eqb f before) (references_held k b v.log + 1) (references_held k b v.log)) (references_held k b v.log) ∙ miss f before (references_held k b v.log + 1) (references_held k b v.log) ne in
      let s : shared_count b (Next a) ≡ S = hit b (cond (eqb f before) (S + 1) S) S ∙ miss f before (S + 1) S ne in
      let r = refs_by a ok (λ e. e) in
      by_same a ok old refl refl refl refl s (omega (arith, r, h))
      (λ _. moves k es id v a may ∙ miss (word k es (box_word b 0)) before ((before + 4) % 2 ^ 64) (word k es (box_word b 0)) (λ z. ne (found ∙ z)))
      (λ _. bit_calm a ok is (inl refl)))

  by_drop : (f : ℕ) → Step (DropShared b f)
  by_drop f ok old =
      let a : Act = DropShared b f in
      let may = ok.1.3 in
      let is = may.0 in
      let some_ = refs_some a ok may.2 in
      let up = referred P S M F K R D old.counts some_ in
      let held_some = may.2 in
      let h : references_held k b (a ∷ v.log) ≡ references_held k b v.log - 1 = hit b (references_held k b v.log - 1) (references_held k b v.log) in
      let s : shared_count b (Next a) ≡ S - 1 = hit b (S - 1) S in
      let rng = ranged ok.0 old up in
      let low = rng.0 in
      let high = rng.1 in
      let found : f ≡ word k es (box_word b 0) = ok.1.2 in
      let n : ℕ = (f + (2 ^ 64 - 4)) % 2 ^ 64 in
      let w : word k (Next a) (box_word b 0) ≡ (f + (2 ^ 64 - 4)) % 2 ^ 64 = moves k es id v a may ∙ ap (λ (z : ℕ). (z + (2 ^ 64 - 4)) % 2 ^ 64) (sym found) in
      let one_less : (S - 1) + 1 ≡ S = omega (arith, low) in
      let as_default : P ≡ 2 → (f + (2 ^ 64 - 4)) % 2 ^ 64 ≡ (4 * (S - 1) + 2 ^ 63) % 2 ^ 64 = λ z. down_plain S (S - 1) f one_less (found ∙ (old.word is).default z) in
      let as_merged : P ≡ 3 → (f + (2 ^ 64 - 4)) % 2 ^ 64 ≡ (4 * (S - 1) + 3 + 2 ^ 63) % 2 ^ 64 = λ z. down_four S (S - 1) 3 f one_less (found ∙ (old.word is).merged z) in
      let r = refs_by a ok (λ e. e) in
      let r1 : references k b (Next a) + 1 ≡ R = omega (arith, r, h, held_some) in
      let td = after (place_to_give_by b) a ok in
      let d0 = old.counts.more some_ in
      let tv = total_at (place_to_give_by b) (run k es).views id v ok.1.0 in
      let dv : place_to_give b v.log ≡ 0 = omega (arith, tv, d0) in
      let bal = old.counts.balance up in
      let due_yes : (f + (2 ^ 64 - 4)) % 2 ^ 64 ≡ 3 → D' a ≡ 1 = λ three.
      let x : place_to_give b (a ∷ v.log) ≡ 1 = hit b (cond (eqb ((f + (2 ^ 64 - 4)) % 2 ^ 64) 3) 1 (place_to_give b v.log)) (place_to_give b v.log) ∙ here ((f + (2 ^ 64 - 4)) % 2 ^ 64) 3 1 (place_to_give b v.log) three in
      omega (arith, td, x, dv, d0) in
      let due_no : (f + (2 ^ 64 - 4)) % 2 ^ 64 ≢ 3 → D' a ≡ 0 = λ ne.
      let x : place_to_give b (a ∷ v.log) ≡ place_to_give b v.log = hit b (cond (eqb ((f + (2 ^ 64 - 4)) % 2 ^ 64) 3) 1 (place_to_give b v.log)) (place_to_give b v.log) ∙ miss ((f + (2 ^ 64 - 4)) % 2 ^ 64) 3 1 (place_to_give b v.log) ne in
      omega (arith, td, x, d0) in
      let dead : P ≡ 3 → references k b (Next a) ≡ 0 → D' a ≡ 1 = λ p3 z.
      let i = old.counts.idle (λ y. absurd (omega (arith, y, p3))) in
      due_yes (is_three (S - 1) ((f + (2 ^ 64 - 4)) % 2 ^ 64) (omega (arith, bal, i, r1, z)) (as_merged p3)) in
      let live : P ≢ 3 → D' a ≡ 0 = λ ne. due_no (not_three (S - 1) ((f + (2 ^ 64 - 4)) % 2 ^ 64) (as_default (let l = old.counts.small in omega (arith, l, up, ne)))) in
      let more : references k b (Next a) ≢ 0 → D' a ≡ 0 = λ ne.
      dite (ℕ_discrete P 3)
      (λ (p3 : P ≡ 3).
      let i = old.counts.idle (λ y. absurd (omega (arith, y, p3))) in
      due_no (λ three. ne (let g = three_is (S - 1) ((f + (2 ^ 64 - 4)) % 2 ^ 64) (omega (arith, bal, i, r1)) (omega (arith, high)) (as_merged p3) three in omega (arith, g, bal, i, r1, low))))
      live in
      let c = shared_down P S M F K R D old.counts (S - 1) (references k b (Next a)) (D' a) up one_less r1 dead live more in
      record {
        counts = recount P P (S - 1) (shared_count b (Next a)) M (M' a) F (F' a) K (K' a) (references k b (Next a)) (references k b (Next a)) (D' a) (D' a) refl (sym s) (keep (making_box b) a ok refl) (keep (has_in_default b) a ok refl) (keep (maker_part b) a ok refl) refl refl c;
        word = λ _. record {
          none = λ z. absurd (omega (arith, z, up));
          default = λ z. w ∙ (as_default z ∙ ap (λ (y : ℕ). (4 * y + 2 ^ 63) % 2 ^ 64) (sym s));
          merged = λ z. w ∙ (as_merged z ∙ ap (λ (y : ℕ). (4 * y + 3 + 2 ^ 63) % 2 ^ 64) (sym s));
        };
        free = λ _ z. absurd (omega (arith, z, up));
        taken = λ _ _. bit_calm a ok is (inl refl) ∙ old.taken is (λ z. absurd (omega (arith, z, up)));
      }

  by_give : Step (GivePlace b)
  by_give ok old =
      let a : Act = GivePlace b in
      let may = ok.1.3 in
      let is = may.0 in
      let one = may.1 in
      let td = after (place_to_give_by b) a ok in
      let tv = total_at (place_to_give_by b) (run k es).views id v ok.1.0 in
      let x : place_to_give b (a ∷ v.log) ≡ 0 = hit b 0 (place_to_give b v.log) in
      let p : box_state b (Next a) ≡ 0 = hit b 0 P in
      let i = due_is P S M F K R D old.counts (λ z. absurd (omega (arith, z, tv, one))) in
      let p3 = i.0 in
      let d1 = old.counts.dead p3 i.1 in
      let bal = old.counts.balance (omega (arith, p3)) in
      let idle = old.counts.idle (λ y. absurd (omega (arith, y, p3))) in
      let r0 = i.1 in
      let three : word k es (box_word b 0) ≡ 3 = is_three S (word k es (box_word b 0)) (omega (arith, bal, idle, r0)) ((old.word is).merged p3) in
      let w : word k (Next a) (box_word b 0) ≡ word k es (box_word b 0) = stays k es id v a may (box_word b 0) (is, omega arith) (λ e. absurd (cc)) in
      let now : place_bit k b (Next a) ≡ 1 = ap (bit (place_bit_of b)) (moves k es id v a may) ∙ on_same (place_bit_of b) (word k es (heap_bits (maker_of b) (place_word_of b))) (place_bit_low b) in
      let r = refs_by a ok (λ e. e) in
      let c = gave P S M F K R D old.counts (D' a) (omega (arith, td, x, one, d1, tv)) in
      record {
        counts = recount 0 (box_state b (Next a)) S (shared_count b (Next a)) M (M' a) F (F' a) K (K' a) R (references k b (Next a)) (D' a) (D' a) (sym p) refl (keep (making_box b) a ok refl) (keep (has_in_default b) a ok refl) (keep (maker_part b) a ok refl) (omega (arith, r)) refl c;
        word = λ _. record { none = λ _. w ∙ three; default = λ z. absurd (omega (arith, z, p)); merged = λ z. absurd (omega (arith, z, p)) };
        free = λ _ _. now;
        taken = λ _ ne. absurd (ne p);
      }

  -- a put that changes which words name the box
  refs_put : (a : Act) → Ok a → IsPut a → references k b (Next a) ≡ R
  refs_put (PutTable o t i x) ok is =
      let a : Act = PutTable o t i x in
      let may = ok.1.3 in
      let low = may.0 in
      let mine = writer_has k es ok.0 o id v ok.1.0 may.3 in
      let before = named_known k es ok.0 id v ok.1.0 b o low mine in
      let there = set_at (run k es).views id v (view_after a v) ok.1.0 in
      let now = named_known k (Next a) ok id (view_after a v) there b o low mine in
      let t1 = after (references_held_by k b) a ok in
      let n = renamed_table k es id v ok.0 ok.1.0 b o t i x may in
      let enough = (may.7 b).0 in
      omega (arith, before, now, t1, n, enough)
  refs_put (PutRoot o r was) ok is =
      let a : Act = PutRoot o r was in
      let may = ok.1.3 in
      let low = may.0 in
      let mine = writer_has k es ok.0 o id v ok.1.0 may.1 in
      let before = named_known k es ok.0 id v ok.1.0 b o low mine in
      let there = set_at (run k es).views id v (view_after a v) ok.1.0 in
      let now = named_known k (Next a) ok id (view_after a v) there b o low mine in
      let t1 = after (references_held_by k b) a ok in
      let n = renamed_root k es id v ok.0 ok.1.0 b o r was may in
      let enough = (may.8 b).0 in
      omega (arith, before, now, t1, n, enough)
  refs_put act ok is = absurd is

  by_put : (a : Act) → IsPut a → Step a
  by_put (PutTable o t i x) is ok old =
      let a : Act = PutTable o t i x in
      by_same a ok old refl refl refl refl refl (refs_put a ok is)
      (λ name. stays k es id v a ok.1.3 (box_word b 0) (name, omega arith) (λ e. absurd (cc)))
      (λ name. ap (bit (place_bit_of b)) (stays k es id v a ok.1.3 (heap_bits (maker_of b) (place_word_of b)) (name.0, name.2) (λ e. absurd (cc))))
  by_put (PutRoot o r was) is ok old =
      let a : Act = PutRoot o r was in
      by_same a ok old refl refl refl refl refl (refs_put a ok is)
      (λ name. stays k es id v a ok.1.3 (box_word b 0) (name, omega arith) (λ e. absurd (cc)))
      (λ name. ap (bit (place_bit_of b)) (stays k es id v a ok.1.3 (heap_bits (maker_of b) (place_word_of b)) (name.0, name.2) (λ e. absurd (cc))))
  by_put act is ok old = absurd is

  pub by_act : (a : Act) → Step a
  by_act = on_box k es id v b Step by_take by_fill by_open by_up_local by_down_local by_empty by_merge by_raise by_keep by_drop by_give by_put by_calm

-- ---- a pass that comes or goes

-- a view that has nothing of the box
pub record HasNone (k : Shape) (b : ℕ) (u : View) : Type 0 where
  pub making_is : making_box b u ≡ 0
  pub default_is : has_in_default b u ≡ 0
  pub kept_is : maker_part b u ≡ 0
  pub held_is : references_held_by k b u ≡ 0
  pub due_is : place_to_give_by b u ≡ 0

silent_none : (k : Shape) (b : ℕ) (u : View) → u.log ≡ [] → HasNone k b u
silent_none k b u e = record {
  making_is = ap (λ (l : List Act). cond (eqb (made_state b l) 1) 1 0) e;
  default_is = ap (λ (l : List Act). cond (eqb (made_state b l) 2) 1 0) e;
  kept_is = ap (λ (l : List Act). cond (eqb (made_state b l) 2) (local_count b l + taken_out b l) 0) e;
  held_is = ap (references_held k b) e;
  due_is = ap (place_to_give b) e;
}

-- a pass that may be joined
free_none : (k : Shape) (b : ℕ) (es : List Event) → Valid k es → (j : ℕ) (u : View) → get_elem? (run k es).views j ≡ some u → IsDoneWithBoxes u.shape u.log → HasMergedBoxes u.log → HasNone k b u
free_none k b es valid j u there done merged =
    dite (ℕ_discrete u.number 0)
    (λ (e : u.number ≡ 0). silent_none k b u ((seated k es valid j u there).silent e))
    (λ live.
    let same = sized k es valid j u there live in
    record {
      making_is = miss (made_state b u.log) 1 1 0 (done.settled.unmade b);
      default_is = miss (made_state b u.log) 2 1 0 (merged b);
      kept_is = miss (made_state b u.log) 2 (local_count b u.log + taken_out b u.log) 0 (merged b);
      held_is = ap (λ (z : Shape). references_held z b u.log) (sym same) ∙ done.none b;
      due_is = done.settled.given b;
    })

-- the same words, and views with the same sums
by_views : (k : Shape) (b : ℕ) (es now : List Event) → box_state b now ≡ box_state b es → shared_count b now ≡ shared_count b es → (run k now).words ≡ (run k es).words → total (making_box b) (run k now).views ≡ total (making_box b) (run k es).views → total (has_in_default b) (run k now).views ≡ total (has_in_default b) (run k es).views → total (maker_part b) (run k now).views ≡ total (maker_part b) (run k es).views → total (references_held_by k b) (run k now).views ≡ total (references_held_by k b) (run k es).views → total (place_to_give_by b) (run k now).views ≡ total (place_to_give_by b) (run k es).views → BoxInvariant k b es → BoxInvariant k b now
by_views k b es now p s w m f ke h d old =
    let n : named_in_all k b (run k now).words ≡ named_in_all k b (run k es).words = ap (named_in_all k b) w in
    let same : word k now (box_word b 0) ≡ word k es (box_word b 0) = ap (λ (ws : List ℕ). slice_index ws (at k (box_word b 0))) w in
    let bits_same : place_bit k b now ≡ place_bit k b es = ap (λ (ws : List ℕ). bit (place_bit_of b) (slice_index ws (at k (heap_bits (maker_of b) (place_word_of b))))) w in
    record {
      counts = recount (box_state b es) (box_state b now) (shared_count b es) (shared_count b now) (total (making_box b) (run k es).views) (total (making_box b) (run k now).views) (total (has_in_default b) (run k es).views) (total (has_in_default b) (run k now).views) (total (maker_part b) (run k es).views) (total (maker_part b) (run k now).views) (references k b es) (references k b now) (total (place_to_give_by b) (run k es).views) (total (place_to_give_by b) (run k now).views) (sym p) (sym s) (sym m) (sym f) (sym ke) (omega (arith, n, h)) (sym d) old.counts;
      word = λ is. same_shared (box_state b es) (box_state b now) (shared_count b es) (shared_count b now) (word k es (box_word b 0)) (word k now (box_word b 0)) (sym p) (sym s) (sym same) (old.word is);
      free = λ is z. bits_same ∙ old.free is (sym p ∙ z);
      taken = λ is ne. bits_same ∙ old.taken is (λ z. ne (p ∙ z));
    }

pub boxed : (k : Shape) (b : ℕ) (es : List Event) → Valid k es → BoxInvariant k b es
boxed k b [] valid =
    let n : named_in_all k b (run k []).words ≡ 0 = sum_none (λ o. named_in_container k b o (run k []).words) (container_count k) (λ o low. at_start o low) in
    record {
      counts = record {
        small = omega arith;
        making = λ z. absurd (omega (arith, z));
        unmade = λ _. refl;
        default = λ z. absurd (omega (arith, z));
        other = λ _. refl;
        none = λ _. omega (arith, n);
        balance = λ z. absurd (omega (arith, z));
        idle = λ _. refl;
        dead = λ z. absurd (omega (arith, z));
        live = λ _. refl;
        more = λ _. refl;
      };
      word = λ is. record { none = λ _. box_first k b is; default = λ z. absurd (omega (arith, z)); merged = λ z. absurd (omega (arith, z)) };
      free = λ is _. place_first k b is;
      taken = λ _ ne. absurd (ne refl);
    }
  where
    at_start : (o : ℕ) → o < container_count k → named_in_container k b o (run k []).words ≡ 0
    at_start o low = by_zero (root_of k o (run k []).words) (block_first k o 0 low (omega arith))
      where
        by_zero : (r : ℕ) → r ≡ 0 → named_in_root b (kind_in k.starts o) r (inner k r (run k []).words) ≡ 0
        by_zero zero e = refl
        by_zero (suc r) e = absurd (omega (arith, e))
boxed k b (did id v a ∷ es) valid = by_act k es id v b a valid (boxed k b es valid.0)
boxed k b (forked id v ∷ es) valid =
    let views = (run k es).views in
    by_views k b es (forked id v ∷ es) refl refl refl
    (total_forked (making_box b) views id v (maker v) (made v) valid.1.0 (omega arith)) (total_forked (has_in_default b) views id v (maker v) (made v) valid.1.0 (omega arith)) (total_forked (maker_part b) views id v (maker v) (made v) valid.1.0 (omega arith)) (total_forked (references_held_by k b) views id v (maker v) (made v) valid.1.0 (omega arith)) (total_forked (place_to_give_by b) views id v (maker v) (made v) valid.1.0 (omega arith))
    (boxed k b es valid.0)
boxed k b (sent id v given ∷ es) valid =
    let views = (run k es).views in
    by_views k b es (sent id v given ∷ es) refl refl refl
    (total_forked (making_box b) views id v (sender given v) (note given v) valid.1.0 (omega arith)) (total_forked (has_in_default b) views id v (sender given v) (note given v) valid.1.0 (omega arith)) (total_forked (maker_part b) views id v (sender given v) (note given v) valid.1.0 (omega arith)) (total_forked (references_held_by k b) views id v (sender given v) (note given v) valid.1.0 (omega arith)) (total_forked (place_to_give_by b) views id v (sender given v) (note given v) valid.1.0 (omega arith))
    (boxed k b es valid.0)
boxed k b (joined id v other w ∷ es) valid =
    let views = (run k es).views in
    let no = free_none k b es valid.0 other w valid.1.2 valid.1.5.6 valid.1.5.7 in
    let z1 = no.making_is in
    let z2 = no.default_is in
    let z3 = no.kept_is in
    let z4 = no.held_is in
    let z5 = no.due_is in
    by_views k b es (joined id v other w ∷ es) refl refl refl
    (total_joined (making_box b) views id other v w (both v w) spent valid.1.0 valid.1.1 valid.1.2 (omega (arith, z1))) (total_joined (has_in_default b) views id other v w (both v w) spent valid.1.0 valid.1.1 valid.1.2 (omega (arith, z2))) (total_joined (maker_part b) views id other v w (both v w) spent valid.1.0 valid.1.1 valid.1.2 (omega (arith, z3))) (total_joined (references_held_by k b) views id other v w (both v w) spent valid.1.0 valid.1.1 valid.1.2 (omega (arith, z4))) (total_joined (place_to_give_by b) views id other v w (both v w) spent valid.1.0 valid.1.1 valid.1.2 (omega (arith, z5)))
    (boxed k b es valid.0)

-- the shared count is in range
pub shared_range : (k : Shape) (b : ℕ) (es : List Event) → Valid k es → 2 ≤ box_state b es → (2 ^ 60 ≤ shared_count b es) × (shared_count b es < 2 ^ 61 + 2 ^ 40)
shared_range k b es valid up =
    let c = (boxed k b es valid).counts in
    let bal = c.balance up in
    let few = refs_few k es valid b in
    let low = kept_few k es valid b in
    let f : total (has_in_default b) (run k es).views ≤ 1 = dite (ℕ_discrete (box_state b es) 2) (λ (z : box_state b es ≡ 2). let x = c.default z in omega (arith, x)) (λ ne. let x = c.other ne in omega (arith, x)) in
    let kk : total (maker_part b) (run k es).views ≤ 2 ^ 60 = omega (arith, low, f) in
    (omega (arith, bal, kk), omega (arith, bal, few))
