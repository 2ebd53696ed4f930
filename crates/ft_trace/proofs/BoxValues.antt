-- The value in a box stays as long as there is a reference.
use Rattle.std.proofs.Common.{◌≡◌, ◌≢◌, ℕ, ◌<◌, ◌≤◌, List, [], ◌∷◌, refl, sym, ap, ◌∙◌, arith}
use mathlib.Core.Option.{some}
use lib.ListN.{get_elem?}
use Rattle.ft_trace.specs.declared.Shape.{Shape}
use Rattle.ft_trace.specs.declared.View.{View}
use Rattle.ft_trace.specs.declared.Act.{Act}
use Rattle.ft_trace.specs.declared.Act.TheVariants.{PutBox, PublishBox, ReadBox, RaiseLocal, DropLocal, ClearLocal, MergeCounts, RaiseShared, RaiseKept, DropShared}
use Rattle.ft_trace.specs.Addresses.{box_word, IsBoxName}
use Rattle.ft_trace.specs.Boxes.{made_state}
use Rattle.ft_trace.specs.BoxTraces.{box_state, box_state_next, making_box, references}
use Rattle.ft_trace.specs.Traces.{Event, did, forked, joined, sent, run, word, history, May, Valid}
use Rattle.ft_trace.proofs.Cases.{here}
use Rattle.ft_trace.proofs.OneWord.{stays, loaded}
use Rattle.ft_trace.proofs.Sums.{total_at}
use Rattle.ft_trace.proofs.BoxActs.{on_box}
use Rattle.ft_trace.proofs.NamedBoxes.{IsPut}
use Rattle.ft_trace.proofs.Boxed.{boxed}
use Rattle.ft_trace.proofs.BoxCounts.{referred}
use Rattle.ft_trace.specs.declared.Act.TheVariants.{PutTable, PutRoot}

-- a box that is somewhere is one of the bank
pub box_name : (k : Shape) (b : ℕ) (es : List Event) → Valid k es → box_state b es ≢ 0 → IsBoxName k b
box_name k b [] valid some_ = absurd (some_ refl)
box_name k b (did id v a ∷ es) valid some_ =
    on_box k es id v b (λ c. May k (run k es) (history es) v c → box_state_next b c (box_state b es) ≢ 0 → IsBoxName k b)
    (λ f may _. may.0) (λ i x may _. may.0) (λ may _. may.0) (λ x may _. may.0) (λ x may _. may.0) (λ may _. may.0) (λ d f may _. may.0) (λ old f may _. may.0) (λ f may _. may.0) (λ f may _. may.0) (λ may _. may.0)
    (λ c is may ne. box_name k b es valid.0 (λ z. ne (put_phase c is ∙ z)))
    (λ c calm may ne. box_name k b es valid.0 (λ z. ne ((calm may).phase_is (box_state b es) ∙ z)))
    a valid.1.3 some_
  where
    put_phase : (c : Act) → IsPut c → box_state_next b c (box_state b es) ≡ box_state b es
    put_phase (PutTable o t i x) is = refl
    put_phase (PutRoot o r old) is = refl
    put_phase c is = absurd is
box_name k b (forked id v ∷ es) valid some_ = box_name k b es valid.0 some_
box_name k b (sent id v given ∷ es) valid some_ = box_name k b es valid.0 some_
box_name k b (joined id v other w ∷ es) valid some_ = box_name k b es valid.0 some_

-- a box with a reference is in the default state, or merged
pub box_there : (k : Shape) (b : ℕ) (es : List Event) → Valid k es → references k b es ≢ 0 → 2 ≤ box_state b es
box_there k b es valid some_ = let c = (boxed k b es valid).counts in referred _ _ _ _ _ _ _ c some_

-- what its maker puts into a box that is being made changes no box that is there
module _ (k : Shape) (es : List Event) (id : ℕ) (v : View) (b i : ℕ) (valid : Valid k es) (there : get_elem? (run k es).views id ≡ some v) (up : 2 ≤ box_state b es) (low : i < 4) (not_shared : i ≢ 0) (not_local : i ≢ 3) where
  is_name : IsBoxName k b
  is_name = box_name k b es valid (λ z. absurd (omega (arith, up, z)))

  elsewhere : (c n : ℕ) → n ≢ i → box_word c n ≡ box_word b i → ⊥
  elsewhere c n ne e = ne (cc)

  not_making : made_state b v.log ≢ 1
  not_making e =
      let m : making_box b v ≡ 1 = here (made_state b v.log) 1 1 0 e in
      let t = total_at (making_box b) (run k es).views id v there in
      let n = (boxed k b es valid).counts.unmade (λ z. absurd (omega (arith, z, up))) in
      omega (arith, m, t, n)

  pub there_stays : (a : Act) → May k (run k es) (history es) v a → word k (did id v a ∷ es) (box_word b i) ≡ word k es (box_word b i)
  there_stays (PutBox c n x) may =
      stays k es id v (PutBox c n x) may (box_word b i) (is_name, low)
      (λ (e : box_word c n ≡ box_word b i). let same : c ≡ b = cc in not_making (ap (λ (z : ℕ). made_state z v.log) (sym same) ∙ may.2))
  there_stays (PublishBox c) may = stays k es id v (PublishBox c) may (box_word b i) (is_name, low) (elsewhere c 0 (λ z. not_shared (sym z)))
  there_stays (RaiseLocal c x) may = stays k es id v (RaiseLocal c x) may (box_word b i) (is_name, low) (elsewhere c 3 (λ z. not_local (sym z)))
  there_stays (DropLocal c x) may = stays k es id v (DropLocal c x) may (box_word b i) (is_name, low) (elsewhere c 3 (λ z. not_local (sym z)))
  there_stays (ClearLocal c) may = stays k es id v (ClearLocal c) may (box_word b i) (is_name, low) (elsewhere c 3 (λ z. not_local (sym z)))
  there_stays (MergeCounts c d f) may = stays k es id v (MergeCounts c d f) may (box_word b i) (is_name, low) (elsewhere c 0 (λ z. not_shared (sym z)))
  there_stays (RaiseShared c old f) may = stays k es id v (RaiseShared c old f) may (box_word b i) (is_name, low) (elsewhere c 0 (λ z. not_shared (sym z)))
  there_stays (RaiseKept c f) may = stays k es id v (RaiseKept c f) may (box_word b i) (is_name, low) (elsewhere c 0 (λ z. not_shared (sym z)))
  there_stays (DropShared c f) may = stays k es id v (DropShared c f) may (box_word b i) (is_name, low) (elsewhere c 0 (λ z. not_shared (sym z)))
  there_stays (ReadBox c n f) may = loaded k es id v (ReadBox c n f) (λ z. refl) (box_word b i)
  there_stays act may = stays k es id v act may (box_word b i) (is_name, low) (λ e. absurd (cc))

-- so in one with a reference
pub value_stays : (k : Shape) (es : List Event) (id : ℕ) (v : View) (b i : ℕ) → Valid k es → get_elem? (run k es).views id ≡ some v → references k b es ≢ 0 → i < 4 → i ≢ 0 → i ≢ 3 → (a : Act) → May k (run k es) (history es) v a → word k (did id v a ∷ es) (box_word b i) ≡ word k es (box_word b i)
value_stays k es id v b i valid there refs_some = there_stays k es id v b i valid there (box_there k b es valid refs_some)
