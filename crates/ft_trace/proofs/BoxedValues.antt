-- A box that is there has a value.
use Rattle.std.proofs.Common.{◌≡◌, ◌≢◌, ℕ, zero, suc, ◌<◌, ◌≤◌, eqb, Bool, true, false, cond, List, [], ◌∷◌, refl, sym, ◌∙◌, subst, inl, inr, arith}
use mathlib.Core.Option.{some}
use lib.ListN.{get_elem?}
use Rattle.ft_trace.specs.declared.Shape.{Shape}
use Rattle.ft_trace.specs.declared.View.{View}
use Rattle.ft_trace.specs.declared.Act.{Act}
use Rattle.ft_trace.specs.declared.Act.TheVariants.{PublishBox, PutTable, PutRoot}
use Rattle.ft_trace.specs.Bits.{bit}
use Rattle.ft_trace.specs.Addresses.{box_word, place_bit_of}
use Rattle.ft_trace.specs.Boxes.{made_state, known_box_word}
use Rattle.ft_trace.specs.BoxLaws.{BoxesHaveValues}
use Rattle.ft_trace.specs.BoxTraces.{box_state, box_state_next, has_in_default}
use Rattle.ft_trace.specs.BoxWords.{IsBoxedValue}
use Rattle.ft_trace.specs.Traces.{Event, did, forked, joined, sent, run, word, history, May, Valid}
use Rattle.ft_trace.proofs.BoxActs.{on_box}
use Rattle.ft_trace.proofs.BoxKnown.{box_known}
use Rattle.ft_trace.proofs.BoxValues.{there_stays}
use Rattle.ft_trace.proofs.Boxed.{boxed}
use Rattle.ft_trace.proofs.Cases.{hit, here}
use Rattle.ft_trace.proofs.NamedBoxes.{IsPut}
use Rattle.ft_trace.proofs.OneWord.{stays}
use Rattle.ft_trace.proofs.Sums.{total_at}

-- the words of the box are those of a value
abbrev HasValue : Shape → ℕ → List Event → Type 0
HasValue k b es = IsBoxedValue (word k es (box_word b 1)) (word k es (box_word b 2))

-- a box that comes to be there by an action was published by it
module _ (k : Shape) (es : List Event) (id : ℕ) (v : View) (b : ℕ) (valid : Valid k es) (there : get_elem? (run k es).views id ≡ some v) (was : box_state b es < 2) where
  abbrev Comes : Act → Type 0
  Comes a = May k (run k es) (history es) v a → 2 ≤ box_state_next b a (box_state b es) → HasValue k b (did id v a ∷ es)

  low_take : (x : Bool) (n : ℕ) → n < 2 → cond x 1 n < 2
  low_take true n less = omega arith
  low_take false n less = less

  put_same : (c : Act) → IsPut c → box_state_next b c (box_state b es) ≡ box_state b es
  put_same (PutTable o t i x) is = refl
  put_same (PutRoot o r old) is = refl
  put_same c is = absurd is

  by_publish : Comes (PublishBox b)
  by_publish may up =
      let a : Act = PublishBox b in
      let known = may.4 in
      let kind = box_known k es valid id v there b 1 may.0 (inl refl) known.0 in
      let payload = box_known k es valid id v there b 2 may.0 (inr refl) known.1 in
      let kind' = stays k es id v a may (box_word b 1) (may.0, omega arith) (λ e. absurd (cc)) in
      let payload' = stays k es id v a may (box_word b 2) (may.0, omega arith) (λ e. absurd (cc)) in
      subst (λ (y : ℕ). IsBoxedValue (word k (did id v a ∷ es) (box_word b 1)) y) (sym (payload' ∙ sym payload))
      (subst (λ (x : ℕ). IsBoxedValue x (known_box_word k b 2 v.log)) (sym (kind' ∙ sym kind)) known.2)

  not_merged : made_state b v.log ≢ 2
  not_merged e =
      let m : has_in_default b v ≡ 1 = here (made_state b v.log) 2 1 0 e in
      let t = total_at (has_in_default b) (run k es).views id v there in
      let n = (boxed k b es valid).counts.other (λ z. absurd (omega (arith, z, was))) in
      omega (arith, m, t, n)

  pub comes : (a : Act) → Comes a
  comes a may up =
      on_box k es id v b Comes
      (λ f may up.
      let s = low_take (eqb (bit (place_bit_of b) f) 1) (box_state b es) was in
      let h = hit b (cond (eqb (bit (place_bit_of b) f) 1) 1 (box_state b es)) (box_state b es) in
      absurd (omega (arith, s, h, up)))
      (λ i x may up. absurd (omega (arith, was, up)))
      by_publish
      (λ x may up. absurd (omega (arith, was, up)))
      (λ x may up. absurd (omega (arith, was, up)))
      (λ may up. absurd (omega (arith, was, up)))
      (λ d f may up. absurd (not_merged may.1))
      (λ old f may up. absurd (omega (arith, was, up)))
      (λ f may up. absurd (omega (arith, was, up)))
      (λ f may up. absurd (omega (arith, was, up)))
      (λ may up. let h = hit b 0 (box_state b es) in absurd (omega (arith, h, up)))
      (λ c is may up. let s = put_same c is in absurd (omega (arith, s, was, up)))
      (λ c calm may up. let s = (calm may).phase_is (box_state b es) in absurd (omega (arith, s, was, up)))
      a may up

by_state : {P : Type 0} (n : ℕ) → (n < 2 → P) → (2 ≤ n → P) → P
by_state zero below above = below (omega arith)
by_state (suc zero) below above = below (omega arith)
by_state (suc (suc n)) below above = above (omega arith)

pub boxes_have_values : BoxesHaveValues
boxes_have_values k b [] valid up = absurd (omega (arith, up))
boxes_have_values k b (did id v a ∷ es) valid up =
    by_state (box_state b es)
    (λ was. comes k es id v b valid.0 valid.1.0 was a valid.1.3 up)
    (λ was.
    let kind = there_stays k es id v b 1 valid.0 valid.1.0 was (omega arith) (λ z. omega (arith, z)) (λ z. omega (arith, z)) a valid.1.3 in
    let payload = there_stays k es id v b 2 valid.0 valid.1.0 was (omega arith) (λ z. omega (arith, z)) (λ z. omega (arith, z)) a valid.1.3 in
    subst (λ (y : ℕ). IsBoxedValue (word k (did id v a ∷ es) (box_word b 1)) y) (sym payload)
    (subst (λ (x : ℕ). IsBoxedValue x (word k es (box_word b 2))) (sym kind) (boxes_have_values k b es valid.0 was)))
boxes_have_values k b (forked id v ∷ es) valid up = boxes_have_values k b es valid.0 up
boxes_have_values k b (sent id v given ∷ es) valid up = boxes_have_values k b es valid.0 up
boxes_have_values k b (joined id v other w ∷ es) valid up = boxes_have_values k b es valid.0 up
