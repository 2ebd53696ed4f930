-- A box for which a pass holds a reference before and after some steps that leave what it knows of values: the two words of
-- the box's value are the same after them, and it knows them still.
use Rattle.std.proofs.Common.{◌≡◌, ℕ, ◌<◌, ◌≤◌, true, refl, sym, ◌∙◌, subst, arith}
use Rattle.std.proofs.Math.Bool.{Bool-set}
use Rattle.std.proofs.Math.Logic.{∥∥₁_elim}
use Rattle.std.proofs.Math.Nat.{ℕ_set}
use Rattle.ft_layout.specs.declared.slot.Ref.{Ref}
use Rattle.ft_trace.specs.declared.Shape.{Shape}
use Rattle.ft_trace.specs.declared.View.{View}
use Rattle.ft_trace.specs.Addresses.{maker_of, place_in, IsBoxName}
use Rattle.ft_trace.specs.Boxes.{known_box_word, knows_box_word, references_held}
use Rattle.ft_trace.specs.BoxWords.{IsBoxedValue}
use Rattle.ft_trace.specs.Traces.{IsReachable}
use Rattle.ft_bank.specs.BoxSteps.{box_id, IsBoxIn}
use Rattle.ft_boxes.specs.References.{HoldsBox, KeepsValues, KnowsValue}
use Rattle.ft_boxes.proofs.Heaps.{value_there}
use Rattle.ft_search.proofs.Unboxing.{name_in, name_is}

-- two parts of some steps, where the pass held no fewer references after the first part than before it
pub keeps_more : (u v w : View) → v.shape ≡ u.shape → ((c : ℕ) → references_held u.shape c u.log ≤ references_held v.shape c v.log) → KeepsValues u v → KeepsValues v w → KeepsValues u w
keeps_more u v w shape more first then b value held still knows =
    let up = more (box_id b) in
    let some_ = held.1 in
    let mid : HoldsBox b v = (subst (λ (z : Shape). IsBoxIn z b) (sym shape) held.0, omega (arith, up, some_)) in
    then b value mid still (first b value held mid knows)

-- what the pass knows of the two words of the box's value
abbrev pub KnowsWords : ℕ → View → Type 0
KnowsWords n v = (knows_box_word v.shape n 1 v.log ≡ true) × (knows_box_word v.shape n 2 v.log ≡ true)

-- the two words are the same
abbrev pub SameWords : ℕ → View → View → Type 0
SameWords n v w =
    (known_box_word w.shape n 1 w.log ≡ known_box_word v.shape n 1 v.log)
    × (known_box_word w.shape n 2 w.log ≡ known_box_word v.shape n 2 v.log)

module _ (v w : View) (n : ℕ) (possible : ∥ IsReachable v ∥₁) (shape : w.shape ≡ v.shape) (name : IsBoxName v.shape n) (held : 0 < references_held v.shape n v.log) (still : 0 < references_held w.shape n w.log) (known : KnowsWords n v) (keeps : KeepsValues v w) where
  -- the box with this name
  abbrev b : Ref
  b = record { pass = maker_of n; place = place_in n }

  id_is : box_id b ≡ n
  id_is = name_is b n refl refl

  holds : HoldsBox b v
  holds = (name_in v.shape b n refl refl name, subst (λ (z : ℕ). 0 < references_held v.shape z v.log) (sym id_is) held)

  holds_still : HoldsBox b w
  holds_still = (
    subst (λ (z : Shape). IsBoxIn z b) (sym shape) (name_in v.shape b n refl refl name),
    subst (λ (z : ℕ). 0 < references_held w.shape z w.log) (sym id_is) still,
  )

  value_now : ∥ IsBoxedValue (known_box_word v.shape (box_id b) 1 v.log) (known_box_word v.shape (box_id b) 2 v.log) ∥₁
  value_now =
      value_there v possible b holds (subst (λ (z : ℕ). knows_box_word v.shape z 1 v.log ≡ true) (sym id_is) known.0)
      (subst (λ (z : ℕ). knows_box_word v.shape z 2 v.log ≡ true) (sym id_is) known.1)

  -- with a value of these words
  by : IsBoxedValue (known_box_word v.shape (box_id b) 1 v.log) (known_box_word v.shape (box_id b) 2 v.log) → KnowsWords n w × SameWords n v w
  by has =
      let was : KnowsValue b has.stored v = record {
        kind = subst (λ (z : ℕ). knows_box_word v.shape z 1 v.log ≡ true) (sym id_is) known.0;
        payload = subst (λ (z : ℕ). knows_box_word v.shape z 2 v.log ≡ true) (sym id_is) known.1;
        words = has.words;
      } in
      let now = keeps b has.stored holds holds_still was in (
        (subst (λ (z : ℕ). knows_box_word w.shape z 1 w.log ≡ true) id_is now.kind, subst (λ (z : ℕ). knows_box_word w.shape z 2 w.log ≡ true) id_is now.payload),
        (
          subst (λ (z : ℕ). known_box_word w.shape z 1 w.log ≡ known_box_word v.shape z 1 v.log) id_is (now.words.kind_is ∙ sym has.words.kind_is),
          subst (λ (z : ℕ). known_box_word w.shape z 2 w.log ≡ known_box_word v.shape z 2 v.log) id_is (now.words.payload_is ∙ sym has.words.payload_is),
        ),
      )

  pub still_known : KnowsWords n w
  still_known = (
    ∥∥₁_elim {P = knows_box_word w.shape n 1 w.log ≡ true} value_now (Bool-set _ _) (λ has. (by has).0.0),
    ∥∥₁_elim {P = knows_box_word w.shape n 2 w.log ≡ true} value_now (Bool-set _ _) (λ has. (by has).0.1),
  )

  pub still_same : SameWords n v w
  still_same = (
    ∥∥₁_elim {P = known_box_word w.shape n 1 w.log ≡ known_box_word v.shape n 1 v.log} value_now (ℕ_set _ _) (λ has. (by has).1.0),
    ∥∥₁_elim {P = known_box_word w.shape n 2 w.log ≡ known_box_word v.shape n 2 v.log} value_now (ℕ_set _ _) (λ has. (by has).1.1),
  )
