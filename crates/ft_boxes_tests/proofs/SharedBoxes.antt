-- What steps leave of what a pass has to do with a box that it shares with others.
use Rattle.std.proofs.Common.{◌≡◌, ◌≢◌, ℕ, ◌+◌, ◌-◌, eqb, cond, refl, sym, ap, ◌∙◌}
use Rattle.ft_layout.specs.declared.slot.Ref.{Ref}
use Rattle.ft_trace.specs.declared.Act.TheVariants.{DropShared, GivePlace, RaiseShared}
use Rattle.ft_trace.specs.declared.Shape.{Shape}
use Rattle.ft_trace.specs.declared.View.{View}
use Rattle.ft_trace.specs.Acts.{view_after}
use Rattle.ft_trace.specs.Boxes.{made_state, references_held}
use Rattle.ft_trace.proofs.Cases.{here, miss}
use Rattle.ft_bank.specs.BoxSteps.{box_id}
use Rattle.ft_bank.specs.Logs.{HasGrown}
use Rattle.ft_bank.specs.Whole.{OnlyBoxed, OnlyLoaded}
use Rattle.ft_boxes.proofs.Steps.{saw_then}
use Rattle.ft_boxes_tests.specs.OneBox.{SharesBox}

module _ (k : Shape) (b : Ref) (v w : View) where
  -- it has the box in the same state, and holds this many references
  shares : (n m : ℕ) → HasGrown v w → made_state (box_id b) w.log ≡ made_state (box_id b) v.log → references_held k (box_id b) w.log ≡ m → SharesBox k b n v.log → SharesBox k b m w.log
  shares n m grown state held was = record {
    name = was.name;
    shared = λ own. was.shared (sym state ∙ own);
    held = held;
    saw = saw_then k (box_id b) v w grown was.saw;
  }

  pub shares_loaded : (n : ℕ) → v.shape ≡ k → OnlyLoaded v w → SharesBox k b n v.log → SharesBox k b n w.log
  shares_loaded n shape only was =
      shares n n only.work.pass.grown (only.boxes.made.state (box_id b))
      (ap (λ (z : Shape). references_held z (box_id b) w.log) (sym (only.work.pass.shape ∙ shape))
      ∙ (only.boxes.references (box_id b) ∙ (ap (λ (z : Shape). references_held z (box_id b) v.log) shape ∙ was.held)))
      was

  pub shares_raised : (n old f : ℕ) → OnlyBoxed v w → w ≡ view_after (RaiseShared (box_id b) old f) v → f ≡ old → SharesBox k b n v.log → SharesBox k b (n + 1) w.log
  shares_raised n old f only did is was =
      let m = references_held k (box_id b) v.log in
      shares n (n + 1) only.work.pass.grown (ap (λ (z : View). made_state (box_id b) z.log) did)
      (ap (λ (z : View). references_held k (box_id b) z.log) did
      ∙ (here (box_id b) (box_id b) (cond (eqb f old) (m + 1) m) m refl
      ∙ (here f old (m + 1) m is ∙ ap (λ (z : ℕ). z + 1) was.held)))
      was

  pub shares_left : (n old f : ℕ) → OnlyBoxed v w → w ≡ view_after (RaiseShared (box_id b) old f) v → f ≢ old → SharesBox k b n v.log → SharesBox k b n w.log
  shares_left n old f only did ne was =
      let m = references_held k (box_id b) v.log in
      shares n n only.work.pass.grown (ap (λ (z : View). made_state (box_id b) z.log) did)
      (ap (λ (z : View). references_held k (box_id b) z.log) did
      ∙ (here (box_id b) (box_id b) (cond (eqb f old) (m + 1) m) m refl
      ∙ (miss f old (m + 1) m ne ∙ was.held)))
      was

  pub shares_dropped : (n f : ℕ) → OnlyBoxed v w → w ≡ view_after (DropShared (box_id b) f) v → SharesBox k b n v.log → SharesBox k b (n - 1) w.log
  shares_dropped n f only did was =
      let m = references_held k (box_id b) v.log in
      shares n (n - 1) only.work.pass.grown (ap (λ (z : View). made_state (box_id b) z.log) did)
      (ap (λ (z : View). references_held k (box_id b) z.log) did
      ∙ (here (box_id b) (box_id b) (m - 1) m refl ∙ ap (λ (z : ℕ). z - 1) was.held))
      was

  pub shares_given : (n : ℕ) → OnlyBoxed v w → w ≡ view_after (GivePlace (box_id b)) v → SharesBox k b n v.log → SharesBox k b n w.log
  shares_given n only did was =
      shares n n only.work.pass.grown (ap (λ (z : View). made_state (box_id b) z.log) did)
      (ap (λ (z : View). references_held k (box_id b) z.log) did ∙ was.held) was
