-- A pass that makes a box in the midst of a call, and stores it in an item of the list whose lock it has.
use Rattle.std.proofs.Common.{◌≡◌, ℤ, ◌<◌, ◌≤◌, Bool, cond, true, false, List, [], ◌∷◌, sym, ap, ◌∙◌, subst, ⊎_elim, arith}
use Rattle.std.specs.Prelude.{length}
use Rattle.ft_model.specs.declared.call.Call.{Call}
use Rattle.ft_model.specs.declared.call.Call.TheVariants as call
use Rattle.ft_model.specs.declared.call.ListCall.TheVariants as list
use Rattle.ft_model.specs.declared.data.Value.{Value}
use Rattle.ft_model.specs.declared.reply.Reply.{Reply}
use Rattle.ft_model.specs.declared.script.Kind.TheVariants as kind
use Rattle.ft_model.specs.declared.script.Start.{Start}
use Rattle.ft_model.specs.Worlds.{start_as}
use Rattle.ft_trace.specs.declared.Shape.{Shape}
use Rattle.ft_trace.specs.declared.View.{View}
use Rattle.ft_trace.specs.Acts.{has_lock}
use Rattle.ft_trace.specs.BegunSections.{begun}
use Rattle.ft_trace.specs.Boxes.{IsDoneWithBoxes, IsSettled}
use Rattle.ft_trace.specs.ContainerStates.{kind_in}
use Rattle.ft_bank.specs.declared.bank.Bank.{Bank}
use Rattle.ft_bank.specs.declared.pass.Pass.{Pass}
use Rattle.ft_bank.specs.Answered.{Answered}
use Rattle.ft_bank.specs.Passes.{shape_of, view, IsPassOf}
use Rattle.ft_bank.specs.PassSections.{stack_of}
use Rattle.ft_bank.specs.SameBoxes.{SameReferences}
use Rattle.ft_bank.specs.Whole.{OnlyBoxed, Wrote}
use Rattle.ft_bank.proofs.KnownAfterWrites.{boxed_then, loaded_boxed}
use Rattle.ft_boxes.proofs.TakenBoxes.{settled_done}
use Rattle.ft_section.specs.declared.answers.Objects.{Objects}
use Rattle.ft_section.specs.declared.answers.Stamp.{Stamp}
use Rattle.ft_section.specs.declared.answers.Step.{Step}
use Rattle.ft_section.specs.declared.answers.Step.TheVariants as step
use Rattle.ft_section.specs.Ready.{IsStill}
use Rattle.ft_section.specs.Trying.{SectionsAfter}
use Rattle.ft_section.proofs.MidstOfCall.{making_stays}
use Rattle.ft_list.specs.HeldValues.{MadeHeld}
use Rattle.ft_boxes_tests.specs.Counters.{IsStoring, IsCaller}
use Rattle.ft_boxes_tests.proofs.StillPasses.{IsQuiet, KeepsSections, answered_quiet, boxed_quiet, boxed_sections, caller, quiet_still, sections_then, still_quiet, wrote_quiet}

-- ---- the bank

pub one_list : (starts : List Start) → starts ≡ start_as kind.List ∷ [] → (0 < length starts) × (kind_in starts 0 ≡ kind.List)
one_list starts is = (subst (λ (z : List Start). 0 < length z) (sym is) (omega arith), ap (λ (z : List Start). kind_in z 0) is)

unit_low : (x : Bool) → cond x 1 0 ≤ 1
unit_low true = omega arith
unit_low false = omega arith

-- ---- calls under locks

-- after a call that was made any other may be tried
pub may_again : (b : Bank) (objects : Objects) (p q : Pass) (asked : Step) (made : Reply × Stamp) → SectionsAfter b objects p q asked → asked ≡ step.Done made.0 made.1 → IsCaller b q
may_again b objects p q asked made after is = caller b q ((subst (SectionsAfter b objects p q) is after).0.may)

-- ---- the pass makes a box

module _ (b : Bank) (p q : Pass) (storing : IsStoring b p) (pass : IsPassOf b q) (stack : stack_of q ≡ stack_of p) (only : OnlyBoxed (view p) (view q)) where
  abbrev v : View
  v = view p

  abbrev w : View
  w = view q

  abbrev was : IsStill v
  was = storing.making.inside.1.still

  abbrev quiet : IsQuiet w
  quiet = boxed_quiet v w only (still_quiet v was)

  -- it found no place
  pub storing_still : IsSettled w.log → SameReferences v w → IsStoring b q
  storing_still settled same =
      let keeps = boxed_sections v w only in
      let none = settled_done w q.possible settled quiet.even (λ c. same c ∙ was.boxes.none c) in
      record {
        making = making_stays b p q storing.making pass stack keeps.shape keeps.locks keeps.begun (quiet_still w quiet none);
        locked = keeps.locks 0 ∙ storing.locked;
      }

-- ---- and stores it

module _ (b : Bank) (p q r : Pass) (storing : IsStoring b p) (only : OnlyBoxed (view p) (view q)) (pass : IsPassOf b r) (stack : stack_of r ≡ stack_of p) (index : ℤ) (value : Value) (said : Reply) (stamp : Stamp) (x : MadeHeld (shape_of b) (call.List 0 (list.Set index value)) said stamp (view q) (view r)) where
  abbrev called : Call
  called = call.List 0 (list.Set index value)

  abbrev before : View
  before = x.before

  abbrev boxed : OnlyBoxed (view p) before
  boxed = boxed_then (view p) (view q) before only x.boxed

  quiet_before : IsQuiet before
  quiet_before = boxed_quiet (view p) before boxed (still_quiet (view p) storing.making.inside.1.still)

  written : Wrote called said stamp.number before (view r) → IsQuiet (view r) × KeepsSections before (view r)
  written y = (
    wrote_quiet called said stamp.number before (view r) y (λ t. x.hands t ∙ sym (x.boxed.work.hands t)) quiet_before,
    record { shape = y.pass.shape; locks = y.pass.locks; begun = y.pass.begun },
  )

  raised : Answered called said stamp.number before (view r) → IsQuiet (view r) × KeepsSections before (view r)
  raised y =
      let load = y.loaded.work.pass in (
        subst IsQuiet (sym y.answered) (answered_quiet called said stamp.number y.before (boxed_quiet before y.before (loaded_boxed before y.before y.loaded) quiet_before)),
        record {
          shape = ap (λ (z : View). z.shape) y.answered ∙ load.shape;
          locks = λ o. ap (λ (z : View). has_lock o z.log) y.answered ∙ load.locks o;
          begun = ap (λ (z : View). begun z.log) y.answered ∙ load.begun;
        },
      )

  pub storing_on : IsStoring b r
  storing_on =
      let both = ⊎_elim (λ y. written y.1) (λ y. raised y.1) x.made in
      let keeps = sections_then (view p) before (view r) (boxed_sections (view p) before boxed) both.1 in
      let done = subst (λ (k : Shape). IsDoneWithBoxes k (view r).log) (sym pass.1) x.boxes in
      record {
        making = making_stays b p r storing.making pass stack keeps.shape keeps.locks keeps.begun (quiet_still (view r) both.0 done);
        locked = keeps.locks 0 ∙ storing.locked;
      }
