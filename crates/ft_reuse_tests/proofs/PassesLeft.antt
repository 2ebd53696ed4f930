-- What calls and goodbyes leave of a pass that is to be taken in.
use Rattle.std.proofs.Common.{◌≡◌, ◌⊎◌, ℕ, zero, suc, false, Option, Some, None, sym, ap, ◌∙◌, subst, inl, inr, ⊎_elim, length}
use Rattle.ft_model.specs.declared.call.Call.{Call}
use Rattle.ft_model.specs.declared.call.Call.TheVariants as call
use Rattle.ft_model.specs.declared.call.ListCall.TheVariants as list
use Rattle.ft_model.specs.declared.data.Value.{Value}
use Rattle.ft_model.specs.declared.reply.Reply.{Reply}
use Rattle.ft_trace.specs.declared.Act.TheVariants.{Announce}
use Rattle.ft_trace.specs.declared.Shape.{Shape}
use Rattle.ft_trace.specs.declared.View.{View}
use Rattle.ft_trace.specs.Acts.{has_lock, stage, announces, view_after}
use Rattle.ft_trace.specs.Traces.{IsFree}
use Rattle.ft_trace.specs.Boxes.{HasMergedBoxes, IsSettled}
use Rattle.ft_bank.specs.SameBoxes.{SameReferences, TakesNoPlace}
use Rattle.ft_bank.specs.Whole.{OnlyBoxed, OnlyLoaded}
use Rattle.ft_bank.proofs.DoneBoxes.{done_same}
use Rattle.ft_section.specs.declared.answers.Objects.{Objects}
use Rattle.ft_section.specs.declared.answers.Stamp.{Stamp}
use Rattle.ft_section.specs.declared.answers.Step.{Step}
use Rattle.ft_section.specs.declared.answers.Step.TheVariants as step
use Rattle.ft_section.specs.Ready.{IsStill}
use Rattle.ft_qsbr.specs.Collecting.{Collected, StaysOrGoes}
use Rattle.ft_qsbr.proofs.PassesStay.{given_or_kept}
use Rattle.ft_table_calls.specs.declared.adding.Added.{Added}
use Rattle.ft_table_calls.specs.declared.adding.Added.TheVariants as added
use Rattle.ft_table_calls.specs.declared.made.Made.{Made}
use Rattle.ft_table_calls.specs.declared.made.Made.TheVariants as made
use Rattle.ft_table_calls.specs.Adding.{Retires, IsAddedWith, AnsweredFull}
use Rattle.ft_table_calls.specs.TriesUnderLocks.{ComesTo, IsTry, UnderLocks}
use Rattle.ft_layout.specs.declared.slot.Ref.{Ref}
use Rattle.ft_layout.specs.declared.slot.Stored.TheVariants.{Boxed}
use Rattle.ft_list.specs.BoxedCalls.{AddsBoxed}
use Rattle.ft_list.specs.HeldValues.{AddsHeldItem, GivesReference, HasStored}
use Rattle.ft_list.specs.ListGrowth.{AddsItems}
use Rattle.ft_list.specs.ListItemWrites.{known_items}
use Rattle.ft_list.specs.ListMaking.{AppendsTo}

-- a pass that has no lock, merges its boxes, and then goes offline and collects may be taken in
pub left_is_free : (u v w : View) (freed : ℕ) → ((o : ℕ) → has_lock o u.log ≡ false) → IsStill u → OnlyBoxed u v → SameReferences u v → TakesNoPlace u v → IsSettled v.log → HasMergedBoxes v.log → Collected (view_after (Announce v.number 0) v) w freed → announces w.log ≡ 0 → IsFree w
left_is_free u v w freed none still boxed references places settled merged x offline = (
  λ o. x.keeps.held.locks o ∙ (boxed.work.pass.locks o ∙ none o),
  λ t.
      let goes : StaysOrGoes (view_after (Announce v.number 0) v) w t = subst (λ (z : View). StaysOrGoes (view_after (Announce v.number 0) v) z t) (sym x.did) (given_or_kept x.acts x.numbers (view_after (Announce v.number 0) v) t x.givings) in
      let was : stage t v.log ≡ stage t u.log = boxed.work.hands t in
      ⊎_elim (λ (same : stage t w.log ≡ stage t v.log). ⊎_elim (λ (z : stage t u.log ≡ 0). inl (same ∙ (was ∙ z))) (λ (z : stage t u.log ≡ 4). inr (same ∙ (was ∙ z))) (still.hands t)) (λ (gone : stage t w.log ≡ 0). inl gone) goes,
  x.keeps.held.used ∙ (boxed.work.used ∙ still.used),
  x.idle,
  x.owes (boxed.work.owes ∙ still.owes),
  offline,
  done_same (view_after (Announce v.number 0) v) w x.keeps.boxes
      (record {
        settled = record { unmade = settled.unmade; counted = settled.counted; whole = settled.whole; given = settled.given };
        none = λ b. references b ∙ still.boxes.none b;
        stored = λ b taken. still.boxes.stored b (places b taken);
      }),
  λ b own. merged b (sym (x.keeps.boxes.made.state b) ∙ own),
)

-- ---- a call keeps the number of the next pass

retired_next : (root : ℕ) (v w : View) → Retires root v w → w.next ≡ v.next
retired_next zero v w is = ap (λ (u : View). u.next) is
retired_next (suc t) v w is = ap (λ (u : View). u.next) is.1

added_next : (R : View → View → Type 0) (k : Shape) (takes : Option ℕ) (over : _) (called : Call) (said : Reply) (v w : View) (what : Added) → IsAddedWith R k takes over called said v w what → w.next ≡ v.next
added_next R k None over called said v w (added.Made stamp) x = x.2.wrote.pass.next
added_next R k (Some class) over called said v w (added.Made stamp) x = let g = x.2 in retired_next _ g.done w g.retired ∙ (g.wrote.pass.next ∙ g.tried.same.next)
added_next R k takes over called said v w (added.NoTable class stamp) x = let a = x.3.2 in ap (λ (u : View). u.next) a.answered ∙ (a.loaded.work.pass.next ∙ x.3.1.same.next)
added_next R k takes over called said v w (added.Over stamp) x = let a = x.2 in ap (λ (u : View). u.next) a.answered ∙ a.loaded.work.pass.next
added_next R k takes over called said v w (added.NoPlace stamp) x = absurd x
added_next R k takes over called said v w (added.Moved a b) x = x.1.2.same.next

items_next : (k : Shape) (o : ℕ) (called : Call) (n : ℕ) (v w : View) (what : Added) → AddsItems k o called n v w what → w.next ≡ v.next
items_next k o called n v w what x = added_next SameReferences k _ _ called _ x.0 w what x.2 ∙ x.1.work.pass.next

full_next : (called : Call) (said : Reply) (stamp : Stamp) (v w : View) → AnsweredFull called said stamp v w → w.next ≡ v.next
full_next called said stamp v w f = let a = f.answered in ap (λ (u : View). u.next) a.answered ∙ (a.loaded.work.pass.next ∙ f.boxed.work.pass.next)

stored_next : (o place : ℕ) (value : Value) (b : Ref) (v u w : View) (what : Added) → HasStored o place value b v u w what → w.next ≡ u.next
stored_next o place value b v u w (added.Made stamp) x = ap (λ (u : View). u.next) x.0
stored_next o place value b v u w (added.NoTable class stamp) x = x.work.pass.next
stored_next o place value b v u w (added.Over stamp) x = x.work.pass.next
stored_next o place value b v u w (added.NoPlace stamp) x = absurd x
stored_next o place value b v u w (added.Moved c d) x = x.work.pass.next

held_next : (k : Shape) (o place : ℕ) (value : Value) (b : Ref) (called : Call) (v w : View) (what : Added) → AddsHeldItem k o place value b called v w what → w.next ≡ v.next
held_next k o place value b called v w what x =
    stored_next o place value b v x.done w what x.stored ∙ (added_next (GivesReference k (Boxed b)) k _ _ called _ x.added.0 x.done what x.added.2 ∙ x.added.1.work.pass.next)

boxed_next : (k : Shape) (o place : ℕ) (value : Value) (called : Call) (v w : View) (what : Added) → AddsBoxed k o place value called v w what → w.next ≡ v.next
boxed_next k o place value called v w (added.Made stamp) x = held_next k o place value x.1.2.0 called x.1.0 w (added.Made stamp) x.1.2.1 ∙ x.1.1.work.pass.next
boxed_next k o place value called v w (added.NoTable class stamp) x = held_next k o place value x.1.2.0 called x.1.0 w (added.NoTable class stamp) x.1.2.1 ∙ x.1.1.work.pass.next
boxed_next k o place value called v w (added.Over stamp) x = items_next k o called 1 v w (added.Over stamp) x
boxed_next k o place value called v w (added.NoPlace stamp) x = full_next called _ stamp v w x.1
boxed_next k o place value called v w (added.Moved c d) x = held_next k o place value x.1.2.0 called x.1.0 w (added.Moved c d) x.1.2.1 ∙ x.1.1.work.pass.next

appends_next : (k : Shape) (o : ℕ) (value : Value) (v w : View) (what : Added) → AppendsTo k o value v w what → w.next ≡ v.next
appends_next k o value v w what (inl p) = items_next k o (call.List o (list.Append value)) 1 v w what p.1
appends_next k o value v w what (inr p) = boxed_next k o (length (known_items o v)) value (call.List o (list.Append value)) v w what p.1

module _ (objects : Objects) (k : Shape) (o : ℕ) (value : Value) (said : Reply) (v w : View) where
  under_next : (came : Made) → UnderLocks objects (ComesTo (AppendsTo k o value) said came) v w → w.next ≡ v.next
  under_next came x = x.gone.next ∙ (appends_next k o value x.before x.after x.did.0 x.did.2 ∙ x.took.next)

  pub tried_next : (result : Step) → IsTry objects (ComesTo (AppendsTo k o value) said) v w result → w.next ≡ v.next
  tried_next (step.Done reply stamp) x = under_next (made.Done reply stamp) x
  tried_next (step.NotYet p q) x = x.0.next
  tried_next (step.Moved a b) x = under_next (made.Moved a b) x
  tried_next step.NoMemory x = under_next made.NoMemory x
