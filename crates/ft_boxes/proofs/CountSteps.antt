-- Steps on counts of boxes, one after the other.
use Rattle.std.proofs.Common.{◌≡◌, ◌≢◌, ℕ, List, [], ◌∷◌, ◌++◌, refl, sym, ap, ◌∙◌}
use Rattle.ft_layout.specs.declared.slot.Ref.{Ref}
use Rattle.ft_trace.specs.declared.Act.{Act}
use Rattle.ft_trace.specs.declared.Act.TheVariants.{ReadBox, RaiseLocal, DropLocal, ClearLocal, MergeCounts, RaiseShared, DropShared, GivePlace}
use Rattle.ft_trace.specs.declared.View.{View}
use Rattle.ft_trace.specs.Acts.{view_after}
use Rattle.ft_bank.specs.declared.pass.Pass.{Pass}
use Rattle.ft_bank.specs.BoxSteps.{box_id}
use Rattle.ft_bank.specs.Passes.{Did}
use Rattle.ft_bank.specs.Series.{noted_all, DidAll}
use Rattle.ft_boxes.specs.declared.held.Raised.{Raised}
use Rattle.ft_boxes.specs.declared.held.Raised.TheVariants.{Up, Dead, Moved}
use Rattle.ft_boxes.specs.Counting.{AreBoxSteps, TookBoxSteps}
use Rattle.ft_boxes.specs.Raising.{RaisesBySteps, ShowsCause}

noted_append : (b a : List Act) (v : View) → noted_all (b ++ a) v ≡ noted_all b (noted_all a v)
noted_append [] a v = refl
noted_append (x ∷ b) a v = ap (view_after x) (noted_append b a v)

pub did_both : (b a : List Act) (p q r : Pass) → DidAll a p q → DidAll b q r → DidAll (b ++ a) p r
did_both b a p q r x y = (y.0 ∙ x.0, y.1 ∙ (ap (noted_all b) x.1 ∙ sym (noted_append b a p.seat.me.0)), y.2 ∙ x.2)

pub box_steps_append : (b a : List Act) → AreBoxSteps b → AreBoxSteps a → AreBoxSteps (b ++ a)
box_steps_append [] a x y = y
box_steps_append (ReadBox c i f ∷ b) a x y = box_steps_append b a x y
box_steps_append (RaiseLocal c n ∷ b) a x y = box_steps_append b a x y
box_steps_append (DropLocal c n ∷ b) a x y = box_steps_append b a x y
box_steps_append (ClearLocal c ∷ b) a x y = box_steps_append b a x y
box_steps_append (MergeCounts c d f ∷ b) a x y = box_steps_append b a x y
box_steps_append (RaiseShared c old f ∷ b) a x y = box_steps_append b a x y
box_steps_append (DropShared c f ∷ b) a x y = box_steps_append b a x y
box_steps_append (GivePlace c ∷ b) a x y = box_steps_append b a x y
box_steps_append (act ∷ b) a x y = absurd x

pub took_none : (p : Pass) → TookBoxSteps p p
took_none p = ([], tt, (refl, refl, refl))

pub took_then : (p q r : Pass) → TookBoxSteps p q → TookBoxSteps q r → TookBoxSteps p r
took_then p q r x y = (y.0 ++ x.0, box_steps_append y.0 x.0 y.1 x.1, did_both y.0 x.0 p q r x.2 y.2)

-- one step
pub took_one : (a : Act) (p q : Pass) → AreBoxSteps (a ∷ []) → Did a p q → TookBoxSteps p q
took_one a p q is did = (a ∷ [], is, did)

-- steps before those that show why a raise left the count
pub cause_after : (b : Ref) (part old : List Act) (result : Raised) → ShowsCause b result part → ShowsCause b result (part ++ old)
cause_after b part old (Up held) cause = tt
cause_after b part old Dead cause = (cause.0 ++ old, ap (λ (l : List Act). l ++ old) cause.1)
cause_after b part old (Moved first found) cause = (cause.0, (cause.1.0 ++ old, ap (λ (l : List Act). l ++ old) cause.1.1))

pub raises_after : (b : Ref) (p q r : Pass) (result : Raised) → TookBoxSteps p q → RaisesBySteps b q r result → RaisesBySteps b p r result
raises_after b p q r result x y = (y.0 ++ x.0, box_steps_append y.0 x.0 y.1 x.1, did_both y.0 x.0 p q r x.2 y.2, cause_after b y.0 x.0 result y.3)
