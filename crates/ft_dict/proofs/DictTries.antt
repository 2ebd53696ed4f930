-- Calls on dicts under their locks: what the pass may do, that it is in the midst of its call still, and that the try of
-- `setdefault` leaves its cursors.
use Rattle.std.proofs.Common.{◌≡◌, ◌⊎◌, ◌<◌, ℕ, true, false, refl, sym, subst, inl, inr}
use Rattle.ft_model.specs.declared.call.Call.TheVariants as call
use Rattle.ft_model.specs.declared.call.DictCall.{DictCall}
use Rattle.ft_model.specs.declared.call.DictCall.TheVariants as dict
use Rattle.ft_model.specs.declared.data.Key.{Key}
use Rattle.ft_model.specs.declared.data.Value.{Value}
use Rattle.ft_model.specs.declared.reply.Reply.{Reply}
use Rattle.ft_model.specs.declared.script.Kind.{Kind}
use Rattle.ft_model.specs.declared.script.Kind.TheVariants as kind
use Rattle.ft_trace.specs.declared.Shape.{Shape}
use Rattle.ft_trace.specs.declared.View.{View}
use Rattle.ft_trace.specs.Acts.{has_lock}
use Rattle.ft_trace.specs.Addresses.{container_count}
use Rattle.ft_trace.specs.Boxes.{IsDoneWithBoxes}
use Rattle.ft_trace.specs.ContainerStates.{kind_in}
use Rattle.ft_trace.specs.Holds.{known_state}
use Rattle.ft_trace.specs.Kinds.{IsKeyed}
use Rattle.ft_bank.specs.declared.bank.Bank.{Bank}
use Rattle.ft_bank.specs.declared.pass.Pass.{Pass}
use Rattle.ft_bank.specs.Answered.{Answered}
use Rattle.ft_bank.specs.Passes.{shape_of, view, IsPassOf}
use Rattle.ft_bank.specs.PassSections.{stack_of}
use Rattle.ft_bank.specs.Whole.{OnlyBoxed}
use Rattle.ft_bank.proofs.KnownAfterWrites.{boxed_then, loaded_boxed}
use Rattle.ft_section.specs.declared.answers.Objects.TheVariants.{One}
use Rattle.ft_section.specs.declared.answers.Stamp.{Stamp}
use Rattle.ft_section.specs.declared.answers.Step.{Step}
use Rattle.ft_section.specs.Ready.{IsMaking}
use Rattle.ft_search.specs.MadeCalls.{MadeAs}
use Rattle.ft_search.specs.OneEntryWrites.{MayWriteEntries}
use Rattle.ft_search.proofs.Calling.{loaded_same, making_made, making_may}
use Rattle.ft_search.proofs.ReadMidst.{making_read}
use Rattle.ft_table_calls.specs.declared.adding.Added.{Added}
use Rattle.ft_table_calls.specs.declared.adding.Added.TheVariants as added
use Rattle.ft_table_calls.specs.Adding.{KeepsCursors}
use Rattle.ft_table_calls.specs.TriesUnderLocks.{IsTry}
use Rattle.ft_table_calls.proofs.GrowthMidst.{making_added, making_into, making_read_boxed}
use Rattle.ft_table_calls.proofs.TriedCalls.{try_keeps}
use Rattle.ft_new_keys.specs.HeldKeys.{KeyInBox}
use Rattle.ft_new_keys.specs.KeyGrowth.{PutsKey, holds}
use Rattle.ft_dict.specs.BoxedCalls.{ComesToDefault, PutsBoxed, SetsDefaultBoxed}
use Rattle.ft_dict.specs.HeldSets.{PutsHeld}

-- ---- before the call

pub may_enter : (b : Bank) (p : Pass) (o : ℕ) → IsMaking b p → o < container_count (shape_of b) → kind_in (shape_of b).starts o ≡ kind.Dict → has_lock o (view p).log ≡ true → 0 < (view p).left → MayWriteEntries (shape_of b) o (view p)
may_enter b p o m low is mine left = making_may b p (shape_of b) o m m.inside.0.1 low (subst (λ (z : Kind). IsKeyed z) (sym is) tt) mine left

-- ---- after it

pub dict_made : {b : Bank} {p q : Pass} {o : ℕ} {dc : DictCall} {said : Reply} {stamp : Stamp} → IsMaking b p → IsPassOf b q → stack_of q ≡ stack_of p → MadeAs (call.Dict o dc) said stamp (view p) (view q) → IsMaking b q
dict_made {b = b} {p = p} {q = q} {o = o} {dc = dc} {said = said} {stamp = stamp} m pass stack x = making_made b p q (call.Dict o dc) said stamp (λ n l sections. refl) m pass stack x

pub dict_read : {b : Bank} {p q : Pass} {o : ℕ} {dc : DictCall} {said : Reply} {n : ℕ} → IsMaking b p → IsPassOf b q → stack_of q ≡ stack_of p → Answered (call.Dict o dc) said n (view p) (view q) → IsMaking b q
dict_read {b = b} {p = p} {q = q} {o = o} {dc = dc} {said = said} {n = n} m pass stack x = making_read b p q (call.Dict o dc) said n (λ n l sections. refl) m pass stack x

pub dict_put : {b : Bank} {p q : Pass} (k : Shape) (o : ℕ) (key : Key) (dc : DictCall) (said : Reply) (what : Added) → IsMaking b p → IsPassOf b q → stack_of q ≡ stack_of p → PutsKey k o key (call.Dict o dc) said (view p) (view q) what → IsMaking b q
dict_put {b = b} {p = p} {q = q} k o key dc said what m pass stack x = making_added b p q m pass stack x.0 x.1 _ _ _ (call.Dict o dc) _ what (λ n l sections. refl) x.2

-- ---- with values in boxes

module _ (b : Bank) (p q : Pass) (o : ℕ) (dc : DictCall) (m : IsMaking b p) (pass : IsPassOf b q) (stack : stack_of q ≡ stack_of p) (done : IsDoneWithBoxes (shape_of b) (view q).log) where
  done_q : IsDoneWithBoxes (view q).shape (view q).log
  done_q = subst (λ (k : Shape). IsDoneWithBoxes k (view q).log) (sym pass.1) done

  -- the pass had made a box, and was at u then
  dict_held : (k : Shape) (key : Key) (said : Reply) (what : Added) (u : View) → OnlyBoxed (view p) u → PutsHeld k o key (call.Dict o dc) said u (view q) what → IsMaking b q
  dict_held k key said what u boxed x =
      making_into b p q m pass stack x.before x.after (boxed_then (view p) u x.before boxed x.boxed) x.dropped done_q (λ y z. KeyInBox k o key x.box z) k _ _ (call.Dict o dc) said what (λ n l sections. refl) x.put

  pub dict_boxed : (k : Shape) (key : Key) (value : Value) (said : Reply) (what : Added) → PutsBoxed k o key value (call.Dict o dc) said (view p) (view q) what → IsMaking b q
  dict_boxed k key value said (added.Made stamp) x = dict_held k key said (added.Made stamp) x.1.0 x.1.1 x.1.2
  dict_boxed k key value said (added.NoTable class stamp) x = dict_held k key said (added.NoTable class stamp) x.1.0 x.1.1 x.1.2
  dict_boxed k key value said (added.Over stamp) x = dict_put k o key dc said (added.Over stamp) m pass stack x
  dict_boxed k key value said (added.NoPlace stamp) x =
      let f = x.1 in
      making_read_boxed b p q m pass stack f.before (view q) f.boxed (loaded_boxed (view q) (view q) (loaded_same (view q))) done_q (call.Dict o dc) _ stamp.number (λ n l sections. refl) f.answered
  dict_boxed k key value said (added.Moved c d) x = dict_held k key said (added.Moved c d) x.1.0 x.1.1 x.1.2

-- a default that belongs in a box: the key may be there
pub default_boxed : (b : Bank) (p q : Pass) (o : ℕ) (m : IsMaking b p) → IsPassOf b q → stack_of q ≡ stack_of p → IsDoneWithBoxes (shape_of b) (view q).log → (k : Shape) (key : Key) (default : Value) (said : Reply) (what : Added) → SetsDefaultBoxed k o key default said (view p) (view q) what → IsMaking b q
default_boxed b p q o m pass stack done k key default said what x = either x.1
  where
    dc : DictCall
    dc = dict.SetDefault key default

    either : ((holds (known_state o (view p)).content key ≡ true) × PutsKey k o key (call.Dict o dc) said (view p) (view q) what) ⊎ ((holds (known_state o (view p)).content key ≡ false) × PutsBoxed k o key default (call.Dict o dc) said (view p) (view q) what) → IsMaking b q
    either (inl y) = dict_put k o key dc said what m pass stack y.1
    either (inr y) = dict_boxed b p q o dc m pass stack done k key default said what y.1

-- ---- the try of `setdefault`

pub default_keeps : (k : Shape) (d : ℕ) (key : Key) (default : Value) (v w : View) (r : Step) → IsTry (One d) (ComesToDefault k d key default) v w r → KeepsCursors v w
default_keeps k d key default v w r x = try_keeps (One d) (ComesToDefault k d key default) v w (λ made b a y. y.1.3) r x
