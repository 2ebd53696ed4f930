-- Calls on lists that a pass made under their locks: it is in the midst of its call still.
use Rattle.std.proofs.Common.{◌≡◌, ◌⊎◌, true, false, ℕ, ℤ, Result, refl, sym, ◌∙◌, subst, inl, inr}
use Rattle.std.specs.declared.alloc.AllocError.{AllocError}
use Rattle.ft_model.specs.declared.call.Call.TheVariants as call
use Rattle.ft_model.specs.declared.call.ListCall.{ListCall}
use Rattle.ft_model.specs.declared.call.ListCall.TheVariants as list
use Rattle.ft_model.specs.declared.reply.Reply.{Reply}
use Rattle.ft_model.specs.declared.reply.Reply.TheVariants as reply
use Rattle.ft_trace.specs.declared.Shape.{Shape}
use Rattle.ft_bank.specs.declared.bank.Bank.{Bank}
use Rattle.ft_bank.specs.declared.pass.Pass.{Pass}
use Rattle.ft_bank.specs.Answered.{Answered}
use Rattle.ft_bank.specs.Passes.{view, IsPassOf}
use Rattle.ft_bank.specs.PassSections.{stack_of}
use Rattle.ft_section.specs.declared.answers.Stamp.{Stamp}
use Rattle.ft_section.specs.Ready.{IsMaking}
use Rattle.ft_search.specs.MadeCalls.{MadeAs}
use Rattle.ft_search.proofs.Calling.{making_made}
use Rattle.ft_search.proofs.ReadMidst.{making_read}
use Rattle.ft_table_calls.specs.declared.adding.Added.{Added}
use Rattle.ft_table_calls.specs.declared.adding.Added.TheVariants as added
use Rattle.ft_table_calls.proofs.GrowthMidst.{making_added, making_given, making_into, making_read_boxed, making_wrote_boxed}
use Rattle.ft_reads.specs.Clears.{IsCleared}
use Rattle.ft_reads.specs.Copies.{IsCopied}
use Rattle.ft_reads.proofs.CopyMidst.{making_copied}
use Rattle.ft_list.specs.BoxedCalls.{AddsBoxed, SetsBoxed, SetsBoxedAt}
use Rattle.ft_list.specs.HeldValues.{AddsHeldItem, GivesReference}
use Rattle.ft_list.specs.ListGrowth.{AddsItems}
use Rattle.ft_layout.specs.declared.slot.Ref.{Ref}
use Rattle.ft_layout.specs.declared.slot.Stored.TheVariants.{Boxed}
use Rattle.ft_model.specs.declared.data.Value.{Value}
use Rattle.ft_trace.specs.declared.View.{View}
use Rattle.ft_trace.specs.Boxes.{IsDoneWithBoxes}
use Rattle.ft_bank.specs.Passes.{shape_of}
use Rattle.ft_bank.specs.Whole.{OnlyBoxed, Wrote}
use Rattle.ft_bank.proofs.KnownAfterWrites.{boxed_then, loaded_boxed}
use Rattle.ft_search.proofs.Calling.{loaded_same}

pub list_made : {b : Bank} {p q : Pass} {o : ℕ} {lc : ListCall} {said : Reply} {stamp : Stamp} → IsMaking b p → IsPassOf b q → stack_of q ≡ stack_of p → MadeAs (call.List o lc) said stamp (view p) (view q) → IsMaking b q
list_made {b = b} {p = p} {q = q} {o = o} {lc = lc} {said = said} {stamp = stamp} m pass stack x = making_made b p q (call.List o lc) said stamp (λ n l sections. refl) m pass stack x

pub list_added : {b : Bank} {p q : Pass} (k : Shape) (o n : ℕ) (lc : ListCall) (what : Added) → IsMaking b p → IsPassOf b q → stack_of q ≡ stack_of p → AddsItems k o (call.List o lc) n (view p) (view q) what → IsMaking b q
list_added {b = b} {p = p} {q = q} k o n lc what m pass stack x = making_added b p q m pass stack x.0 x.1 _ _ _ (call.List o lc) _ what (λ n l sections. refl) x.2

pub list_cleared : {b : Bank} {p q : Pass} {o : ℕ} {lc : ListCall} {stamp : Stamp} → IsMaking b p → IsPassOf b q → stack_of q ≡ stack_of p → IsCleared (call.List o lc) stamp (view p) (view q) → IsMaking b q
list_cleared {b = b} {p = p} {q = q} {o = o} {lc = lc} {stamp = stamp} m pass stack x = making_given b p q m pass stack x.1.0 x.1.1 (call.List o lc) reply.Done stamp.number x.1.2

pub list_read : {b : Bank} {p q : Pass} {o : ℕ} {lc : ListCall} {said : Reply} {n : ℕ} → IsMaking b p → IsPassOf b q → stack_of q ≡ stack_of p → Answered (call.List o lc) said n (view p) (view q) → IsMaking b q
list_read {b = b} {p = p} {q = q} {o = o} {lc = lc} {said = said} {n = n} m pass stack x = making_read b p q (call.List o lc) said n (λ n l sections. refl) m pass stack x

pub list_copied : {b : Bank} {p q : Pass} (o : ℕ) (lc : ListCall) (made : Result (Reply × Stamp) AllocError) → IsMaking b p → IsPassOf b q → stack_of q ≡ stack_of p → IsCopied (call.List o lc) (view p) (view q) made → IsMaking b q
list_copied {b = b} {p = p} {q = q} o lc made m pass stack x = making_copied b p q (call.List o lc) made (λ n l sections. refl) m pass stack x

-- ---- values in boxes

module _ (b : Bank) (p q : Pass) (o : ℕ) (lc : ListCall) (m : IsMaking b p) (pass : IsPassOf b q) (stack : stack_of q ≡ stack_of p) (done : IsDoneWithBoxes (shape_of b) (view q).log) where
  done_q : IsDoneWithBoxes (view q).shape (view q).log
  done_q = subst (λ (k : Shape). IsDoneWithBoxes k (view q).log) (sym pass.1) done

  none_q : OnlyBoxed (view q) (view q)
  none_q = loaded_boxed (view q) (view q) (loaded_same (view q))

  list_held : (k : Shape) (place : ℕ) (value : Value) (box : Ref) (u : View) (what : Added) → OnlyBoxed (view p) u → (x : AddsHeldItem k o place value box (call.List o lc) u (view q) what) → OnlyBoxed x.done (view q) → IsMaking b q
  list_held k place value box u what boxed x last =
      let a = x.added in
      making_into b p q m pass stack a.0 x.done (boxed_then (view p) u a.0 boxed (loaded_boxed u a.0 a.1)) last done_q (GivesReference k (Boxed box)) k _ _ (call.List o lc) reply.Done what (λ n l sections. refl) a.2

  pub list_boxed : (k : Shape) (place : ℕ) (value : Value) (what : Added) → AddsBoxed k o place value (call.List o lc) (view p) (view q) what → IsMaking b q
  list_boxed k place value (added.Made stamp) x =
      let h = x.1.2.1 in
      list_held k place value x.1.2.0 x.1.0 (added.Made stamp) x.1.1 h (subst (λ (z : View). OnlyBoxed z (view q)) h.stored.0 none_q)
  list_boxed k place value (added.NoTable class stamp) x = let h = x.1.2.1 in list_held k place value x.1.2.0 x.1.0 (added.NoTable class stamp) x.1.1 h h.stored
  list_boxed k place value (added.Over stamp) x = list_added k o 1 lc (added.Over stamp) m pass stack x
  list_boxed k place value (added.NoPlace stamp) x =
      let f = x.1 in
      making_read_boxed b p q m pass stack f.before (view q) f.boxed none_q done_q (call.List o lc) _ stamp.number (λ n l sections. refl) f.answered
  list_boxed k place value (added.Moved c d) x = let h = x.1.2.1 in list_held k place value x.1.2.0 x.1.0 (added.Moved c d) x.1.1 h h.stored

  list_set_boxed_at : (k : Shape) (place : ℕ) (value : Value) (said : Reply) (stamp : Stamp) → SetsBoxedAt k o place value (call.List o lc) said stamp (view p) (view q) → IsMaking b q
  list_set_boxed_at k place value said stamp (inl f) = making_read_boxed b p q m pass stack f.before (view q) f.boxed none_q done_q (call.List o lc) said stamp.number (λ n l sections. refl) f.answered
  list_set_boxed_at k place value said stamp (inr x) = either x.2.made
    where
      either : ((stamp.wrote ≡ true) × Wrote (call.List o lc) said stamp.number x.2.before (view q)) ⊎ ((stamp.wrote ≡ false) × Answered (call.List o lc) said stamp.number x.2.before (view q)) → IsMaking b q
      either (inl y) = making_wrote_boxed b p q m pass stack x.2.before (view q) (boxed_then (view p) x.0 x.2.before x.1 x.2.boxed) none_q done_q (call.List o lc) said stamp.number y.1 (λ t. x.2.hands t ∙ sym (x.2.boxed.work.hands t))
      either (inr y) = making_read_boxed b p q m pass stack x.2.before (view q) (boxed_then (view p) x.0 x.2.before x.1 x.2.boxed) none_q done_q (call.List o lc) said stamp.number (λ n l sections. refl) y.1

pub list_set_boxed : (b : Bank) (p q : Pass) (o : ℕ) (index : ℤ) (value : Value) → IsMaking b p → IsPassOf b q → stack_of q ≡ stack_of p → IsDoneWithBoxes (shape_of b) (view q).log → (k : Shape) (said : Reply) (stamp : Stamp) → SetsBoxed k o index value said stamp (view p) (view q) → IsMaking b q
list_set_boxed b p q o index value m pass stack done k said stamp (inl x) = list_made m pass stack x.1
list_set_boxed b p q o index value m pass stack done k said stamp (inr x) = list_set_boxed_at b p q o (list.Set index value) m pass stack done k x.0 value said stamp x.2
