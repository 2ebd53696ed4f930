-- What the tries of calls on lists come to, in the words that all calls share.
use Rattle.std.proofs.Common.{◌≡◌, ◌⊎◌, ◌<◌, ℕ, ℤ, true, false, length, refl, subst, inl, inr, ⊎_elim}
use Rattle.std.specs.Prelude.{None}
use Rattle.ft_model.specs.declared.call.Call.TheVariants as call
use Rattle.ft_model.specs.declared.call.ListCall.{ListCall}
use Rattle.ft_model.specs.declared.call.ListCall.TheVariants as list
use Rattle.ft_model.specs.declared.call.Call.{Call}
use Rattle.ft_model.specs.declared.reply.Reply.{Reply}
use Rattle.ft_model.specs.declared.reply.Reply.TheVariants as reply
use Rattle.ft_model.specs.declared.script.Kind.TheVariants as kind
use Rattle.ft_model.specs.Calls.{cursor_of_list, other_list}
use Rattle.ft_trace.specs.declared.Shape.{Shape}
use Rattle.ft_trace.specs.declared.View.{View}
use Rattle.ft_section.specs.declared.answers.Stamp.{Stamp}
use Rattle.ft_section.specs.declared.answers.Step.{Step}
use Rattle.ft_table_calls.specs.declared.made.Made.{Made}
use Rattle.ft_table_calls.specs.TriesUnderLocks.{ComesTo, IsTry, made_after, objects_by}
use Rattle.ft_table_calls.specs.declared.adding.Added.{Added}
use Rattle.ft_table_calls.specs.declared.adding.Added.TheVariants as added
use Rattle.ft_table_calls.specs.declared.made.Made.TheVariants as made
use Rattle.ft_list.specs.BoxedCalls.{AddsBoxed, SetsBoxed, SetsBoxedAt}
use Rattle.ft_list.specs.HeldValues.{AddsHeldItem, GivesReference}
use Rattle.ft_list.specs.ListGrowth.{AddsItems}
use Rattle.ft_list.specs.ListItemWrites.{known_items}
use Rattle.ft_list.specs.ListMaking.{FitsList, IsSetBoxed, ListCallMakes}
use Rattle.ft_model.specs.declared.data.Value.{Value}
use Rattle.ft_model.specs.Boxings.{is_boxed}
use Rattle.ft_model.specs.Lists.{clamped_in}
use Rattle.ft_layout.specs.declared.slot.Ref.{Ref}
use Rattle.ft_layout.specs.declared.slot.Stored.TheVariants.{Boxed}
use Rattle.ft_bank.specs.Answered.{Answered}
use Rattle.ft_bank.specs.Whole.{OnlyBoxed, Wrote}
use Rattle.ft_bank.proofs.KnownAfterWrites.{boxed_then, loaded_boxed}
use Rattle.ft_search.proofs.Calling.{loaded_same}
use Rattle.ft_engine.specs.Asked.{AreOfKindIn}
use Rattle.ft_engine.proofs.Outcomes.{Comes, Outcome, boxed_answered_comes, boxed_wrote_comes, held_comes, clear_comes, copy_comes, loaded_comes, made_comes, read_comes, try_outcome}

-- what each call on a list that makes no cursor comes to
module _ (k : Shape) (l : ℕ) (came : Made) (u z : View) (left : 0 < u.left) where
  adds : (called : Call) (n : ℕ) → ComesTo (AddsItems k l called n) reply.Done came u z → Comes called u z came
  adds called n x = subst (Comes called u z) x.1 (loaded_comes k _ _ called reply.Done u x.2.0 z x.0 left x.2.1 x.2.2)

  held_adds : (place : ℕ) (value : Value) (box : Ref) (called : Call) (mid : View) (what : Added) → OnlyBoxed u mid → (x : AddsHeldItem k l place value box called mid z what) → OnlyBoxed x.done z → Comes called u z (made_after what reply.Done)
  held_adds place value box called mid what before x after =
      let a = x.added in
      held_comes (GivesReference k (Boxed box)) k _ _ called reply.Done u a.0 x.done z what left (boxed_then u mid a.0 before (loaded_boxed mid a.0 a.1)) a.2 after

  boxed_adds : (place : ℕ) (value : Value) (called : Call) (what : Added) → AddsBoxed k l place value called u z what → Comes called u z (made_after what reply.Done)
  boxed_adds place value called (added.Made stamp) x =
      let h = x.1.2.1 in
      held_adds place value x.1.2.0 called x.1.0 (added.Made stamp) x.1.1 h (subst (λ (y : View). OnlyBoxed y z) h.stored.0 (loaded_boxed z z (loaded_same z)))
  boxed_adds place value called (added.NoTable class stamp) x = let h = x.1.2.1 in held_adds place value x.1.2.0 called x.1.0 (added.NoTable class stamp) x.1.1 h h.stored
  boxed_adds place value called (added.Over stamp) x = loaded_comes k None _ called reply.Done u x.0 z (added.Over stamp) left x.1 x.2
  boxed_adds place value called (added.NoPlace stamp) x = let f = x.1 in boxed_answered_comes called _ stamp u f.before z left f.unwritten f.boxed f.answered
  boxed_adds place value called (added.Moved a b) x = let h = x.1.2.1 in held_adds place value x.1.2.0 called x.1.0 (added.Moved a b) x.1.1 h h.stored

  set_boxed_comes : (place : ℕ) (value : Value) (called : Call) (said : Reply) (stamp : Stamp) → SetsBoxedAt k l place value called said stamp u z → Comes called u z (made.Done said stamp)
  set_boxed_comes place value called said stamp (inl f) = boxed_answered_comes called said stamp u f.before z left f.unwritten f.boxed f.answered
  set_boxed_comes place value called said stamp (inr y) =
      let held = y.2 in
      let before = boxed_then u y.0 held.before y.1 held.boxed in
      ⊎_elim
      (λ (w : (stamp.wrote ≡ true) × Wrote called said stamp.number held.before z). boxed_wrote_comes called said stamp u held.before z w.0 before w.1)
      (λ (w : (stamp.wrote ≡ false) × Answered called said stamp.number held.before z). boxed_answered_comes called said stamp u held.before z left w.0 before w.1)
      held.made

  set_comes : (index : ℤ) (value : Value) (made_as : Made) → made_as ≡ came → IsSetBoxed k l index value made_as u z → Comes (call.List l (list.Set index value)) u z came
  set_comes index value (made.Done said stamp) is x = subst (Comes called u z) is (by x)
    where
      called : Call
      called = call.List l (list.Set index value)

      by : SetsBoxed k l index value said stamp u z → Comes called u z (made.Done said stamp)
      by (inl y) = made_comes called u z (made.Done said stamp) left y.1
      by (inr y) = set_boxed_comes y.0 value called said stamp y.2
  set_comes index value (made.Moved a b) is x = absurd x
  set_comes index value made.NoMemory is x = absurd x

  -- the value was put in a box, or in place
  stored : (n : ℕ) (value : Value) (place : ℕ) (called : Call) → ComesTo (λ v w what. ((is_boxed value ≡ false) × AddsItems k l called n v w what) ⊎ ((is_boxed value ≡ true) × AddsBoxed k l place value called v w what)) reply.Done came u z → Comes called u z came
  stored n value place called x =
      subst (Comes called u z) x.1
      (⊎_elim
      (λ y. loaded_comes k _ _ called reply.Done u y.1.0 z x.0 left y.1.1 y.1.2)
      (λ y. boxed_adds place value called x.0 y.1)
      x.2)

  list_comes : (lc : ListCall) → cursor_of_list lc ≡ None → ListCallMakes k l lc came u z → Comes (call.List l lc) u z came
  list_comes (list.Append value) none x = stored 1 value (length (known_items l u)) (call.List l (list.Append value)) x
  list_comes (list.Insert i value) none x = stored 1 value (clamped_in (length (known_items l u)) i) (call.List l (list.Insert i value)) x
  list_comes (list.Extend m) none x = adds (call.List l (list.Extend m)) (length (known_items m u)) (x.0, x.1, x.2.0, x.3)
  list_comes (list.Get i) none x = read_comes (call.List l (list.Get i)) u z came left x
  list_comes (list.Set i value) none x = ⊎_elim (λ y. made_comes (call.List l (list.Set i value)) u z came left y.1) (λ y. set_comes i value came refl y.1) x
  list_comes (list.Del i) none x = made_comes (call.List l (list.Del i)) u z came left x
  list_comes (list.Pop i) none x = made_comes (call.List l (list.Pop i)) u z came left x
  list_comes (list.Remove value) none x = made_comes (call.List l (list.Remove value)) u z came left x
  list_comes (list.Index value) none x = made_comes (call.List l (list.Index value)) u z came left x
  list_comes (list.Count value) none x = made_comes (call.List l (list.Count value)) u z came left x
  list_comes (list.Has value) none x = made_comes (call.List l (list.Has value)) u z came left x
  list_comes list.Reverse none x = made_comes (call.List l list.Reverse) u z came left x
  list_comes (list.Slice i j) none x = copy_comes (call.List l (list.Slice i j)) u z came refl left x
  list_comes list.Clear none x = clear_comes (call.List l list.Clear) u z came x
  list_comes list.Len none x = read_comes (call.List l list.Len) u z came left x
  list_comes list.Items none x = copy_comes (call.List l list.Items) u z came refl left x
  list_comes (list.Eq m) none x = made_comes (call.List l (list.Eq m)) u z came left x
  list_comes (list.Iter n) none x = absurd cc
  list_comes (list.Reversed n) none x = absurd cc

pub list_outcome : (k : Shape) (l : ℕ) (v w : View) (r : Step) → 0 < v.left → (lc : ListCall) → cursor_of_list lc ≡ None → IsTry (objects_by l (other_list lc)) (ListCallMakes k l lc) v w r → Outcome (call.List l lc) (objects_by l (other_list lc)) v w r
list_outcome k l v w r left lc none x = try_outcome (call.List l lc) (objects_by l (other_list lc)) (ListCallMakes k l lc) v w left (λ came u z some y. list_comes k l came u z some lc none y) r x

-- ---- what the call names

pub fits_list : (k : Shape) (l : ℕ) (lc : ListCall) → AreOfKindIn k kind.List l (other_list lc) → cursor_of_list lc ≡ None → FitsList true k (call.List l lc)
fits_list k l lc names none = (names.0, names.1, none, λ copies. refl)
