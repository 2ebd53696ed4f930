-- With the floor no look is contended.
use Rattle.std.proofs.Common.{◌≡◌, ℕ, ℤ, pos, negsuc, Bool, true, false, true≢false, List, refl, sym, ◌∙◌, subst, ⊎_elim}
use Rattle.std.specs.Prelude.{Option, Some, None}
use Rattle.std.proofs.Math.Logic.{∥∥₁_elim}
use Rattle.ft_model.specs.declared.call.Call.{Call}
use Rattle.ft_model.specs.declared.call.Call.TheVariants as call
use Rattle.ft_model.specs.declared.call.ListCall.{ListCall}
use Rattle.ft_model.specs.declared.call.ListCall.TheVariants as list
use Rattle.ft_model.specs.declared.cursor.Cursor.{Cursor}
use Rattle.ft_model.specs.declared.data.Key.{Key}
use Rattle.ft_model.specs.declared.script.Kind.{Kind}
use Rattle.ft_model.specs.declared.script.Kind.TheVariants as kind
use Rattle.ft_model.specs.Calls.{other_dict, other_list, other_set}
use Rattle.ft_trace.specs.declared.Act.{Act}
use Rattle.ft_trace.specs.declared.Shape.{Shape}
use Rattle.ft_trace.specs.declared.View.{View}
use Rattle.ft_trace.specs.Acts.{is_writing}
use Rattle.ft_trace.specs.Kinds.{IsItems, IsKeyed}
use Rattle.ft_trace.specs.Traces.{IsReachable}
use Rattle.ft_bank.specs.declared.bank.Bank.{Bank}
use Rattle.ft_bank.specs.declared.pass.Pass.{Pass}
use Rattle.ft_bank.specs.Passes.{shape_of, view}
use Rattle.ft_search.specs.Floors.{LooksWithFloor}
use Rattle.ft_search.specs.Lengths.{StopsAtVersion}
use Rattle.ft_search.proofs.Undisturbed.{floor_entries_stand, floor_versions_stand}
use Rattle.ft_list.proofs.Undisturbed.{floor_items_stand}
use Rattle.ft_section.specs.declared.answers.Look.{Look}
use Rattle.ft_section.specs.declared.answers.Look.TheVariants as look
use Rattle.ft_section.specs.declared.answers.Objects.{Objects}
use Rattle.ft_section.specs.Ready.{IsReady, IsStill, IsWaiting, MayTry}
use Rattle.ft_engine.specs.Answering.{IsLooked, IsUncontended, IsLookedIfAny}
use Rattle.ft_engine.specs.Contentions.{StopsAtOne, StopsCall, StopsIndex, StopsKeyed, StopsList}
use Rattle.ft_dict.specs.DictMaking.{key_of_dict}
use Rattle.ft_set.specs.SetMaking.{key_of_set}
use Rattle.ft_engine.specs.Asked.{AreOfKindIn, IsCallIn}

-- a look that is contended was without the floor
abbrev pub StandsWithFloor : View → Option Look → Type 0
StandsWithFloor v (Some (look.Contended first second)) = v.has_floor ≡ false
StandsWithFloor v (Some (look.Done said stamp)) = Unit {0}
StandsWithFloor v (Some look.NoMemory) = Unit {0}
StandsWithFloor v None = Unit {0}

module _ (w : View) (part : List Act) (p : IsReachable w) (l : LooksWithFloor w part) where
  one_stands : (kind : Kind) (o : ℕ) (other : Option ℕ) (a b : ℕ) → AreOfKindIn w.shape kind o other → StopsAtOne o other a b part → ⊥
  one_stands kind o None a b are stops = floor_versions_stand w part p l o a b are.0.0 stops
  one_stands kind o (Some m) a b are stops =
      ⊎_elim (λ (x : StopsAtVersion o a b part). floor_versions_stand w part p l o a b are.0.0 x) (λ (x : StopsAtVersion m a b part). floor_versions_stand w part p l m a b are.1.0 x) stops

  keyed_stands : (kind : Kind) → IsKeyed kind → (o : ℕ) (other : Option ℕ) (key : Option Key) (a b : ℕ) → AreOfKindIn w.shape kind o other → StopsKeyed w.shape o other key a b part → ⊥
  keyed_stands kind is o other None a b are stops = one_stands kind o other a b are stops
  keyed_stands kind is o other (Some key) a b are stops = floor_entries_stand w part p l o key a b are.0.0 (subst IsKeyed (sym are.0.1) is) stops

  index_stands : (o : ℕ) (index : ℤ) (a b : ℕ) → AreOfKindIn w.shape kind.List o None → StopsIndex o index a b part → ⊥
  index_stands o (pos index) a b are stops = floor_items_stand w part p l o index a b are.0.0 (subst IsItems (sym are.0.1) tt) stops
  index_stands o (negsuc below) a b are stops = floor_versions_stand w part p l o a b are.0.0 stops

  items_stand : (o : ℕ) (lc : ListCall) (a b : ℕ) → AreOfKindIn w.shape kind.List o (other_list lc) → StopsList o lc a b part → ⊥
  items_stand o (list.Get index) a b are stops = index_stands o index a b are stops
  items_stand o lc a b are stops = one_stands kind.List o (other_list lc) a b are stops

  pub call_stands : (hands : List (Option Cursor)) (called : Call) (a b : ℕ) → IsCallIn w.shape hands called → StopsCall w.shape called a b part → ⊥
  call_stands hands (call.Dict o dc) a b names stops = keyed_stands kind.Dict tt o (other_dict dc) (key_of_dict dc) a b names.0 stops
  call_stands hands (call.List o lc) a b names stops = items_stand o lc a b names.0 stops
  call_stands hands (call.Set o sc) a b names stops = keyed_stands kind.Set tt o (other_set sc) (key_of_set sc) a b names.0 stops
  call_stands hands (call.Deque o qc) a b names stops = absurd names
  call_stands hands (call.Next number) a b names stops = stops
  call_stands hands (call.Begin first second) a b names stops = stops
  call_stands hands call.End a b names stops = stops
  call_stands hands call.Quiesce a b names stops = stops
  call_stands hands (call.Await thread index) a b names stops = stops
  call_stands hands call.Dump a b names stops = stops

-- the steps of a contended look
module _ (called : Call) (p q : Pass) (a b : ℕ) (still : (o : ℕ) → is_writing o (view p).log ≡ false) (x : IsLooked called (view p) (view q) (look.Contended a b)) where
  with_floor : (view p).has_floor ≡ true → LooksWithFloor (view q) x.0
  with_floor has = record { older = (view p).log; is = x.1; looks = x.4; floor = x.2.boxed.work.pass.floor ∙ has; still = λ o. x.2.boxed.work.pass.writes o ∙ still o }

  pub never_contended : ((part : List Act) → IsReachable (view q) → LooksWithFloor (view q) part → StopsCall (view q).shape called a b part → ⊥) → (view p).has_floor ≡ false
  never_contended stands = by (view p).has_floor refl
    where
      by : (f : Bool) → (view p).has_floor ≡ f → f ≡ false
      by false e = refl
      by true e =
          absurd (∥∥₁_elim q.possible (λ y z. absurd y)
          (λ (pos : IsReachable (view q)). stands x.0 pos (with_floor e) (subst (λ (k : Shape). StopsCall k called a b x.0) (sym x.2.boxed.work.pass.shape) x.3)))

pub still_may : (b : Bank) (p : Pass) (objects : Objects) → MayTry b p objects → IsStill (view p)
still_may b p objects may = ⊎_elim (λ (r : IsReady b p). r.inside.1.still) (λ (w : IsWaiting b p objects). w.inside.1.still) may

-- ---- a look before a try

pub try_stands : (b : Bank) (p q : Pass) (hands : List (Option Cursor)) (called : Call) (objects : Objects) (found : Option Look) → IsCallIn (shape_of b) hands called → MayTry b p objects → IsLookedIfAny called p q found → (view q).shape ≡ shape_of b → StandsWithFloor (view p) found
try_stands b p q hands called objects None names may x same = tt
try_stands b p q hands called objects (Some (look.Done said stamp)) names may x same = tt
try_stands b p q hands called objects (Some (look.Contended first second)) names may x same =
    never_contended called p q first second (still_may b p objects may).even x (λ part pos l stops. call_stands (view q) part pos l hands called first second (subst (λ (k : Shape). IsCallIn k hands called) (sym same) names) stops)
try_stands b p q hands called objects (Some look.NoMemory) names may x same = tt

-- a look as a call of its own
pub look_stands : (b : Bank) (p q : Pass) (hands : List (Option Cursor)) (called : Call) (answer : Look) → IsCallIn (shape_of b) hands called → ((o : ℕ) → is_writing o (view p).log ≡ false) → (view q).shape ≡ shape_of b → IsLooked called (view p) (view q) answer → (view p).has_floor ≡ true → IsUncontended answer
look_stands b p q hands called (look.Done said stamp) names still same x has = tt
look_stands b p q hands called (look.Contended first second) names still same x has =
    true≢false (sym has ∙ never_contended called p q first second still x (λ part pos l stops. call_stands (view q) part pos l hands called first second (subst (λ (k : Shape). IsCallIn k hands called) (sym same) names) stops))
look_stands b p q hands called look.NoMemory names still same x has = tt
