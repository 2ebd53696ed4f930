-- A pass that may try calls may still try them once it has loaded words, gone online, or counted references that it let go
-- again.
use Rattle.std.proofs.Common.{◌≡◌, ◌⊎◌, ℕ, ◌<◌, true, false, sym, ap, ◌∙◌, subst, inl, inr, ⊎_elim, arith}
use mathlib.Core.Logic.{dite}
use native.Mathlib.Decide.{ℕ_discrete}
use Rattle.ft_model.specs.declared.call.Call.{Call}
use Rattle.ft_model.specs.declared.reply.Reply.{Reply}
use Rattle.ft_trace.specs.declared.Act.TheVariants.{Announce, Answer, WriteNumber}
use Rattle.ft_trace.specs.declared.Shape.{Shape}
use Rattle.ft_trace.specs.declared.View.{View}
use Rattle.ft_trace.specs.Acts.{has_lock, is_writing, stage, used, owes, flight, view_after}
use Rattle.ft_trace.specs.Addresses.{container_count}
use Rattle.ft_trace.specs.BegunSections.{begun}
use Rattle.ft_trace.specs.Boxes.{references_held, IsDoneWithBoxes, IsSettled}
use Rattle.ft_trace.specs.ContainerStates.{ContainerState, changes}
use Rattle.ft_trace.specs.Holds.{held_unboxed, known_state}
use Rattle.ft_trace.specs.Pictures.{ContainerWords, Represents}
use Rattle.ft_bank.specs.declared.bank.Bank.{Bank}
use Rattle.ft_bank.specs.declared.pass.Pass.{Pass}
use Rattle.ft_bank.specs.Passes.{view, IsPassOf}
use Rattle.ft_bank.specs.PassSections.{Stack, stack_of}
use Rattle.ft_bank.specs.SameBoxes.{HoldsFew, SameReferences}
use Rattle.ft_bank.specs.Whole.{OnlyBoxed, OnlyLoaded, Wrote}
use Rattle.ft_bank.proofs.DoneBoxes.{done_same}
use Rattle.ft_bank.proofs.KnownAfterWrites.{boxed_then, loaded_boxed, work_knows}
use Rattle.ft_layout.specs.declared.slot.Ref.{Ref}
use Rattle.ft_boxes.specs.References.{HoldsOneLess, HoldsOneMore}
use Rattle.ft_boxes.proofs.TakenBoxes.{settled_done}
use Rattle.ft_section.specs.declared.answers.Objects.{Objects}
use Rattle.ft_section.specs.declared.answers.Objects.TheVariants.{One}
use Rattle.ft_section.specs.LockTakings.{IsOwnFor, lower_of, upper_of}
use Rattle.ft_section.specs.Ready.{AreSuspended, HasTop, InCall, IsInCall, IsReady, IsStill, IsWaiting}
use Rattle.ft_section.proofs.MidstOfCall.{in_call_stays}
use Rattle.ft_boxes_tests.specs.Counters.{IsCaller, IsCounter, MayTryAny}

-- ---- in the midst of nothing, whatever it has to do with boxes

pub record IsQuiet (v : View) : Type 0 where
  pub even : (o : ℕ) → is_writing o v.log ≡ false
  pub hands : (t : ℕ) → (stage t v.log ≡ 0) ⊎ (stage t v.log ≡ 4)
  pub used : used v.log ≡ false
  pub owes : owes v.log ≡ 0
  pub flight : flight v.log ≡ 0
  pub stands : (o : ℕ) → o < container_count v.shape → has_lock o v.log ≡ true
      → Represents v.shape.texts (held_unboxed o v) (known_state o v)

pub still_quiet : (v : View) → IsStill v → IsQuiet v
still_quiet v s = record { even = s.even; hands = s.hands; used = s.used; owes = s.owes; flight = s.flight; stands = s.stands }

pub quiet_still : (v : View) → IsQuiet v → IsDoneWithBoxes v.shape v.log → IsStill v
quiet_still v q done = record { even = q.even; hands = q.hands; used = q.used; owes = q.owes; flight = q.flight; boxes = done; stands = q.stands }

-- what stands of a container whose words and content the pass knows still
stands_by : (o : ℕ) (v w : View) → w.shape ≡ v.shape → known_state o w ≡ known_state o v → held_unboxed o w ≡ held_unboxed o v → Represents v.shape.texts (held_unboxed o v) (known_state o v) → Represents w.shape.texts (held_unboxed o w) (known_state o w)
stands_by o v w shape state words stands =
    subst (λ (x : Shape × ContainerWords × ContainerState). Represents x.0.texts x.1 x.2) (λ d. (sym shape d, sym words d, sym state d)) stands

pub boxed_quiet : (v w : View) → OnlyBoxed v w → IsQuiet v → IsQuiet w
boxed_quiet v w x q =
    let work = x.work in
    let pass = work.pass in
    record {
      even = λ o. pass.writes o ∙ q.even o;
      hands = λ t. subst (λ (n : ℕ). (n ≡ 0) ⊎ (n ≡ 4)) (sym (work.hands t)) (q.hands t);
      used = work.used ∙ q.used;
      owes = work.owes ∙ q.owes;
      flight = pass.flight ∙ q.flight;
      stands = λ o low has.
          let low' : o < container_count v.shape = subst (λ (k : Shape). o < container_count k) pass.shape low in
          let mine : has_lock o v.log ≡ true = sym (pass.locks o) ∙ has in
          stands_by o v w pass.shape (work_knows v w o work) (x.unboxed o low' mine) (q.stands o low' mine);
    }

pub answered_quiet : (called : Call) (said : Reply) (n : ℕ) (v : View) → IsQuiet v → IsQuiet (view_after (Answer called said n) v)
answered_quiet called said n v q = record { even = q.even; hands = q.hands; used = q.used; owes = q.owes; flight = q.flight; stands = q.stands }

pub wrote_quiet : (called : Call) (said : Reply) (n : ℕ) (v w : View) → Wrote called said n v w → ((t : ℕ) → stage t w.log ≡ stage t v.log) → IsQuiet v → IsQuiet w
wrote_quiet called said n v w x hands q = record {
  even = λ p. x.pass.writes p ∙ q.even p;
  hands = λ t. subst (λ (n : ℕ). (n ≡ 0) ⊎ (n ≡ 4)) (sym (hands t)) (q.hands t);
  used = x.used;
  owes = x.owes;
  flight = x.pass.flight ∙ q.flight;
  stands = λ p low has.
      let shape = x.pass.shape in
      let low' : p < container_count v.shape = subst (λ (k : Shape). p < container_count k) shape low in
      let mine : has_lock p v.log ≡ true = sym (x.pass.locks p) ∙ has in
      dite (ℕ_discrete p (changes called))
      (λ (e : p ≡ changes called).
      subst (λ (k : Shape). Represents k.texts (held_unboxed p w) (known_state p w)) (sym shape)
      (subst (λ (o : ℕ). Represents v.shape.texts (held_unboxed o w) (known_state o w)) (sym e) x.stands))
      (λ ne. let e = x.others p low' ne mine (q.even p) in stands_by p v w shape e.1 e.2 (q.stands p low' mine));
}

-- ---- with the same locks and sections

pub record KeepsSections (v w : View) : Type 0 where
  pub shape : w.shape ≡ v.shape
  pub locks : (o : ℕ) → has_lock o w.log ≡ has_lock o v.log
  pub begun : begun w.log ≡ begun v.log

pub sections_then : (u v w : View) → KeepsSections u v → KeepsSections v w → KeepsSections u w
sections_then u v w a b = record { shape = b.shape ∙ a.shape; locks = λ o. b.locks o ∙ a.locks o; begun = b.begun ∙ a.begun }

pub boxed_sections : (v w : View) → OnlyBoxed v w → KeepsSections v w
boxed_sections v w x = record { shape = x.work.pass.shape; locks = x.work.pass.locks; begun = x.work.pass.begun }

-- ---- whatever call may come next

module _ (b : Bank) (p q : Pass) (pass : IsPassOf b q) (stack : stack_of q ≡ stack_of p) (keeps : KeepsSections (view p) (view q)) (still : IsStill (view q)) where
  in_call : IsInCall b p → IsInCall b q
  in_call i = (pass, subst (InCall (view q)) (sym stack) (in_call_stays (view p) (view q) (stack_of p) i.1 keeps.shape keeps.locks keeps.begun still))

  top : HasTop p → HasTop q
  top has outer top_ split =
      let t = has outer top_ (sym (ap (λ (s : Stack). s.sections) stack) ∙ split) in
      (keeps.locks top_.locks.lower ∙ t.0, keeps.locks top_.locks.upper ∙ t.1)

  ready : IsReady b p → IsReady b q
  ready r = record { inside = in_call r.inside; own = ap (λ (s : Stack). s.own) stack ∙ r.own; mark = ap (λ (s : Stack). s.mark) stack ∙ r.mark; top = top r.top }

  waiting : (objects : Objects) → IsWaiting b p objects → IsWaiting b q objects
  waiting objects w = record {
    inside = in_call w.inside;
    owner = w.owner;
    mark = ap (λ (s : Stack). s.mark) stack ∙ w.mark;
    suspended = subst (λ (s : Stack). AreSuspended s.sections) (sym stack) w.suspended;
    own = subst (λ (s : Stack). IsOwnFor (lower_of objects) (upper_of objects) s.own) (sym stack) w.own;
  }

  pub may_stay : MayTryAny b p → MayTryAny b q
  may_stay may objects = ⊎_elim (λ (r : IsReady b p). inl (ready r)) (λ (w : IsWaiting b p objects). inr (waiting objects w)) (may objects)

pub may_inside : (b : Bank) (p : Pass) → MayTryAny b p → IsInCall b p
may_inside b p may = ⊎_elim (λ (r : IsReady b p). r.inside) (λ (w : IsWaiting b p (One 0)). w.inside) (may (One 0))

pub may_pass : (b : Bank) (p : Pass) → MayTryAny b p → IsPassOf b p
may_pass b p may = (may_inside b p may).0

pub may_still : (b : Bank) (p : Pass) → MayTryAny b p → IsStill (view p)
may_still b p may = (may_inside b p may).1.still

pub may_few : (b : Bank) (p : Pass) → MayTryAny b p → HoldsFew (view p)
may_few b p may c = let none = (may_still b p may).boxes.none c in omega (arith, none)

pub caller : (b : Bank) (p : Pass) → MayTryAny b p → IsCaller b p
caller b p may =
    let still = may_still b p may in
    record { pass = may_pass b p may; settled = still.boxes.settled; few = may_few b p may; idle = still.even; may = may }

-- ---- after steps

-- steps with boxes after which it holds no reference, and what it has to do with its own boxes is settled
pub boxed_calls : (b : Bank) (p q : Pass) → IsCaller b p → IsPassOf b q → stack_of q ≡ stack_of p → OnlyBoxed (view p) (view q) → IsSettled (view q).log → ((c : ℕ) → references_held (view q).shape c (view q).log ≡ 0) → IsCaller b q
boxed_calls b p q was pass stack only settled none =
    let quiet = boxed_quiet (view p) (view q) only (still_quiet (view p) (may_still b p was.may)) in
    caller b q (may_stay b p q pass stack (boxed_sections (view p) (view q) only) (quiet_still (view q) quiet (settled_done (view q) q.possible settled quiet.even none)) was.may)

pub loaded_calls : (b : Bank) (p q : Pass) → IsCaller b p → IsPassOf b q → stack_of q ≡ stack_of p → OnlyLoaded (view p) (view q) → IsCaller b q
loaded_calls b p q was pass stack only =
    let done = done_same (view p) (view q) only.boxes (may_still b p was.may).boxes in
    boxed_calls b p q was pass stack (loaded_boxed (view p) (view q) only) done.settled done.none

-- and such after which it holds as many as before
pub same_calls : (b : Bank) (p q : Pass) → IsCaller b p → IsPassOf b q → stack_of q ≡ stack_of p → OnlyBoxed (view p) (view q) → IsSettled (view q).log → SameReferences (view p) (view q) → IsCaller b q
same_calls b p q was pass stack only settled same = boxed_calls b p q was pass stack only settled (λ c. same c ∙ (may_still b p was.may).boxes.none c)

-- it got a reference and let it go again
pub counted_calls : (b : Bank) (p q r : Pass) (box gone : Ref) → IsCaller b p → IsPassOf b r → stack_of q ≡ stack_of p → stack_of r ≡ stack_of q → OnlyBoxed (view p) (view q) → OnlyBoxed (view q) (view r) → HoldsOneMore box (view p) (view q) → gone ≡ box → HoldsOneLess gone (view q) (view r) → IsSettled (view r).log → IsCaller b r
counted_calls b p q r box gone was pass first then_ more_boxed less_boxed more is less settled =
    same_calls b p r was pass (then_ ∙ first) (boxed_then (view p) (view q) (view r) more_boxed less_boxed) settled
    (λ c.
    let m = more c in
    let l = subst (λ (z : Ref). HoldsOneLess z (view q) (view r)) is less c in
    omega (arith, m, l))

-- it is online still
pub counter_by : (b : Bank) (p q : Pass) → IsCounter b p → OnlyBoxed (view p) (view q) → IsCaller b q → IsCounter b q
counter_by b p q was only is = record { caller = is; online = subst (λ (n : ℕ). 0 < n) (sym only.work.pass.announced) was.online }

-- going online
abbrev entered : (v : View) (m n : ℕ) → View
entered v m n = view_after (Announce m n) (view_after (WriteNumber n) v)

entered_still : (v : View) (m n : ℕ) → IsStill v → IsStill (entered v m n)
entered_still v m n s = record { even = s.even; hands = s.hands; used = s.used; owes = s.owes; flight = s.flight; boxes = record { settled = record { unmade = s.boxes.settled.unmade; counted = s.boxes.settled.counted; whole = s.boxes.settled.whole; given = s.boxes.settled.given }; none = s.boxes.none; stored = s.boxes.stored }; stands = s.stands }

pub entered_calls : (b : Bank) (p q : Pass) (m n : ℕ) → IsCaller b p → IsPassOf b q → stack_of q ≡ stack_of p → view q ≡ view_after (Announce m n) (view_after (WriteNumber n) (view p)) → IsCaller b q
entered_calls b p q m n was pass stack did =
    caller b q (may_stay b p q pass stack
    (record { shape = ap (λ (z : View). z.shape) did; locks = λ o. ap (λ (z : View). has_lock o z.log) did; begun = ap (λ (z : View). begun z.log) did })
    (subst IsStill (sym did) (entered_still (view p) m n (may_still b p was.may))) was.may)
