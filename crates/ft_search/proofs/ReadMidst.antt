-- A pass that read a container in the midst of a call is in the midst of it still.
use Rattle.std.proofs.Common.{◌≡◌, ◌<◌, ⊎_elim, inl, inr, ℕ, true, List, sym, ap, ◌∙◌, subst}
use Rattle.ft_model.specs.declared.call.Call.{Call}
use Rattle.ft_model.specs.declared.reply.Reply.{Reply}
use Rattle.ft_trace.specs.declared.Act.{Act}
use Rattle.ft_trace.specs.declared.Act.TheVariants.{Answer}
use Rattle.ft_trace.specs.declared.Shape.{Shape}
use Rattle.ft_trace.specs.declared.View.{View}
use Rattle.ft_trace.specs.Acts.{has_lock, stage, view_after}
use Rattle.ft_trace.specs.Addresses.{container_count}
use Rattle.ft_trace.specs.Holds.{held_unboxed, known_state}
use Rattle.ft_trace.specs.BegunSections.{Begun, begun, begun_by}
use Rattle.ft_trace.specs.Pictures.{ContainerWords, Represents}
use Rattle.ft_trace.specs.ContainerStates.{ContainerState}
use Rattle.ft_bank.specs.declared.bank.Bank.{Bank}
use Rattle.ft_bank.specs.declared.pass.Pass.{Pass}
use Rattle.ft_bank.specs.Answered.{Answered}
use Rattle.ft_bank.specs.Passes.{shape_of, view, IsPassOf}
use Rattle.ft_bank.specs.PassSections.{stack_of}
use Rattle.ft_bank.specs.Whole.{OnlyLoaded}
use Rattle.ft_bank.proofs.DoneBoxes.{done_same, done_stays}
use Rattle.ft_bank.proofs.KnownAfterWrites.{work_knows}
use Rattle.ft_section.specs.Ready.{IsStill, IsMaking}
use Rattle.ft_section.proofs.MidstOfCall.{making_stays}
use Rattle.ft_search.specs.KeyLooks.{AnsweredByLook}
use Rattle.ft_search.specs.LookSteps.{OnlyLooked}

-- the call begins no section and ends none
abbrev pub LeavesSections : Call → Type 0
LeavesSections called = (n : ℕ) (l : List Act) (sections : List Begun) → begun_by called n l sections ≡ sections

-- loads leave a pass that is in the midst of no write and no taking
pub still_loaded : (v u : View) → OnlyLoaded v u → IsStill v → IsStill u
still_loaded v u o s =
    record {
      even = λ p. o.work.pass.writes p ∙ s.even p;
      hands = λ t. ⊎_elim (λ (x : stage t v.log ≡ 0). inl (o.work.hands t ∙ x)) (λ (x : stage t v.log ≡ 4). inr (o.work.hands t ∙ x)) (s.hands t);
      used = o.work.used ∙ s.used;
      owes = o.work.owes ∙ s.owes;
      flight = o.work.pass.flight ∙ s.flight;
      boxes = done_same v u o.boxes s.boxes;
      stands = λ p low has.
          let low' = subst (λ (k : Shape). p < container_count k) o.work.pass.shape low in
          let mine = sym (o.work.pass.locks p) ∙ has in
          let read = o.unboxed p low' mine in
          subst (λ (x : Shape × ContainerWords × ContainerState). Represents x.0.texts x.1 x.2) (sym (λ d. (o.work.pass.shape d, read d, work_knows v u p o.work d))) (s.stands p low' mine);
    }

still_answered : (called : Call) (said : Reply) (n : ℕ) (u : View) → IsStill u → IsStill (view_after (Answer called said n) u)
still_answered called said n u s = record { even = s.even; hands = s.hands; used = s.used; owes = s.owes; flight = s.flight; boxes = record { settled = record { unmade = s.boxes.settled.unmade; counted = s.boxes.settled.counted; whole = s.boxes.settled.whole; given = s.boxes.settled.given }; none = s.boxes.none; stored = s.boxes.stored }; stands = s.stands }

-- what the entry of a call that isn't a write leaves
pub still_read : (called : Call) (said : Reply) (n : ℕ) (v w : View) → Answered called said n v w → IsStill v → IsStill w
still_read called said n v w a s = subst IsStill (sym a.answered) (still_answered called said n a.before (still_loaded v a.before a.loaded s))

pub sections_read : (called : Call) (said : Reply) (n : ℕ) (v w : View) → LeavesSections called → Answered called said n v w → (w.shape ≡ v.shape) × ((o : ℕ) → has_lock o w.log ≡ has_lock o v.log) × (begun w.log ≡ begun v.log)
sections_read called said n v w leaves a = (
  ap (λ z. z.shape) a.answered ∙ a.loaded.work.pass.shape,
  (λ o. ap (λ z. has_lock o z.log) a.answered ∙ a.loaded.work.pass.locks o),
  ap (λ z. begun z.log) a.answered ∙ (leaves n a.before.log (begun a.before.log) ∙ a.loaded.work.pass.begun),
)

pub making_read : (b : Bank) (p q : Pass) (called : Call) (said : Reply) (n : ℕ) → LeavesSections called → IsMaking b p → IsPassOf b q → stack_of q ≡ stack_of p → Answered called said n (view p) (view q) → IsMaking b q
making_read b p q called said n leaves m pass stack a =
    let r = sections_read called said n (view p) (view q) leaves a in
    making_stays b p q m pass stack r.0 r.1 r.2 (still_read called said n (view p) (view q) a m.inside.1.still)

-- ---- steps of look-ups

-- they leave a pass that is in the midst of no write and no taking
pub still_looked : (v u : View) → OnlyLooked v u → IsStill v → IsStill u
still_looked v u o s =
    let work = o.boxed.work in
    record {
      even = λ p. work.pass.writes p ∙ s.even p;
      hands = λ t. ⊎_elim (λ (x : stage t v.log ≡ 0). inl (work.hands t ∙ x)) (λ (x : stage t v.log ≡ 4). inr (work.hands t ∙ x)) (s.hands t);
      used = work.used ∙ s.used;
      owes = work.owes ∙ s.owes;
      flight = work.pass.flight ∙ s.flight;
      boxes = done_stays v u o.made (λ b. o.references b ∙ s.boxes.none b) s.boxes;
      stands = λ p low has.
          let low' = subst (λ (k : Shape). p < container_count k) work.pass.shape low in
          let mine = sym (work.pass.locks p) ∙ has in
          let read = o.boxed.unboxed p low' mine in
          subst (λ (x : Shape × ContainerWords × ContainerState). Represents x.0.texts x.1 x.2) (sym (λ d. (work.pass.shape d, read d, work_knows v u p work d))) (s.stands p low' mine);
    }

-- and so does the entry of a call by them
pub still_look : (called : Call) (said : Reply) (n : ℕ) (v w : View) → AnsweredByLook called said n v w → IsStill v → IsStill w
still_look called said n v w a s = subst IsStill (sym a.answered) (still_answered called said n a.before (still_looked v a.before a.looked s))

pub sections_looked : (called : Call) (said : Reply) (n : ℕ) (v w : View) → LeavesSections called → AnsweredByLook called said n v w → (w.shape ≡ v.shape) × ((o : ℕ) → has_lock o w.log ≡ has_lock o v.log) × (begun w.log ≡ begun v.log)
sections_looked called said n v w leaves a =
    let pass = a.looked.boxed.work.pass in (
      ap (λ z. z.shape) a.answered ∙ pass.shape,
      (λ o. ap (λ z. has_lock o z.log) a.answered ∙ pass.locks o),
      ap (λ z. begun z.log) a.answered ∙ (leaves n a.before.log (begun a.before.log) ∙ pass.begun),
    )

pub making_looked : (b : Bank) (p q : Pass) (called : Call) (said : Reply) (n : ℕ) → LeavesSections called → IsMaking b p → IsPassOf b q → stack_of q ≡ stack_of p → AnsweredByLook called said n (view p) (view q) → IsMaking b q
making_looked b p q called said n leaves m pass stack a =
    let r = sections_looked called said n (view p) (view q) leaves a in
    making_stays b p q m pass stack r.0 r.1 r.2 (still_look called said n (view p) (view q) a m.inside.1.still)

-- what such a pass knows of a container whose lock it has
pub making_stands : (b : Bank) (p : Pass) (texts : List ℕ) (o : ℕ) → IsMaking b p → (view p).shape.texts ≡ texts → o < container_count (view p).shape → has_lock o (view p).log ≡ true → Represents texts (held_unboxed o (view p)) (known_state o (view p))
making_stands b p texts o m same low mine = subst (λ (t : List ℕ). Represents t (held_unboxed o (view p)) (known_state o (view p))) same (m.inside.1.still.stands o low mine)

-- of a container of the bank
pub stands_in : (b : Bank) (p : Pass) (o : ℕ) → IsMaking b p → o < container_count (shape_of b) → has_lock o (view p).log ≡ true → Represents (shape_of b).texts (held_unboxed o (view p)) (known_state o (view p))
stands_in b p o m low mine =
    let same = m.inside.0.1 in
    making_stands b p (shape_of b).texts o m (ap (λ (k : Shape). k.texts) same) (subst (λ (k : Shape). o < container_count k) (sym same) low) mine
