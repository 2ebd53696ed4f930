-- A pass is in the midst of its call still once the call has made its write or its answer, whether it took a table or not.
use Rattle.std.proofs.Common.{◌≡◌, ◌≢◌, ◌⊎◌, ℕ, zero, suc, ◌<◌, le_refl, Bool, true, false, cond, eqb, Option, Some, None, refl, sym, ap, ◌∙◌, subst, inl, inr, ⊎_elim, arith}
use mathlib.Core.Logic.{dite}
use native.Mathlib.Decide.{ℕ_discrete}
use Rattle.ft_model.specs.declared.call.Call.{Call}
use Rattle.ft_model.specs.declared.reply.Reply.{Reply}
use Rattle.ft_trace.specs.declared.Act.TheVariants.{Answer, PutRoot}
use Rattle.ft_trace.specs.declared.Shape.{Shape}
use Rattle.ft_trace.specs.declared.View.{View}
use Rattle.ft_trace.specs.Acts.{has_lock, is_writing, stage, stage_next, owes, used, flight, seen_writes, view_after}
use Rattle.ft_trace.specs.Addresses.{container_count}
use Rattle.ft_trace.specs.Boxes.{IsDoneWithBoxes}
use Rattle.ft_trace.specs.Holds.{held_words, held_unboxed, known_state}
use Rattle.ft_trace.specs.Pictures.{ContainerWords, root_in, Represents}
use Rattle.ft_trace.specs.ContainerStates.{ContainerState, changes}
use Rattle.ft_trace.proofs.Cases.{hit, miss, here}
use Rattle.ft_bank.specs.declared.bank.Bank.{Bank}
use Rattle.ft_bank.specs.declared.pass.Pass.{Pass}
use Rattle.ft_bank.specs.declared.takings.Took.{Took}
use Rattle.ft_bank.specs.declared.takings.Took.TheVariants as took
use Rattle.ft_bank.specs.Answered.{Answered}
use Rattle.ft_bank.specs.Passes.{view, IsPassOf}
use Rattle.ft_bank.specs.PassSections.{stack_of}
use Rattle.ft_bank.specs.TableNames.{table_id}
use Rattle.ft_bank.specs.Locks.{KnowsSame}
use Rattle.ft_bank.specs.SameBoxes.{SameReferences}
use Rattle.ft_bank.specs.Whole.{OnlyBoxed, OnlyLoaded, SamePass, Wrote, hand_after}
use Rattle.ft_bank.proofs.KnownAfterWrites.{loaded_boxed, same_pass, pass_then, work_knows}
use Rattle.ft_section.specs.Ready.{IsStill, IsMaking}
use Rattle.ft_bank.proofs.DoneBoxes.{done_as, done_stays}
use Rattle.ft_section.proofs.MidstOfCall.{making_stays}
use Rattle.ft_search.proofs.ReadMidst.{LeavesSections, still_loaded, still_read, sections_read}
use Rattle.ft_table_calls.specs.declared.adding.Added.{Added}
use Rattle.ft_table_calls.specs.declared.adding.Added.TheVariants as added
use Rattle.ft_table_calls.specs.Adding.{TriedTaking, Retires, WroteInPlace, Grew, GaveUp, IsAdded, IsAddedWith}

-- in no hand, or retired
abbrev IsOut : ℕ → Type 0
IsOut n = (n ≡ 0) ⊎ (n ≡ 4)

-- ---- in the midst of nothing, whatever the pass has to do with boxes

pub record IsCalm (v : View) : Type 0 where
  pub even : (o : ℕ) → is_writing o v.log ≡ false
  pub hands : (t : ℕ) → IsOut (stage t v.log)
  pub used : used v.log ≡ false
  pub owes : owes v.log ≡ 0
  pub flight : flight v.log ≡ 0
  pub stands : (o : ℕ) → o < container_count v.shape → has_lock o v.log ≡ true → Represents v.shape.texts (held_unboxed o v) (known_state o v)

pub calm_of : (v : View) → IsStill v → IsCalm v
calm_of v s = record { even = s.even; hands = s.hands; used = s.used; owes = s.owes; flight = s.flight; stands = s.stands }

pub still_of : (v : View) → IsCalm v → IsDoneWithBoxes v.shape v.log → IsStill v
still_of v s done = record { even = s.even; hands = s.hands; used = s.used; owes = s.owes; flight = s.flight; boxes = done; stands = s.stands }

pub calm_boxed : (v w : View) → OnlyBoxed v w → IsCalm v → IsCalm w
calm_boxed v w x s =
    let work = x.work in
    let pass = work.pass in
    record {
      even = λ o. pass.writes o ∙ s.even o;
      hands = λ t. subst IsOut (sym (work.hands t)) (s.hands t);
      used = work.used ∙ s.used;
      owes = work.owes ∙ s.owes;
      flight = pass.flight ∙ s.flight;
      stands = λ o low has.
          let low' : o < container_count v.shape = subst (λ (k : Shape). o < container_count k) pass.shape low in
          let mine : has_lock o v.log ≡ true = sym (pass.locks o) ∙ has in
          subst (λ (z : Shape × ContainerWords × ContainerState). Represents z.0.texts z.1 z.2) (λ d. (sym pass.shape d, sym (x.unboxed o low' mine) d, sym (work_knows v w o work) d)) (s.stands o low' mine);
    }

calm_entry : (called : Call) (said : Reply) (n : ℕ) (v : View) → IsCalm v → IsCalm (view_after (Answer called said n) v)
calm_entry called said n v s = record { even = s.even; hands = s.hands; used = s.used; owes = s.owes; flight = s.flight; stands = s.stands }

calm_answered : (called : Call) (said : Reply) (n : ℕ) (v w : View) → Answered called said n v w → IsCalm v → IsCalm w
calm_answered called said n v w a s = subst IsCalm (sym a.answered) (calm_entry called said n a.before (calm_boxed v a.before (loaded_boxed v a.before a.loaded) s))

-- ---- a whole write

module _ (called : Call) (said : Reply) (n : ℕ) (v w : View) (s : IsCalm v) (wrote : Wrote called said n v w) where
  abbrev o : ℕ
  o = changes called

  stands_after : (p : ℕ) → p < container_count w.shape → has_lock p w.log ≡ true → Represents w.shape.texts (held_unboxed p w) (known_state p w)
  stands_after p low has =
      let shape = wrote.pass.shape in
      let low' : p < container_count v.shape = subst (λ (k : Shape). p < container_count k) shape low in
      let mine : has_lock p v.log ≡ true = sym (wrote.pass.locks p) ∙ has in
      subst (λ (k : Shape). Represents k.texts (held_unboxed p w) (known_state p w)) (sym shape)
      (dite (ℕ_discrete p o)
      (λ (e : p ≡ o). subst (λ (q : ℕ). Represents v.shape.texts (held_unboxed q w) (known_state q w)) (sym e) wrote.stands)
      (λ ne.
      let e = wrote.others p low' ne mine (s.even p) in
      subst (λ (x : ContainerWords × ContainerState). Represents v.shape.texts x.0 x.1) (λ d. (sym e.2 d, sym e.1 d)) (s.stands p low' mine)))

  -- where it leaves the root
  pub wrote_calm : root_in (held_words o w) ≡ root_in (held_words o v) → IsCalm w
  wrote_calm root = record {
    even = λ p. wrote.pass.writes p ∙ s.even p;
    hands = λ t. subst IsOut (sym (wrote.hands t ∙ (ap (λ (z : ℕ). hand_after o (root_in (held_words o v)) z t (stage t v.log)) root ∙ hit (root_in (held_words o v)) (stage t v.log) _))) (s.hands t);
    used = wrote.used;
    owes = wrote.owes;
    flight = wrote.pass.flight ∙ s.flight;
    stands = stands_after;
  }

pub wrote_still : (called : Call) (said : Reply) (n : ℕ) (v w : View) → IsStill v → (wrote : Wrote called said n v w) → root_in (held_words (changes called) w) ≡ root_in (held_words (changes called) v) → SameReferences v w → IsStill w
wrote_still called said n v w s wrote root references =
    still_of w (wrote_calm called said n v w (calm_of v s) wrote root) (done_stays v w wrote.made (λ b. references b ∙ s.boxes.none b) s.boxes)

-- ---- takings

module _ (k : Shape) (class : ℕ) (r : Took) (v w : View) (s : IsCalm v) (tried : TriedTaking k class r v w) where
  pub tried_out : (t : ℕ) → (stage t w.log ≡ stage t v.log) ⊎ (stage t w.log ≡ 0) → IsOut (stage t w.log)
  tried_out t either = ⊎_elim (λ (e : stage t w.log ≡ stage t v.log). subst IsOut (sym e) (s.hands t)) (λ (e : stage t w.log ≡ 0). inl e) either

  pub tried_stands : (p : ℕ) → p < container_count w.shape → has_lock p w.log ≡ true → Represents w.shape.texts (held_unboxed p w) (known_state p w)
  tried_stands p low has =
      let shape = tried.same.shape in
      let low' : p < container_count v.shape = subst (λ (z : Shape). p < container_count z) shape low in
      let mine : has_lock p v.log ≡ true = sym (tried.same.locks p) ∙ has in
      let e = tried.keeps.held.words p low' mine in
      subst (λ (z : Shape). Represents z.texts (held_unboxed p w) (known_state p w)) (sym shape)
      (subst (λ (x : ContainerWords × ContainerState). Represents v.shape.texts x.0 x.1) (λ d. (sym e.2 d, sym e.1 d)) (s.stands p low' mine))

  -- a taking that has no table
  pub tried_calm : ((t : ℕ) → IsOut (stage t w.log)) → owes w.log ≡ 0 → IsCalm w
  tried_calm hands none = record {
    even = λ p. tried.same.writes p ∙ s.even p;
    hands = hands;
    used = tried.keeps.held.used ∙ s.used;
    owes = none;
    flight = tried.same.flight ∙ s.flight;
    stands = tried_stands;
  }

tried_still : (k : Shape) (class : ℕ) (r : Took) (v w : View) → IsStill v → (tried : TriedTaking k class r v w) → ((t : ℕ) → IsOut (stage t w.log)) → owes w.log ≡ 0 → IsStill w
tried_still k class r v w s tried hands none = still_of w (tried_calm k class r v w (calm_of v s) tried hands none) (done_as v w tried.keeps.boxes.references tried.keeps.boxes.made s.boxes)

-- ---- retirements

-- what the retirement of the table that a root named leaves
pub retired_same : (root : ℕ) (v w : View) → Retires root v w → SamePass v w
retired_same zero v w is = subst (SamePass v) (sym is) (same_pass v)
retired_same (suc t) v w is =
    subst (SamePass v) (sym is.1)
    (record { number = refl; next = refl; parts = refl; shape = refl; locks = λ p. refl; writes = λ p. refl; announced = refl; flight = refl; begun = refl; cursors = λ n. refl; tokens = refl; lists = refl; floor = refl; since = refl; owners = record { had = refl; found = refl }; learnt = refl; seen = le_refl (seen_writes v); grown = λ old was. inr (inr was); stays_online = λ is. is })

-- the pass knows the same words and contents, and owes and has used the same
pub retired_knows : (root : ℕ) (v w : View) → Retires root v w → (p : ℕ) → KnowsSame p v w
retired_knows zero v w is p = (ap (λ (u : View). held_words p u) is, ap (λ (u : View). known_state p u) is, ap (λ (u : View). held_unboxed p u) is)
retired_knows (suc t) v w is p = (ap (λ (u : View). held_words p u) is.1, ap (λ (u : View). known_state p u) is.1, ap (λ (u : View). held_unboxed p u) is.1)

-- and holds the same references
retired_done : (root : ℕ) (v w : View) → Retires root v w → IsDoneWithBoxes v.shape v.log → IsDoneWithBoxes w.shape w.log
retired_done zero v w is done = subst (λ (u : View). IsDoneWithBoxes u.shape u.log) (sym is) done
retired_done (suc t) v w is done =
    subst (λ (u : View). IsDoneWithBoxes u.shape u.log) (sym is.1)
    (record { settled = record { unmade = done.settled.unmade; counted = done.settled.counted; whole = done.settled.whole; given = done.settled.given }; none = done.none; stored = done.stored })

retired_work : (root : ℕ) (v w : View) → Retires root v w → (used w.log ≡ used v.log) × (owes w.log ≡ owes v.log)
retired_work zero v w is = (ap (λ (u : View). used u.log) is, ap (λ (u : View). owes u.log) is)
retired_work (suc t) v w is = (ap (λ (u : View). used u.log) is.1, ap (λ (u : View). owes u.log) is.1)

-- the table that the root named is retired, and each other is as it was
retired_stage : (root : ℕ) (v w : View) → Retires root v w → (t : ℕ) → (root ≡ suc t → IsOut (stage t w.log)) × (root ≢ suc t → stage t w.log ≡ stage t v.log)
retired_stage zero v w is t = ((λ e. absurd (omega (arith, e))), (λ ne. ap (λ (u : View). stage t u.log) is))
retired_stage (suc q) v w is t = (
  (λ e. let same : q ≡ t = omega (arith, e) in inr (ap (λ (u : View). stage t u.log) is.1 ∙ here q t 4 (stage t v.log) same)),
  (λ ne. ap (λ (u : View). stage t u.log) is.1 ∙ miss q t 4 (stage t v.log) (λ e. ne (ap suc e))),
)

-- ---- a call that took a table

module _ (R : View → View → Type 0) (k : Shape) (class : ℕ) (called : Call) (said : Reply) (n : ℕ) (v w : View) (s : IsCalm v) (grew : Grew R k class called said n v w) where
  abbrev at : ℕ
  at = changes called

  abbrev taken : View
  taken = grew.taken

  abbrev old : ℕ
  old = root_in (held_words at taken)

  abbrev new : ℕ
  new = table_id grew.table

  -- of the new root
  hands_written : (t : ℕ) → stage t grew.done.log ≡ cond (eqb (suc new) (suc t)) 0 (cond (eqb old (suc t)) 3 (stage t taken.log))
  hands_written t =
      grew.wrote.hands t
      ∙ (ap (λ (z : ℕ). hand_after at old z t (stage t taken.log)) grew.root
      ∙ miss old (suc new) (stage t taken.log) (stage_next t (PutRoot at (suc new) old) (stage t taken.log)) grew.other)

  out_after : (t : ℕ) → IsOut (stage t w.log)
  out_after t =
      let r = retired_stage old grew.done w grew.retired t in
      let was = stage t taken.log in
      dite (ℕ_discrete old (suc t))
      (λ (e : old ≡ suc t). r.0 e)
      (λ ne.
      let kept : stage t w.log ≡ stage t grew.done.log = r.1 ne in
      dite (ℕ_discrete (suc new) (suc t))
      (λ (e : suc new ≡ suc t). inl (kept ∙ (hands_written t ∙ here (suc new) (suc t) 0 (cond (eqb old (suc t)) 3 was) e)))
      (λ ne'.
      let same : stage t w.log ≡ was = kept ∙ (hands_written t ∙ (miss (suc new) (suc t) 0 (cond (eqb old (suc t)) 3 was) ne' ∙ miss old (suc t) 3 was ne)) in
      subst IsOut (sym same) (tried_out k class (took.Taken grew.table) v taken s grew.tried t (grew.tried.hands t (λ e. ne' (ap suc (sym e)))))))

  -- the words stand for the content once the write is made
  stands_written : (p : ℕ) → p < container_count w.shape → has_lock p w.log ≡ true → Represents w.shape.texts (held_unboxed p w) (known_state p w)
  stands_written p low has =
      let same = retired_same old grew.done w grew.retired in
      let shape : w.shape ≡ taken.shape = same.shape ∙ grew.wrote.pass.shape in
      let low' : p < container_count taken.shape = subst (λ (z : Shape). p < container_count z) shape low in
      let mine : has_lock p taken.log ≡ true = sym (grew.wrote.pass.locks p) ∙ (sym (same.locks p) ∙ has) in
      let quiet : is_writing p taken.log ≡ false = grew.tried.same.writes p ∙ s.even p in
      let e = retired_knows old grew.done w grew.retired p in
      let done : Represents taken.shape.texts (held_unboxed p grew.done) (known_state p grew.done) =
      dite (ℕ_discrete p at)
      (λ (x : p ≡ at). subst (λ (q : ℕ). Represents taken.shape.texts (held_unboxed q grew.done) (known_state q grew.done)) (sym x) grew.wrote.stands)
      (λ ne.
      let o = grew.wrote.others p low' ne mine quiet in
      subst (λ (x : ContainerWords × ContainerState). Represents taken.shape.texts x.0 x.1) (λ d. (sym o.2 d, sym o.1 d)) (tried_stands k class (took.Taken grew.table) v taken s grew.tried p low' mine)) in
      subst (λ (z : Shape). Represents z.texts (held_unboxed p w) (known_state p w)) (sym shape)
      (subst (λ (x : ContainerWords × ContainerState). Represents taken.shape.texts x.0 x.1) (λ d. (sym e.2 d, sym e.1 d)) done)

  pub grew_same : SamePass v w
  grew_same = pass_then v taken w grew.tried.same (pass_then taken grew.done w grew.wrote.pass (retired_same old grew.done w grew.retired))

  pub grew_calm : IsCalm w
  grew_calm =
      let r = retired_work old grew.done w grew.retired in
      record {
        even = λ p. grew_same.writes p ∙ s.even p;
        hands = out_after;
        used = r.0 ∙ grew.wrote.used;
        owes = r.1 ∙ grew.wrote.owes;
        flight = grew_same.flight ∙ s.flight;
        stands = stands_written;
      }

grew_still : (k : Shape) (class : ℕ) (called : Call) (said : Reply) (n : ℕ) (v w : View) → IsStill v → Grew SameReferences k class called said n v w → IsStill w
grew_still k class called said n v w s g =
    let boxes : IsDoneWithBoxes g.taken.shape g.taken.log = done_as v g.taken g.tried.keeps.boxes.references g.tried.keeps.boxes.made s.boxes in
    still_of w (grew_calm SameReferences k class called said n v w (calm_of v s) g)
    (retired_done (root_in (held_words (changes called) g.taken)) g.done w g.retired (done_stays g.taken g.done g.wrote.made (λ b. g.references b ∙ boxes.none b) boxes))

-- ---- the call

-- it has loaded words, and knew u then
module _ (b : Bank) (p q : Pass) (m : IsMaking b p) (pass : IsPassOf b q) (stack : stack_of q ≡ stack_of p) (u : View) (loaded : OnlyLoaded (view p) u) where
  still_then : IsStill u
  still_then = still_loaded (view p) u loaded m.inside.1.still

  making_same : SamePass u (view q) → IsStill (view q) → IsMaking b q
  making_same same still =
      let l = loaded.work.pass in
      making_stays b p q m pass stack (same.shape ∙ l.shape) (λ o. same.locks o ∙ l.locks o) (same.begun ∙ l.begun) still

  -- a pass that made a whole write and left the root
  pub making_wrote : (called : Call) (said : Reply) (n : ℕ) → WroteInPlace SameReferences called said n u (view q) → IsMaking b q
  making_wrote called said n x = making_same x.wrote.pass (wrote_still called said n u (view q) still_then x.wrote x.root x.references)

  -- an entry that isn't a write, after steps that leave the pass
  making_answered : (called : Call) (said : Reply) (n : ℕ) (z : View) → LeavesSections called → SamePass u z → IsStill z → Answered called said n z (view q) → IsMaking b q
  making_answered called said n z leaves same still a =
      let l = loaded.work.pass in
      let r = sections_read called said n z (view q) leaves a in
      making_stays b p q m pass stack (r.0 ∙ (same.shape ∙ l.shape)) (λ o. r.1 o ∙ (same.locks o ∙ l.locks o)) (r.2 ∙ (same.begun ∙ l.begun)) (still_read called said n z (view q) a still)

  pub making_added : (k : Shape) (takes : Option ℕ) (over : Bool) (called : Call) (said : Reply) (what : Added) → LeavesSections called → IsAdded k takes over called said u (view q) what → IsMaking b q
  making_added k None over called said (added.Made stamp) leaves x = making_wrote called said stamp.number x.2
  making_added k (Some class) over called said (added.Made stamp) leaves x =
      making_same (grew_same SameReferences k class called said stamp.number u (view q) (calm_of u still_then) x.2) (grew_still k class called said stamp.number u (view q) still_then x.2)
  making_added k takes over called said (added.NoTable class stamp) leaves x =
      let y = x.3 in
      let none : IsStill y.0 = tried_still k class took.AllTaken u y.0 still_then y.1 (λ t. tried_out k class took.AllTaken u y.0 (calm_of u still_then) y.1 t (y.1.hands t tt)) y.1.has in
      making_answered called _ stamp.number y.0 leaves y.1.same none y.2
  making_added k takes over called said (added.Over stamp) leaves x = making_answered called _ stamp.number u leaves (same_pass u) still_then x.2
  making_added k takes over called said (added.NoPlace stamp) leaves x = absurd x
  making_added k takes over called said (added.Moved a b') leaves x =
      let y = x.1 in
      making_same y.2.same (tried_still k y.0 (took.Moved a b') u (view q) still_then y.2 (λ t. tried_out k y.0 (took.Moved a b') u (view q) (calm_of u still_then) y.2 t (y.2.hands t tt)) y.2.has)

-- ---- a call that stores a value in a box

-- it has taken steps with boxes, and was at x then; and such after the call
module _ (b : Bank) (p q : Pass) (m : IsMaking b p) (pass : IsPassOf b q) (stack : stack_of q ≡ stack_of p) (x y : View) (before : OnlyBoxed (view p) x) (after : OnlyBoxed y (view q)) (done : IsDoneWithBoxes (view q).shape (view q).log) where
  calm_then : IsCalm x
  calm_then = calm_boxed (view p) x before (calm_of (view p) m.inside.1.still)

  boxed_making : SamePass x y → IsCalm y → IsMaking b q
  boxed_making same calm =
      let first = before.work.pass in
      let last = after.work.pass in
      making_stays b p q m pass stack (last.shape ∙ (same.shape ∙ first.shape)) (λ o. last.locks o ∙ (same.locks o ∙ first.locks o)) (last.begun ∙ (same.begun ∙ first.begun)) (still_of (view q) (calm_boxed y (view q) after calm) done)

  -- an entry that isn't a write, after steps that leave the pass
  boxed_answered : (called : Call) (said : Reply) (n : ℕ) (z : View) → LeavesSections called → SamePass x z → IsCalm z → Answered called said n z y → IsMaking b q
  boxed_answered called said n z leaves same calm a =
      let first = before.work.pass in
      let last = after.work.pass in
      let r = sections_read called said n z y leaves a in
      making_stays b p q m pass stack (last.shape ∙ (r.0 ∙ (same.shape ∙ first.shape))) (λ o. last.locks o ∙ (r.1 o ∙ (same.locks o ∙ first.locks o))) (last.begun ∙ (r.2 ∙ (same.begun ∙ first.begun)))
      (still_of (view q) (calm_boxed y (view q) after (calm_answered called said n z y a calm)) done)

  pub making_into : (R : View → View → Type 0) (k : Shape) (takes : Option ℕ) (over : Bool) (called : Call) (said : Reply) (what : Added) → LeavesSections called → IsAddedWith R k takes over called said x y what → IsMaking b q
  making_into R k None over called said (added.Made stamp) leaves z = boxed_making z.2.wrote.pass (wrote_calm called said stamp.number x y calm_then z.2.wrote z.2.root)
  making_into R k (Some class) over called said (added.Made stamp) leaves z = boxed_making (grew_same R k class called said stamp.number x y calm_then z.2) (grew_calm R k class called said stamp.number x y calm_then z.2)
  making_into R k takes over called said (added.NoTable class stamp) leaves z =
      let t = z.3 in
      let none : IsCalm t.0 = tried_calm k class took.AllTaken x t.0 calm_then t.1 (λ n. tried_out k class took.AllTaken x t.0 calm_then t.1 n (t.1.hands n tt)) t.1.has in
      boxed_answered called _ stamp.number t.0 leaves t.1.same none t.2
  making_into R k takes over called said (added.Over stamp) leaves z = boxed_answered called _ stamp.number x leaves (same_pass x) calm_then z.2
  making_into R k takes over called said (added.NoPlace stamp) leaves z = absurd z
  making_into R k takes over called said (added.Moved a b') leaves z =
      let t = z.1 in
      boxed_making t.2.same (tried_calm k t.0 (took.Moved a b') x y calm_then t.2 (λ n. tried_out k t.0 (took.Moved a b') x y calm_then t.2 n (t.2.hands n tt)) t.2.has)

  -- an entry that isn't a write
  pub making_read_boxed : (called : Call) (said : Reply) (n : ℕ) → LeavesSections called → Answered called said n x y → IsMaking b q
  making_read_boxed called said n leaves a = boxed_answered called said n x leaves (same_pass x) calm_then a

  -- a write after which no other table is in hand
  pub making_wrote_boxed : (called : Call) (said : Reply) (n : ℕ) → Wrote called said n x y → ((t : ℕ) → stage t y.log ≡ stage t x.log) → IsMaking b q
  making_wrote_boxed called said n wrote hands =
      boxed_making wrote.pass
      (record {
        even = λ o. wrote.pass.writes o ∙ calm_then.even o;
        hands = λ t. subst IsOut (sym (hands t)) (calm_then.hands t);
        used = wrote.used;
        owes = wrote.owes;
        flight = wrote.pass.flight ∙ calm_then.flight;
        stands = stands_after called said n x y calm_then wrote;
      })

-- ---- a call that gives up a table

module _ (called : Call) (said : Reply) (n : ℕ) (v w : View) (s : IsStill v) (given : GaveUp called said n v w) where
  abbrev here_ : ℕ
  here_ = changes called

  abbrev before : ℕ
  before = root_in (held_words here_ v)

  either_way : (b : Bool) (x y : ℕ) → y ≡ x → cond b x y ≡ x
  either_way true x y e = refl
  either_way false x y e = e

  out_given : (t : ℕ) → IsOut (stage t w.log)
  out_given t =
      let r = retired_stage before given.done w given.retired t in
      let was = stage t v.log in
      dite (ℕ_discrete before (suc t))
      (λ (e : before ≡ suc t). r.0 e)
      (λ ne.
      let next : stage_next t (PutRoot here_ 0 before) was ≡ was = miss 0 (suc t) 0 (cond (eqb before (suc t)) 3 was) (λ e. omega (arith, e)) ∙ miss before (suc t) 3 was ne in
      let same : stage t w.log ≡ was =
      r.1 ne ∙ (given.wrote.hands t ∙ (ap (λ (z : ℕ). hand_after here_ before z t was) given.root ∙ either_way (eqb before 0) was (stage_next t (PutRoot here_ 0 before) was) next)) in
      subst IsOut (sym same) (s.hands t))

  given_same : SamePass v w
  given_same = pass_then v given.done w given.wrote.pass (retired_same before given.done w given.retired)

  pub given_still : IsStill w
  given_still =
      let same = retired_same before given.done w given.retired in
      let r = retired_work before given.done w given.retired in
      record {
        even = λ p. given_same.writes p ∙ s.even p;
        hands = out_given;
        used = r.0 ∙ given.wrote.used;
        owes = r.1 ∙ given.wrote.owes;
        flight = given_same.flight ∙ s.flight;
        boxes = retired_done before given.done w given.retired (done_stays v given.done given.wrote.made (λ b. given.references b ∙ s.boxes.none b) s.boxes);
        stands = λ p low has.
            let e = retired_knows before given.done w given.retired p in
            let old = stands_after called said n v given.done (calm_of v s) given.wrote p (subst (λ (z : Shape). p < container_count z) same.shape low) (sym (same.locks p) ∙ has) in
            subst (λ (x : Shape × ContainerWords × ContainerState). Represents x.0.texts x.1 x.2) (λ d. (sym same.shape d, sym e.2 d, sym e.1 d)) old;
      }

pub making_given : (b : Bank) (p q : Pass) → IsMaking b p → IsPassOf b q → stack_of q ≡ stack_of p → (u : View) → OnlyLoaded (view p) u → (called : Call) (said : Reply) (n : ℕ) → GaveUp called said n u (view q) → IsMaking b q
making_given b p q m pass stack u loaded called said n given =
    let l = loaded.work.pass in
    let still = still_loaded (view p) u loaded m.inside.1.still in
    let same = given_same called said n u (view q) still given in
    making_stays b p q m pass stack (same.shape ∙ l.shape) (λ o. same.locks o ∙ l.locks o) (same.begun ∙ l.begun) (given_still called said n u (view q) still given)
