-- What a pass has still that made no call on containers: it announced, collected, loaded the counter or took another in.
use Rattle.std.proofs.Common.{◌≡◌, ◌≤◌, ◌<◌, ◌⊎◌, ℕ, Bool, true, false, cond, ◌++◌, refl, sym, ap, ◌∙◌, subst, inl, inr, ⊎_elim, le_refl, le_trans, zero, suc, arith}
use Rattle.std.specs.Prelude.{List, Option, max}
use Rattle.std.proofs.Math.Nat.{le-max_left, le-max_right, max-le}
use Rattle.ft_trace.specs.declared.Act.TheVariants.{Announce, ReadCounter, WriteNumber}
use Rattle.ft_trace.specs.declared.Shape.{Shape}
use Rattle.ft_trace.specs.declared.Told.{Told}
use Rattle.ft_trace.specs.declared.Presence.TheVariants as presence
use Rattle.ft_trace.specs.declared.View.{View}
use Rattle.ft_trace.specs.Acts.{both, hands_over, has_lock, is_handed, mem, past, view_after, seen_writes, shown, stage, presence_after_announcing}
use Rattle.ft_trace.specs.Addresses.{container_count}
use Rattle.ft_trace.specs.Floors.{at_floor}
use Rattle.ft_trace.specs.Hands.{cursor_in}
use Rattle.ft_trace.specs.Holds.{held_unboxed, known_state}
use Rattle.ft_trace.specs.Owners.{SameOwners}
use Rattle.ft_trace.specs.BegunSections.{begun}
use Rattle.ft_trace.specs.Pictures.{ContainerWords, picture, Represents}
use Rattle.ft_trace.specs.ContainerStates.{ContainerState, container_after}
use Rattle.ft_trace.specs.declared.Act.{Act}
use Rattle.ft_trace.specs.Boxes.{made_state, local_count, taken_out, place_to_give, place_use, references_held, HasMergedBoxes, IsDoneWithBoxes, IsSettled}
use Rattle.ft_model.specs.declared.call.Call.{Call}
use Rattle.ft_trace.proofs.Owning.{owners_then}
use Rattle.ft_trace.proofs.Seeing.{seen_up}
use Rattle.ft_bank.specs.declared.bank.Bank.{Bank}
use Rattle.ft_bank.specs.declared.pass.Pass.{Pass}
use Rattle.ft_bank.specs.Locks.{KnowsSame}
use Rattle.ft_bank.specs.Logs.{HasGrown}
use Rattle.ft_bank.specs.Notes.{knowing}
use Rattle.ft_bank.specs.Passes.{view, IsPassOf}
use Rattle.ft_bank.specs.PassSections.{Stack, stack_of}
use Rattle.ft_bank.specs.SameBoxes.{SameReferences, TakesNoPlace}
use Rattle.ft_bank.specs.Whole.{OnlyBoxed}
use Rattle.ft_bank.proofs.DoneBoxes.{done_same, settled_same}
use Rattle.ft_bank.proofs.Logs.{noted_grown}
use Rattle.ft_qsbr.specs.Collecting.{Collected, StaysOrGoes, loads_of}
use Rattle.ft_qsbr.proofs.PassesStay.{begun_stays, collection_leaves, cursors_stay, floor_stays, given_or_kept, owners_stay, seen_stays, since_stays}
use Rattle.ft_model.specs.declared.cursor.Cursor.{Cursor}
use Rattle.ft_section.specs.declared.answers.Objects.{Objects}
use Rattle.ft_section.specs.Ready.{AreSuspended, HasTop, InCall, IsInCall, IsReady, IsStill, IsWaiting, MayResume, MayTry}
use Rattle.ft_section.specs.LockTakings.{IsOwnFor, lower_of, upper_of}
use Rattle.ft_section.proofs.MidstOfCall.{in_call_stays}
use Rattle.ft_engine.specs.declared.caller.Flight.{Flight}
use Rattle.ft_engine.specs.declared.caller.Flight.TheVariants as flight
use Rattle.ft_engine.specs.Flights.{IsIn}

-- it has the same sections and locks, and is in the midst of nothing, whether it has the floor or not
pub record IsSteady (v w : View) : Type 0 where
  pub number : w.number ≡ v.number
  pub next : w.next ≡ v.next
  pub parts : w.parts ≡ v.parts
  pub shape : w.shape ≡ v.shape
  pub lists : w.lists ≡ v.lists
  pub entries : w.entries ≡ v.entries
  pub left : w.left ≡ v.left
  pub locks : (o : ℕ) → has_lock o w.log ≡ has_lock o v.log
  pub begun : begun w.log ≡ begun v.log
  pub cursors : (n : ℕ) → cursor_in n w.log ≡ cursor_in n v.log
  pub owners : SameOwners v w
  pub seen : seen_writes v ≤ seen_writes w
  pub merged : HasMergedBoxes v.log → HasMergedBoxes w.log
  pub still : IsStill w

-- it has the floor as before, too
pub record IsCalm (v w : View) : Type 0 where
  pub number : w.number ≡ v.number
  pub next : w.next ≡ v.next
  pub parts : w.parts ≡ v.parts
  pub shape : w.shape ≡ v.shape
  pub lists : w.lists ≡ v.lists
  pub entries : w.entries ≡ v.entries
  pub left : w.left ≡ v.left
  pub locks : (o : ℕ) → has_lock o w.log ≡ has_lock o v.log
  pub begun : begun w.log ≡ begun v.log
  pub cursors : (n : ℕ) → cursor_in n w.log ≡ cursor_in n v.log
  pub floor : w.has_floor ≡ v.has_floor
  pub since : at_floor w.log ≡ at_floor v.log
  pub owners : SameOwners v w
  pub seen : seen_writes v ≤ seen_writes w
  pub grown : HasGrown v w
  pub merged : HasMergedBoxes v.log → HasMergedBoxes w.log
  pub still : IsStill w

pub calm_steady : (v w : View) → IsCalm v w → IsSteady v w
calm_steady v w c = record { number = c.number; next = c.next; parts = c.parts; shape = c.shape; lists = c.lists; entries = c.entries; left = c.left; locks = c.locks; begun = c.begun; cursors = c.cursors; owners = c.owners; seen = c.seen; merged = c.merged; still = c.still }

-- what a pass is in still
module _ (b : Bank) (p q : Pass) (pass : IsPassOf b q) (stack : stack_of q ≡ stack_of p) (steady : IsSteady (view p) (view q)) where
  pub steady_in_call : IsInCall b p → IsInCall b q
  steady_in_call i = (pass, subst (InCall (view q)) (sym stack) (in_call_stays (view p) (view q) (stack_of p) i.1 steady.shape steady.locks steady.begun steady.still))

  pub steady_top : HasTop p → HasTop q
  steady_top has outer top split =
      let t = has outer top (sym (ap (λ (s : Stack). s.sections) stack) ∙ split) in
      (steady.locks top.locks.lower ∙ t.0, steady.locks top.locks.upper ∙ t.1)

  pub steady_ready : IsReady b p → IsReady b q
  steady_ready r = record { inside = steady_in_call r.inside; own = ap (λ (s : Stack). s.own) stack ∙ r.own; mark = ap (λ (s : Stack). s.mark) stack ∙ r.mark; top = steady_top r.top }

  steady_waiting : (objects : Objects) → IsWaiting b p objects → IsWaiting b q objects
  steady_waiting objects w = record {
    inside = steady_in_call w.inside;
    owner = w.owner;
    mark = ap (λ (s : Stack). s.mark) stack ∙ w.mark;
    suspended = subst (λ (s : Stack). AreSuspended s.sections) (sym stack) w.suspended;
    own = subst (λ (s : Stack). IsOwnFor (lower_of objects) (upper_of objects) s.own) (sym stack) w.own;
  }

  steady_may : (objects : Objects) → MayTry b p objects → MayTry b q objects
  steady_may objects may = ⊎_elim (λ (r : IsReady b p). inl (steady_ready r)) (λ (w : IsWaiting b p objects). inr (steady_waiting objects w)) may

  steady_resume : MayResume b p → MayResume b q
  steady_resume r = record {
    inside = steady_in_call r.inside;
    own = λ outer top split. subst (λ (s : Stack). IsOwnFor top.locks.lower top.locks.upper s.own) (sym stack) (r.own outer top (sym (ap (λ (s : Stack). s.sections) stack) ∙ split));
    none = λ nil. ap (λ (s : Stack). s.own) stack ∙ r.none (sym (ap (λ (s : Stack). s.sections) stack) ∙ nil);
  }

  -- whatever call it is in
  pub steady_in : (hands : List (Option Cursor)) (f : Flight) → IsIn b p hands f → IsIn b q hands f
  steady_in hands flight.Idle i = steady_ready i
  steady_in hands (flight.Tried called) i = (i.0, i.1, steady_may i.0 i.2)
  steady_in hands (flight.Answered called said stamp) i = (steady_resume i.0, λ begins. steady_top (i.1 begins))
  steady_in hands (flight.Refused called) i = steady_in_call i

pub ready_calm : (b : Bank) (p q : Pass) → IsReady b p → IsPassOf b q → stack_of q ≡ stack_of p → IsCalm (view p) (view q) → IsReady b q
ready_calm b p q r pass stack calm = steady_ready b p q pass stack (calm_steady (view p) (view q) calm) r

pub calm_then : (u v w : View) → IsCalm u v → IsCalm v w → IsCalm u w
calm_then u v w a b = record {
  number = b.number ∙ a.number;
  next = b.next ∙ a.next;
  parts = b.parts ∙ a.parts;
  shape = b.shape ∙ a.shape;
  lists = b.lists ∙ a.lists;
  entries = b.entries ∙ a.entries;
  left = b.left ∙ a.left;
  locks = λ o. b.locks o ∙ a.locks o;
  begun = b.begun ∙ a.begun;
  cursors = λ n. b.cursors n ∙ a.cursors n;
  floor = b.floor ∙ a.floor;
  since = b.since ∙ a.since;
  owners = owners_then u v w a.owners b.owners;
  seen = le_trans a.seen b.seen;
  grown = λ old was. b.grown old (a.grown old was);
  merged = λ merged. b.merged (a.merged merged);
  still = b.still;
}

-- what stands of locks stands where the pass knows the same
stands_by : (v w : View) → IsStill v → w.shape ≡ v.shape → ((o : ℕ) → has_lock o w.log ≡ has_lock o v.log) → ((o : ℕ) → o < container_count v.shape → has_lock o v.log ≡ true → KnowsSame o v w) → (o : ℕ) → o < container_count w.shape → has_lock o w.log ≡ true → Represents w.shape.texts (held_unboxed o w) (known_state o w)
stands_by v w s shape locks words o low has =
    let low' : o < container_count v.shape = subst (λ (k : Shape). o < container_count k) shape low in
    let had : has_lock o v.log ≡ true = sym (locks o) ∙ has in
    let e = words o low' had in
    subst (λ (x : Shape × ContainerWords × ContainerState). Represents x.0.texts x.1 x.2) (λ d. (sym shape d, sym e.2 d, sym e.1 d)) (s.stands o low' had)

-- what a pass has to do with boxes stays where its log says the same of them
pub same_done : {k : Shape} {l m : List Act} → IsDoneWithBoxes k l → ((b : ℕ) → made_state b m ≡ made_state b l) → ((b : ℕ) → local_count b m ≡ local_count b l) → ((b : ℕ) → taken_out b m ≡ taken_out b l) → ((b : ℕ) → place_to_give b m ≡ place_to_give b l) → ((b : ℕ) → references_held k b m ≡ references_held k b l) → ((b : ℕ) → place_use b m ≡ place_use b l) → IsDoneWithBoxes k m
same_done {k} {l} {m} done state local taken places held uses = record {
  settled = settled_same l m state local taken places done.settled;
  none = λ b. held b ∙ done.none b;
  stored = λ b e. done.stored b (sym (uses b) ∙ e);
}

-- ---- one step

pub counted_calm : (v : View) (n : ℕ) → IsStill v → IsCalm v (view_after (ReadCounter n) v)
counted_calm v n s = record {
  number = refl;
  next = refl;
  parts = refl;
  shape = refl;
  lists = refl;
  entries = refl;
  left = refl;
  locks = λ o. refl;
  begun = refl;
  cursors = λ k. refl;
  floor = refl;
  since = refl;
  owners = record { had = refl; found = refl };
  seen = seen_up (ReadCounter n) v;
  grown = λ old was. inr was;
  merged = λ merged. merged;
  still = record { even = s.even; hands = s.hands; used = s.used; owes = s.owes; flight = s.flight; boxes = same_done s.boxes (λ b. refl) (λ b. refl) (λ b. refl) (λ b. refl) (λ b. refl) (λ b. refl); stands = s.stands };
}

pub offline_calm : (v : View) (m : ℕ) → IsStill v → IsCalm v (view_after (Announce m 0) v)
offline_calm v m s = record {
  number = refl;
  next = refl;
  parts = refl;
  shape = refl;
  lists = refl;
  entries = refl;
  left = refl;
  locks = λ o. refl;
  begun = refl;
  cursors = λ k. refl;
  floor = refl;
  since = refl;
  owners = record { had = refl; found = refl };
  seen = seen_up (Announce m 0) v;
  grown = λ old was. inr was;
  merged = λ merged. merged;
  still = record { even = s.even; hands = s.hands; used = s.used; owes = s.owes; flight = s.flight; boxes = same_done s.boxes (λ b. refl) (λ b. refl) (λ b. refl) (λ b. refl) (λ b. refl) (λ b. refl); stands = s.stands };
}

pub collected_calm : (v w : View) (freed : ℕ) → IsStill v → Collected v w freed → IsCalm v w
collected_calm v w freed s x =
    let keeps = x.keeps.held in
    let leaves = collection_leaves x.acts x.numbers x.givings in
    record {
      number = keeps.number;
      next = keeps.next;
      parts = keeps.parts;
      shape = keeps.shape;
      lists = keeps.lists;
      entries = keeps.entries;
      left = keeps.left;
      locks = keeps.locks;
      begun = ap (λ (u : View). begun u.log) x.did ∙ begun_stays (x.acts ++ loads_of x.numbers) v leaves;
      cursors = λ k. ap (λ (u : View). cursor_in k u.log) x.did ∙ cursors_stay (x.acts ++ loads_of x.numbers) v k leaves;
      floor = ap (λ (u : View). u.has_floor) x.did ∙ floor_stays (x.acts ++ loads_of x.numbers) v leaves;
      since = ap (λ (u : View). at_floor u.log) x.did ∙ since_stays (x.acts ++ loads_of x.numbers) v leaves;
      owners = subst (SameOwners v) (sym x.did) (owners_stay (x.acts ++ loads_of x.numbers) v leaves);
      seen = subst (λ (u : View). seen_writes v ≤ seen_writes u) (sym x.did) (seen_stays (x.acts ++ loads_of x.numbers) v);
      grown = noted_grown (x.acts ++ loads_of x.numbers) v w x.did;
      merged = λ merged b own. merged b (sym (x.keeps.boxes.made.state b) ∙ own);
      still = record {
        even = λ o. keeps.writes o ∙ s.even o;
        hands = λ t.
            ⊎_elim
            (λ (e : stage t w.log ≡ stage t v.log). ⊎_elim (λ (z : stage t v.log ≡ 0). inl (e ∙ z)) (λ (z : stage t v.log ≡ 4). inr (e ∙ z)) (s.hands t))
            (λ (e : stage t w.log ≡ 0). inl e)
            (subst (λ (u : View). StaysOrGoes v u t) (sym x.did) (given_or_kept x.acts x.numbers v t x.givings));
        used = keeps.used ∙ s.used;
        owes = x.owes s.owes;
        flight = x.idle;
        boxes = done_same v w x.keeps.boxes s.boxes;
        stands = stands_by v w s keeps.shape keeps.locks keeps.words;
      };
    }

-- it has taken steps with boxes
pub boxed_calm : (v w : View) → IsStill v → OnlyBoxed v w → SameReferences v w → TakesNoPlace v w → IsSettled w.log → (HasMergedBoxes v.log → HasMergedBoxes w.log) → IsCalm v w
boxed_calm v w s x references places settled merged =
    let work = x.work in
    let pass = work.pass in
    let knows : (o : ℕ) → o < container_count v.shape → has_lock o v.log ≡ true → KnowsSame o v w = λ o low locked. (
      ap (λ (k : Shape). picture k o (mem k w.log)) pass.shape ∙ ap (picture v.shape o) x.words,
      ap (λ (k : Shape). container_after k.starts (past w.log) o) pass.shape ∙ ap (λ (cs : List Call). container_after v.shape.starts cs o) work.past,
      x.unboxed o low locked,
    ) in
    record {
      number = pass.number;
      next = pass.next;
      parts = pass.parts;
      shape = pass.shape;
      lists = pass.lists;
      entries = work.entries;
      left = work.left;
      locks = pass.locks;
      begun = pass.begun;
      cursors = pass.cursors;
      floor = pass.floor;
      since = pass.since;
      owners = pass.owners;
      seen = pass.seen;
      grown = pass.grown;
      merged = merged;
      still = record {
        even = λ o. pass.writes o ∙ s.even o;
        hands = λ t. subst (λ (n : ℕ). (n ≡ 0) ⊎ (n ≡ 4)) (sym (work.hands t)) (s.hands t);
        used = work.used ∙ s.used;
        owes = work.owes ∙ s.owes;
        flight = pass.flight ∙ s.flight;
        boxes = record { settled = settled; none = λ b. references b ∙ s.boxes.none b; stored = λ b e. s.boxes.stored b (places b e) };
        stands = stands_by v w s pass.shape pass.locks knows;
      };
    }

pub same_calm : (v : View) → IsStill v → IsCalm v v
same_calm v s = record {
  number = refl;
  next = refl;
  parts = refl;
  shape = refl;
  lists = refl;
  entries = refl;
  left = refl;
  locks = λ o. refl;
  begun = refl;
  cursors = λ k. refl;
  floor = refl;
  since = refl;
  owners = record { had = refl; found = refl };
  seen = le_refl (seen_writes v);
  grown = λ old was. was;
  merged = λ merged. merged;
  still = s;
}

-- it has learnt a note
pub learnt_calm : (v : View) (m n : ℕ) (told : List Told) → IsStill v → IsCalm v (view_after (ReadCounter n) (knowing m told v))
learnt_calm v m n told s = record {
  number = refl;
  next = refl;
  parts = refl;
  shape = refl;
  lists = refl;
  entries = refl;
  left = refl;
  locks = λ o. refl;
  begun = refl;
  cursors = λ k. refl;
  floor = refl;
  since = refl;
  owners = record { had = refl; found = refl };
  seen = le_trans (max-le (le_trans (le-max_left v.learnt m) (le-max_left (max v.learnt m) (shown v.log))) (le-max_right (max v.learnt m) (shown v.log))) (seen_up (ReadCounter n) (knowing m told v));
  grown = λ old was. inr (inr was);
  merged = λ merged. merged;
  still = record { even = s.even; hands = s.hands; used = s.used; owes = s.owes; flight = s.flight; boxes = same_done s.boxes (λ b. refl) (λ b. refl) (λ b. refl) (λ b. refl) (λ b. refl) (λ b. refl); stands = s.stands };
}

-- it has taken another pass in: it has the same sections and locks
over_or_was : (b : Bool) (n : ℕ) → (n ≡ 0) ⊎ (n ≡ 4) → (cond b 4 n ≡ 0) ⊎ (cond b 4 n ≡ 4)
over_or_was true n was = inr refl
over_or_was false n was = was

pub joined_still : (v u : View) (n : ℕ) → IsStill v → IsStill (view_after (ReadCounter n) (both v u))
joined_still v u n s = record { even = s.even; hands = λ t. over_or_was (is_handed t (hands_over u.log)) (stage t v.log) (s.hands t); used = s.used; owes = s.owes; flight = s.flight; boxes = same_done s.boxes (λ b. refl) (λ b. refl) (λ b. refl) (λ b. refl) (λ b. refl) (λ b. refl); stands = s.stands }

pub ready_joined : (b : Bank) (p q : Pass) (u : View) (n : ℕ) → IsReady b p → IsPassOf b q → stack_of q ≡ stack_of p → view q ≡ view_after (ReadCounter n) (both (view p) u) → IsReady b q
ready_joined b p q u n r pass stack is =
    let v = view p in
    let locks : (o : ℕ) → has_lock o (view q).log ≡ has_lock o v.log = λ o. ap (λ (z : View). has_lock o z.log) is in
    record {
      inside = (pass, subst (InCall (view q)) (sym stack) (in_call_stays v (view q) (stack_of p) r.inside.1 (ap (λ (z : View). z.shape) is) locks (ap (λ (z : View). begun z.log) is) (subst IsStill (sym is) (joined_still v u n r.inside.1.still))));
      own = ap (λ (s : Stack). s.own) stack ∙ r.own;
      mark = ap (λ (s : Stack). s.mark) stack ∙ r.mark;
      top = λ outer top split.
          let t = r.top outer top (sym (ap (λ (s : Stack). s.sections) stack) ∙ split) in
          (locks top.locks.lower ∙ t.0, locks top.locks.upper ∙ t.1);
    }

-- it has announced anew and collected
pub enters_calm : (v : View) (n m : ℕ) → IsStill v → IsCalm v (view_after (Announce m n) (view_after (WriteNumber n) v))
enters_calm v n m s = record {
  number = refl;
  next = refl;
  parts = refl;
  shape = refl;
  lists = refl;
  entries = refl;
  left = refl;
  locks = λ o. refl;
  begun = refl;
  cursors = λ k. refl;
  floor = refl;
  since = refl;
  owners = record { had = refl; found = refl };
  seen = le_trans (seen_up (WriteNumber n) v) (seen_up (Announce m n) (view_after (WriteNumber n) v));
  grown = λ old was. inr (inr was);
  merged = λ merged. merged;
  still = record { even = s.even; hands = s.hands; used = s.used; owes = s.owes; flight = s.flight; boxes = same_done s.boxes (λ b. refl) (λ b. refl) (λ b. refl) (λ b. refl) (λ b. refl) (λ b. refl); stands = s.stands };
}

pub quiesced_calm : (v w : View) → IsStill v → (n : ℕ) × (freed : ℕ) × Collected (view_after (Announce v.number n) (view_after (WriteNumber n) v)) w freed → IsCalm v w
quiesced_calm v w s (n, freed, collected) =
    let first = enters_calm v n v.number s in
    calm_then v (view_after (Announce v.number n) (view_after (WriteNumber n) v)) w first (collected_calm (view_after (Announce v.number n) (view_after (WriteNumber n) v)) w freed first.still collected)

-- ---- online

-- a pass that was never online and announces what isn't 0 is online
pub came_online : (n : ℕ) → 0 < n → presence_after_announcing n presence.Before ≡ presence.Online
came_online zero some = absurd (omega (arith, some))
came_online (suc n) some = refl

-- and one that was online and announces anew what isn't 0 is still online
pub stays_online : (n : ℕ) → 0 < n → presence_after_announcing n presence.Online ≡ presence.Online
stays_online zero some = absurd (omega (arith, some))
stays_online (suc n) some = refl
