-- What `iter` and `next` come to, and the cursors that a caller has then.
use Rattle.std.proofs.Common.{◌≡◌, ◌≢◌, ◌≤◌, ◌<◌, ◌-◌, ℕ, zero, suc, Bool, false, true≢false, List, [], ◌∷◌, length, set, refl, sym, ap, ◌∙◌, subst, arith, le_trans, true, inr}
use Rattle.std.specs.Prelude.{Option, Some, option_map, slice_index_or}
use Rattle.std.proofs.lemmas.List.{length-set}
use mathlib.Core.Logic.{dite}
use native.Mathlib.Decide.{ℕ_discrete}
use Rattle.ft_model.specs.declared.call.Call.{Call}
use Rattle.ft_model.specs.declared.call.Call.TheVariants as call
use Rattle.ft_model.specs.declared.cursor.Cursor.{Cursor}
use Rattle.ft_model.specs.declared.reply.Reply.{Reply}
use Rattle.ft_model.specs.declared.script.Kind.{Kind}
use Rattle.ft_model.specs.declared.script.Kind.TheVariants as kind
use Rattle.ft_model.specs.Calls.{moved_cursor}
use Rattle.ft_model.specs.Worlds.{container_of, cursor_at, cursor_kind}
use Rattle.ft_trace.specs.declared.Act.{Act}
use Rattle.ft_trace.specs.declared.Act.TheVariants.{AnswerCursor}
use Rattle.ft_trace.specs.declared.Entry.{Entry}
use Rattle.ft_trace.specs.declared.Shape.{Shape}
use Rattle.ft_trace.specs.declared.View.{View}
use Rattle.ft_trace.specs.Acts.{announces, seen_writes, presence_after_entry}
use Rattle.ft_trace.specs.Floors.{at_floor}
use Rattle.ft_trace.specs.Hands.{cursor_in}
use Rattle.ft_trace.proofs.Cases.{here, miss}
use Rattle.ft_trace.proofs.Seeing.{seen_up}
use Rattle.ft_bank.specs.declared.bank.Bank.{Bank}
use Rattle.ft_bank.specs.declared.pass.Pass.{Pass}
use Rattle.ft_bank.specs.Answered.{AnsweredCursor}
use Rattle.ft_bank.specs.Passes.{view}
use Rattle.ft_section.specs.declared.answers.Objects.TheVariants.{One}
use Rattle.ft_section.specs.declared.answers.Stamp.{Stamp}
use Rattle.ft_section.specs.declared.answers.Step.{Step}
use Rattle.ft_section.specs.declared.answers.Step.TheVariants as step
use Rattle.ft_section.specs.Trying.{SectionsAfter}
use Rattle.ft_table_calls.specs.declared.made.Made.TheVariants as made
use Rattle.ft_table_calls.specs.TriesUnderLocks.{UnderLocks}
use Rattle.ft_iter.specs.CursorCalls.{IsCursorMove, IsMoveOf, IsOver, KeepsOtherCursors, iter_call, is_landed_cursor}
use Rattle.ft_bank_history.specs.Marks.{over_after, walked_after}
use Rattle.ft_engine.specs.Answering.{MakesEntry, AreHandsOfPass, IsTryOfCall, LeavesHands, StaysPass}
use Rattle.ft_engine.specs.Callers.{IsOfKindIn}
use Rattle.ft_engine.specs.Flights.{objects_of}
use Rattle.ft_engine.specs.Keeping.{made_entry}
use Rattle.ft_engine.proofs.LooksBefore.{IsPlain, plain_call, tried_of}
use Rattle.ft_engine.proofs.Outcomes.{Outcome}
use Rattle.ft_engine.proofs.Within.{WalkedBy, cursor_owners, within_then}
use Rattle.ft_engine.proofs.SectionCalls.{loaded_in, only_nothing}

-- ---- the entry

moved_adds : (o : ℕ) (called : Call) (said : Reply) (stamp : Stamp) (number : ℕ) (left : Cursor) (v w : View) → stamp.wrote ≡ false → 0 < v.left → moved_cursor called ≡ Some number → KeepsOtherCursors number v w → UnderLocks (One o) (AnsweredCursor called said stamp.number number left) v w → MakesEntry called said stamp v w
moved_adds o called said stamp number left v w is some moves others m =
    let before = only_nothing v m.before m.took in
    let after = only_nothing m.after w m.gone in
    let x = m.did in
    let u = x.before in
    let l = x.loaded.work in
    let act = AnswerCursor called said stamp.number number (cursor_in number m.before.log) left in
    let moved : StaysPass u m.after = subst (StaysPass u) (sym x.answered) (record { number = refl; next = refl; parts = refl; shape = refl; lists = refl; online = λ on. on; floor = refl; since = refl; seen = seen_up act u; grown = λ old was. inr was; stays_online = λ is. ap presence_after_entry is }) in
    record {
      pass = record {
        number = after.pass.number ∙ (ap (λ (z : View). z.number) x.answered ∙ (l.pass.number ∙ before.pass.number));
        next = after.pass.next ∙ (ap (λ (z : View). z.next) x.answered ∙ (l.pass.next ∙ before.pass.next));
        parts = after.pass.parts ∙ (ap (λ (z : View). z.parts) x.answered ∙ (l.pass.parts ∙ before.pass.parts));
        shape = after.pass.shape ∙ (ap (λ (z : View). z.shape) x.answered ∙ (l.pass.shape ∙ before.pass.shape));
        lists = after.pass.lists ∙ (ap (λ (z : View). z.lists) x.answered ∙ (l.pass.lists ∙ before.pass.lists));
        online = λ on. after.pass.online (subst (λ (n : ℕ). 0 < n) (sym (ap (λ (z : View). announces z.log) x.answered ∙ l.pass.announced)) (before.pass.online on));
        floor = after.pass.floor ∙ (ap (λ (z : View). z.has_floor) x.answered ∙ (l.pass.floor ∙ before.pass.floor));
        since = after.pass.since ∙ (ap (λ (z : View). at_floor z.log) x.answered ∙ (l.pass.since ∙ before.pass.since));
        seen = le_trans before.pass.seen (le_trans (subst (λ (z : View). seen_writes m.before ≤ seen_writes z) (sym x.answered) (le_trans l.pass.seen (seen_up act u))) after.pass.seen);
        grown = λ old was. after.pass.grown old (moved.grown old (l.pass.grown old (before.pass.grown old was)));
        stays_online = λ is. after.pass.stays_online (moved.stays_online (l.pass.stays_online (before.pass.stays_online is)));
      };
      entries = after.entries ∙ (ap (λ (z : View). z.entries) x.answered ∙ (ap (λ (b : Bool). record { call = called; reply = said; stamp = stamp.number; wrote = b } ∷ u.entries) (sym is) ∙ ap (λ (es : List Entry). made_entry called said stamp ∷ es) (l.entries ∙ before.entries)));
      left =
          let a : m.after.left ≡ u.left - 1 = ap (λ (z : View). z.left) x.answered in
          let b = l.left in
          let c = before.left in
          let d = after.left in
          let e : v.left ≡ suc w.left = omega (arith, a, b, c, d, some) in e;
      seen = le_trans before.pass.seen x.seen;
      loaded = λ _.
          loaded_in called stamp.number v m.before m.after w before.pass
          (record {
            later = [];
            answer = act;
            part = x.part;
            own = ap (λ (z : View). z.log) x.answered ∙ ap (λ (log : List Act). act ∷ log) x.own;
            answers = (refl, refl);
            loaded = x.counted;
          }) after.pass;
      shows = λ wrote. absurd (true≢false (sym wrote ∙ is));
      cursors = λ other apart. others other (λ e. apart (moves ∙ ap (λ (n : ℕ). Some n) (sym e)));
    }

-- its answer alone
answered_under : (kind : Kind) (o : ℕ) (called : Call) (number : ℕ) (left : Option Cursor) (said : Reply) (stamp : Stamp) (v w : View) (x : UnderLocks (One o) (IsCursorMove kind o called number left (made.Done said stamp)) v w) → UnderLocks (One o) (AnsweredCursor called said stamp.number number x.did.0) v w
answered_under kind o called number left said stamp v w x = record { before = x.before; took = x.took; within = x.within; locks = x.locks; after = x.after; did = x.did.3; gone = x.gone; owners = x.owners }

move_outcome : (kind : Kind) (o : ℕ) (called : Call) (number : ℕ) (had left : Option Cursor) (v w : View) (result : Step) → 0 < v.left → moved_cursor called ≡ Some number → KeepsOtherCursors number v w → IsMoveOf kind o called number had v w result left → Outcome called (One o) v w result
move_outcome kind o called number had left v w (step.Done said stamp) some moves others x =
    let m = answered_under kind o called number left said stamp v w x.0 in
    let a = m.did in (
      moved_adds o called said stamp number x.0.did.0 v w x.0.did.4 some moves others m,
      within_then (One o) v m.before m.after w m.took m.within (ap (λ (z : View). z.number) a.answered ∙ a.loaded.work.pass.number) (cursor_owners called said stamp.number number x.0.did.0 m.before m.after a) m.gone m.owners,
    )
move_outcome kind o called number had left v w (step.NotYet p owner) some moves others x = x.0
move_outcome kind o called number had left v w (step.Moved a b) some moves others x = absurd x.0.did
move_outcome kind o called number had left v w step.NoMemory some moves others x = absurd x.0.did

-- ---- the cursors

at_set : (hands : List (Option Cursor)) (number : ℕ) (left : Option Cursor) → number < length hands → cursor_at (set hands number left) number ≡ left
at_set [] number left low = absurd (omega (arith, low))
at_set (h ∷ hands) zero left low = refl
at_set (h ∷ hands) (suc n) left low = at_set hands n left (omega (arith, low))

at_other : (hands : List (Option Cursor)) (number n : ℕ) (left : Option Cursor) → n ≢ number → cursor_at (set hands number left) n ≡ cursor_at hands n
at_other [] number n left apart = refl
at_other (h ∷ hands) zero zero left apart = absurd (apart refl)
at_other (h ∷ hands) zero (suc n) left apart = refl
at_other (h ∷ hands) (suc number) zero left apart = refl
at_other (h ∷ hands) (suc number) (suc n) left apart = at_other hands number n left (λ e. apart (ap suc e))

-- what is read at a place
pub at_read : (hands : List (Option Cursor)) (number : ℕ) (slot : Option Cursor) → number < length hands → slot ≡ slice_index_or hands number slot → slot ≡ cursor_at hands number
at_read [] number slot low is = absurd (omega (arith, low))
at_read (h ∷ hands) zero slot low is = is
at_read (h ∷ hands) (suc n) slot low is = at_read hands n slot (omega (arith, low)) is

set_same : (hands : List (Option Cursor)) (number : ℕ) → set hands number (cursor_at hands number) ≡ hands
set_same [] number = refl
set_same (h ∷ hands) zero = refl
set_same (h ∷ hands) (suc n) = ap (λ (l : List (Option Cursor)). h ∷ l) (set_same hands n)

moved_hands : (k : Shape) (v w : View) (hands : List (Option Cursor)) (kind : Kind) (o number : ℕ) (walker : Cursor) → AreHandsOfPass k v hands → number < length hands → KeepsOtherCursors number v w → cursor_in number w.log ≡ Some walker → IsOver kind o walker → IsOfKindIn k kind o → AreHandsOfPass k w (set hands number (Some walker))
moved_hands k v w hands kind o number walker are low others mine over of = record {
  cursors = λ n within.
      dite (ℕ_discrete n number)
      (λ (e : n ≡ number). subst (λ (z : ℕ). cursor_at (set hands number (Some walker)) z ≡ cursor_in z w.log) (sym e) (at_set hands number (Some walker) low ∙ sym mine))
      (λ apart. at_other hands number n (Some walker) apart ∙ (are.cursors n (let l = length-set hands number (Some walker) in omega (arith, l, within)) ∙ sym (others n apart)));
  over = λ n other at.
      dite (ℕ_discrete n number)
      (λ (e : n ≡ number).
      let same : Some walker ≡ Some other = sym (at_set hands number (Some walker) low) ∙ (ap (cursor_at (set hands number (Some walker))) (sym e) ∙ at) in
      subst (λ (z : Cursor). IsOfKindIn k (cursor_kind z) (container_of z) × (is_landed_cursor z ≡ true)) (let s : walker ≡ other = cc in s)
      (subst (λ (z : Kind × ℕ). IsOfKindIn k z.0 z.1) (λ d. (sym over.1 d, sym over.0 d)) of, over.2))
      (λ apart. are.over n other (sym (at_other hands number n (Some walker) apart) ∙ at));
}

-- what the caller's cursors become
pub hands_by : (k : Shape) (v w : View) (hands : List (Option Cursor)) (kind : Kind) (o number : ℕ) (called : Call) (left : Option Cursor) (result : Step) → AreHandsOfPass k v hands → number < length hands → KeepsOtherCursors number v w → IsOfKindIn k kind o → IsMoveOf kind o called number (cursor_at hands number) v w result left → AreHandsOfPass k w (set hands number left) × LeavesHands result hands (set hands number left)
hands_by k v w hands kind o number called left (step.Done said stamp) are low others of x = (
  subst (λ (z : Option Cursor). AreHandsOfPass k w (set hands number z)) (sym x.0.did.1) (moved_hands k v w hands kind o number x.0.did.0 are low others (x.1 ∙ x.0.did.1) x.0.did.2 of),
  length-set hands number left,
)
hands_by k v w hands kind o number called left (step.NotYet p owner) are low others of x =
    let same : set hands number left ≡ hands = ap (set hands number) x.1 ∙ set_same hands number in
    (subst (AreHandsOfPass k w) (sym same) (record { cursors = λ n within. are.cursors n within ∙ sym (x.0.0.cursors n); over = are.over }), same)
hands_by k v w hands kind o number called left (step.Moved a b) are low others of x = absurd x.0.did
hands_by k v w hands kind o number called left step.NoMemory are low others of x = absurd x.0.did

-- ---- the calls

plain_iter : (kind : Kind) (o number : ℕ) → IsPlain (iter_call kind o number)
plain_iter kind.Dict o number = plain_call (iter_call kind.Dict o number) tt
plain_iter kind.List o number = plain_call (iter_call kind.List o number) tt
plain_iter (kind.Deque bound) o number = plain_call (iter_call (kind.Deque bound) o number) tt
plain_iter kind.Set o number = plain_call (iter_call kind.Set o number) tt

iter_names : (hands : List (Option Cursor)) (kind : Kind) (o number : ℕ) → objects_of hands (iter_call kind o number) ≡ Some (One o)
iter_names hands kind.Dict o number = refl
iter_names hands kind.List o number = refl
iter_names hands (kind.Deque bound) o number = refl
iter_names hands kind.Set o number = refl

iter_moves : (kind : Kind) (o number : ℕ) → moved_cursor (iter_call kind o number) ≡ Some number
iter_moves kind.Dict o number = refl
iter_moves kind.List o number = refl
iter_moves (kind.Deque bound) o number = refl
iter_moves kind.Set o number = refl

walked_iter : (kind : Kind) (o number n : ℕ) (over : Option ℕ) → walked_after n (iter_call kind o number) over ≡ over_after n o (Some number) over
walked_iter kind.Dict o number n over = refl
walked_iter kind.List o number n over = refl
walked_iter (kind.Deque bound) o number n over = refl
walked_iter kind.Set o number n over = refl

iter_walked : (kind : Kind) (o number : ℕ) (had left : Option Cursor) (v w : View) (result : Step) → KeepsOtherCursors number v w → IsMoveOf kind o (iter_call kind o number) number had v w result left → WalkedBy (iter_call kind o number) v w result
iter_walked kind o number had left v w (step.Done said stamp) others x = λ n.
    let over = option_map container_of (cursor_in n v.log) in
    dite (ℕ_discrete n number)
    (λ (e : n ≡ number).
    ap (option_map container_of) (subst (λ (z : ℕ). cursor_in z w.log ≡ Some x.0.did.0) (sym e) (x.1 ∙ x.0.did.1))
    ∙ (ap (λ (z : ℕ). Some z) x.0.did.2.0 ∙ sym (walked_iter kind o number n over ∙ here number n (Some o) over (sym e))))
    (λ ne. ap (option_map container_of) (others n ne) ∙ sym (walked_iter kind o number n over ∙ miss number n (Some o) over (λ e. ne (sym e))))
iter_walked kind o number had left v w (step.NotYet p owner) others x = tt
iter_walked kind o number had left v w (step.Moved a b) others x = tt
iter_walked kind o number had left v w step.NoMemory others x = tt

next_walked : (kind : Kind) (number : ℕ) (walker : Cursor) (had left : Option Cursor) (v w : View) (result : Step) → cursor_in number v.log ≡ Some walker → KeepsOtherCursors number v w → IsMoveOf kind (container_of walker) (call.Next number) number had v w result left → WalkedBy (call.Next number) v w result
next_walked kind number walker had left v w (step.Done said stamp) was others x = λ n.
    dite (ℕ_discrete n number)
    (λ (e : n ≡ number).
    ap (option_map container_of) (subst (λ (z : ℕ). cursor_in z w.log ≡ Some x.0.did.0) (sym e) (x.1 ∙ x.0.did.1))
    ∙ (ap (λ (z : ℕ). Some z) x.0.did.2.0 ∙ sym (ap (option_map container_of) (subst (λ (z : ℕ). cursor_in z v.log ≡ Some walker) (sym e) was))))
    (λ ne. ap (option_map container_of) (others n ne))
next_walked kind number walker had left v w (step.NotYet p owner) was others x = tt
next_walked kind number walker had left v w (step.Moved a b) was others x = tt
next_walked kind number walker had left v w step.NoMemory was others x = tt

pub iter_tried : (b : Bank) (p q : Pass) (hands : List (Option Cursor)) (kind : Kind) (o number : ℕ) (had left : Option Cursor) (result : Step) → 0 < (view p).left → SectionsAfter b (One o) p q result → KeepsOtherCursors number (view p) (view q) → IsMoveOf kind o (iter_call kind o number) number had (view p) (view q) result left → IsTryOfCall b hands (iter_call kind o number) p q result
iter_tried b p q hands kind o number had left result some after others x =
    tried_of b p q hands (iter_call kind o number) (One o) (plain_iter kind o number) (iter_names hands kind o number) result after (move_outcome kind o (iter_call kind o number) number had left (view p) (view q) result some (iter_moves kind o number) others x) (iter_walked kind o number had left (view p) (view q) result others x)

plain_next : (number : ℕ) → IsPlain (call.Next number)
plain_next number = record { sections = λ n log sections. refl; begins = refl; marks = λ marks. refl; ends = λ marks said. tt; leaves = λ s. refl; none = λ v w. tt }

pub next_names : (hands : List (Option Cursor)) (number : ℕ) (walker : Cursor) → cursor_at hands number ≡ Some walker → objects_of hands (call.Next number) ≡ Some (One (container_of walker))
next_names hands number walker at = ap (λ (z : Option Cursor). option_map (λ w. One (container_of w)) z) at

pub next_tried : (b : Bank) (p q : Pass) (hands : List (Option Cursor)) (kind : Kind) (number : ℕ) (walker : Cursor) (had left : Option Cursor) (result : Step) → 0 < (view p).left → cursor_at hands number ≡ Some walker → cursor_in number (view p).log ≡ Some walker → SectionsAfter b (One (container_of walker)) p q result → KeepsOtherCursors number (view p) (view q) → IsMoveOf kind (container_of walker) (call.Next number) number had (view p) (view q) result left → IsTryOfCall b hands (call.Next number) p q result
next_tried b p q hands kind number walker had left result some at was after others x =
    tried_of b p q hands (call.Next number) (One (container_of walker)) (plain_next number) (next_names hands number walker at) result after (move_outcome kind (container_of walker) (call.Next number) number had left (view p) (view q) result some refl others x) (next_walked kind number walker had left (view p) (view q) result was others x)
