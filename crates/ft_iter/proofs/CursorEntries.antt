-- From what the plain containers answer to the entry of an `iter` or a `next`, and what it leaves of a pass.
use Rattle.std.proofs.Common.{◌≡◌, ◌≤◌, ◌<◌, ℕ, true, List, [], ◌∷◌, ◌++◌, Option, Some, refl, sym, ap, ◌∙◌, subst, le_trans, arith}
use Rattle.ft_model.specs.declared.call.Call.{Call}
use Rattle.ft_model.specs.declared.content.Content.{Content}
use Rattle.ft_model.specs.declared.content.Content.TheVariants as content
use Rattle.ft_model.specs.declared.data.Value.{Value}
use Rattle.ft_model.specs.declared.cursor.Cursor.{Cursor}
use Rattle.ft_model.specs.declared.reply.Reply.{Reply}
use Rattle.ft_model.specs.declared.script.Kind.{Kind}
use Rattle.ft_model.specs.declared.script.Kind.TheVariants as kind
use Rattle.ft_model.specs.Calls.{moved_cursor}
use Rattle.ft_model.specs.Worlds.{kind_of}
use Rattle.ft_trace.specs.declared.Act.{Act}
use Rattle.ft_trace.specs.declared.Act.TheVariants.{AnswerCursor, ReadCounter}
use Rattle.ft_trace.specs.declared.Shape.{Shape}
use Rattle.ft_trace.specs.declared.View.{View}
use Rattle.ft_trace.specs.Acts.{has_lock, view_after, seen_writes}
use Rattle.ft_trace.specs.Addresses.{container_count}
use Rattle.ft_trace.specs.Hands.{cursor_in, MovesCursor}
use Rattle.ft_trace.specs.Holds.{known_state}
use Rattle.ft_trace.specs.BegunSections.{begun}
use Rattle.ft_trace.specs.Traces.{IsReachable}
use Rattle.ft_trace.specs.ContainerStates.{ContainerState, kind_in}
use Rattle.ft_trace.proofs.Cases.{hit, miss}
use Rattle.ft_bank.specs.declared.bank.Bank.{Bank}
use Rattle.ft_bank.specs.declared.pass.Pass.{Pass}
use Rattle.ft_bank.specs.Answered.{AnsweredCursor}
use Rattle.ft_bank.specs.Passes.{view, IsPassOf}
use Rattle.ft_bank.specs.Reads.{IsCursorShown}
use Rattle.ft_bank.specs.PassSections.{stack_of}
use Rattle.ft_bank.specs.Whole.{OnlyLoaded}
use Rattle.ft_bank.proofs.ShownReplies.{cursors_under_locks_are_shown}
use Rattle.ft_bank.proofs.KnownAfterWrites.{loaded_by, loaded_then, work_knows}
use Rattle.ft_section.specs.Locking.{OnlyLocked}
use Rattle.ft_section.specs.Ready.{IsStill, IsMaking}
use Rattle.ft_section.proofs.MidstOfCall.{making_stays}
use Rattle.ft_search.proofs.ReadMidst.{still_loaded}
use Rattle.ft_iter.specs.CursorCalls.{KeepsOtherCursors}
use Rattle.ft_iter.proofs.Moves.{Holds, holds-known}
use Rattle.ft_search.proofs.Changing.{kind_is}

-- right of the content that the pass knows, so right of whatever the bank may have
pub cursor-shown : (v u : View) (o n number : ℕ) (called : Call) (said : Reply) (left : Cursor) → OnlyLoaded v u → 0 < v.left → moved_cursor called ≡ Some number → o < container_count v.shape → has_lock o v.log ≡ true
    → ((world : List Content) → Holds world o (known_state o v).content → MovesCursor world called number (cursor_in number v.log) said left) → IsCursorShown (view_after (ReadCounter n) u) called said n number left
cursor-shown v u o n number called said left loaded some_call moved low mine right =
    cursors_under_locks_are_shown (view_after (ReadCounter n) u) called said n number left
    (record { left = subst (λ (z : ℕ). 0 < z) (sym loaded.work.left) some_call; newer = []; rest = u.log; is = refl; own = tt; locks = tt }) moved
    (λ stored may.
    let holds = holds-known (view_after (ReadCounter n) u) o stored may (subst (λ (k : Shape). o < container_count k) (sym loaded.work.pass.shape) low) (loaded.work.pass.locks o ∙ mine) in
    let same : (known_state o u).content ≡ (known_state o v).content = ap (λ (z : ContainerState). z.content) (work_knows v u o loaded.work) in
    subst (λ (z : Option Cursor). MovesCursor stored.world called number z said left) (sym (loaded.work.pass.cursors number)) (right stored.world (λ d. holds d ∙ same)))

-- the entry that follows
pub answered-moved : (v u z : View) (called : Call) (said : Reply) (n number : ℕ) (left : Cursor) (part : List Act) → OnlyLoaded v u → u.log ≡ part ++ v.log
    → z ≡ view_after (AnswerCursor called said n number (cursor_in number u.log) left) (view_after (ReadCounter n) u) → seen_writes u ≤ n → AnsweredCursor called said n number left v z
answered-moved v u z called said n number left part loaded own is seen = record {
  before = view_after (ReadCounter n) u;
  loaded = loaded_then v u (view_after (ReadCounter n) u) loaded (loaded_by (ReadCounter n) u (view_after (ReadCounter n) u) tt refl);
  part = ReadCounter n ∷ part;
  own = ap (λ (l : List Act). ReadCounter n ∷ l) own;
  counted = record { newer = []; rest = part; is = refl; none = refl };
  answered = is ∙ ap (λ (had : Option Cursor). view_after (AnswerCursor called said n number had left) (view_after (ReadCounter n) u)) (loaded.work.pass.cursors number);
  seen = le_trans loaded.work.pass.seen seen;
}

-- the cursor under the number is then that one
pub cursor-left : (v w : View) (called : Call) (said : Reply) (n number : ℕ) (left : Cursor) → AnsweredCursor called said n number left v w → cursor_in number w.log ≡ Some left
cursor-left v w called said n number left a = ap (λ (z : View). cursor_in number z.log) a.answered ∙ hit number (Some left) (cursor_in number a.before.log)

-- and those under other numbers are what they were, also where locks were taken before and let go after
pub cursors-kept : (v u w z : View) (called : Call) (said : Reply) (n number : ℕ) (left : Cursor) → OnlyLocked v u → AnsweredCursor called said n number left u w → OnlyLocked w z → KeepsOtherCursors number v z
cursors-kept v u w z called said n number left took a gone other differs =
    gone.cursors other
    ∙ (ap (λ (x : View). cursor_in other x.log) a.answered
    ∙ (miss number other (Some left) (cursor_in other a.before.log) (λ same. differs (sym same))
    ∙ (a.loaded.work.pass.cursors other ∙ took.cursors other)))

still-moved : (called : Call) (said : Reply) (n number : ℕ) (had : Option Cursor) (left : Cursor) (u : View) → IsStill u → IsStill (view_after (AnswerCursor called said n number had left) u)
still-moved called said n number had left u s = record { even = s.even; hands = s.hands; used = s.used; owes = s.owes; flight = s.flight; boxes = record { settled = record { unmade = s.boxes.settled.unmade; counted = s.boxes.settled.counted; whole = s.boxes.settled.whole; given = s.boxes.settled.given }; none = s.boxes.none; stored = s.boxes.stored }; stands = s.stands }

-- a pass in the midst of a call is in the midst of it still
pub making-moved : (b : Bank) (p q : Pass) (called : Call) (said : Reply) (n number : ℕ) (left : Cursor) → IsMaking b p → IsPassOf b q → stack_of q ≡ stack_of p → AnsweredCursor called said n number left (view p) (view q) → IsMaking b q
making-moved b p q called said n number left m pass stack a =
    let v = view p in
    let had = cursor_in number v.log in
    let still : IsStill (view q) = subst IsStill (sym a.answered) (still-moved called said n number had left a.before (still_loaded v a.before a.loaded m.inside.1.still)) in
    let shape : (view q).shape ≡ v.shape = ap (λ z. z.shape) a.answered ∙ a.loaded.work.pass.shape in
    let locks : (o : ℕ) → has_lock o (view q).log ≡ has_lock o v.log = λ o. ap (λ z. has_lock o z.log) a.answered ∙ a.loaded.work.pass.locks o in
    let sections : begun (view q).log ≡ begun v.log = ap (λ z. begun z.log) a.answered ∙ a.loaded.work.pass.begun in
    making_stays b p q m pass stack shape locks sections still

-- ---- the kind of what a pass knows

pub kind-held : (v : View) (o : ℕ) → ∥ IsReachable v ∥₁ → has_lock o v.log ≡ true → kind_of (known_state o v).content ≡ kind_in v.shape.starts o
kind-held v o possible mine = kind_is v.shape v o refl possible mine

-- 1 for a list
abbrev list_code : Kind → ℕ
list_code kind.Dict = 0
list_code kind.List = 1
list_code kind.Set = 0
list_code (kind.Deque bound) = 0

as-list : (c : Content) → list_code (kind_of c) ≡ 1 → (items : List Value) × (c ≡ content.List items)
as-list (content.Dict dict) is = absurd (omega (arith, is))
as-list (content.List items) is = (items, refl)
as-list (content.Set set) is = absurd (omega (arith, is))
as-list (content.Deque deque) is = absurd (omega (arith, is))

pub list-known : (v : View) (o : ℕ) → ∥ IsReachable v ∥₁ → has_lock o v.log ≡ true → kind_in v.shape.starts o ≡ kind.List → (items : List Value) × ((known_state o v).content ≡ content.List items)
list-known v o possible mine is = as-list (known_state o v).content (ap list_code (kind-held v o possible mine ∙ is))
