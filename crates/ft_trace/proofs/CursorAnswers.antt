-- What the plain containers answer to an `iter` or a `next`.
use Rattle.std.proofs.Common.{◌≡◌, ℕ, zero, suc, true≢false, inr, List, [], ◌∷◌, refl, sym, ap, ◌∙◌}
use Rattle.std.specs.Prelude.{Bool, true, false, ◌&&◌, ◌==◌, Option, Some, None, length, if◌then◌else◌}
use Rattle.std.specs.List.{list_any}
use Rattle.std.specs.Option.{option_map_or}
use Rattle.ft_model.specs.declared.call.Call.{Call}
use Rattle.ft_model.specs.declared.call.Call.TheVariants as call
use Rattle.ft_model.specs.declared.call.DictCall.TheVariants as dict
use Rattle.ft_model.specs.declared.call.ListCall.TheVariants as list
use Rattle.ft_model.specs.declared.call.SetCall.TheVariants as set
use Rattle.ft_model.specs.declared.call.DequeCall.TheVariants as deque
use Rattle.ft_model.specs.declared.reply.Reply.{Reply}
use Rattle.ft_model.specs.declared.reply.Reply.TheVariants as reply
use Rattle.ft_model.specs.declared.content.Content.{Content}
use Rattle.ft_model.specs.declared.content.DictPair.{DictPair}
use Rattle.ft_model.specs.declared.content.Element.{Element}
use Rattle.ft_model.specs.declared.data.Value.{Value}
use Rattle.ft_model.specs.declared.cursor.Cursor.{Cursor}
use Rattle.ft_model.specs.declared.cursor.Cursor.TheVariants as cursor
use Rattle.ft_model.specs.declared.cursor.CursorState.TheVariants as walk
use Rattle.ft_model.specs.Answers.{Answer, answer, cursor_step, is_memory, is_write, is_raised, moves, shows, after_write}
use Rattle.std.specs.Prelude.{not, slice_get}
use Rattle.ft_model.specs.Calls.{can_add, is_changing, moved_cursor}
use Rattle.ft_model.specs.Cursors.{CursorStep, dict_walk, set_walk, list_walk, next_pair, next_element, deque_walk, dict_back_walk, prior_pair, list_back_walk}
use Rattle.ft_model.specs.Histories.{IsReplied}
use Rattle.ft_model.specs.TableUses.{passes_cap, would_pass}
use Rattle.ft_model.specs.Worlds.{cursor_at, dict_at, list_at, set_at, deque_at, named_in}
use Rattle.ft_trace.specs.Hands.{MovesCursor}

-- ---- which calls they are

pub moved_changes : (c : Call) (n : ℕ) → moved_cursor c ≡ Some n → is_changing c ≡ false
moved_changes (call.Dict o (dict.Iter m)) n is = refl
moved_changes (call.Dict o (dict.Reversed m)) n is = refl
moved_changes (call.Dict o c) n is = absurd (cc)
moved_changes (call.List o (list.Iter m)) n is = refl
moved_changes (call.List o (list.Reversed m)) n is = refl
moved_changes (call.List o c) n is = absurd (cc)
moved_changes (call.Set o (set.Iter m)) n is = refl
moved_changes (call.Set o c) n is = absurd (cc)
moved_changes (call.Deque o (deque.Iter m)) n is = refl
moved_changes (call.Deque o c) n is = absurd (cc)
moved_changes (call.Next m) n is = refl
moved_changes (call.Begin a b) n is = absurd (cc)
moved_changes call.End n is = absurd (cc)
moved_changes call.Quiesce n is = absurd (cc)
moved_changes (call.Await thread index) n is = absurd (cc)
moved_changes call.Dump n is = absurd (cc)

pub moved_adds : (c : Call) (n : ℕ) → moved_cursor c ≡ Some n → can_add c ≡ false
moved_adds (call.Dict o (dict.Iter m)) n is = refl
moved_adds (call.Dict o (dict.Reversed m)) n is = refl
moved_adds (call.Dict o c) n is = absurd (cc)
moved_adds (call.List o (list.Iter m)) n is = refl
moved_adds (call.List o (list.Reversed m)) n is = refl
moved_adds (call.List o c) n is = absurd (cc)
moved_adds (call.Set o (set.Iter m)) n is = refl
moved_adds (call.Set o c) n is = absurd (cc)
moved_adds (call.Deque o (deque.Iter m)) n is = refl
moved_adds (call.Deque o c) n is = absurd (cc)
moved_adds (call.Next m) n is = refl
moved_adds (call.Begin a b) n is = absurd (cc)
moved_adds call.End n is = absurd (cc)
moved_adds call.Quiesce n is = absurd (cc)
moved_adds (call.Await thread index) n is = absurd (cc)
moved_adds call.Dump n is = absurd (cc)

-- a call that can add asks no cursor
pub adds_no_cursor : (c : Call) → can_add c ≡ true → moved_cursor c ≡ None
adds_no_cursor c adds = by (moved_cursor c) refl
  where
    by : (z : Option ℕ) → moved_cursor c ≡ z → moved_cursor c ≡ None
    by None e = e
    by (Some n) e = absurd (true≢false (sym adds ∙ moved_adds c n e))

pub moved_reads : (c : Call) (n : ℕ) → moved_cursor c ≡ Some n → (said : Reply) → is_write c said ≡ false
moved_reads c n is said = ap (λ (b : Bool). b && not (is_raised said)) (moved_changes c n is)

pub moved_short : (world : List Content) (c : Call) (n : ℕ) → moved_cursor c ≡ Some n → would_pass world c ≡ false
moved_short world c n is = ap (λ (b : Bool). b && list_any passes_cap (named_in (after_write world c) c)) (moved_adds c n is)

pub moved_replied : (c : Call) (n : ℕ) → moved_cursor c ≡ Some n → (said plain : Reply) → said ≡ plain → IsReplied c said plain
moved_replied (call.Dict o c) n is said plain e = inr e
moved_replied (call.List o c) n is said plain e = inr e
moved_replied (call.Set o c) n is said plain e = inr e
moved_replied (call.Deque o c) n is said plain e = inr e
moved_replied (call.Next m) n is said plain e = inr e
moved_replied (call.Begin a b) n is said plain e = absurd (cc)
moved_replied call.End n is said plain e = absurd (cc)
moved_replied call.Quiesce n is said plain e = absurd (cc)
moved_replied (call.Await thread index) n is said plain e = absurd (cc)
moved_replied call.Dump n is said plain e = absurd (cc)

-- ---- hands with one cursor

abbrev pub hands_with : ℕ → Option Cursor → List (Option Cursor)
hands_with zero had = had ∷ []
hands_with (suc n) had = None ∷ hands_with n had

pub hand_at : (n : ℕ) (had : Option Cursor) → cursor_at (hands_with n had) n ≡ had
hand_at zero had = refl
hand_at (suc n) had = hand_at n had

pub moved_reply : (world : List Content) (c : Call) (n : ℕ) (had : Option Cursor) (said : Reply) (left : Cursor) → MovesCursor world c n had said left → said ≡ (answer world (hands_with n had) c).reply
moved_reply world c n had said left is = sym (ap (λ (z : Answer). z.reply) (is (hands_with n had) (hand_at n had)))

-- ---- no cursor answers a MemoryError

choose : (b : Bool) (one other : CursorStep) → is_memory one.reply ≡ false → is_memory other.reply ≡ false → is_memory (if b then one else other).reply ≡ false
choose true one other first second = first
choose false one other first second = second

dict_plain : (found : Option DictPair) (o size expected : ℕ) (last : Option ℕ) → is_memory (dict_walk found o size expected last).reply ≡ false
dict_plain None o size expected last = refl
dict_plain (Some pair) o size expected last = choose (expected == 0) _ _ refl refl

set_plain : (found : Option Element) (o size : ℕ) (last : Option ℕ) → is_memory (set_walk found o size last).reply ≡ false
set_plain None o size last = refl
set_plain (Some element) o size last = refl

list_plain : (found : Option Value) (o index : ℕ) → is_memory (list_walk found o index).reply ≡ false
list_plain None o index = refl
list_plain (Some value) o index = refl

deque_plain : (found : Option Value) (o moves index : ℕ) → is_memory (deque_walk found o moves index).reply ≡ false
deque_plain None o moves index = refl
deque_plain (Some value) o moves index = refl

dict_back_plain : (found : Option DictPair) (o size : ℕ) (last : Option ℕ) → is_memory (dict_back_walk found o size last).reply ≡ false
dict_back_plain None o size last = refl
dict_back_plain (Some pair) o size last = refl

list_back_plain : (found : Option Value) (o index : ℕ) → is_memory (list_back_walk found o index).reply ≡ false
list_back_plain None o index = refl
list_back_plain (Some value) o index = refl

pub step_plain : (world : List Content) (c : Cursor) → is_memory (cursor_step world c).reply ≡ false
step_plain world (cursor.Dict o walk.Ended size expected last) = refl
step_plain world (cursor.Dict o walk.Reported size expected last) = refl
step_plain world (cursor.Dict o walk.Live size expected last) = choose (length (dict_at world o).pairs == size) _ _ (dict_plain (next_pair (dict_at world o).pairs last) o size expected last) refl
step_plain world (cursor.List o index true) = refl
step_plain world (cursor.List o index false) = list_plain (slice_get (list_at world o) index) o index
step_plain world (cursor.Set o walk.Ended size last) = refl
step_plain world (cursor.Set o walk.Reported size last) = refl
step_plain world (cursor.Set o walk.Live size last) = choose (length (set_at world o).elements == size) _ _ (set_plain (next_element (set_at world o).elements last) o size last) refl
step_plain world (cursor.Deque o moves index) = choose ((deque_at world o).moves == moves) _ _ (deque_plain (slice_get (deque_at world o).items index) o moves index) refl
step_plain world (cursor.DictBack o walk.Ended size last) = refl
step_plain world (cursor.DictBack o walk.Reported size last) = refl
step_plain world (cursor.DictBack o walk.Live size last) = choose (length (dict_at world o).pairs == size) _ _ (dict_back_plain (prior_pair (dict_at world o).pairs last) o size last) refl
step_plain world (cursor.ListBack o None) = refl
step_plain world (cursor.ListBack o (Some index)) = list_back_plain (slice_get (list_at world o) index) o index

next_plain : (world : List Content) (hands : List (Option Cursor)) (n : ℕ) (found : Option Cursor) → is_memory (option_map_or (λ (z : Cursor). moves world hands n (cursor_step world z).cursor (cursor_step world z).reply) found (shows world hands reply.Stop)).reply ≡ false
next_plain world hands n None = refl
next_plain world hands n (Some c) = step_plain world c

answer_plain : (world : List Content) (hands : List (Option Cursor)) (c : Call) (n : ℕ) → moved_cursor c ≡ Some n → is_memory (answer world hands c).reply ≡ false
answer_plain world hands (call.Dict o (dict.Iter m)) n is = refl
answer_plain world hands (call.Dict o (dict.Reversed m)) n is = refl
answer_plain world hands (call.Dict o c) n is = absurd (cc)
answer_plain world hands (call.List o (list.Iter m)) n is = refl
answer_plain world hands (call.List o (list.Reversed m)) n is = refl
answer_plain world hands (call.List o c) n is = absurd (cc)
answer_plain world hands (call.Set o (set.Iter m)) n is = refl
answer_plain world hands (call.Set o c) n is = absurd (cc)
answer_plain world hands (call.Deque o (deque.Iter m)) n is = refl
answer_plain world hands (call.Deque o c) n is = absurd (cc)
answer_plain world hands (call.Next m) n is = next_plain world hands m (cursor_at hands m)
answer_plain world hands (call.Begin a b) n is = absurd (cc)
answer_plain world hands call.End n is = absurd (cc)
answer_plain world hands call.Quiesce n is = absurd (cc)
answer_plain world hands (call.Await thread index) n is = absurd (cc)
answer_plain world hands call.Dump n is = absurd (cc)

pub moved_plain : (world : List Content) (c : Call) (n : ℕ) → moved_cursor c ≡ Some n → (had : Option Cursor) (said : Reply) (left : Cursor) → MovesCursor world c n had said left → is_memory said ≡ false
moved_plain world c n is had said left moved = ap is_memory (moved_reply world c n had said left moved) ∙ answer_plain world (hands_with n had) c n is
