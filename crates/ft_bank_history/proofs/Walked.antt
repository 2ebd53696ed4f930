-- The cursors of a thread go over the containers of its last `iter`s.
use Rattle.std.proofs.Common.{◌≡◌, ◌<◌, ⊎_elim, ℕ, zero, suc, Bool, true, false, List, [], ◌∷◌, length, refl, sym, ap, ◌∙◌, subst, length-set, get_or-set_same, get_or-set_other}
use Rattle.std.specs.Prelude.{◌==◌, ◌&&◌, Option, Some, None, All, fold, option_map, slice_set, if◌then◌else◌}
use Rattle.std.proofs.lemmas.List.Elements.{All-head, All-tail}
use mathlib.Core.Logic.{dite}
use native.Mathlib.Decide.{ℕ_discrete}
use Rattle.ft_model.specs.declared.call.Call.{Call}
use Rattle.ft_model.specs.declared.call.Call.TheVariants as call
use Rattle.ft_model.specs.declared.call.DictCall.{DictCall}
use Rattle.ft_model.specs.declared.call.DictCall.TheVariants as dict
use Rattle.ft_model.specs.declared.call.ListCall.{ListCall}
use Rattle.ft_model.specs.declared.call.ListCall.TheVariants as list
use Rattle.ft_model.specs.declared.call.SetCall.{SetCall}
use Rattle.ft_model.specs.declared.call.SetCall.TheVariants as set
use Rattle.ft_model.specs.declared.call.DequeCall.{DequeCall}
use Rattle.ft_model.specs.declared.call.DequeCall.TheVariants as deque
use Rattle.ft_model.specs.declared.content.Content.{Content}
use Rattle.ft_model.specs.declared.content.DictPair.{DictPair}
use Rattle.ft_model.specs.declared.content.Element.{Element}
use Rattle.ft_model.specs.declared.cursor.Cursor.{Cursor}
use Rattle.ft_model.specs.declared.cursor.Cursor.TheVariants as cursor
use Rattle.ft_model.specs.declared.cursor.CursorState.{CursorState}
use Rattle.ft_model.specs.declared.cursor.CursorState.TheVariants as walk
use Rattle.ft_model.specs.declared.data.Value.{Value}
use Rattle.ft_model.specs.declared.entry.Entry.{Entry as NamedEntry}
use Rattle.ft_model.specs.declared.reply.Reply.{Reply}
use Rattle.ft_model.specs.declared.reply.Reply.TheVariants as reply
use Rattle.ft_model.specs.declared.reply.Raise.TheVariants as raise
use Rattle.ft_model.specs.declared.script.Start.{Start}
use Rattle.std.specs.Option.{option_map_or}
use Rattle.ft_model.specs.Answers.{Answer, answer, cursor_step, is_memory, moves, shows, world_by}
use Rattle.ft_model.specs.Boxings.{boxes, is_boxed, stored_in_dict, stored_in_list, stored_in_deque}
use Rattle.ft_model.specs.Calls.{cursor_of_dict, cursor_of_list, cursor_of_deque, moved_cursor}
use Rattle.ft_model.specs.Contents.{DictContent}
use Rattle.ft_model.specs.Cursors.{CursorStep, dict_iter, dict_next, dict_walk, list_iter, list_next, list_walk, next_element, next_pair, set_iter, set_next, set_walk, deque_iter, deque_next, deque_walk, dict_reversed, dict_back_next, dict_back_walk, prior_pair, list_reversed, list_back_next, list_back_walk}
use Rattle.ft_model.specs.Deques.{DequeContent}
use Rattle.ft_model.specs.Histories.{after_stamped, hands_by}
use Rattle.ft_model.specs.TableUses.{Supply, CanLackMemory, can_leave_split, is_split, stored_by, takes_out, IsEarnedReply}
use Rattle.ft_model.specs.Worlds.{container_of, cursor_at, dict_at, list_at, set_at, deque_at, start_hands, start_in}
use Rattle.std.specs.Prelude.{slice_get, take}
use Rattle.ft_trace.proofs.Cases.{here, miss}
use Rattle.ft_trace.proofs.CursorAnswers.{adds_no_cursor}
use Rattle.ft_trace.proofs.PlainAnswers.{plain_answer}
use Rattle.ft_bank_history.specs.Marks.{over_after, walked_after, walked_by}

-- ---- a `next` leaves its cursor on the container

either_over : (b : Bool) (x y : CursorStep) (o : ℕ) → container_of x.cursor ≡ o → container_of y.cursor ≡ o → container_of (if b then x else y).cursor ≡ o
either_over true x y o one other = one
either_over false x y o one other = other

dict_walk_over : (found : Option DictPair) (o size expected : ℕ) (last : Option ℕ) → container_of (dict_walk found o size expected last).cursor ≡ o
dict_walk_over None o size expected last = refl
dict_walk_over (Some pair) o size expected last = either_over (expected == 0) _ _ o refl refl

dict_over : (pairs : List DictPair) (o : ℕ) (state : CursorState) (size expected : ℕ) (last : Option ℕ) → container_of (dict_next pairs o state size expected last).cursor ≡ o
dict_over pairs o walk.Ended size expected last = refl
dict_over pairs o walk.Reported size expected last = refl
dict_over pairs o walk.Live size expected last = either_over (length pairs == size) _ _ o (dict_walk_over (next_pair pairs last) o size expected last) refl

set_walk_over : (found : Option Element) (o size : ℕ) (last : Option ℕ) → container_of (set_walk found o size last).cursor ≡ o
set_walk_over None o size last = refl
set_walk_over (Some element) o size last = refl

set_over : (elements : List Element) (o : ℕ) (state : CursorState) (size : ℕ) (last : Option ℕ) → container_of (set_next elements o state size last).cursor ≡ o
set_over elements o walk.Ended size last = refl
set_over elements o walk.Reported size last = refl
set_over elements o walk.Live size last = either_over (length elements == size) _ _ o (set_walk_over (next_element elements last) o size last) refl

list_walk_over : (found : Option Value) (o index : ℕ) → container_of (list_walk found o index).cursor ≡ o
list_walk_over None o index = refl
list_walk_over (Some value) o index = refl

list_over : (items : List Value) (o index : ℕ) (ended : Bool) → container_of (list_next items o index ended).cursor ≡ o
list_over items o index true = refl
list_over items o index false = list_walk_over (slice_get items index) o index

deque_walk_over : (found : Option Value) (o moves index : ℕ) → container_of (deque_walk found o moves index).cursor ≡ o
deque_walk_over None o moves index = refl
deque_walk_over (Some value) o moves index = refl

deque_over : (deque : DequeContent) (o moves index : ℕ) → container_of (deque_next deque o moves index).cursor ≡ o
deque_over deque o moves index = either_over (deque.moves == moves) _ _ o (deque_walk_over (slice_get deque.items index) o moves index) refl

dict_back_walk_over : (found : Option DictPair) (o size : ℕ) (last : Option ℕ) → container_of (dict_back_walk found o size last).cursor ≡ o
dict_back_walk_over None o size last = refl
dict_back_walk_over (Some pair) o size last = refl

dict_back_over : (pairs : List DictPair) (o : ℕ) (state : CursorState) (size : ℕ) (last : Option ℕ) → container_of (dict_back_next pairs o state size last).cursor ≡ o
dict_back_over pairs o walk.Ended size last = refl
dict_back_over pairs o walk.Reported size last = refl
dict_back_over pairs o walk.Live size last = either_over (length pairs == size) _ _ o (dict_back_walk_over (prior_pair pairs last) o size last) refl

list_back_walk_over : (found : Option Value) (o index : ℕ) → container_of (list_back_walk found o index).cursor ≡ o
list_back_walk_over None o index = refl
list_back_walk_over (Some value) o index = refl

list_back_over : (items : List Value) (o : ℕ) (index : Option ℕ) → container_of (list_back_next items o index).cursor ≡ o
list_back_over items o None = refl
list_back_over items o (Some index) = list_back_walk_over (slice_get items index) o index

step_over : (world : List Content) (walker : Cursor) → container_of (cursor_step world walker).cursor ≡ container_of walker
step_over world (cursor.Dict o state size expected last) = dict_over (dict_at world o).pairs o state size expected last
step_over world (cursor.List o index ended) = list_over (list_at world o) o index ended
step_over world (cursor.Set o state size last) = set_over (set_at world o).elements o state size last
step_over world (cursor.Deque o moves index) = deque_over (deque_at world o) o moves index
step_over world (cursor.DictBack o state size last) = dict_back_over (dict_at world o).pairs o state size last
step_over world (cursor.ListBack o index) = list_back_over (list_at world o) o index

-- ---- one call

-- the cursor of this number goes over this container, where it was made
abbrev pub GoesOver : List (Option Cursor) → ℕ → Option ℕ → Type 0
GoesOver hands n over = option_map container_of (cursor_at hands n) ≡ over

pub walked_plain : (n : ℕ) (called : Call) (over : Option ℕ) → moved_cursor called ≡ None → walked_after n called over ≡ over
walked_plain n (call.Dict o c) over none = ap (λ m. over_after n o m over) none
walked_plain n (call.List o c) over none = ap (λ m. over_after n o m over) none
walked_plain n (call.Set o c) over none = ap (λ m. over_after n o m over) none
walked_plain n (call.Deque o c) over none = ap (λ m. over_after n o m over) none
walked_plain n (call.Next m) over none = refl
walked_plain n (call.Begin a b) over none = refl
walked_plain n call.End over none = refl
walked_plain n call.Quiesce over none = refl
walked_plain n (call.Await thread index) over none = refl
walked_plain n call.Dump over none = refl

module _ (world : List Content) (hands : List (Option Cursor)) (n : ℕ) (low : n < length hands) (over : Option ℕ) (goes : GoesOver hands n over) where
  -- what a call leaves: as many cursors, and this one on its container
  abbrev Leaves : Call → Type 0
  Leaves called = (length (answer world hands called).hands ≡ length hands) × GoesOver (answer world hands called).hands n (walked_after n called over)

  plain : (called : Call) → moved_cursor called ≡ None → Leaves called
  plain called none =
      let same : (answer world hands called).hands ≡ hands = ap (λ (z : Answer). z.hands) (plain_answer hands world called none) in
      (ap length same, ap (λ (hs : List (Option Cursor)). option_map container_of (cursor_at hs n)) same ∙ (goes ∙ sym (walked_plain n called over none)))

  -- an `iter` puts the cursor m on o
  put_at : (o m : ℕ) (walker : Cursor) → container_of walker ≡ o → GoesOver (slice_set hands m (Some walker)) n (over_after n o (Some m) over)
  put_at o m walker is =
      dite (ℕ_discrete m n)
      (λ (e : m ≡ n).
      subst (λ (z : ℕ). option_map container_of (cursor_at (slice_set hands z (Some walker)) n) ≡ Some o) (sym e)
      (ap (option_map container_of) (get_or-set_same hands n (Some walker) None low) ∙ ap (λ (z : ℕ). Some z) is)
      ∙ sym (here m n (Some o) over e))
      (λ ne. ap (option_map container_of) (get_or-set_other hands m n (Some walker) None (λ e. ne (sym e))) ∙ (goes ∙ sym (miss m n (Some o) over ne)))

  -- a `next` of the cursor m leaves it where it goes
  moved_at : (m : ℕ) (walker left : Cursor) → cursor_at hands m ≡ Some walker → container_of left ≡ container_of walker → GoesOver (slice_set hands m (Some left)) n over
  moved_at m walker left at is =
      dite (ℕ_discrete m n)
      (λ (e : m ≡ n).
      subst (λ (z : ℕ). option_map container_of (cursor_at (slice_set hands z (Some left)) n) ≡ over) (sym e)
      (ap (option_map container_of) (get_or-set_same hands n (Some left) None low)
      ∙ (ap (λ (z : ℕ). Some z) is
      ∙ (sym (ap (option_map container_of) (subst (λ (z : ℕ). cursor_at hands z ≡ Some walker) e at)) ∙ goes))))
      (λ ne. ap (option_map container_of) (get_or-set_other hands m n (Some left) None (λ e. ne (sym e))) ∙ goes)

  next_leaves : (m : ℕ) (found : Option Cursor) → cursor_at hands m ≡ found → Leaves (call.Next m)
  next_leaves m None at = subst (λ (a : Answer). (length a.hands ≡ length hands) × GoesOver a.hands n over) (sym (none_next at)) (refl, goes)
    where
      none_next : cursor_at hands m ≡ None → answer world hands (call.Next m) ≡ record { reply = reply.Stop; world = world; hands = hands }
      none_next at = ap (λ (z : Option Cursor). option_map_or (λ walker. moves world hands m (cursor_step world walker).cursor (cursor_step world walker).reply) z (shows world hands reply.Stop)) at
  next_leaves m (Some walker) at =
      let step = cursor_step world walker in
      subst (λ (a : Answer). (length a.hands ≡ length hands) × GoesOver a.hands n over) (sym (some_next at))
      (length-set hands m (Some step.cursor), moved_at m walker step.cursor at (step_over world walker))
    where
      some_next : cursor_at hands m ≡ Some walker → answer world hands (call.Next m) ≡ record { reply = (cursor_step world walker).reply; world = world; hands = slice_set hands m (Some (cursor_step world walker).cursor) }
      some_next at = ap (λ (z : Option Cursor). option_map_or (λ other. moves world hands m (cursor_step world other).cursor (cursor_step world other).reply) z (shows world hands reply.Stop)) at

  dict_leaves : (o : ℕ) (c : DictCall) → Leaves (call.Dict o c)
  dict_leaves o (dict.Iter m) = let it = dict_iter o (dict_at world o).pairs in (length-set hands m (Some it), put_at o m it refl)
  dict_leaves o (dict.Reversed m) = let it = dict_reversed o (dict_at world o).pairs in (length-set hands m (Some it), put_at o m it refl)
  dict_leaves o c = plain (call.Dict o c) refl

  list_leaves : (o : ℕ) (c : ListCall) → Leaves (call.List o c)
  list_leaves o (list.Iter m) = let it = list_iter o in (length-set hands m (Some it), put_at o m it refl)
  list_leaves o (list.Reversed m) = let it = list_reversed o (list_at world o) in (length-set hands m (Some it), put_at o m it refl)
  list_leaves o c = plain (call.List o c) refl

  set_leaves : (o : ℕ) (c : SetCall) → Leaves (call.Set o c)
  set_leaves o (set.Iter m) = let it = set_iter o (set_at world o).elements in (length-set hands m (Some it), put_at o m it refl)
  set_leaves o c = plain (call.Set o c) refl

  deque_leaves : (o : ℕ) (c : DequeCall) → Leaves (call.Deque o c)
  deque_leaves o (deque.Iter m) = let it = deque_iter o (deque_at world o) in (length-set hands m (Some it), put_at o m it refl)
  deque_leaves o c = plain (call.Deque o c) refl

  leaves : (called : Call) → Leaves called
  leaves (call.Dict o c) = dict_leaves o c
  leaves (call.List o c) = list_leaves o c
  leaves (call.Set o c) = set_leaves o c
  leaves (call.Deque o c) = deque_leaves o c
  leaves (call.Next m) = next_leaves m (cursor_at hands m) refl
  leaves (call.Begin a b) = (refl, goes)
  leaves call.End = (refl, goes)
  leaves call.Quiesce = (refl, goes)
  leaves (call.Await thread index) = (refl, goes)
  leaves call.Dump = (refl, goes)

-- ---- an entry

-- a MemoryError stands only on a call that asks no cursor
abbrev pub IsPlainIfRefused : NamedEntry → Type 0
IsPlainIfRefused e = is_memory e.reply ≡ true → moved_cursor e.call ≡ None

module _ (starts : List Start) (calls : List Call) (n : ℕ) where
  entry_leaves : (hands : List (Option Cursor)) (over : Option ℕ) (e : NamedEntry) (refused : Bool) → is_memory e.reply ≡ refused → n < length hands → GoesOver hands n over → IsPlainIfRefused e
      → (length (after_stamped starts calls hands e) ≡ length hands) × GoesOver (after_stamped starts calls hands e) n (walked_after n e.call over)
  entry_leaves hands over e true is low goes plainly =
      let same : after_stamped starts calls hands e ≡ hands = ap (λ (b : Bool). if b then hands else (answer (world_by starts (take e.stamp calls)) hands e.call).hands) is in
      (ap length same, ap (λ (hs : List (Option Cursor)). option_map container_of (cursor_at hs n)) same ∙ (goes ∙ sym (walked_plain n e.call over (plainly is))))
  entry_leaves hands over e false is low goes plainly =
      let world = world_by starts (take e.stamp calls) in
      let same : after_stamped starts calls hands e ≡ (answer world hands e.call).hands = ap (λ (b : Bool). if b then hands else (answer world hands e.call).hands) is in
      let l = leaves world hands n low over goes e.call in
      (ap length same ∙ l.0, ap (λ (hs : List (Option Cursor)). option_map container_of (cursor_at hs n)) same ∙ l.1)

  walks : (hands : List (Option Cursor)) (over : Option ℕ) (mine : List NamedEntry) → n < length hands → GoesOver hands n over → All IsPlainIfRefused mine
      → GoesOver (fold (after_stamped starts calls) hands mine) n (fold (λ before entry. walked_after n entry.call before) over mine)
  walks hands over [] low goes plainly = goes
  walks hands over (e ∷ mine) low goes plainly =
      let l = entry_leaves hands over e (is_memory e.reply) refl low goes (All-head IsPlainIfRefused e mine plainly) in
      walks (after_stamped starts calls hands e) (walked_after n e.call over) mine (subst (λ (z : ℕ). n < z) (sym l.0) low) l.1 (All-tail IsPlainIfRefused e mine plainly)

  start_size : (room : ℕ) → length (start_hands room) ≡ room
  start_size zero = refl
  start_size (suc room) = ap suc (start_size room)

  start_none : (room m : ℕ) → cursor_at (start_hands room) m ≡ None
  start_none zero m = refl
  start_none (suc room) zero = refl
  start_none (suc room) (suc m) = start_none room m

  -- the cursor goes over the container of the last `iter` of its number
  pub walked_is : (room : ℕ) (mine : List NamedEntry) → n < room → All IsPlainIfRefused mine → GoesOver (hands_by starts calls room mine) n (walked_by n mine)
  walked_is room mine low plainly =
      walks (start_hands room) None mine (subst (λ (z : ℕ). n < z) (sym (start_size room)) low) (ap (option_map container_of) (start_none room n)) plainly

-- a call that takes a pair out of a dict asks no cursor either
out_plain : (c : DictCall) → takes_out c ≡ true → cursor_of_dict c ≡ None
out_plain (dict.Del key) out = refl
out_plain (dict.Pop key) out = refl
out_plain (dict.PopOr key default) out = refl
out_plain dict.PopItem out = refl
out_plain c out = absurd (let e : false ≡ true = out in cc)

both_true : (a b : Bool) → (a && b) ≡ true → a ≡ true
both_true true b is = refl
both_true false b is = is

leaving_plain : (starts : List Start) (called : Call) → can_leave_split starts called ≡ true → moved_cursor called ≡ None
leaving_plain starts (call.Dict o c) leaves = out_plain c (both_true (takes_out c) (is_split (start_in starts o).keys) leaves)
leaving_plain starts called leaves = absurd (let e : false ≡ true = leaves in cc)

-- a call that would put a value in a box asks no cursor
boxing_dict : (old : DictContent) (c : DictCall) → option_map_or is_boxed (stored_in_dict old c) false ≡ true → cursor_of_dict c ≡ None
boxing_dict old (dict.Set key value) boxed = refl
boxing_dict old (dict.SetDefault key default) boxed = refl
boxing_dict old c boxed = absurd (let e : false ≡ true = boxed in cc)

boxing_list : (c : ListCall) → option_map_or is_boxed (stored_in_list c) false ≡ true → cursor_of_list c ≡ None
boxing_list (list.Append value) boxed = refl
boxing_list (list.Insert index value) boxed = refl
boxing_list (list.Set index value) boxed = refl
boxing_list c boxed = absurd (let e : false ≡ true = boxed in cc)

boxing_deque : (c : DequeCall) → option_map_or is_boxed (stored_in_deque c) false ≡ true → cursor_of_deque c ≡ None
boxing_deque (deque.Append value) boxed = refl
boxing_deque (deque.AppendLeft value) boxed = refl
boxing_deque c boxed = absurd (let e : false ≡ true = boxed in cc)

boxing_plain : (world : List Content) (called : Call) → boxes world called ≡ true → moved_cursor called ≡ None
boxing_plain world (call.Dict o c) boxed = boxing_dict (dict_at world o) c boxed
boxing_plain world (call.List o c) boxed = boxing_list c boxed
boxing_plain world (call.Deque o c) boxed = boxing_deque c boxed
boxing_plain world called boxed = absurd (let e : false ≡ true = boxed in cc)

-- a MemoryError that has its cause
pub earned_plain : (starts : List Start) (supply : Supply) (calls : List Call) (mine : List NamedEntry) (called : Call) (said : Reply) → IsEarnedReply starts supply calls mine called said → is_memory said ≡ true → moved_cursor called ≡ None
earned_plain starts supply calls mine called (reply.Raised (raise.Memory class)) earned is =
    ⊎_elim (λ (lacks : CanLackMemory (stored_by starts calls).world called). adds_no_cursor called lacks.adds) (λ leaving. leaving_plain starts called leaving.leaves) earned.0
earned_plain starts supply calls mine called (reply.Raised raise.Over) earned is = adds_no_cursor called earned.0.adds
earned_plain starts supply calls mine called (reply.Raised raise.Heap) earned is = boxing_plain (stored_by starts calls).world called earned.boxes
earned_plain starts supply calls mine called (reply.Raised raise.NoKey) earned is = absurd (let e : false ≡ true = is in cc)
earned_plain starts supply calls mine called (reply.Raised raise.NoIndex) earned is = absurd (let e : false ≡ true = is in cc)
earned_plain starts supply calls mine called (reply.Raised r) earned is = absurd (let e : false ≡ true = is in cc)
earned_plain starts supply calls mine called said earned is = absurd (let e : false ≡ true = is in cc)
