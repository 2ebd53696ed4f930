-- What a walk by `next` keeps to.
use Rattle.std.proofs.Common.{◌≡◌, ℕ, Bool, true, false, List, [], ◌∷◌, length, Option, Some, None, refl, sym, ap, ◌∙◌}
use Rattle.std.specs.Prelude.{◌==◌, slice_get, reverse}
use Rattle.std.specs.List.{find}
use Rattle.std.proofs.lemmas.Bool.{false≢true}
use Rattle.ft_model.specs.declared.data.Value.{Value}
use Rattle.ft_model.specs.declared.reply.Reply.TheVariants as reply
use Rattle.ft_model.specs.declared.content.DictPair.{DictPair}
use Rattle.ft_model.specs.declared.content.Element.{Element}
use Rattle.ft_model.specs.declared.cursor.Cursor.{Cursor}
use Rattle.ft_model.specs.declared.cursor.Cursor.TheVariants as cursor
use Rattle.ft_model.specs.declared.cursor.CursorState.{CursorState}
use Rattle.ft_model.specs.declared.cursor.CursorState.TheVariants as walk
use Rattle.ft_model.specs.Cursors.{is_after, next_pair, next_element, dict_walk, dict_next, set_walk, set_next, list_walk, is_before, prior_pair, dict_back_walk, dict_back_next, list_back_walk, deque_walk, deque_next, is_given, has_size, is_ended, GoesOn}
use Rattle.ft_model.specs.Worlds.{WorldContent, dict_at, list_at, set_at, deque_at}
use Rattle.ft_model.specs.Deques.{DequeContent}
use Rattle.ft_model.specs.Answers.{cursor_step, walked_length}

find_passes : {X : Type 0} (p : X → Bool) (xs : List X) (x : X) → find p xs ≡ Some x → p x ≡ true
find_passes p [] x is = absurd cc
find_passes p (y ∷ xs) x is =
    elim (p y) as (λ b. p y ≡ b → p x ≡ true) [
      | true ↦ λ here. let same : Some y ≡ Some x = simp here at is in let e : y ≡ x = cc in ap p (sym e) ∙ here
      | false ↦ λ past. find_passes p xs x (simp past at is)
    ] refl

-- ---- rising

dict_walk-rising : (found : Option DictPair) (container size expected : ℕ) (last : Option ℕ) → ((pair : DictPair) → found ≡ Some pair → is_after last pair.serial ≡ true) → is_given (dict_walk found container size expected last).reply ≡ true → GoesOn (cursor.Dict container walk.Live size expected last) (dict_walk found container size expected last).cursor
dict_walk-rising None container size expected last after given = absurd (false≢true given)
dict_walk-rising (Some pair) container size expected last after given =
    elim (expected == 0) as (λ b. (expected == 0) ≡ b → GoesOn (cursor.Dict container walk.Live size expected last) (dict_walk (Some pair) container size expected last).cursor) [
      | true ↦ λ none. absurd (false≢true (simp none at given))
      | false ↦ λ more. simp more (after pair refl)
    ] refl

dict_next-rising : (pairs : List DictPair) (container : ℕ) (state : CursorState) (size expected : ℕ) (last : Option ℕ) → is_given (dict_next pairs container state size expected last).reply ≡ true → GoesOn (cursor.Dict container state size expected last) (dict_next pairs container state size expected last).cursor
dict_next-rising pairs container walk.Ended size expected last given = absurd (false≢true given)
dict_next-rising pairs container walk.Reported size expected last given = absurd (false≢true given)
dict_next-rising pairs container walk.Live size expected last given =
    elim (length pairs == size) as (λ b. (length pairs == size) ≡ b → GoesOn (cursor.Dict container walk.Live size expected last) (dict_next pairs container walk.Live size expected last).cursor) [
      | true ↦ λ same. simp same (dict_walk-rising (next_pair pairs last) container size expected last (λ pair is. find_passes (λ (p : DictPair). is_after last p.serial) pairs pair is) (simp same at given))
      | false ↦ λ differs. absurd (false≢true (simp differs at given))
    ] refl

set_walk-rising : (found : Option Element) (container size : ℕ) (last : Option ℕ) → ((element : Element) → found ≡ Some element → is_after last element.serial ≡ true) → is_given (set_walk found container size last).reply ≡ true → GoesOn (cursor.Set container walk.Live size last) (set_walk found container size last).cursor
set_walk-rising None container size last after given = absurd (false≢true given)
set_walk-rising (Some element) container size last after given = after element refl

set_next-rising : (elements : List Element) (container : ℕ) (state : CursorState) (size : ℕ) (last : Option ℕ) → is_given (set_next elements container state size last).reply ≡ true → GoesOn (cursor.Set container state size last) (set_next elements container state size last).cursor
set_next-rising elements container walk.Ended size last given = absurd (false≢true given)
set_next-rising elements container walk.Reported size last given = absurd (false≢true given)
set_next-rising elements container walk.Live size last given =
    elim (length elements == size) as (λ b. (length elements == size) ≡ b → GoesOn (cursor.Set container walk.Live size last) (set_next elements container walk.Live size last).cursor) [
      | true ↦ λ same. simp same (set_walk-rising (next_element elements last) container size last (λ element is. find_passes (λ (e : Element). is_after last e.serial) elements element is) (simp same at given))
      | false ↦ λ differs. absurd (false≢true (simp differs at given))
    ] refl

list_walk-rising : (found : Option Value) (container index : ℕ) → is_given (list_walk found container index).reply ≡ true → GoesOn (cursor.List container index false) (list_walk found container index).cursor
list_walk-rising None container index given = absurd (false≢true given)
list_walk-rising (Some value) container index given = refl

deque_walk-rising : (found : Option Value) (container moves index : ℕ) → is_given (deque_walk found container moves index).reply ≡ true → GoesOn (cursor.Deque container moves index) (deque_walk found container moves index).cursor
deque_walk-rising None container moves index given = absurd (false≢true given)
deque_walk-rising (Some value) container moves index given = refl

deque_next-rising : (old : DequeContent) (container moves index : ℕ) → is_given (deque_next old container moves index).reply ≡ true → GoesOn (cursor.Deque container moves index) (deque_next old container moves index).cursor
deque_next-rising old container moves index given =
    elim (old.moves == moves) as (λ b. (old.moves == moves) ≡ b → GoesOn (cursor.Deque container moves index) (deque_next old container moves index).cursor) [
      | true ↦ λ same. simp same (deque_walk-rising (slice_get old.items index) container moves index (simp same at given))
      | false ↦ λ differs. absurd (false≢true (simp differs at given))
    ] refl

dict_back_walk-rising : (found : Option DictPair) (container size : ℕ) (last : Option ℕ) → ((pair : DictPair) → found ≡ Some pair → is_before last pair.serial ≡ true) → is_given (dict_back_walk found container size last).reply ≡ true → GoesOn (cursor.DictBack container walk.Live size last) (dict_back_walk found container size last).cursor
dict_back_walk-rising None container size last after given = absurd (false≢true given)
dict_back_walk-rising (Some pair) container size last after given = after pair refl

dict_back_next-rising : (pairs : List DictPair) (container : ℕ) (state : CursorState) (size : ℕ) (last : Option ℕ) → is_given (dict_back_next pairs container state size last).reply ≡ true → GoesOn (cursor.DictBack container state size last) (dict_back_next pairs container state size last).cursor
dict_back_next-rising pairs container walk.Ended size last given = absurd (false≢true given)
dict_back_next-rising pairs container walk.Reported size last given = absurd (false≢true given)
dict_back_next-rising pairs container walk.Live size last given =
    elim (length pairs == size) as (λ b. (length pairs == size) ≡ b → GoesOn (cursor.DictBack container walk.Live size last) (dict_back_next pairs container walk.Live size last).cursor) [
      | true ↦ λ same. simp same (dict_back_walk-rising (prior_pair pairs last) container size last (λ pair is. find_passes (λ (p : DictPair). is_before last p.serial) (reverse pairs) pair is) (simp same at given))
      | false ↦ λ differs. absurd (false≢true (simp differs at given))
    ] refl

list_back_walk-rising : (found : Option Value) (container index : ℕ) → is_given (list_back_walk found container index).reply ≡ true → GoesOn (cursor.ListBack container (Some index)) (list_back_walk found container index).cursor
list_back_walk-rising None container index given = absurd (false≢true given)
list_back_walk-rising (Some value) container index given = refl

pub step_rising : (world : WorldContent) (c : Cursor) → is_given (cursor_step world c).reply ≡ true → GoesOn c (cursor_step world c).cursor
step_rising world (cursor.Dict container state size expected last) given = dict_next-rising (dict_at world container).pairs container state size expected last given
step_rising world (cursor.List container index true) given = absurd (false≢true given)
step_rising world (cursor.List container index false) given = list_walk-rising (slice_get (list_at world container) index) container index given
step_rising world (cursor.Set container state size last) given = set_next-rising (set_at world container).elements container state size last given
step_rising world (cursor.Deque container moves index) given = deque_next-rising (deque_at world container) container moves index given
step_rising world (cursor.DictBack container state size last) given = dict_back_next-rising (dict_at world container).pairs container state size last given
step_rising world (cursor.ListBack container None) given = absurd (false≢true given)
step_rising world (cursor.ListBack container (Some index)) given = list_back_walk-rising (slice_get (list_at world container) index) container index given

-- ---- sizes

dict_next-sized : (pairs : List DictPair) (container : ℕ) (state : CursorState) (size expected : ℕ) (last : Option ℕ) → is_given (dict_next pairs container state size expected last).reply ≡ true → (length pairs == size) ≡ true
dict_next-sized pairs container walk.Ended size expected last given = absurd (false≢true given)
dict_next-sized pairs container walk.Reported size expected last given = absurd (false≢true given)
dict_next-sized pairs container walk.Live size expected last given =
    elim (length pairs == size) as (λ b. (length pairs == size) ≡ b → b ≡ true) [
      | true ↦ λ same. refl
      | false ↦ λ differs. absurd (false≢true (simp differs at given))
    ] refl

set_next-sized : (elements : List Element) (container : ℕ) (state : CursorState) (size : ℕ) (last : Option ℕ) → is_given (set_next elements container state size last).reply ≡ true → (length elements == size) ≡ true
set_next-sized elements container walk.Ended size last given = absurd (false≢true given)
set_next-sized elements container walk.Reported size last given = absurd (false≢true given)
set_next-sized elements container walk.Live size last given =
    elim (length elements == size) as (λ b. (length elements == size) ≡ b → b ≡ true) [
      | true ↦ λ same. refl
      | false ↦ λ differs. absurd (false≢true (simp differs at given))
    ] refl

dict_back_next-sized : (pairs : List DictPair) (container : ℕ) (state : CursorState) (size : ℕ) (last : Option ℕ) → is_given (dict_back_next pairs container state size last).reply ≡ true → (length pairs == size) ≡ true
dict_back_next-sized pairs container walk.Ended size last given = absurd (false≢true given)
dict_back_next-sized pairs container walk.Reported size last given = absurd (false≢true given)
dict_back_next-sized pairs container walk.Live size last given =
    elim (length pairs == size) as (λ b. (length pairs == size) ≡ b → b ≡ true) [
      | true ↦ λ same. refl
      | false ↦ λ differs. absurd (false≢true (simp differs at given))
    ] refl

pub step_sized : (world : WorldContent) (c : Cursor) → is_given (cursor_step world c).reply ≡ true → has_size c (walked_length world c) ≡ true
step_sized world (cursor.Dict container state size expected last) given = dict_next-sized (dict_at world container).pairs container state size expected last given
step_sized world (cursor.List container index ended) given = refl
step_sized world (cursor.Set container state size last) given = set_next-sized (set_at world container).elements container state size last given
step_sized world (cursor.Deque container moves index) given = refl
step_sized world (cursor.DictBack container state size last) given = dict_back_next-sized (dict_at world container).pairs container state size last given
step_sized world (cursor.ListBack container index) given = refl

-- ---- ends

pub step_ended : (world : WorldContent) (c : Cursor) → is_ended c ≡ true → ((cursor_step world c).reply ≡ reply.Stop) × ((cursor_step world c).cursor ≡ c)
step_ended world (cursor.Dict container walk.Ended size expected last) ended = (refl, refl)
step_ended world (cursor.Dict container walk.Live size expected last) ended = absurd (false≢true ended)
step_ended world (cursor.Dict container walk.Reported size expected last) ended = absurd (false≢true ended)
step_ended world (cursor.List container index true) ended = (refl, refl)
step_ended world (cursor.List container index false) ended = absurd (false≢true ended)
step_ended world (cursor.Set container walk.Ended size last) ended = (refl, refl)
step_ended world (cursor.Set container walk.Live size last) ended = absurd (false≢true ended)
step_ended world (cursor.Set container walk.Reported size last) ended = absurd (false≢true ended)
step_ended world (cursor.Deque container moves index) ended = absurd (false≢true ended)
step_ended world (cursor.DictBack container walk.Ended size last) ended = (refl, refl)
step_ended world (cursor.DictBack container walk.Live size last) ended = absurd (false≢true ended)
step_ended world (cursor.DictBack container walk.Reported size last) ended = absurd (false≢true ended)
step_ended world (cursor.ListBack container None) ended = (refl, refl)
step_ended world (cursor.ListBack container (Some index)) ended = absurd (false≢true ended)
