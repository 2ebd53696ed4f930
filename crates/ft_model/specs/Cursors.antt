-- Cursors: what `iter` makes, and what one `next` answers and leaves. (Python manual, Iterator Types. Serials, and what
-- changes of the container mean: profile)
use Rattle.std.specs.Prelude.{◌≡◌, IsSomeAnd, ℕ, Bool, true, false, ◌+◌, ◌-◌, ◌==◌, nat_lt, zero, suc, List, length, reverse, slice_get, Option, Some, None, if◌then◌else◌}
use Rattle.std.specs.List.{find}
use Rattle.ft_model.specs.declared.data.Value.{Value}
use Rattle.ft_model.specs.declared.reply.Reply.{Reply}
use Rattle.ft_model.specs.declared.reply.Reply.TheVariants as reply
use Rattle.ft_model.specs.declared.reply.Raise.TheVariants as raise
use Rattle.ft_model.specs.declared.content.DictPair.{DictPair}
use Rattle.ft_model.specs.declared.content.Element.{Element}
use Rattle.ft_model.specs.declared.cursor.Cursor.{Cursor}
use Rattle.ft_model.specs.declared.cursor.Cursor.TheVariants as cursor
use Rattle.ft_model.specs.declared.cursor.CursorState.{CursorState}
use Rattle.ft_model.specs.declared.cursor.CursorState.TheVariants as walk
use Rattle.ft_model.specs.Keys.{as_value}
use Rattle.ft_model.specs.Deques.{DequeContent}

-- what one `next` answers, and the cursor that it leaves
pub record CursorStep : Type 0 where
  pub reply : Reply
  pub cursor : Cursor

-- whether the serial is greater than the last one given; at first every serial is
abbrev pub is_after : Option ℕ → ℕ → Bool
is_after None serial = true
is_after (Some last) serial = nat_lt last serial

-- ---- dicts

-- `iter(d.items())`: all pairs are expected (Python manual, Dictionary view containers)
abbrev pub dict_iter : ℕ → List DictPair → Cursor
dict_iter container pairs = cursor.Dict container walk.Live (length pairs) (length pairs) None

-- the pair with the least serial that is greater than the last one given; serials rise in the order of pairs
abbrev pub next_pair : List DictPair → Option ℕ → Option DictPair
next_pair pairs last = find (λ pair. is_after last pair.serial) pairs

-- a live walk whose dict has the size that it had: it has come to the end, or the keys changed, or it gives a pair
abbrev pub dict_walk : Option DictPair → ℕ → ℕ → ℕ → Option ℕ → CursorStep
dict_walk None container size expected last =
    record { reply = reply.Stop; cursor = cursor.Dict container walk.Ended size expected last }
dict_walk (Some pair) container size expected last =
    if expected == 0
    then record { reply = reply.Raised raise.Keys; cursor = cursor.Dict container walk.Ended size expected last }
    else record {
      reply = reply.Pair pair.key pair.value;
      cursor = cursor.Dict container walk.Live size (expected - 1) (Some pair.serial);
    }

-- the first that holds: it has ended; it was reported of a changed size; the size has changed; it goes on (profile)
abbrev pub dict_next : List DictPair → ℕ → CursorState → ℕ → ℕ → Option ℕ → CursorStep
dict_next pairs container walk.Ended size expected last =
    record { reply = reply.Stop; cursor = cursor.Dict container walk.Ended size expected last }
dict_next pairs container walk.Reported size expected last =
    record { reply = reply.Raised raise.Size; cursor = cursor.Dict container walk.Reported size expected last }
dict_next pairs container walk.Live size expected last =
    if length pairs == size
    then dict_walk (next_pair pairs last) container size expected last
    else record { reply = reply.Raised raise.Size; cursor = cursor.Dict container walk.Reported size expected last }

-- ---- sets

-- `iter(s)` (Python manual, Set Types)
abbrev pub set_iter : ℕ → List Element → Cursor
set_iter container elements = cursor.Set container walk.Live (length elements) None

-- the element with the least serial that is greater than the last one given
abbrev pub next_element : List Element → Option ℕ → Option Element
next_element elements last = find (λ element. is_after last element.serial) elements

-- a live walk whose set has the size that it had: it has come to the end, or it gives an element
abbrev pub set_walk : Option Element → ℕ → ℕ → Option ℕ → CursorStep
set_walk None container size last = record { reply = reply.Stop; cursor = cursor.Set container walk.Ended size last }
set_walk (Some element) container size last =
    record {
      reply = reply.Value (as_value element.key);
      cursor = cursor.Set container walk.Live size (Some element.serial);
    }

-- as for a dict, without a count of what is expected (profile)
abbrev pub set_next : List Element → ℕ → CursorState → ℕ → Option ℕ → CursorStep
set_next elements container walk.Ended size last =
    record { reply = reply.Stop; cursor = cursor.Set container walk.Ended size last }
set_next elements container walk.Reported size last =
    record { reply = reply.Raised raise.Size; cursor = cursor.Set container walk.Reported size last }
set_next elements container walk.Live size last =
    if length elements == size
    then set_walk (next_element elements last) container size last
    else record { reply = reply.Raised raise.Size; cursor = cursor.Set container walk.Reported size last }

-- ---- lists

-- `iter(l)` (Python manual, Sequence Types)
abbrev pub list_iter : ℕ → Cursor
list_iter container = cursor.List container 0 false

-- the item at the index, or the end for good (Python manual, Iterator Types)
abbrev pub list_walk : Option Value → ℕ → ℕ → CursorStep
list_walk None container index = record { reply = reply.Stop; cursor = cursor.List container index true }
list_walk (Some value) container index =
    record { reply = reply.Value value; cursor = cursor.List container (index + 1) false }

abbrev pub list_next : List Value → ℕ → ℕ → Bool → CursorStep
list_next items container index true = record { reply = reply.Stop; cursor = cursor.List container index true }
list_next items container index false = list_walk (slice_get items index) container index

-- ---- deques

-- `iter(q)` (Python manual, collections.deque): it keeps how often the deque was changed (profile)
abbrev pub deque_iter : ℕ → DequeContent → Cursor
deque_iter container deque = cursor.Deque container deque.moves 0

-- the item at the index, or the end, which need not be for good (profile)
abbrev pub deque_walk : Option Value → ℕ → ℕ → ℕ → CursorStep
deque_walk None container moves index = record { reply = reply.Stop; cursor = cursor.Deque container moves index }
deque_walk (Some value) container moves index =
    record { reply = reply.Value value; cursor = cursor.Deque container moves (index + 1) }

-- a deque that was changed since the cursor was made is reported, also where the walk had come to its end (profile)
abbrev pub deque_next : DequeContent → ℕ → ℕ → ℕ → CursorStep
deque_next deque container moves index =
    if deque.moves == moves
    then deque_walk (slice_get deque.items index) container moves index
    else record { reply = reply.Raised raise.Moved; cursor = cursor.Deque container moves index }

-- ---- reversed dicts

-- `reversed(d.items())` (Python manual, Dictionary view objects)
abbrev pub dict_reversed : ℕ → List DictPair → Cursor
dict_reversed container pairs = cursor.DictBack container walk.Live (length pairs) None

-- whether the serial is less than the last one given; at first every serial is
abbrev pub is_before : Option ℕ → ℕ → Bool
is_before None serial = true
is_before (Some last) serial = nat_lt serial last

-- the pair with the greatest serial that is less than the last one given; serials rise in the order of pairs
abbrev pub prior_pair : List DictPair → Option ℕ → Option DictPair
prior_pair pairs last = find (λ pair. is_before last pair.serial) (reverse pairs)

-- a live walk whose dict has the size that it had: it has come to the end, or it gives a pair
abbrev pub dict_back_walk : Option DictPair → ℕ → ℕ → Option ℕ → CursorStep
dict_back_walk None container size last =
    record { reply = reply.Stop; cursor = cursor.DictBack container walk.Ended size last }
dict_back_walk (Some pair) container size last =
    record {
      reply = reply.Pair pair.key pair.value;
      cursor = cursor.DictBack container walk.Live size (Some pair.serial);
    }

-- as for a set (profile)
abbrev pub dict_back_next : List DictPair → ℕ → CursorState → ℕ → Option ℕ → CursorStep
dict_back_next pairs container walk.Ended size last =
    record { reply = reply.Stop; cursor = cursor.DictBack container walk.Ended size last }
dict_back_next pairs container walk.Reported size last =
    record { reply = reply.Raised raise.Size; cursor = cursor.DictBack container walk.Reported size last }
dict_back_next pairs container walk.Live size last =
    if length pairs == size
    then dict_back_walk (prior_pair pairs last) container size last
    else record { reply = reply.Raised raise.Size; cursor = cursor.DictBack container walk.Reported size last }

-- ---- reversed lists

-- the index before, where there is one
abbrev pub index_before : ℕ → Option ℕ
index_before zero = None
index_before (suc index) = Some index

-- `reversed(l)` (Python manual, Sequence Types): it begins at the last item
abbrev pub list_reversed : ℕ → List Value → Cursor
list_reversed container items = cursor.ListBack container (index_before (length items))

-- the item at the index, or the end for good (Python manual, Iterator Types)
abbrev pub list_back_walk : Option Value → ℕ → ℕ → CursorStep
list_back_walk None container index = record { reply = reply.Stop; cursor = cursor.ListBack container None }
list_back_walk (Some value) container index =
    record { reply = reply.Value value; cursor = cursor.ListBack container (index_before index) }

abbrev pub list_back_next : List Value → ℕ → Option ℕ → CursorStep
list_back_next items container None = record { reply = reply.Stop; cursor = cursor.ListBack container None }
list_back_next items container (Some index) = list_back_walk (slice_get items index) container index

-- ---- what a walk keeps to

-- whether a reply of `next` gives a pair, an item or an element
abbrev pub is_given : Reply → Bool
is_given (reply.Pair key value) = true
is_given (reply.Value value) = true
is_given _ = false

-- how many pairs or elements there were when the cursor was made; the cursor of a list or a deque doesn't ask
abbrev pub has_size : Cursor → ℕ → Bool
has_size (cursor.Dict container walk size expected last) length = length == size
has_size (cursor.List container index ended) length = true
has_size (cursor.Set container walk size last) length = length == size
has_size (cursor.Deque container moves index) length = true
has_size (cursor.DictBack container walk size last) length = length == size
has_size (cursor.ListBack container index) length = true

-- whether the walk has ended for good; that of a deque, once at its end, still reports that the deque was changed
abbrev pub is_ended : Cursor → Bool
is_ended (cursor.Dict container walk.Ended size expected last) = true
is_ended (cursor.Set container walk.Ended size last) = true
is_ended (cursor.List container index true) = true
is_ended (cursor.DictBack container walk.Ended size last) = true
is_ended (cursor.ListBack container None) = true
is_ended _ = false

-- the second cursor gave one more than the first: a serial greater than all that the first gave, or the next index;
-- where it is reversed, a lesser serial, or the index before (profile)
abbrev pub GoesOn : Cursor → Cursor → Type 0
GoesOn (cursor.Dict container walk size expected last) (cursor.Dict _ _ _ _ new) =
    IsSomeAnd new (λ serial. is_after last serial ≡ true)
GoesOn (cursor.List container index ended) (cursor.List _ new _) = new ≡ index + 1
GoesOn (cursor.Set container walk size last) (cursor.Set _ _ _ new) =
    IsSomeAnd new (λ serial. is_after last serial ≡ true)
GoesOn (cursor.Deque container moves index) (cursor.Deque _ _ new) = new ≡ index + 1
GoesOn (cursor.DictBack container walk size last) (cursor.DictBack _ _ _ new) =
    IsSomeAnd new (λ serial. is_before last serial ≡ true)
GoesOn (cursor.ListBack container index) (cursor.ListBack _ new) =
    IsSomeAnd index (λ place. new ≡ index_before place)
GoesOn _ _ = ⊥
