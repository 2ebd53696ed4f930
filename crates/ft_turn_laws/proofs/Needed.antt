-- The containers whose locks a call takes: those of the machine are those that its pass asks for.
use Rattle.std.proofs.Common.{◌≡◌, ◌≢◌, ℕ, Bool, true, false, List, [], ◌∷◌, length, map, Option, None, Some, refl, sym, ap, ◌∙◌, inl, inr}
use Rattle.std.specs.Prelude.{◌==◌, fold, if◌then◌else◌, nat_lt}
use Rattle.std.specs.Option.{option_map_or}
use Rattle.std.proofs.lemmas.Bool.{cases_eq, eq-eqb, ne_eqb}
use Rattle.ft_model.specs.declared.call.Call.{Call}
use Rattle.ft_model.specs.declared.call.Call.TheVariants as call
use Rattle.ft_model.specs.declared.call.DictCall.{DictCall}
use Rattle.ft_model.specs.declared.call.DictCall.TheVariants as dict
use Rattle.ft_model.specs.declared.call.ListCall.{ListCall}
use Rattle.ft_model.specs.declared.call.ListCall.TheVariants as list
use Rattle.ft_model.specs.declared.call.SetCall.{SetCall}
use Rattle.ft_model.specs.declared.call.SetCall.TheVariants as set
use Rattle.ft_model.specs.declared.entry.Entry.{Entry}
use Rattle.ft_model.specs.Calls.{containers_of, cursor_of_dict, cursor_of_list, cursor_of_set, is_locked_dict, is_locked_list, is_locked_set, one_or_two, other_dict, other_list, other_set, other_deque, cursor_of_deque, is_locked_deque}
use Rattle.ft_section.specs.declared.answers.Objects.TheVariants.{One, Two}
use Rattle.ft_section.specs.LockTakings.{lower_of, upper_of}
use Rattle.ft_bank_history.specs.Marks.{over_after, walked_after, walked_by}
use Rattle.ft_turns.specs.Orders.{cursor_containers, locks_taken, lower_first, makes}
use Rattle.ft_turn_laws.specs.Placings.{pair_of}
use Rattle.ft_model.specs.declared.call.DequeCall.{DequeCall}
use Rattle.ft_model.specs.declared.call.DequeCall.TheVariants as deque

-- ---- one container or two

pub one_pair : (o : ℕ) → lower_first (o ∷ []) ≡ pair_of (lower_of (One o)) (upper_of (One o))
one_pair o = sym (ap (λ b. if b then o ∷ [] else o ∷ o ∷ []) (eq-eqb o o refl))

two_apart : (a b : ℕ) (less : Bool) → a ≢ b → (if less then b ∷ a ∷ [] else a ∷ b ∷ []) ≡ pair_of (if less then b else a) (if less then a else b)
two_apart a b true differ = sym (ap (λ t. if t then b ∷ [] else b ∷ a ∷ []) (ne_eqb b a (λ e. differ (sym e))))
two_apart a b false differ = sym (ap (λ t. if t then a ∷ [] else a ∷ b ∷ []) (ne_eqb a b differ))

pub two_pair : (a b : ℕ) → lower_first (one_or_two a (Some b)) ≡ pair_of (lower_of (Two a b)) (upper_of (Two a b))
two_pair a b =
    elim (cases_eq a b) [
      | inl same ↦
          ap (λ t. lower_first (if t then a ∷ [] else a ∷ b ∷ [])) (eq-eqb a b same)
          ∙ (one_pair a ∙ (let same_pair : pair_of a a ≡ pair_of (lower_of (Two a b)) (upper_of (Two a b)) = both_same a b same (nat_lt b a) in same_pair))
      | inr differ ↦
          ap (λ t. lower_first (if t then a ∷ [] else a ∷ b ∷ [])) (ne_eqb a b differ)
          ∙ two_apart a b (nat_lt b a) differ
    ]
  where
    both_same : (a b : ℕ) → a ≡ b → (less : Bool) → pair_of a a ≡ pair_of (if less then b else a) (if less then a else b)
    both_same a b same true = ap (λ x. pair_of x a) same
    both_same a b same false = ap (pair_of a) same

-- ---- calls that take their locks

abbrev some : ℕ → Option ℕ → Bool
some first second = length (one_or_two first second) == 0

some_named : (first : ℕ) (second : Option ℕ) → some first second ≡ false
some_named first None = refl
some_named first (Some second) = elim (first == second) as (λ b. (length (if b then first ∷ [] else first ∷ second ∷ []) == 0) ≡ false) [ true ↦ refl | false ↦ refl ]

all_named : (locked : Bool) (first : ℕ) (second : Option ℕ) → locked ≡ true → (if (if locked then length (one_or_two first second) else 0) == 0 then [] else one_or_two first second) ≡ one_or_two first second
all_named locked first second is =
    ap (λ b. if (if b then length (one_or_two first second) else 0) == 0 then [] else one_or_two first second) is ∙ ap (λ b. if b then [] else one_or_two first second) (some_named first second)

none_named : (locked : Bool) (first : ℕ) (second : Option ℕ) → locked ≡ false → (if (if locked then length (one_or_two first second) else 0) == 0 then [] else one_or_two first second) ≡ []
none_named locked first second is = ap (λ b. if (if b then length (one_or_two first second) else 0) == 0 then [] else one_or_two first second) is

pub dict_locked : (before : List Call) (o : ℕ) (c : DictCall) → is_locked_dict c ≡ true → locks_taken before (call.Dict o c) ≡ one_or_two o (other_dict c)
dict_locked before o c is = all_named (is_locked_dict c) o (other_dict c) is

pub list_locked : (before : List Call) (o : ℕ) (c : ListCall) → is_locked_list c ≡ true → locks_taken before (call.List o c) ≡ one_or_two o (other_list c)
list_locked before o c is = all_named (is_locked_list c) o (other_list c) is

pub set_locked : (before : List Call) (o : ℕ) (c : SetCall) → is_locked_set c ≡ true → locks_taken before (call.Set o c) ≡ one_or_two o (other_set c)
set_locked before o c is = all_named (is_locked_set c) o (other_set c) is

pub deque_locked : (before : List Call) (o : ℕ) (c : DequeCall) → is_locked_deque c ≡ true → locks_taken before (call.Deque o c) ≡ one_or_two o (other_deque c)
deque_locked before o c is = all_named (is_locked_deque c) o (other_deque c) is

pub dict_free : (before : List Call) (o : ℕ) (c : DictCall) → is_locked_dict c ≡ false → locks_taken before (call.Dict o c) ≡ []
dict_free before o c is = none_named (is_locked_dict c) o (other_dict c) is

pub list_free : (before : List Call) (o : ℕ) (c : ListCall) → is_locked_list c ≡ false → locks_taken before (call.List o c) ≡ []
list_free before o c is = none_named (is_locked_list c) o (other_list c) is

pub set_free : (before : List Call) (o : ℕ) (c : SetCall) → is_locked_set c ≡ false → locks_taken before (call.Set o c) ≡ []
set_free before o c is = none_named (is_locked_set c) o (other_set c) is

pub deque_free : (before : List Call) (o : ℕ) (c : DequeCall) → is_locked_deque c ≡ false → locks_taken before (call.Deque o c) ≡ []
deque_free before o c is = none_named (is_locked_deque c) o (other_deque c) is

pub begin_locked : (before : List Call) (first : ℕ) (second : Option ℕ) → locks_taken before (call.Begin first second) ≡ one_or_two first second
begin_locked before first second = all_named true first second refl

-- ---- cursors

abbrev pub over_list : Option ℕ → List ℕ
over_list over = option_map_or (λ o. o ∷ []) over []

-- an `iter` names the one container of its cursor
dict_iter : (o made : ℕ) (c : DictCall) → cursor_of_dict c ≡ Some made → one_or_two o (other_dict c) ≡ o ∷ []
dict_iter o made (dict.Iter cursor) is = refl
dict_iter o made (dict.Reversed cursor) is = refl
dict_iter o made other is = absurd cc

list_iter : (o made : ℕ) (c : ListCall) → cursor_of_list c ≡ Some made → one_or_two o (other_list c) ≡ o ∷ []
list_iter o made (list.Iter cursor) is = refl
list_iter o made (list.Reversed cursor) is = refl
list_iter o made other is = absurd cc

set_iter : (o made : ℕ) (c : SetCall) → cursor_of_set c ≡ Some made → one_or_two o (other_set c) ≡ o ∷ []
set_iter o made (set.Iter cursor) is = refl
set_iter o made other is = absurd cc

deque_iter : (o made : ℕ) (c : DequeCall) → cursor_of_deque c ≡ Some made → one_or_two o (other_deque c) ≡ o ∷ []
deque_iter o made (deque.Iter cursor) is = refl
deque_iter o made other is = absurd cc

-- after a call that makes this cursor, or none
made_same : (number o : ℕ) (cursor over : Option ℕ) (named : List ℕ) → ((made : ℕ) → cursor ≡ Some made → named ≡ o ∷ [])
    → (if option_map_or (λ made. made == number) cursor false then named else over_list over) ≡ over_list (over_after number o cursor over)
made_same number o None over named is = refl
made_same number o (Some made) over named is =
    elim (made == number) as (λ b. (if b then named else over_list over) ≡ over_list (if b then Some o else over)) [ true ↦ is made refl | false ↦ refl ]

call_same : (number : ℕ) (called : Call) (over : Option ℕ) → (if makes number called then containers_of called else over_list over) ≡ over_list (walked_after number called over)
call_same number (call.Dict o c) over = made_same number o (cursor_of_dict c) over (one_or_two o (other_dict c)) (λ made is. dict_iter o made c is)
call_same number (call.List o c) over = made_same number o (cursor_of_list c) over (one_or_two o (other_list c)) (λ made is. list_iter o made c is)
call_same number (call.Set o c) over = made_same number o (cursor_of_set c) over (one_or_two o (other_set c)) (λ made is. set_iter o made c is)
call_same number (call.Deque o c) over = made_same number o (cursor_of_deque c) over (one_or_two o (other_deque c)) (λ made is. deque_iter o made c is)
call_same number (call.Next cursor) over = refl
call_same number (call.Begin first second) over = refl
call_same number call.End over = refl
call_same number call.Quiesce over = refl
call_same number (call.Await thread index) over = refl
call_same number call.Dump over = refl

walk_same : (number : ℕ) (mine : List Entry) (over : Option ℕ)
    → fold (λ containers called. if makes number called then containers_of called else containers) (over_list over) (map (λ (e : Entry). e.call) mine)
    ≡ over_list (fold (λ before (e : Entry). walked_after number e.call before) over mine)
walk_same number [] over = refl
walk_same number (e ∷ mine) over =
    ap (λ containers. fold (λ so_far called. if makes number called then containers_of called else so_far) containers (map (λ (x : Entry). x.call) mine)) (call_same number e.call over)
    ∙ walk_same number mine (walked_after number e.call over)

-- the container of a cursor by the calls, and by the entries
pub cursor_same : (number : ℕ) (mine : List Entry) → cursor_containers (map (λ (e : Entry). e.call) mine) number ≡ over_list (walked_by number mine)
cursor_same number mine = walk_same number mine None
