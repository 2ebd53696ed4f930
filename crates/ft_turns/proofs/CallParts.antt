-- What is said of keys and values, said of those of a call.
use Rattle.std.proofs.Common.{ℕ, Bool, true, false}
use Rattle.ft_model.specs.declared.call.Call.{Call}
use Rattle.ft_model.specs.declared.call.Call.TheVariants as call
use Rattle.ft_model.specs.declared.call.DictCall.{DictCall}
use Rattle.ft_model.specs.declared.call.DictCall.TheVariants as dict
use Rattle.ft_model.specs.declared.call.ListCall.{ListCall}
use Rattle.ft_model.specs.declared.call.ListCall.TheVariants as list
use Rattle.ft_model.specs.declared.call.SetCall.{SetCall}
use Rattle.ft_model.specs.declared.call.SetCall.TheVariants as set
use Rattle.ft_model.specs.declared.call.DequeCall.{DequeCall}
use Rattle.ft_model.specs.declared.call.DequeCall.TheVariants as deque
use Rattle.ft_model.specs.declared.data.Key.{Key}
use Rattle.ft_model.specs.declared.data.Value.{Value}
use Rattle.ft_model.specs.Scripts.{IsKeyOf, IsValueOf, AreStringsOf, AreStringsOfDict, AreStringsOfList, AreStringsOfSet, AreStringsOfDeque}

abbrev pub IsDictCallBy : (Key → Type 0) → (Value → Type 0) → DictCall → Type 0
IsDictCallBy K V (dict.Get key) = K key
IsDictCallBy K V (dict.GetOr key default) = K key × V default
IsDictCallBy K V (dict.Set key value) = K key × V value
IsDictCallBy K V (dict.Del key) = K key
IsDictCallBy K V (dict.Pop key) = K key
IsDictCallBy K V (dict.PopOr key default) = K key × V default
IsDictCallBy K V (dict.SetDefault key default) = K key × V default
IsDictCallBy K V (dict.Has key) = K key
IsDictCallBy K V (dict.ItemsHas key value) = K key × V value
IsDictCallBy K V other = Unit {0}

abbrev pub IsListCallBy : (Key → Type 0) → (Value → Type 0) → ListCall → Type 0
IsListCallBy K V (list.Append value) = V value
IsListCallBy K V (list.Insert index value) = V value
IsListCallBy K V (list.Set index value) = V value
IsListCallBy K V (list.Remove value) = V value
IsListCallBy K V (list.Index value) = V value
IsListCallBy K V (list.Count value) = V value
IsListCallBy K V (list.Has value) = V value
IsListCallBy K V other = Unit {0}

abbrev pub IsSetCallBy : (Key → Type 0) → (Value → Type 0) → SetCall → Type 0
IsSetCallBy K V (set.Add key) = K key
IsSetCallBy K V (set.Discard key) = K key
IsSetCallBy K V (set.Remove key) = K key
IsSetCallBy K V (set.Has key) = K key
IsSetCallBy K V other = Unit {0}

abbrev pub IsDequeCallBy : (Key → Type 0) → (Value → Type 0) → DequeCall → Type 0
IsDequeCallBy K V (deque.Append value) = V value
IsDequeCallBy K V (deque.AppendLeft value) = V value
IsDequeCallBy K V (deque.Has value) = V value
IsDequeCallBy K V other = Unit {0}

abbrev pub IsCallBy : (Key → Type 0) → (Value → Type 0) → Call → Type 0
IsCallBy K V (call.Dict place dict_call) = IsDictCallBy K V dict_call
IsCallBy K V (call.List place list_call) = IsListCallBy K V list_call
IsCallBy K V (call.Set place set_call) = IsSetCallBy K V set_call
IsCallBy K V (call.Deque place deque_call) = IsDequeCallBy K V deque_call
IsCallBy K V other = Unit {0}

-- ---- which calls count

abbrev pub is_counting_dict : DictCall → Bool
is_counting_dict dict.Len = true
is_counting_dict other = false

abbrev pub is_counting_list : ListCall → Bool
is_counting_list (list.Index value) = true
is_counting_list (list.Count value) = true
is_counting_list list.Len = true
is_counting_list other = false

abbrev pub is_counting_set : SetCall → Bool
is_counting_set set.Len = true
is_counting_set other = false

abbrev pub is_counting_deque : DequeCall → Bool
is_counting_deque deque.Len = true
is_counting_deque other = false

abbrev pub is_counting : Call → Bool
is_counting (call.Dict place dict_call) = is_counting_dict dict_call
is_counting (call.List place list_call) = is_counting_list list_call
is_counting (call.Set place set_call) = is_counting_set set_call
is_counting (call.Deque place deque_call) = is_counting_deque deque_call
is_counting other = false

-- ---- that their strings are among that many

strings_of_dict : (n : ℕ) (called : DictCall) → AreStringsOfDict n called → IsDictCallBy (IsKeyOf n) (IsValueOf n) called
strings_of_dict n (dict.Get key) h = h
strings_of_dict n other h = h

strings_of_list : (n : ℕ) (called : ListCall) → AreStringsOfList n called → IsListCallBy (IsKeyOf n) (IsValueOf n) called
strings_of_list n (list.Append value) h = h
strings_of_list n other h = h

strings_of_set : (n : ℕ) (called : SetCall) → AreStringsOfSet n called → IsSetCallBy (IsKeyOf n) (IsValueOf n) called
strings_of_set n (set.Add key) h = h
strings_of_set n other h = h

strings_of_deque : (n : ℕ) (called : DequeCall) → AreStringsOfDeque n called → IsDequeCallBy (IsKeyOf n) (IsValueOf n) called
strings_of_deque n (deque.Append value) h = h
strings_of_deque n other h = h

pub strings_of : (n : ℕ) (called : Call) → AreStringsOf n called → IsCallBy (IsKeyOf n) (IsValueOf n) called
strings_of n (call.Dict place dict_call) h = strings_of_dict n dict_call h
strings_of n (call.List place list_call) h = strings_of_list n list_call h
strings_of n (call.Set place set_call) h = strings_of_set n set_call h
strings_of n (call.Deque place deque_call) h = strings_of_deque n deque_call h
strings_of n other h = tt
