-- What holds of calls holds in a script that has more.
use Rattle.std.proofs.Common.{◌≡◌, ℕ, zero, suc, ◌<◌, ◌≤◌, List, [], ◌∷◌, ◌++◌, length, Option, Some, None, refl, sym, ap, ◌∙◌, subst, arith}
use Rattle.std.specs.Prelude.{slice_get, option_map, IfSome}
use Rattle.std.proofs.lemmas.List.{length-append}
use Rattle.ft_model.specs.declared.data.Key.{Key}
use Rattle.ft_model.specs.declared.data.Key.TheVariants as key
use Rattle.ft_model.specs.declared.data.Value.{Value}
use Rattle.ft_model.specs.declared.data.Value.TheVariants as value
use Rattle.ft_model.specs.declared.call.Call.{Call}
use Rattle.ft_model.specs.declared.call.Call.TheVariants as call
use Rattle.ft_model.specs.declared.call.DictCall.{DictCall}
use Rattle.ft_model.specs.declared.call.DictCall.TheVariants as dict
use Rattle.ft_model.specs.declared.call.ListCall.{ListCall}
use Rattle.ft_model.specs.declared.call.ListCall.TheVariants as list
use Rattle.ft_model.specs.declared.call.SetCall.{SetCall}
use Rattle.ft_model.specs.declared.call.SetCall.TheVariants as set
use Rattle.ft_model.specs.declared.call.DequeCall.{DequeCall}
use Rattle.ft_model.specs.declared.call.DequeCall.TheVariants as deque
use Rattle.ft_model.specs.declared.script.Declaration.{Declaration}
use Rattle.ft_model.specs.declared.script.Kind.{Kind}
use Rattle.ft_model.specs.declared.script.Kind.TheVariants as of
use Rattle.ft_model.specs.declared.script.ScriptParts.{ScriptParts}
use Rattle.ft_model.specs.Calls.{other_dict, other_list, other_set, other_deque, cursor_of_dict, cursor_of_list, cursor_of_set, cursor_of_deque}
use Rattle.ft_model.specs.Scripts.{IsKeyOf, IsValueOf, AreStringsOfDict, AreStringsOfList, AreStringsOfSet, AreStringsOfDeque, AreStringsOf, kind_at, IsDeclaredAs, AreNamesOf, NamesOf, IsCallOf}

-- ---- strings

pub key_grows : (a b : ℕ) (k : Key) → a ≤ b → IsKeyOf a k → IsKeyOf b k
key_grows a b (key.Int n) more h = tt
key_grows a b (key.Text symbol) more h = omega arith

value_grows : (a b : ℕ) (v : Value) → a ≤ b → IsValueOf a v → IsValueOf b v
value_grows a b value.Nothing more h = tt
value_grows a b (value.Int n) more h = tt
value_grows a b (value.Text symbol) more h = omega arith

dict_strings_grow : (a b : ℕ) (called : DictCall) → a ≤ b → AreStringsOfDict a called → AreStringsOfDict b called
dict_strings_grow a b (dict.Get k) more h = key_grows a b k more h
dict_strings_grow a b (dict.GetOr k v) more h = (key_grows a b k more h.0, value_grows a b v more h.1)
dict_strings_grow a b (dict.Set k v) more h = (key_grows a b k more h.0, value_grows a b v more h.1)
dict_strings_grow a b (dict.Del k) more h = key_grows a b k more h
dict_strings_grow a b (dict.Pop k) more h = key_grows a b k more h
dict_strings_grow a b (dict.PopOr k v) more h = (key_grows a b k more h.0, value_grows a b v more h.1)
dict_strings_grow a b dict.PopItem more h = tt
dict_strings_grow a b (dict.SetDefault k v) more h = (key_grows a b k more h.0, value_grows a b v more h.1)
dict_strings_grow a b (dict.Has k) more h = key_grows a b k more h
dict_strings_grow a b dict.Len more h = tt
dict_strings_grow a b dict.Items more h = tt
dict_strings_grow a b (dict.Update o) more h = tt
dict_strings_grow a b dict.Clear more h = tt
dict_strings_grow a b (dict.CopyTo o) more h = tt
dict_strings_grow a b (dict.Eq o) more h = tt
dict_strings_grow a b (dict.Iter c) more h = tt
dict_strings_grow a b (dict.KeysAnd o) more h = tt
dict_strings_grow a b (dict.KeysSub o) more h = tt
dict_strings_grow a b (dict.KeysOr o) more h = tt
dict_strings_grow a b (dict.KeysXor o) more h = tt
dict_strings_grow a b (dict.ItemsHas k v) more h = (key_grows a b k more h.0, value_grows a b v more h.1)
dict_strings_grow a b (dict.Reversed c) more h = tt

list_strings_grow : (a b : ℕ) (called : ListCall) → a ≤ b → AreStringsOfList a called → AreStringsOfList b called
list_strings_grow a b (list.Append v) more h = value_grows a b v more h
list_strings_grow a b (list.Insert i v) more h = value_grows a b v more h
list_strings_grow a b (list.Get i) more h = tt
list_strings_grow a b (list.Set i v) more h = value_grows a b v more h
list_strings_grow a b (list.Del i) more h = tt
list_strings_grow a b (list.Pop i) more h = tt
list_strings_grow a b (list.Remove v) more h = value_grows a b v more h
list_strings_grow a b (list.Index v) more h = value_grows a b v more h
list_strings_grow a b (list.Count v) more h = value_grows a b v more h
list_strings_grow a b (list.Has v) more h = value_grows a b v more h
list_strings_grow a b list.Reverse more h = tt
list_strings_grow a b (list.Extend o) more h = tt
list_strings_grow a b (list.Slice i j) more h = tt
list_strings_grow a b list.Clear more h = tt
list_strings_grow a b list.Len more h = tt
list_strings_grow a b list.Items more h = tt
list_strings_grow a b (list.Eq o) more h = tt
list_strings_grow a b (list.Iter c) more h = tt
list_strings_grow a b (list.Reversed c) more h = tt

set_strings_grow : (a b : ℕ) (called : SetCall) → a ≤ b → AreStringsOfSet a called → AreStringsOfSet b called
set_strings_grow a b (set.Add k) more h = key_grows a b k more h
set_strings_grow a b (set.Discard k) more h = key_grows a b k more h
set_strings_grow a b (set.Remove k) more h = key_grows a b k more h
set_strings_grow a b set.Pop more h = tt
set_strings_grow a b (set.Has k) more h = key_grows a b k more h
set_strings_grow a b set.Len more h = tt
set_strings_grow a b set.Items more h = tt
set_strings_grow a b (set.Eq o) more h = tt
set_strings_grow a b (set.Or o) more h = tt
set_strings_grow a b (set.And o) more h = tt
set_strings_grow a b (set.Sub o) more h = tt
set_strings_grow a b (set.Xor o) more h = tt
set_strings_grow a b (set.Subset o) more h = tt
set_strings_grow a b (set.Disjoint o) more h = tt
set_strings_grow a b set.Clear more h = tt
set_strings_grow a b (set.Iter c) more h = tt

deque_strings_grow : (a b : ℕ) (called : DequeCall) → a ≤ b → AreStringsOfDeque a called → AreStringsOfDeque b called
deque_strings_grow a b (deque.Append v) more h = value_grows a b v more h
deque_strings_grow a b (deque.AppendLeft v) more h = value_grows a b v more h
deque_strings_grow a b (deque.Has v) more h = value_grows a b v more h
deque_strings_grow a b other more h = tt

strings_grow : (a b : ℕ) (called : Call) → a ≤ b → AreStringsOf a called → AreStringsOf b called
strings_grow a b (call.Dict place inner) more h = dict_strings_grow a b inner more h
strings_grow a b (call.List place inner) more h = list_strings_grow a b inner more h
strings_grow a b (call.Set place inner) more h = set_strings_grow a b inner more h
strings_grow a b (call.Deque place inner) more h = deque_strings_grow a b inner more h
strings_grow a b (call.Next number) more h = tt
strings_grow a b (call.Begin first second) more h = tt
strings_grow a b call.End more h = tt
strings_grow a b call.Quiesce more h = tt
strings_grow a b (call.Await other index) more h = tt
strings_grow a b call.Dump more h = tt

-- ---- containers and cursors

-- further containers stand after those that are declared
get_grows : (containers more : List Declaration) (place : ℕ) (container : Declaration) → slice_get containers place ≡ Some container → slice_get (containers ++ more) place ≡ Some container
get_grows [] more place container h = absurd cc
get_grows (c ∷ containers) more zero container h = h
get_grows (c ∷ containers) more (suc place) container h = get_grows containers more place container h

kind_by : (containers more : List Declaration) (kind : Kind) (place : ℕ) (found : Option Declaration) → slice_get containers place ≡ found → option_map (λ container. container.start.kind) found ≡ Some kind → kind_at (containers ++ more) place ≡ Some kind
kind_by containers more kind place None is h = absurd cc
kind_by containers more kind place (Some container) is h = ap (option_map (λ c. c.start.kind)) (get_grows containers more place container is) ∙ h

kind_grows : (containers more : List Declaration) (kind : Kind) (place : ℕ) → kind_at containers place ≡ Some kind → kind_at (containers ++ more) place ≡ Some kind
kind_grows containers more kind place h = kind_by containers more kind place (slice_get containers place) refl h

declared_grows : (containers more : List Declaration) (kind : Kind) (place : ℕ) → IsDeclaredAs containers kind place → IsDeclaredAs (containers ++ more) kind place
declared_grows containers more of.Dict place h = kind_grows containers more of.Dict place h
declared_grows containers more of.List place h = kind_grows containers more of.List place h
declared_grows containers more of.Set place h = kind_grows containers more of.Set place h
declared_grows containers more (of.Deque _) place h = (h.0, kind_grows containers more (of.Deque h.0) place h.1)

other_grows : (containers more : List Declaration) (kind : Kind) (other : Option ℕ) → IfSome other (λ place. IsDeclaredAs containers kind place) → IfSome other (λ place. IsDeclaredAs (containers ++ more) kind place)
other_grows containers more kind None h = tt
other_grows containers more kind (Some place) h = declared_grows containers more kind place h

below_grows : (a b : ℕ) (number : Option ℕ) → a ≤ b → IfSome number (λ n. n < a) → IfSome number (λ n. n < b)
below_grows a b None more h = tt
below_grows a b (Some n) more h = omega arith

names_of_grow : (containers more : List Declaration) (a b : ℕ) (kind : Kind) (one : ℕ) (other cursor : Option ℕ) → a ≤ b → AreNamesOf containers a kind one other cursor → AreNamesOf (containers ++ more) b kind one other cursor
names_of_grow containers more a b kind one other cursor le h =
    record { container = declared_grows containers more kind one h.container; second = other_grows containers more kind other h.second; made = below_grows a b cursor le h.made }

names_grow : (containers more : List Declaration) (a b : ℕ) (called : Call) → a ≤ b → NamesOf containers a called → NamesOf (containers ++ more) b called
names_grow containers more a b (call.Dict place inner) le h = names_of_grow containers more a b _ place (other_dict inner) (cursor_of_dict inner) le h
names_grow containers more a b (call.List place inner) le h = names_of_grow containers more a b _ place (other_list inner) (cursor_of_list inner) le h
names_grow containers more a b (call.Set place inner) le h = names_of_grow containers more a b _ place (other_set inner) (cursor_of_set inner) le h
names_grow containers more a b (call.Deque place inner) le h = names_of_grow containers more a b _ place (other_deque inner) (cursor_of_deque inner) le h
names_grow containers more a b (call.Next number) le h = omega arith
names_grow containers more a b (call.Begin first second) le h =
    let longer : length containers ≤ length (containers ++ more) = omega (arith, length-append containers more) in
    (omega arith, below_grows (length containers) (length (containers ++ more)) second longer h.1)
names_grow containers more a b call.End le h = tt
names_grow containers more a b call.Quiesce le h = tt
names_grow containers more a b (call.Await other index) le h = tt
names_grow containers more a b call.Dump le h = tt

pub call_grows : (script larger : ScriptParts) (more : List Declaration) (a b : ℕ) (called : Call) → larger.containers ≡ script.containers ++ more → length script.strings ≤ length larger.strings → a ≤ b → IsCallOf script a called → IsCallOf larger b called
call_grows script larger more a b called same strings le h =
    record {
      names = subst (λ (cs : List Declaration). NamesOf cs b called) (sym same) (names_grow script.containers more a b called le h.names);
      strings = strings_grow (length script.strings) (length larger.strings) called strings h.strings;
    }
