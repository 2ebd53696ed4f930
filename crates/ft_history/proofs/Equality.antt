-- What `==` of calls and replies says: that they are equal.
use Rattle.std.proofs.Common.{◌≡◌, ℕ, ℤ, Bool, true, false, nat_eq, ◌&&◌, Option, Some, None, List, [], ◌∷◌, refl, sym, ap, ◌∙◌}
use mathlib.Core.Bool.{beq}
use Rattle.std.specs.Cmp.{signed_Decides}
use Rattle.std.specs.Ordering.{int_eq}
use Rattle.std.specs.Option.{option_eq}
use Rattle.std.proofs.lemmas.Bool.{false≢true, eqb-true, and_parts}
use Rattle.ft_model.specs.declared.data.Key.{Key}
use Rattle.ft_model.specs.declared.data.Key.TheVariants as key
use Rattle.ft_model.specs.declared.data.Value.{Value}
use Rattle.ft_model.specs.declared.data.Value.TheVariants as value
use Rattle.ft_model.specs.declared.call.Call.{Call}
use Rattle.ft_model.specs.declared.call.Call.TheVariants as call
use Rattle.ft_model.specs.declared.call.DictCall.{DictCall}
use Rattle.ft_model.specs.declared.call.DictCall.TheVariants as dict
use Rattle.ft_model.specs.declared.call.ListCall.{ListCall}
use Rattle.ft_model.specs.declared.call.ListCall.TheVariants as list
use Rattle.ft_model.specs.declared.call.SetCall.{SetCall}
use Rattle.ft_model.specs.declared.call.SetCall.TheVariants as set
use Rattle.ft_model.specs.declared.call.DequeCall.{DequeCall}
use Rattle.ft_model.specs.declared.call.DequeCall.TheVariants as deque
use Rattle.ft_model.specs.declared.reply.Shown.{Shown}
use Rattle.ft_model.specs.declared.reply.Shown.TheVariants as shown
use Rattle.ft_model.specs.declared.reply.Reply.{Reply}
use Rattle.ft_model.specs.declared.reply.Reply.TheVariants as reply
use Rattle.ft_model.specs.declared.reply.Raise.{Raise}
use Rattle.ft_model.specs.declared.reply.Raise.TheVariants as raise
use Rattle.ft_model.specs.contracts.reply.ReplyPartialEq.TheImpl as replies
use Rattle.ft_model.specs.contracts.reply.ReplyEq.TheImpl.Laws as reply_laws
use Rattle.ft_model.specs.contracts.reply.RaisePartialEq.TheImpl as raises
use Rattle.std.specs.Cmp.Lexicographic.{pointwise}
use Rattle.ft_model.specs.contracts.data.KeyPartialEq.TheImpl as keys
use Rattle.ft_model.specs.contracts.data.ValuePartialEq.TheImpl as values
use Rattle.ft_model.specs.contracts.call.CallPartialEq.TheImpl as calls
use Rattle.ft_model.specs.contracts.call.CallEq.TheImpl.Laws.{laws-law}
use Rattle.ft_model.specs.contracts.call.DictCallPartialEq.TheImpl as dicts
use Rattle.ft_model.specs.contracts.call.ListCallPartialEq.TheImpl as lists
use Rattle.ft_model.specs.contracts.call.SetCallPartialEq.TheImpl as sets
use Rattle.ft_model.specs.contracts.call.DequeCallPartialEq.TheImpl as deques
use Rattle.ft_model.specs.contracts.reply.ShownPartialEq.TheImpl as showns

key_exact : (a b : Key) → (keys.ghosts).eq a b ≡ true → a ≡ b
key_exact (key.Int x) (key.Int y) h = ap key.Int ((signed_Decides x y).0 h)
key_exact (key.Text s) (key.Text t) h = let e : s.0 ≡ t.0 = eqb-true s.0 t.0 h in ap (λ (n : ℕ). key.Text (record { 0 = n })) e
key_exact _ _ h = absurd (false≢true h)

value_exact : (a b : Value) → (values.ghosts).eq a b ≡ true → a ≡ b
value_exact value.Nothing value.Nothing h = refl
value_exact (value.Int x) (value.Int y) h = ap value.Int ((signed_Decides x y).0 h)
value_exact (value.Text s) (value.Text t) h = let e : s.0 ≡ t.0 = eqb-true s.0 t.0 h in ap (λ (n : ℕ). value.Text (record { 0 = n })) e
value_exact _ _ h = absurd (false≢true h)

int_exact : (x y : ℤ) → int_eq x y ≡ true → x ≡ y
int_exact x y h = (signed_Decides x y).0 h

-- an option, by a test that decides what it holds
option_exact : {X : Type 0} (E : X → X → Bool) → ((x y : X) → E x y ≡ true → x ≡ y) → (a b : Option X) → option_eq E a b ≡ true → a ≡ b
option_exact E exact None None h = refl
option_exact E exact (Some x) (Some y) h = ap Some (exact x y h)
option_exact E exact _ _ h = absurd (false≢true h)

index_exact : (a b : Option ℤ) → option_eq int_eq a b ≡ true → a ≡ b
index_exact = option_exact int_eq int_exact

place_exact : (a b : Option ℕ) → option_eq nat_eq a b ≡ true → a ≡ b
place_exact = option_exact nat_eq eqb-true

dict_exact : (a b : DictCall) → (dicts.ghosts).eq a b ≡ true → a ≡ b
dict_exact (dict.Get x0) (dict.Get y0) h = ap dict.Get (key_exact x0 y0 h)
dict_exact (dict.GetOr x0 x1) (dict.GetOr y0 y1) h = let both = and_parts _ _ h in λ i. dict.GetOr (key_exact x0 y0 both.0 i) (value_exact x1 y1 both.1 i)
dict_exact (dict.Set x0 x1) (dict.Set y0 y1) h = let both = and_parts _ _ h in λ i. dict.Set (key_exact x0 y0 both.0 i) (value_exact x1 y1 both.1 i)
dict_exact (dict.Del x0) (dict.Del y0) h = ap dict.Del (key_exact x0 y0 h)
dict_exact (dict.Pop x0) (dict.Pop y0) h = ap dict.Pop (key_exact x0 y0 h)
dict_exact (dict.PopOr x0 x1) (dict.PopOr y0 y1) h = let both = and_parts _ _ h in λ i. dict.PopOr (key_exact x0 y0 both.0 i) (value_exact x1 y1 both.1 i)
dict_exact dict.PopItem dict.PopItem h = refl
dict_exact (dict.SetDefault x0 x1) (dict.SetDefault y0 y1) h = let both = and_parts _ _ h in λ i. dict.SetDefault (key_exact x0 y0 both.0 i) (value_exact x1 y1 both.1 i)
dict_exact (dict.Has x0) (dict.Has y0) h = ap dict.Has (key_exact x0 y0 h)
dict_exact dict.Len dict.Len h = refl
dict_exact dict.Items dict.Items h = refl
dict_exact (dict.Update x0) (dict.Update y0) h = ap dict.Update (eqb-true x0 y0 h)
dict_exact dict.Clear dict.Clear h = refl
dict_exact (dict.CopyTo x0) (dict.CopyTo y0) h = ap dict.CopyTo (eqb-true x0 y0 h)
dict_exact (dict.Eq x0) (dict.Eq y0) h = ap dict.Eq (eqb-true x0 y0 h)
dict_exact (dict.Iter x0) (dict.Iter y0) h = ap dict.Iter (eqb-true x0 y0 h)
dict_exact (dict.KeysAnd x0) (dict.KeysAnd y0) h = ap dict.KeysAnd (eqb-true x0 y0 h)
dict_exact (dict.KeysSub x0) (dict.KeysSub y0) h = ap dict.KeysSub (eqb-true x0 y0 h)
dict_exact (dict.KeysOr x0) (dict.KeysOr y0) h = ap dict.KeysOr (eqb-true x0 y0 h)
dict_exact (dict.KeysXor x0) (dict.KeysXor y0) h = ap dict.KeysXor (eqb-true x0 y0 h)
dict_exact (dict.ItemsHas x0 x1) (dict.ItemsHas y0 y1) h = let both = and_parts _ _ h in λ i. dict.ItemsHas (key_exact x0 y0 both.0 i) (value_exact x1 y1 both.1 i)
dict_exact (dict.Reversed x0) (dict.Reversed y0) h = ap dict.Reversed (eqb-true x0 y0 h)
dict_exact _ _ h = absurd (false≢true h)

list_exact : (a b : ListCall) → (lists.ghosts).eq a b ≡ true → a ≡ b
list_exact (list.Append x0) (list.Append y0) h = ap list.Append (value_exact x0 y0 h)
list_exact (list.Insert x0 x1) (list.Insert y0 y1) h = let both = and_parts _ _ h in λ i. list.Insert (int_exact x0 y0 both.0 i) (value_exact x1 y1 both.1 i)
list_exact (list.Get x0) (list.Get y0) h = ap list.Get (int_exact x0 y0 h)
list_exact (list.Set x0 x1) (list.Set y0 y1) h = let both = and_parts _ _ h in λ i. list.Set (int_exact x0 y0 both.0 i) (value_exact x1 y1 both.1 i)
list_exact (list.Del x0) (list.Del y0) h = ap list.Del (int_exact x0 y0 h)
list_exact (list.Pop x0) (list.Pop y0) h = ap list.Pop (index_exact x0 y0 h)
list_exact (list.Remove x0) (list.Remove y0) h = ap list.Remove (value_exact x0 y0 h)
list_exact (list.Index x0) (list.Index y0) h = ap list.Index (value_exact x0 y0 h)
list_exact (list.Count x0) (list.Count y0) h = ap list.Count (value_exact x0 y0 h)
list_exact (list.Has x0) (list.Has y0) h = ap list.Has (value_exact x0 y0 h)
list_exact list.Reverse list.Reverse h = refl
list_exact (list.Extend x0) (list.Extend y0) h = ap list.Extend (eqb-true x0 y0 h)
list_exact (list.Slice x0 x1) (list.Slice y0 y1) h = let both = and_parts _ _ h in λ i. list.Slice (int_exact x0 y0 both.0 i) (int_exact x1 y1 both.1 i)
list_exact list.Clear list.Clear h = refl
list_exact list.Len list.Len h = refl
list_exact list.Items list.Items h = refl
list_exact (list.Eq x0) (list.Eq y0) h = ap list.Eq (eqb-true x0 y0 h)
list_exact (list.Iter x0) (list.Iter y0) h = ap list.Iter (eqb-true x0 y0 h)
list_exact (list.Reversed x0) (list.Reversed y0) h = ap list.Reversed (eqb-true x0 y0 h)
list_exact _ _ h = absurd (false≢true h)

set_exact : (a b : SetCall) → (sets.ghosts).eq a b ≡ true → a ≡ b
set_exact (set.Add x0) (set.Add y0) h = ap set.Add (key_exact x0 y0 h)
set_exact (set.Discard x0) (set.Discard y0) h = ap set.Discard (key_exact x0 y0 h)
set_exact (set.Remove x0) (set.Remove y0) h = ap set.Remove (key_exact x0 y0 h)
set_exact set.Pop set.Pop h = refl
set_exact (set.Has x0) (set.Has y0) h = ap set.Has (key_exact x0 y0 h)
set_exact set.Len set.Len h = refl
set_exact set.Items set.Items h = refl
set_exact (set.Eq x0) (set.Eq y0) h = ap set.Eq (eqb-true x0 y0 h)
set_exact (set.Or x0) (set.Or y0) h = ap set.Or (eqb-true x0 y0 h)
set_exact (set.And x0) (set.And y0) h = ap set.And (eqb-true x0 y0 h)
set_exact (set.Sub x0) (set.Sub y0) h = ap set.Sub (eqb-true x0 y0 h)
set_exact (set.Xor x0) (set.Xor y0) h = ap set.Xor (eqb-true x0 y0 h)
set_exact (set.Subset x0) (set.Subset y0) h = ap set.Subset (eqb-true x0 y0 h)
set_exact (set.Disjoint x0) (set.Disjoint y0) h = ap set.Disjoint (eqb-true x0 y0 h)
set_exact set.Clear set.Clear h = refl
set_exact (set.Iter x0) (set.Iter y0) h = ap set.Iter (eqb-true x0 y0 h)
set_exact _ _ h = absurd (false≢true h)

deque_exact : (a b : DequeCall) → (deques.ghosts).eq a b ≡ true → a ≡ b
deque_exact (deque.Append x0) (deque.Append y0) h = ap deque.Append (value_exact x0 y0 h)
deque_exact (deque.AppendLeft x0) (deque.AppendLeft y0) h = ap deque.AppendLeft (value_exact x0 y0 h)
deque_exact deque.Pop deque.Pop h = refl
deque_exact deque.PopLeft deque.PopLeft h = refl
deque_exact (deque.Extend x0) (deque.Extend y0) h = ap deque.Extend (eqb-true x0 y0 h)
deque_exact (deque.ExtendLeft x0) (deque.ExtendLeft y0) h = ap deque.ExtendLeft (eqb-true x0 y0 h)
deque_exact (deque.Rotate x0) (deque.Rotate y0) h = ap deque.Rotate (int_exact x0 y0 h)
deque_exact deque.Clear deque.Clear h = refl
deque_exact (deque.Get x0) (deque.Get y0) h = ap deque.Get (int_exact x0 y0 h)
deque_exact deque.Len deque.Len h = refl
deque_exact deque.Items deque.Items h = refl
deque_exact (deque.Has x0) (deque.Has y0) h = ap deque.Has (value_exact x0 y0 h)
deque_exact (deque.Iter x0) (deque.Iter y0) h = ap deque.Iter (eqb-true x0 y0 h)
deque_exact _ _ h = absurd (false≢true h)

pub call_exact : (a b : Call) → (calls.ghosts).eq a b ≡ true → a ≡ b
call_exact (call.Dict x0 x1) (call.Dict y0 y1) h = let both = and_parts _ _ h in λ i. call.Dict (eqb-true x0 y0 both.0 i) (dict_exact x1 y1 both.1 i)
call_exact (call.List x0 x1) (call.List y0 y1) h = let both = and_parts _ _ h in λ i. call.List (eqb-true x0 y0 both.0 i) (list_exact x1 y1 both.1 i)
call_exact (call.Set x0 x1) (call.Set y0 y1) h = let both = and_parts _ _ h in λ i. call.Set (eqb-true x0 y0 both.0 i) (set_exact x1 y1 both.1 i)
call_exact (call.Deque x0 x1) (call.Deque y0 y1) h = let both = and_parts _ _ h in λ i. call.Deque (eqb-true x0 y0 both.0 i) (deque_exact x1 y1 both.1 i)
call_exact (call.Next x0) (call.Next y0) h = ap call.Next (eqb-true x0 y0 h)
call_exact (call.Begin x0 x1) (call.Begin y0 y1) h = let both = and_parts _ _ h in λ i. call.Begin (eqb-true x0 y0 both.0 i) (place_exact x1 y1 both.1 i)
call_exact call.End call.End h = refl
call_exact call.Quiesce call.Quiesce h = refl
call_exact (call.Await x0 x1) (call.Await y0 y1) h = let both = and_parts _ _ h in λ i. call.Await (eqb-true x0 y0 both.0 i) (eqb-true x1 y1 both.1 i)
call_exact call.Dump call.Dump h = refl
call_exact _ _ h = absurd (false≢true h)

raise_exact : (a b : Raise) → (raises.ghosts).eq a b ≡ true → a ≡ b
raise_exact raise.NoKey raise.NoKey h = refl
raise_exact raise.NoIndex raise.NoIndex h = refl
raise_exact raise.NoValue raise.NoValue h = refl
raise_exact raise.Size raise.Size h = refl
raise_exact raise.Keys raise.Keys h = refl
raise_exact raise.Moved raise.Moved h = refl
raise_exact (raise.Memory x) (raise.Memory y) h = ap raise.Memory (eqb-true x y h)
raise_exact raise.Over raise.Over h = refl
raise_exact raise.Heap raise.Heap h = refl
raise_exact _ _ h = absurd (false≢true h)

-- lists, by a test that decides their elements
lists_exact : {X : Type 0} (E : X → X → Bool) → ((x y : X) → E x y ≡ true → x ≡ y) → (xs ys : List X) → pointwise E xs ys ≡ true → xs ≡ ys
lists_exact E exact [] [] h = refl
lists_exact E exact (x ∷ xs) (y ∷ ys) h = let both = and_parts _ _ h in λ i. exact x y both.0 i ∷ lists_exact E exact xs ys both.1 i
lists_exact E exact _ _ h = absurd (false≢true h)

pair_exact : (a b : Key × Value) → ((keys.ghosts).eq a.0 b.0 && (values.ghosts).eq a.1 b.1) ≡ true → a ≡ b
pair_exact a b h = let both = and_parts _ _ h in λ i. (key_exact a.0 b.0 both.0 i, value_exact a.1 b.1 both.1 i)

bool_exact : (a b : Bool) → beq a b ≡ true → a ≡ b
bool_exact true true h = refl
bool_exact false false h = refl
bool_exact _ _ h = absurd (false≢true h)

shown_exact : (a b : Shown) → (showns.ghosts).eq a b ≡ true → a ≡ b
shown_exact (shown.Dict x) (shown.Dict y) h = ap shown.Dict (lists_exact _ pair_exact x y h)
shown_exact (shown.List x) (shown.List y) h = ap shown.List (lists_exact _ value_exact x y h)
shown_exact (shown.Set x) (shown.Set y) h = ap shown.Set (lists_exact _ key_exact x y h)
shown_exact _ _ h = absurd (false≢true h)

pub reply_exact : (a b : Reply) → (replies.ghosts).eq a b ≡ true → a ≡ b
reply_exact reply.Done reply.Done h = refl
reply_exact (reply.Value x) (reply.Value y) h = ap reply.Value (value_exact x y h)
reply_exact (reply.Pair x0 x1) (reply.Pair y0 y1) h = let both = and_parts _ _ h in λ i. reply.Pair (key_exact x0 y0 both.0 i) (value_exact x1 y1 both.1 i)
reply_exact (reply.Truth x) (reply.Truth y) h = ap reply.Truth (bool_exact x y h)
reply_exact (reply.Count x) (reply.Count y) h = ap reply.Count (eqb-true x y h)
reply_exact (reply.Dict x) (reply.Dict y) h = ap reply.Dict (lists_exact _ pair_exact x y h)
reply_exact (reply.List x) (reply.List y) h = ap reply.List (lists_exact _ value_exact x y h)
reply_exact (reply.Set x) (reply.Set y) h = ap reply.Set (lists_exact _ key_exact x y h)
reply_exact (reply.World x) (reply.World y) h = ap reply.World (lists_exact _ shown_exact x y h)
reply_exact reply.Stop reply.Stop h = refl
reply_exact reply.Entered reply.Entered h = refl
reply_exact reply.Kept reply.Kept h = refl
reply_exact (reply.Suspended x) (reply.Suspended y) h = ap reply.Suspended (eqb-true x y h)
reply_exact (reply.Raised x) (reply.Raised y) h = ap reply.Raised (raise_exact x y h)
reply_exact _ _ h = absurd (false≢true h)

pub reply_alike : (a b : Reply) → a ≡ b → (replies.ghosts).eq a b ≡ true
reply_alike a b same = ap ((replies.ghosts).eq a) (sym same) ∙ reply_laws.laws-law.refl a

pub call_alike : (a b : Call) → a ≡ b → (calls.ghosts).eq a b ≡ true
call_alike a b same = ap ((calls.ghosts).eq a) (sym same) ∙ laws-law.refl a
