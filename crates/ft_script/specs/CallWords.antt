-- The words that calls begin with. (profile)
use Rattle.std.specs.Prelude.{ℕ, List, [], ◌∷◌, Option, codes}
use Rattle.std.specs.List.{find}
use Rattle.std.specs.Str.{bytes_eq}
use Rattle.ft_script.specs.declared.call_words.Operation.{Operation}
use Rattle.ft_script.specs.declared.call_words.Operation.TheVariants as of
use Rattle.ft_script.specs.declared.call_words.CallWord.{CallWord}
use Rattle.ft_script.specs.declared.call_words.CallWord.TheVariants.{Next, Begin, End, Quiesce, Await, On}

abbrev pub operation_text : Operation → List ℕ
operation_text of.Get = codes "get"
operation_text of.GetOr = codes "getd"
operation_text of.Set = codes "set"
operation_text of.Del = codes "del"
operation_text of.Pop = codes "pop"
operation_text of.PopOr = codes "popd"
operation_text of.PopItem = codes "popitem"
operation_text of.SetDefault = codes "setdefault"
operation_text of.Has = codes "has"
operation_text of.Len = codes "len"
operation_text of.Items = codes "items"
operation_text of.Update = codes "update"
operation_text of.Clear = codes "clear"
operation_text of.CopyTo = codes "copyto"
operation_text of.Eq = codes "eq"
operation_text of.Iter = codes "iter"
operation_text of.Append = codes "append"
operation_text of.Insert = codes "insert"
operation_text of.Remove = codes "remove"
operation_text of.Index = codes "index"
operation_text of.Count = codes "count"
operation_text of.Reverse = codes "reverse"
operation_text of.Extend = codes "extend"
operation_text of.Slice = codes "slice"
operation_text of.Add = codes "add"
operation_text of.Discard = codes "discard"
operation_text of.Or = codes "or"
operation_text of.And = codes "and"
operation_text of.Sub = codes "sub"
operation_text of.Xor = codes "xor"
operation_text of.Subset = codes "subset"
operation_text of.Disjoint = codes "disjoint"

abbrev pub call_word_text : CallWord → List ℕ
call_word_text Next = codes "next"
call_word_text Begin = codes "begin"
call_word_text End = codes "end"
call_word_text Quiesce = codes "quiesce"
call_word_text Await = codes "await"
call_word_text (On operation) = operation_text operation

abbrev pub all_call_words : List CallWord
all_call_words =
    Next ∷ Begin ∷ End ∷ Quiesce ∷ Await ∷ On of.Get ∷ On of.GetOr ∷ On of.Set ∷ On of.Del ∷ On of.Pop ∷ On of.PopOr
    ∷ On of.PopItem ∷ On of.SetDefault ∷ On of.Has ∷ On of.Len ∷ On of.Items ∷ On of.Update ∷ On of.Clear
    ∷ On of.CopyTo ∷ On of.Eq ∷ On of.Iter ∷ On of.Append ∷ On of.Insert ∷ On of.Remove ∷ On of.Index
    ∷ On of.Count ∷ On of.Reverse ∷ On of.Extend ∷ On of.Slice ∷ On of.Add ∷ On of.Discard ∷ On of.Or ∷ On of.And
    ∷ On of.Sub ∷ On of.Xor ∷ On of.Subset ∷ On of.Disjoint ∷ []

-- the word of a call that some bytes are
unfoldable pub call_word_of : List ℕ → Option CallWord
call_word_of bytes = find (λ word. bytes_eq (call_word_text word) bytes) all_call_words
