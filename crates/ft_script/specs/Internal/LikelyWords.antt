-- The one word of a call that has as many bytes as some others and begins with the same ones.
use Rattle.std.specs.Prelude.{ℕ, ◌==◌, List, [], ◌∷◌, length, Option, Some, None, if◌then◌else◌}
use Rattle.ft_script.specs.declared.call_words.Operation.TheVariants as of
use Rattle.ft_script.specs.declared.call_words.CallWord.{CallWord}
use Rattle.ft_script.specs.declared.call_words.CallWord.TheVariants.{Next, Begin, End, Quiesce, Await, On}

-- of that many bytes, by the first of them, or the first two
unfoldable pub word_of_2 : ℕ → Option CallWord
word_of_2 first =
    if first == 101 then Some (On of.Eq)
    else (if first == 111 then Some (On of.Or) else None)

unfoldable pub word_of_3 : ℕ → ℕ → Option CallWord
word_of_3 first second =
    if first == 101 then Some End
    else (if first == 103 then Some (On of.Get)
    else (if first == 115 then (if second == 101 then Some (On of.Set) else Some (On of.Sub))
    else (if first == 100 then Some (On of.Del)
    else (if first == 112 then Some (On of.Pop)
    else (if first == 104 then Some (On of.Has)
    else (if first == 108 then Some (On of.Len)
    else (if first == 97 then (if second == 100 then Some (On of.Add) else Some (On of.And))
    else (if first == 120 then Some (On of.Xor) else None))))))))

unfoldable pub word_of_4 : ℕ → Option CallWord
word_of_4 first =
    if first == 110 then Some Next
    else (if first == 103 then Some (On of.GetOr)
    else (if first == 112 then Some (On of.PopOr)
    else (if first == 105 then Some (On of.Iter) else None)))

unfoldable pub word_of_5 : ℕ → ℕ → Option CallWord
word_of_5 first second =
    if first == 98 then Some Begin
    else (if first == 105 then (if second == 116 then Some (On of.Items) else Some (On of.Index))
    else (if first == 99 then (if second == 108 then Some (On of.Clear) else Some (On of.Count))
    else (if first == 115 then Some (On of.Slice)
    else (if first == 97 then Some Await else None))))

unfoldable pub word_of_6 : ℕ → Option CallWord
word_of_6 first =
    if first == 117 then Some (On of.Update)
    else (if first == 99 then Some (On of.CopyTo)
    else (if first == 97 then Some (On of.Append)
    else (if first == 105 then Some (On of.Insert)
    else (if first == 114 then Some (On of.Remove)
    else (if first == 101 then Some (On of.Extend)
    else (if first == 115 then Some (On of.Subset) else None))))))

unfoldable pub word_of_7 : ℕ → Option CallWord
word_of_7 first =
    if first == 113 then Some Quiesce
    else (if first == 112 then Some (On of.PopItem)
    else (if first == 114 then Some (On of.Reverse)
    else (if first == 100 then Some (On of.Discard) else None)))

-- by the number of bytes
unfoldable pub word_of_length : ℕ → ℕ → ℕ → Option CallWord
word_of_length count first second =
    if count == 2 then word_of_2 first
    else (if count == 3 then word_of_3 first second
    else (if count == 4 then word_of_4 first
    else (if count == 5 then word_of_5 first second
    else (if count == 6 then word_of_6 first
    else (if count == 7 then word_of_7 first
    else (if count == 8 then Some (On of.Disjoint)
    else (if count == 10 then Some (On of.SetDefault) else None)))))))

unfoldable pub likely_word : List ℕ → Option CallWord
likely_word (first ∷ second ∷ bytes) = word_of_length (length (first ∷ second ∷ bytes)) first second
likely_word few = None
