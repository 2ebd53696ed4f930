-- The word of a call is the likely one, or none.
use Rattle.std.proofs.Common.{◌≡◌, ◌∙◌, cond, ℕ, Bool, true, false, List, [], ◌∷◌, Option, Some, None, refl, sym, ap}
use Rattle.std.proofs.lemmas.Slice.Eq.{bytes_eq-Decides}
use Rattle.std.specs.List.{find}
use Rattle.std.specs.Str.{bytes_eq}
use Rattle.ft_script.specs.declared.call_words.Operation.TheVariants as of
use Rattle.ft_script.specs.declared.call_words.CallWord.{CallWord}
use Rattle.ft_script.specs.declared.call_words.CallWord.TheVariants.{Next, Begin, End, Quiesce, Await, On}
use Rattle.ft_script.specs.CallWords.{call_word_of, call_word_text, all_call_words}
use Rattle.ft_script.specs.Internal.LikelyWords.{likely_word, word_of_length, word_of_2, word_of_3, word_of_4, word_of_5, word_of_6, word_of_7}
use Rattle.ft_script.proofs.CallTexts.{word_back}

-- each word is the likely one of its own bytes
likely_back : (word : CallWord) → likely_word (call_word_text word) ≡ Some word
unfolding likely_word word_of_length word_of_2 word_of_3 word_of_4 word_of_5 word_of_6 word_of_7
likely_back Next = refl
likely_back Begin = refl
likely_back End = refl
likely_back Quiesce = refl
likely_back Await = refl
likely_back (On of.Get) = refl
likely_back (On of.GetOr) = refl
likely_back (On of.Set) = refl
likely_back (On of.Del) = refl
likely_back (On of.Pop) = refl
likely_back (On of.PopOr) = refl
likely_back (On of.PopItem) = refl
likely_back (On of.SetDefault) = refl
likely_back (On of.Has) = refl
likely_back (On of.Len) = refl
likely_back (On of.Items) = refl
likely_back (On of.Update) = refl
likely_back (On of.Clear) = refl
likely_back (On of.CopyTo) = refl
likely_back (On of.Eq) = refl
likely_back (On of.Iter) = refl
likely_back (On of.Append) = refl
likely_back (On of.Insert) = refl
likely_back (On of.Remove) = refl
likely_back (On of.Index) = refl
likely_back (On of.Count) = refl
likely_back (On of.Reverse) = refl
likely_back (On of.Extend) = refl
likely_back (On of.Slice) = refl
likely_back (On of.Add) = refl
likely_back (On of.Discard) = refl
likely_back (On of.Or) = refl
likely_back (On of.And) = refl
likely_back (On of.Sub) = refl
likely_back (On of.Xor) = refl
likely_back (On of.Subset) = refl
likely_back (On of.Disjoint) = refl

-- what is found has the bytes
found_by : (first : Bool) (word : CallWord) (words : List CallWord) (bytes : List ℕ) (found : CallWord) → bytes_eq (call_word_text word) bytes ≡ first →
    (find (λ other. bytes_eq (call_word_text other) bytes) words ≡ Some found → call_word_text found ≡ bytes) →
    cond first (Some word) (find (λ other. bytes_eq (call_word_text other) bytes) words) ≡ Some found → call_word_text found ≡ bytes
found_by true word words bytes found is later here =
    let same : word ≡ found = cc in
    ap call_word_text (sym same) ∙ (bytes_eq-Decides (call_word_text word) bytes).0 is
found_by false word words bytes found is later here = later here

found_text : (words : List CallWord) (bytes : List ℕ) (found : CallWord) → find (λ other. bytes_eq (call_word_text other) bytes) words ≡ Some found → call_word_text found ≡ bytes
found_text [] bytes found is = absurd cc
found_text (word ∷ words) bytes found is = found_by (bytes_eq (call_word_text word) bytes) word words bytes found refl (found_text words bytes found) is

none_by : (bytes : List ℕ) (found : Option CallWord) → call_word_of bytes ≡ found → ((word : CallWord) → call_word_text word ≡ bytes → ⊥) → None ≡ found
unfolding call_word_of
none_by bytes None is other = refl
none_by bytes (Some word) is other = absurd (other word (found_text all_call_words bytes word is))

pub unlikely : (bytes : List ℕ) → likely_word bytes ≡ None → None ≡ call_word_of bytes
unlikely bytes none =
    none_by bytes (call_word_of bytes) refl (λ word text. let likely : likely_word bytes ≡ Some word = ap likely_word (sym text) ∙ likely_back word in absurd cc)

pub other_word : (bytes : List ℕ) (word : CallWord) → likely_word bytes ≡ Some word → (call_word_text word ≡ bytes → ⊥) → None ≡ call_word_of bytes
other_word bytes word is differs =
    none_by bytes (call_word_of bytes) refl
    (λ other text.
    let likely : likely_word bytes ≡ Some other = ap likely_word (sym text) ∙ likely_back other in
    let same : word ≡ other = cc in
    differs (ap call_word_text same ∙ text))

pub same_word : (bytes : List ℕ) (word : CallWord) → call_word_text word ≡ bytes → Some word ≡ call_word_of bytes
same_word bytes word text = sym (word_back word) ∙ ap call_word_of text
