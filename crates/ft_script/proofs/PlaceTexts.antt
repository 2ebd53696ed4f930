-- Calls that are named by their thread and index, printed and read back.
use Rattle.std.proofs.Common.{◌≡◌, ◌⊎◌, cond, ℕ, ◌+◌, ◌^◌, ◌<◌, ◌≤◌, Bool, true, not, eqb, leb, ltb, ◌&&◌, List, [], ◌∷◌, ◌++◌, length, map, get_or, Some, Ok, refl, sym, ap, ◌∙◌, inl, inr, arith}
use Rattle.std.specs.Prelude.{codes}
use Rattle.std.specs.List.{list_all, position_or_len}
use Rattle.std.specs.Fmt.{decimal}
use Rattle.std.specs.Str.{bytes_eq}
use Rattle.std.specs.Str.Parse.{digits_value}
use Rattle.std.proofs.lemmas.Bool.{and_from, lt-ltb, ne_eqb}
use Rattle.std.proofs.lemmas.Fmt.{decimal_is_IsNumeral}
use Rattle.std.proofs.lemmas.List.{length-map}
use Rattle.std.proofs.lemmas.List.Folds.{list_all-append}
use Rattle.ft_model.specs.declared.script.Thread.{Thread}
use Rattle.ft_model.specs.Names.{is_thread_name}
use Rattle.ft_script.specs.Arguments.{read_awaited, read_call_index}
use Rattle.ft_script.specs.Drafts.{Draft, only_named, thread_place}
use Rattle.ft_script.proofs.LineTexts.{IsLineWord, IsPlain, decimal_plain, is_shown, plain_all, plain_word, thread_plain}
use Rattle.ft_script.proofs.PartTexts.{decimal_parts, dotless, positive_decimal, thread_word}
use Rattle.ft_script.proofs.TokenLists.{AllFail, after_at, before_at}
use Rattle.ft_script.proofs.TokenTexts.{IsCut, IsWord, is_part, word_is_cut}

-- ---- names of threads

named_at : (threads : List Thread) (name : List ℕ) → position_or_len (λ (t : Thread). bytes_eq t.name name) (map only_named threads) ≡ position_or_len (λ (t : Thread). bytes_eq t.name name) threads
named_at [] name = refl
named_at (thread ∷ threads) name = ap (λ (n : ℕ). cond (not (bytes_eq thread.name name)) (1 + n) 0) (named_at threads name)

-- a thread stands where it does, whatever it calls
pub named_place : (threads : List Thread) (name : List ℕ) → thread_place (map only_named threads) name ≡ thread_place threads name
named_place threads name = rw (named_at threads name, length-map threads only_named) refl

-- ---- a name, a dot and an index

abbrev is_other : List ℕ → Bool
is_other token = not (bytes_eq token (codes "="))

dot_shown : (index : ℕ) → index < 2 ^ 32 → list_all is_shown (46 ∷ decimal index) ≡ true
dot_shown index low = (plain_all (decimal index) (decimal_plain index (omega arith))).0

plain_before : (name more : List ℕ) → IsPlain name → list_all is_shown more ≡ true → IsPlain (name ++ more)
plain_before [] more h shown = absurd h
plain_before (b ∷ name) more h shown = (h.0, list_all-append is_shown (b ∷ name) more ∙ and_from (list_all is_shown (b ∷ name)) (list_all is_shown more) h.1 shown, h.2)

word_before : (name more : List ℕ) → IsWord name → list_all is_part more ≡ true → IsWord (name ++ more)
word_before [] more h parts = absurd h
word_before (b ∷ name) more h parts = (h.0, list_all-append is_part (b ∷ name) more ∙ and_from (list_all is_part (b ∷ name)) (list_all is_part more) h.1 parts)

high_other : (name more : List ℕ) → is_thread_name name ≡ true → is_other (name ++ more) ≡ true
high_other [] more form = absurd cc
high_other (b ∷ name) more form = let low : 65 ≤ b = (thread_word (b ∷ name) form).1.0 in rw (ne_eqb b 61 (λ e. omega arith)) refl

-- it is one word of a line, and no `=`
pub place_is : (name : List ℕ) (index : ℕ) → (name ≡ []) ⊎ (is_thread_name name ≡ true) → index < 2 ^ 32 → IsCut (name ++ 46 ∷ decimal index) ((name ++ 46 ∷ decimal index) ∷ []) × (is_other (name ++ 46 ∷ decimal index) ≡ true) × IsLineWord (name ++ 46 ∷ decimal index)
place_is name index (inl none) low =
    rw none (word_is_cut (46 ∷ decimal index) (refl, decimal_parts index (omega arith)), refl, plain_word (46 ∷ decimal index) (refl, dot_shown index low, refl))
place_is name index (inr form) low = (
  word_is_cut (name ++ 46 ∷ decimal index) (word_before name (46 ∷ decimal index) (thread_word name form).0 (decimal_parts index (omega arith))),
  high_other name (46 ∷ decimal index) form,
  plain_word (name ++ 46 ∷ decimal index) (plain_before name (46 ∷ decimal index) (thread_plain name form) (dot_shown index low)),
)

index_back : (index : ℕ) → index < 2 ^ 32 → read_call_index (decimal index) ≡ Ok index
unfolding read_call_index
index_back index low =
    let value : digits_value 10 (decimal index) ≡ index = (decimal_is_IsNumeral index (omega arith)).1 in
    rw (value, lt-ltb index (2 ^ 32) low) refl

pub awaited_back : (draft : Draft) (name : List ℕ) (index other : ℕ) → is_thread_name name ≡ true → thread_place draft.threads name ≡ Some other → 1 ≤ index → index < 2 ^ 32 → read_awaited draft (name ++ 46 ∷ decimal index) ≡ Ok (other, index)
unfolding read_awaited
awaited_back draft name index other form known some low =
    let is_dot : ℕ → Bool = λ b. eqb b 46 in
    let none : AllFail is_dot name = dotless name form in
    rw (before_at is_dot name 46 (decimal index) none refl, after_at is_dot name 46 (decimal index) none refl, form, positive_decimal index (omega arith) (omega arith), known, index_back index low) refl
