-- Texts by their numbers.
use Rattle.std.specs.Prelude.{ℕ, List, [], ◌∷◌, ◌++◌, position, Option, Some, None}
use Rattle.std.specs.Str.{bytes_eq}

-- how many texts there are at most (profile)
abbrev pub most_texts : ℕ
most_texts = 65536

-- the number of a text: the first place at which it stands
abbrev pub text_place : List (List ℕ) → List ℕ → Option ℕ
text_place texts text = position (λ other. bytes_eq text other) texts

-- the texts after one was given a number: it goes last where it had none
abbrev pub with_text : List (List ℕ) → List ℕ → List (List ℕ)
with_text texts text =
    elim (text_place texts text) [
      | Some place ↦ texts
      | None ↦ texts ++ text ∷ []
    ]
